-- A shelf in memory, as contracts see it.
use Rattle.std.specs.Prelude.{ℕ, Bool, ◌==◌, List, [], ◌++◌, Result, if◌then◌else◌}
use Rattle.std.specs.List.{list_any}
use Rattle.rob_number.specs.Counts.{raised}
use Rattle.rob_outside.specs.Fetches.{Fetch, logged}
use Rattle.rob_outside.specs.Files.{File}
use Rattle.rob_outside.specs.declared.shelf.Fetched.{Fetched}

-- the files in the order of their adding, the numbers of the fetches that fail,
-- how many fetches there were, the fetches and their faults
pub record ShelfState : Type 0 where
  pub files : List File
  pub failing : List ℕ
  pub calls : ℕ
  pub log : List Fetch
  pub faults : ℕ

-- a shelf that holds nothing, fails nowhere and was not asked yet
abbrev pub empty_shelf : ShelfState
empty_shelf = record { files = []; failing = []; calls = 0; log = []; faults = 0 }

-- the number of the next fetch; the first has number 1
abbrev pub next_fetch : ShelfState → ℕ
next_fetch shelf = raised shelf.calls

-- the next fetch is one that fails
abbrev pub fails_next : ShelfState → Bool
fails_next shelf = list_any (λ call. call == next_fetch shelf) shelf.failing

-- the shelf after its next fetch, of this name, bound and answer: the fetch is
-- counted and noted, and where it fails the fault is counted
abbrev pub after_fetch : {E : Type 0} → ShelfState → List ℕ → ℕ → Result Fetched E → ShelfState
after_fetch shelf name max result = record shelf {
  calls = next_fetch shelf;
  log = shelf.log ++ logged name max result;
  faults = if fails_next shelf then raised shelf.faults else shelf.faults;
}
