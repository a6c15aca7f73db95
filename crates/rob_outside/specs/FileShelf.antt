-- A shelf over the machine's files: its faults, and what its reads do.
use Rattle.std.specs.Prelude.{◌≡◌, ℕ, List, [], ◌++◌, Option, Result, Ok, Err}
use Rattle.std.specs.Io.KnownBytes.{Consumes}
use Rattle.rob_number.specs.Counts.{raised}
use Rattle.rob_outside.specs.Fetches.{Fetch}
use Rattle.rob_outside.specs.declared.shelf.ShelfErr.{ShelfErr}
use Rattle.rob_outside.specs.declared.shelf.ShelfErr.TheVariants.{Failed, Memory}

-- the fetches so far, and the faults
pub record FetchState : Type 0 where
  pub log : List Fetch
  pub faults : ℕ

-- the shelf before its first fetch
abbrev pub no_fetch : FetchState
no_fetch = record { log = []; faults = 0 }

-- the faults after a call that gave this answer: one more where it failed, and else as many
abbrev pub faults_after : {T : Type 0} → ℕ → Result T ShelfErr → ℕ
faults_after faults (Ok value) = faults
faults_after faults (Err Failed) = raised faults
faults_after faults (Err Memory) = faults

-- the bytes grew by those that the reader lost at its front; `before` and `now`
-- are what it has left, where that is known
pub record Reads (before now : Option (List ℕ)) (old new : List ℕ) : Type 0 where
  pub chunk : List ℕ
  pub consumed : Consumes before now chunk
  pub appended : new ≡ old ++ chunk
