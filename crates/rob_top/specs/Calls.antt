-- What a call of the program was given, what is known of its files, and what it
-- did to the output.
use Rattle.std.specs.Prelude.{◌≡◌, ℕ, List, length, drop, Option, Some, None}
use Rattle.rob_number.specs.Counts.{Rose}
use Rattle.rob_outside.specs.Fetches.{Fetch}
use Rattle.rob_outside.specs.Files.{File}
use Rattle.rob_outside.specs.Puts.{Put}
use Rattle.rob_words.specs.Commands.{Line}
use Rattle.rob_words.specs.Values.{Word, greatest_of}

-- a count before and after the call
pub record Count : Type 0 where
  pub before : ℕ
  pub now : ℕ

-- such a count
abbrev pub count : ℕ → ℕ → Count
count before now = record { before = before; now = now }

-- it was raised, or stands at its last value
abbrev pub WasRaised : Count → Type 0
WasRaised count = Rose count.before count.now

-- what is known of a call's files: those that the shelf tells, where it does; and the call's fetches with their answers
pub record Source : Type 0 where
  pub told : Option (List File)
  pub came : Option (List Fetch)

-- what stands behind the first list in the second one, where this begins with that
abbrev pub behind : List Fetch → List Fetch → List Fetch
behind before now = drop (length before) now

-- the files that the shelf tells, and the fetches of the call, from the shelf's fetches before it and now
abbrev pub source_of : Option (List File) → List Fetch → List Fetch → Source
source_of told before now = record { told = told; came = Some (behind before now) }

-- what a call was given: its words, what is known of the files, and two counts: the shelf's faults, the ledger's wide
-- results
pub record Call : Type 0 where
  pub words : List Word
  pub source : Source
  pub read_faults : Count
  pub wides : Count

-- such a call
abbrev pub call_of : List Word → Source → Count → Count → Call
call_of words source read_faults wides =
    record { words = words; source = source; read_faults = read_faults; wides = wides }

-- a part of what is known that decides what is found: the files that the shelf tells, or the fetches of the call
pub data Known (source : Source) : Type 0 where
  by_files : (files : List File) → source.told ≡ Some files → Known source
  by_fetches : (fetches : List Fetch) → source.came ≡ Some fetches → Known source

-- where no more is known than that part
abbrev pub known_source : {source : Source} → Known source → Source
known_source (by_files files e) = record { told = Some files; came = None }
known_source (by_fetches fetches e) = record { told = None; came = Some fetches }

-- the call, where no more is known of its files than that part
abbrev pub known_call : (call : Call) → Known call.source → Call
known_call call known = record call { source = known_source known }

-- what a call did to the output: the bytes that the sink took before it and now, its puts, and the count of the
-- sink's faults
pub record Output : Type 0 where
  pub before : List ℕ
  pub now : List ℕ
  pub puts_before : List Put
  pub puts_now : List Put
  pub write_faults : Count

-- such an output
abbrev pub output_of : List ℕ → List ℕ → List Put → List Put → Count → Output
output_of before now puts_before puts_now write_faults = record {
  before = before;
  now = now;
  puts_before = puts_before;
  puts_now = puts_now;
  write_faults = write_faults;
}

-- the greatest number of a command line's width: 2^62 - 1 where it names no width
abbrev pub limit_of : Line → ℕ
limit_of line = greatest_of line.width
