-- A sink in memory, as contracts see it.
use Rattle.std.specs.Prelude.{ℕ, ◌-◌, ◌==◌, Bool, ◌&&◌, nat_le, min, List, [], ◌∷◌, ◌++◌, length, take, Option, Some, None, if◌then◌else◌, is_none, unwrap_or}
use Rattle.rob_number.specs.Counts.{raised}
use Rattle.rob_outside.specs.Puts.{Put, put_as}

-- a put that fails: its number, and how many of the bytes that fit it takes first
pub record FailingPut : Type 0 where
  pub call : ℕ
  pub first : ℕ

-- how many bytes it holds at most, the puts that fail, the bytes taken, how
-- many puts there were, the puts and their faults
pub record SinkState : Type 0 where
  pub room : ℕ
  pub failing : List FailingPut
  pub bytes : List ℕ
  pub calls : ℕ
  pub puts : List Put
  pub faults : ℕ

-- a sink with so much room, that took nothing and fails nowhere
abbrev pub empty_sink : ℕ → SinkState
empty_sink room = record { room = room; failing = []; bytes = []; calls = 0; puts = []; faults = 0 }

-- the number of the next put; the first has number 1
abbrev pub next_put : SinkState → ℕ
next_put sink = raised sink.calls

-- how many bytes still fit
abbrev pub free_room : SinkState → ℕ
free_room sink = sink.room - length sink.bytes

-- how many bytes the put of that number takes before it fails, if it is one that fails; of two entries the first counts
abbrev pub first_of : ℕ → List FailingPut → Option ℕ
first_of call [] = None
first_of call (put ∷ puts) = if put.call == call then Some put.first else first_of call puts

-- how many bytes the next put takes at most: as many as fit, and at a put that fails no more than its first ones
abbrev pub intake : SinkState → ℕ
intake sink = min (unwrap_or (first_of (next_put sink) sink.failing) (free_room sink)) (free_room sink)

-- the next put takes this piece: it is none that fails, and the piece fits
abbrev pub accepts : SinkState → List ℕ → Bool
accepts sink piece = is_none (first_of (next_put sink) sink.failing) && nat_le (length piece) (free_room sink)

-- the sink after a put of this piece: the put is counted and noted, and where it fails the fault is counted
abbrev pub after_put : SinkState → List ℕ → SinkState
after_put sink piece = record sink {
  bytes = sink.bytes ++ take (intake sink) piece;
  calls = next_put sink;
  puts = sink.puts ++ put_as (accepts sink piece) piece ∷ [];
  faults = if accepts sink piece then sink.faults else raised sink.faults;
}
