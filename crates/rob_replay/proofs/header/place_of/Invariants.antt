use Rattle.std.proofs.Common.{◌≡◌, drop, length}
use Rattle.csv.specs.Records.{fields_of}
use Rattle.rob_replay.specs.Headers.{place_from}
use Rattle.rob_replay.proofs.header.place_of.Given as goal

-- no field so far is the name
abbrev pub invariant-loop-i : goal.invariant-loop-i
invariant-loop-i l = record {
  rest : place_from l.i (drop l.i (fields_of l.header)) l.name ≡ place_from 0 (fields_of l.header) l.name;
  len : l.len ≡ length (fields_of l.header);
}
