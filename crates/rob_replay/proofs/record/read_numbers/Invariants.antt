use Rattle.std.proofs.Common.{◌≡◌, ◌≤◌, drop, map, length}
use Rattle.csv.specs.Records.{fields_of}
use Rattle.rob_replay.specs.Gathering.{gathered}
use Rattle.rob_replay.specs.Fields.{number_in, numbers_in}
use Rattle.rob_replay.proofs.record.read_numbers.Given as goal

-- the numbers so far, and those that are left
abbrev pub invariant-loop-i : goal.invariant-loop-i
invariant-loop-i g l = record {
  rest : gathered (map g.N.Exact.value l.numbers) (map (number_in g.N.Exact.limit) (drop l.i (fields_of l.row)))
      ≡ numbers_in g.N.Exact.limit (fields_of l.row);
  len : l.len ≡ length (fields_of l.row);
  ops : g.L.Ledger.ops l.fn.ledger ≤ g.L.Ledger.ops l.ledger;
  wides : g.L.Ledger.wides l.fn.ledger ≤ g.L.Ledger.wides l.ledger;
}
