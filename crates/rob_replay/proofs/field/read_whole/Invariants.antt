use Rattle.std.proofs.Common.{◌≡◌, ◌≤◌, drop}
use Rattle.rob_replay.proofs.FieldLemmas.{whole_left}
use Rattle.rob_replay.specs.Fields.{whole_in}
use Rattle.rob_replay.proofs.field.read_whole.Given as goal

-- the value so far, with the digits that are left, is the whole
abbrev pub invariant-loop-b : goal.invariant-loop-b
invariant-loop-b g l = record {
  rest : whole_left g.N.Exact.limit l.value (drop l.b-index l.digits) ≡ whole_in g.N.Exact.limit l.digits;
  within : l.value ≤ g.N.Exact.limit;
  limit : l.limit ≡ g.N.Exact.limit;
}
