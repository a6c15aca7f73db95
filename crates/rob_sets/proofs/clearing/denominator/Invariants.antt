use Rattle.std.specs.Prelude.{◌≡◌, ◌<◌, ◌≤◌, map, take}
use Rattle.rob_meaning.specs.Clearing.{denominator}
use Rattle.rob_sets.proofs.clearing.denominator.Given as goal

-- the least common denominator of the numbers so far
abbrev pub invariant-loop-q : goal.invariant-loop-q
invariant-loop-q g l = record {
  least : l.least ≡ denominator (map g.N.Exact.value (take l.q-index l.numbers));
  positive : 0 < l.least;
  within : l.least ≤ g.N.Exact.limit;
}
