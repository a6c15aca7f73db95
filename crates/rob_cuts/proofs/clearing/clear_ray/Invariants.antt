use Rattle.std.specs.Prelude.{◌≡◌, ◌≤◌, nat_abs, map, take}
use Rattle.rob_meaning.specs.Clearing.{whole_at}
use Rattle.rob_meaning.specs.Places.{Each}
use Rattle.rob_cuts.proofs.clearing.clear_ray.Given as goal

-- the whole numbers so far
abbrev pub invariant-loop-q : goal.invariant-loop-q
invariant-loop-q g l = record {
  cleared : l.list ≡ map (whole_at l.common) (map g.N.Exact.value (take l.q-index l.ray));
  fits : Each (λ a. nat_abs a ≤ g.N.Exact.limit) l.list;
}
