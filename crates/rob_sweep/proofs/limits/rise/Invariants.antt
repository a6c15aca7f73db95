use Rattle.std.specs.Prelude.{◌↔◌, map, drop, option_map}
use Rattle.rob_reach.specs.Sweeps.{Rises}
use Rattle.rob_sweep.proofs.LimitLemmas.{RisesBehind}
use Rattle.rob_sweep.proofs.limits.rise.Given as goal

-- all rise where the others do, from the last one on
abbrev pub invariant-loop-limit : goal.invariant-loop-limit
invariant-loop-limit g l =
    RisesBehind (option_map g.N.Exact.value l.previous) (map g.N.Exact.value (drop l.limit-index l.limits))
    ↔ Rises (map g.N.Exact.value l.limits)
