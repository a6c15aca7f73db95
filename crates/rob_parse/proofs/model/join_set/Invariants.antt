use Rattle.std.proofs.Common.{◌≡◌, ◌++◌, map, take}
use Rattle.rob_meaning.specs.RobustModel.{in_set}
use Rattle.rob_model.specs.View.{parameter_of}
use Rattle.rob_parse.proofs.model.join_set.Given as goal

abbrev pub invariant-loop-k : goal.invariant-loop-k
invariant-loop-k g l =
    map (parameter_of g.N.Exact.value) l.params
    ≡ map (parameter_of g.N.Exact.value) l.fn.params ++ map (in_set l.set)
    (take l.k (map (parameter_of g.N.Exact.value) l.fn.params))
