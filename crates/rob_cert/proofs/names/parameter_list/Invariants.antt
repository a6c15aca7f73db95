use Rattle.std.proofs.Common.{◌≡◌, map, take}
use Rattle.rob_meaning.specs.RobustModel.{Parameter}
use Rattle.rob_model.specs.View.{parameter_of}
use Rattle.rob_cert.proofs.names.parameter_list.Given as goal

abbrev pub invariant-loop-param : goal.invariant-loop-param
invariant-loop-param g l =
    l.list ≡ take l.param-index (map (λ (d : Parameter). d.name) (map (parameter_of g.N.Exact.value) l.params))
