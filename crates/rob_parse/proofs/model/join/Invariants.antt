use Rattle.std.proofs.Common.{◌≡◌, ◌≤◌, ◌++◌, drop, length, map, take}
use Rattle.rob_meaning.specs.RobustModel.{in_set, joint_parameters}
use Rattle.rob_model.specs.View.{parameter_of}
use Rattle.rob_parse.proofs.Sets.JoinLemmas.{copies}
use Rattle.rob_parse.proofs.model.join.Given as goal

abbrev pub invariant-loop-set : goal.invariant-loop-set
invariant-loop-set g l =
    record {
      count : l.count ≡ length l.fn.params;
      long : length l.fn.params ≤ length l.params;
      front : take l.count (map (parameter_of g.N.Exact.value) l.params) ≡ map (parameter_of g.N.Exact.value)
          l.fn.params;
      so_far : map (parameter_of g.N.Exact.value) l.params ++ copies in_set
          (map (parameter_of g.N.Exact.value) l.fn.params) (drop l.set-index l.sets) ≡ joint_parameters
          (map (parameter_of g.N.Exact.value) l.fn.params) l.sets;
    }
