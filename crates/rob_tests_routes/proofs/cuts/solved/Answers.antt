use Rattle.rob_model.specs.View.{robust}
use Rattle.rob_dualize.proofs.SizeLemmas.{few_within_limits}
use Rattle.rob_tests_routes.proofs.cuts.solved.Goals as goal

pub solve_cuts-requires-clause-model : goal.solve_cuts-requires-clause-model
solve_cuts-requires-clause-model g c = record {
  elaborated = record {
    model = robust g.N.Exact.value c.args.model.now;
    elaborated = c.requires.elaborated;
  };
  is_model = c.requires.valid.well_formed;
}

pub solve_cuts-requires-clause-few : goal.solve_cuts-requires-clause-few
solve_cuts-requires-clause-few g c =
    few_within_limits (robust g.N.Exact.value c.args.model.now) c.args.whole.now.forms c.args.whole.now.set
    c.requires.valid.limits c.requires.elaborated.are_forms c.requires.elaborated.is_set

pub ended-requires-clause-shape : goal.ended-requires-clause-shape
ended-requires-clause-shape g c =
    (c.in-Ok.ensures.solved (robust g.N.Exact.value c.args.model.now) c.requires.valid.well_formed
    c.requires.elaborated.are_forms c.requires.elaborated.is_set).shape
