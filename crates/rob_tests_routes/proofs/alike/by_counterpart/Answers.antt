use Rattle.rob_tests_routes.proofs.alike.by_counterpart.Goals as goal

pub ended-requires-clause-shape : goal.ended-requires-clause-shape
ended-requires-clause-shape g c = c.in-Ok.ensures.solved.shape
