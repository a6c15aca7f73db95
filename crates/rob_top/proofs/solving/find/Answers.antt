use Rattle.rob_top.proofs.Meaning.RouteLemmas.{cuts_answers, dual_found, dual_stopped}
use Rattle.rob_top.proofs.solving.find.Goals as goal

pub solve_dual-requires-clause-model : goal.solve_dual-requires-clause-model
solve_dual-requires-clause-model g c = c.requires.model.elaborated

pub returns-in-Ok : goal.returns-in-Ok
returns-in-Ok g c = record {
  solves = λ m well forms set.
      dual_found g.N.Exact.value g.N.Exact.limit m _ _ c.args.route c.in-Dual.is c.in-Ok.cert _ c.solve_dual.result
      c.in-Ok.is c.new.ensures.empty
      (c.solve_dual.ensures.solves m well forms set);
}

pub returns-in-Err : goal.returns-in-Err
returns-in-Err g c = record {
  solves = λ m well forms set.
      dual_stopped g.N.Exact.value g.N.Exact.limit m _ _ c.args.route c.in-Dual.is c.in-Err.stop
      c.solve_dual.result c.in-Err.is
      (c.solve_dual.ensures.solves m well forms set);
}

pub returns-in-Cuts : goal.returns-in-Cuts
returns-in-Cuts g c = record {
  solves = λ m well forms set.
      cuts_answers g.N.Exact.value g.N.Exact.limit m _ _ c.args.route c.in-Cuts.is c.args.elaborated.forms.now
      c.args.elaborated.set.now c.solve_cuts.result well forms set
      c.solve_cuts.ensures.solved c.solve_cuts.ensures.stopped c.solve_cuts.ensures.fits c.solve_cuts.ensures.wides;
}
