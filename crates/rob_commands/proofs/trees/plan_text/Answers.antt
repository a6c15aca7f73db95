use Rattle.std.proofs.Common.{ap}
use Rattle.rob_cert.specs.View.{status_of}
use Rattle.rob_model.specs.View.{robust}
use Rattle.rob_tree.specs.View.{tree_of}
use Rattle.rob_commands.proofs.PlanLemmas.{optimal_planned, unbounded_planned}
use Rattle.rob_commands.proofs.ShownLemmas.{infeasible_plan, optimal_plan, unbounded_plan}
use Rattle.rob_commands.proofs.trees.plan_text.Goals as goal

pub shown_text-requires-clause-planned : goal.shown_text-requires-clause-planned
shown_text-requires-clause-planned g c = optimal_planned c.args.tree.now.status c.in-Optimal.is

pub returns-in-Optimal : goal.returns-in-Optimal
returns-in-Optimal g c = record {
  plan = optimal_plan (robust g.N.Exact.value c.args.model.now) c.args.numbers.now
      (tree_of g.N.Exact.value c.args.tree.now) _ c.shown_text.result
      (ap status_of c.in-Optimal.is) c.shown_text.ensures.shown;
}

pub returns-in-Infeasible : goal.returns-in-Infeasible
returns-in-Infeasible g c = record {
  plan = infeasible_plan (robust g.N.Exact.value c.args.model.now) c.args.numbers.now
      (tree_of g.N.Exact.value c.args.tree.now) _ c.infeasible_text.result
      (ap status_of c.in-Infeasible.is) c.infeasible_text.ensures.text;
}

pub shown_text-requires-in-Unbounded-clause-planned : goal.shown_text-requires-in-Unbounded-clause-planned
shown_text-requires-in-Unbounded-clause-planned g c = unbounded_planned c.args.tree.now.status c.in-Unbounded.is

pub returns-in-Unbounded : goal.returns-in-Unbounded
returns-in-Unbounded g c = record {
  plan = unbounded_plan (robust g.N.Exact.value c.args.model.now) c.args.numbers.now
      (tree_of g.N.Exact.value c.args.tree.now) _ c.shown_text-in-Unbounded.result
      (ap status_of c.in-Unbounded.is) c.shown_text-in-Unbounded.ensures.shown;
}
