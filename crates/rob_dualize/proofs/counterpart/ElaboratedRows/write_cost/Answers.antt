use Rattle.std.proofs.Common.{ℕ, ◌∙◌, sym, ap}
use Rattle.rob_meaning.specs.Places.{tabulate}
use Rattle.rob_dualize.specs.Wholes.{cost_of, counterpart_of}
use Rattle.rob_dualize.proofs.ToldLemmas.{told_columns}
use Rattle.rob_dualize.proofs.counterpart.ElaboratedRows.write_cost.Goals as goal

pub returns : goal.returns
returns c = record {
  cost = c.write_costs.ensures.costs
      ∙ ap (λ (n : ℕ). tabulate n (cost_of c.args.self.now.forms.now))
      (c.requires.size ∙ sym (told_columns (counterpart_of c.args.self.now.forms.now c.args.self.now.set.now)));
}
