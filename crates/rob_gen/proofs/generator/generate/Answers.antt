use Rattle.std.proofs.Common.{refl}
use Rattle.rob_model.specs.declared.model.Sense.TheVariants.{Minimise}
use Rattle.rob_gen.proofs.MadeLemmas.{model_is, valid_of}
use Rattle.rob_gen.proofs.generator.generate.Goals as goal

pub returns-clause-model : goal.returns-clause-model
returns-clause-model g c =
    model_is g.N.Exact.value c.args.n
    (record {
      params = c.in_ok-params.params;
      sets = c.new-sets.result;
      set_lines = c.in_ok-set_lines.set_lines;
      line_sets = c.in_ok-line_sets.line_sets;
      vars = c.in_ok-vars.vars;
      adaptives = c.in_ok-adaptives.adaptives;
      sense = Minimise;
      objective = c.in_ok-objective.objective;
      objective_set = 0;
      rows = c.in_ok-rows.rows;
      row_sets = c.in_ok-row_sets.row_sets;
    })
    c.in_ok-params.ensures.made c.new-sets.ensures.empty c.in_ok-set_lines.ensures.made c.in_ok-line_sets.ensures.list
    c.in_ok-vars.ensures.made c.in_ok-adaptives.ensures.made refl c.in_ok-objective.ensures.made refl
    c.in_ok-rows.ensures.made c.in_ok-row_sets.ensures.list

pub returns-clause-valid : goal.returns-clause-valid
returns-clause-valid g c = valid_of g.N.Exact.value _ c.args.n (returns-clause-model g c)
