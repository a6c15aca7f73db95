use Rattle.std.proofs.Common.{List, length, ap, sym, ◌∙◌, arith, ℕ}
use Rattle.std.proofs.lemmas.List.{length-map}
use Rattle.rob_model.proofs.PartLemmas.{variable_is}
use Rattle.rob_model.proofs.GroupCounts.{few_vars}
use Rattle.rob_meaning.specs.Expressions.{variable}
use Rattle.rob_model.specs.View.{robust, variable_of}
use Rattle.rob_pieces.specs.SplitModel.{numbered}
use Rattle.rob_cells.proofs.rows.cost_row.Goals as goal

pub overflow_cast-items : goal.overflow_cast-items
overflow_cast-items g c = omega (arith, few_vars c.requires.valid c.items.ensures.list)

pub returns : goal.returns
returns g c =
    let value = g.N.Exact.value in
    let model = c.args.model.now in
    let m = robust value model in
    record {
      row = λ i. record {
        name = (c.in_ok-numbered.ensures.numbered
            ∙ ap (λ (word : List ℕ). numbered word c.args.c) c.in_ok-word.ensures.equal) i;
        left =
            (variable_is value (length c.items.result.now)
            ∙ ap variable (ap length c.items.ensures.list ∙ sym (length-map model.vars (variable_of value)))) i;
        relation = c.cost_rel.ensures.relation m c.args.c i;
        right = c.in_ok-expr_over.ensures.over i;
      };
    }
