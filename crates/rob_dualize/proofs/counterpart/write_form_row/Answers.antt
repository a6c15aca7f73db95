use Rattle.std.proofs.Common.{ℕ, ◌∙◌, ap, arith, length, pos, List}
use Rattle.std.proofs.lemmas.List.{get_or-replicate}
use lib.IntN.{ℤ}
use Rattle.rob_linear.specs.Vectors.{at}
use Rattle.rob_dualize.specs.Wholes.{wholes, counterpart_of}
use Rattle.rob_dualize.proofs.ToldLemmas.{row_written}
use Rattle.rob_dualize.proofs.counterpart.write_form_row.Goals as goal

pub returns : goal.returns
returns c =
    let n : ℕ = (counterpart_of c.args.model.forms.now c.args.model.set.now).n in
    record {
      row = row_written (wholes c.args.model.forms.now c.args.model.set.now) c.args.i c.args.p c.requires.form_in
          c.fill.new.self c.write_plan.new.numbers c.write_multipliers.new.numbers
          (omega (
            arith,
            c.write_multipliers.auto.numbers,
            c.write_plan.auto.numbers,
            c.fill.ensures.len,
            c.requires.size,
          ))
          (λ k l. ap (λ (xs : List ℤ). at xs k) (c.fill.ensures.after (λ y e. e))
          ∙ get_or-replicate (length c.args.numbers.now) k (pos 0) (pos 0) (omega (arith, c.requires.size)))
          c.write_plan.ensures.plan c.write_plan.ensures.others c.write_multipliers.ensures.own
          c.write_multipliers.ensures.others;
    }
