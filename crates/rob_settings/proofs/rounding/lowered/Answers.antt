use Rattle.std.proofs.Common.{[], ap, ◌∙◌}
use Rattle.std.specs.Prelude.{true}
use Rattle.rob_index.specs.Statements.{digits}
use Rattle.rob_index.specs.Forms.{Form, plus_times}
use Rattle.rob_index.specs.Fast.{atom_form, sign_factor}
use Rattle.rob_settings.proofs.RoundingLemmas.{lower_least}
use Rattle.rob_settings.proofs.rounding.lowered.Goals as goal

pub returns : goal.returns
returns c = record {
  lowered = λ vs.
      lower_least c.args.form.now _ c.least_of-least.result vs
      (c.in_ok-add_number.ensures.sum
      ∙ ap (λ (f : Form). plus_times f (sign_factor true) (atom_form [] (digits c.least_of-least.result)))
      c.in_ok-lower.ensures.same)
      (c.least_of-least.ensures.least vs);
}
