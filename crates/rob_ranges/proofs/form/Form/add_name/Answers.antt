use Rattle.std.proofs.Common.{◌≡◌, ◌∙◌, refl, ap, arith}
use Rattle.std.specs.Prelude.{ℤ, pos, ◌+ℤ◌, ◌*ℤ◌}
use Rattle.std.proofs.lemmas.Result.{on_ok_weaker}
use Rattle.std.proofs.lemmas.Int.{ints}
use Rattle.std.proofs.Math.IntN.{*ℤ-zero}
use Rattle.rob_index.specs.Statements.{bound}
use Rattle.rob_index.specs.Fast.{atom_form, sign_factor, unit_at}
use Rattle.rob_ranges.specs.Joining.{joined_from}
use Rattle.rob_ranges.proofs.JoinLemmas.{sum_is}
use Rattle.rob_ranges.proofs.form.Form.add_name.Goals as goal

pub returns : goal.returns
returns c =
    let own = c.self.inside in
    let sign = sign_factor c.args.minus in
    let unit = unit_at c.args.names.now c.args.name in
    let same : own.constant ≡ own.constant +ℤ (sign *ℤ pos 0) = omega (arith, ints, *ℤ-zero sign) in
    record {
      sum =
          on_ok_weaker c.add_unit-2.result
          (λ added. sum_is own.constant sign (pos 0) own.constant own.front unit own.factors.items
          c.add_unit-2.new.factors.items c.args.self.now (atom_form c.args.names.now (bound c.args.name))
          c.self.view_is c.self.invariant same refl refl
          (added ∙ ap (λ (s : ℤ). joined_from own.front s unit own.factors.items) c.sign.ensures.sign))
          c.add_unit-2.ensures.added;
    }
