-- The form of a declared bound: `l - e` of a lower one, `e - b` of an upper one.
use Rattle.std.proofs.Common.{ap, sym, ◌∙◌}
use Rattle.std.specs.Prelude.{◌≡◌, List, [], ◌∷◌, Bool, true, false, Option, Some, option_map, if◌then◌else◌}
use Rattle.rob_algebra.specs.Fraction.{Fraction}
use Rattle.rob_meaning.specs.Expressions.{Expression, number as constant}
use Rattle.rob_meaning.specs.Forms.{difference}
use Rattle.rob_meaning.specs.SetConditions.{if_declared}
use Rattle.rob_model.specs.View.{expression_of}
use Rattle.rob_model.specs.declared.expr.Expr.TheVariants.{Number}
use Rattle.rob_model.proofs.PartLemmas.{number_is}

module _ (e : Expression) where
  -- the forms of a bound that may be declared
  abbrev pub bound_form : Bool → Option Fraction → List Expression
  bound_form lower bound =
      if_declared (λ b. if lower then difference (constant b) e else difference e (constant b)) bound

  module _ {N : Type 0} (value : N → Fraction) (lower : Bool) (bound : Option N) (b : N)
      (declared : bound ≡ Some b) where
    pub lower_form : lower ≡ true → difference (expression_of value (Number b)) e ∷ []
        ≡ bound_form lower (option_map value bound)
    lower_form is_lower =
        ap (λ (x : Expression). difference x e ∷ []) (number_is value b)
        ∙ sym (ap (λ (side : Bool). bound_form side (option_map value bound)) is_lower
        ∙ ap (λ (d : Option N). bound_form true (option_map value d)) declared)

    pub upper_form : lower ≡ false → difference e (expression_of value (Number b)) ∷ []
        ≡ bound_form lower (option_map value bound)
    upper_form is_upper =
        ap (λ (x : Expression). difference e x ∷ []) (number_is value b)
        ∙ sym (ap (λ (side : Bool). bound_form side (option_map value bound)) is_upper
        ∙ ap (λ (d : Option N). bound_form false (option_map value d)) declared)
