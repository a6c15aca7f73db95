-- The rows of the declared bounds, parameter by parameter.
use Rattle.std.specs.Prelude.{◌≡◌, ℕ, suc, ◌+◌, ◌*◌, ◌<◌, ◌≤◌, List, [], ◌∷◌, ◌++◌, length, map, drop, Option, Some, None, option_map, refl}
use Rattle.std.proofs.Common.{sym, ◌∙◌, ap, ap₂, arith, append_assoc, add-one, get_or, length-append}
use Rattle.rob_algebra.specs.Fraction.{Fraction}
use Rattle.rob_meaning.specs.RobustModel.{Parameter}
use Rattle.rob_meaning.specs.SetConditions.{if_declared}
use Rattle.rob_meaning.specs.SetRows as lifted
use Rattle.rob_meaning.specs.SetRows.{bound_rows, lower_row, upper_row}
use Rattle.rob_model.specs.View.{parameter_of}
use Rattle.rob_model.specs.declared.model.Param.{Param}
use Rattle.rob_sets.proofs.Cells.ItemLemmas.{drop_item}
use Rattle.rob_sets.proofs.Cells.PartedLemmas.{Parted}

pub length-declared : {A : Type 0} (f : Fraction → A) (b : Option Fraction) → length (if_declared f b) ≤ 1
length-declared f None = omega arith
length-declared f (Some x) = omega arith

pub bounds_many : (k : ℕ) (ps : List Parameter) → length (bound_rows k ps) ≤ 2 * length ps
bounds_many k [] = omega arith
bounds_many k (p ∷ ps) =
    omega (
      arith,
      length-append (if_declared (lower_row k) p.lower ++ if_declared (upper_row k) p.upper) (bound_rows (suc k) ps),
      length-append (if_declared (lower_row k) p.lower) (if_declared (upper_row k) p.upper),
      length-declared (lower_row k) p.lower,
      length-declared (upper_row k) p.upper,
      bounds_many (suc k) ps,
    )

module _ {N : Type 0} (value : N → Fraction) where
  -- those of the parameters from a place on
  abbrev pub other_bounds : List (Param N) → ℕ → List lifted.SetRow
  other_bounds ps i = bound_rows i (map (parameter_of value) (drop i ps))

  -- the rows of the next parameter come first, its lower bound and then its upper one
  bounds_at : (ps : List (Param N)) (i n : ℕ) (p : Param N) → drop i ps ≡ p ∷ drop (i + 1) ps → n ≡ i
      → Parted (other_bounds ps i) (if_declared (lower_row n) (option_map value p.lower))
      (if_declared (upper_row n) (option_map value p.upper) ++ other_bounds ps (i + 1))
  bounds_at ps i n p at same = record {
    is = ap (λ (xs : List (Param N)). bound_rows i (map (parameter_of value) xs)) at
        ∙ append_assoc (if_declared (lower_row i) (option_map value p.lower))
        (if_declared (upper_row i) (option_map value p.upper))
        (bound_rows (suc i) (map (parameter_of value) (drop (i + 1) ps)))
        ∙ ap₂ (λ a b. if_declared (lower_row a) (option_map value p.lower)
        ++ (if_declared (upper_row a) (option_map value p.upper)
        ++ bound_rows b (map (parameter_of value) (drop (i + 1) ps)))) (sym same) (sym (add-one i));
  }

  pub bounds_here : {ps items : List (Param N)} {i n : ℕ} {p : Param N} → items ≡ ps → i < length items
      → p ≡ get_or items i p → n ≡ i
      → Parted (other_bounds ps i) (if_declared (lower_row n) (option_map value p.lower))
      (if_declared (upper_row n) (option_map value p.upper) ++ other_bounds ps (i + 1))
  bounds_here {ps} {items} {i} {n} {p} list inside is same = bounds_at ps i n p (drop_item i list inside is) same

  pub upper_at : (ps : List (Param N)) (i n : ℕ) (p : Param N)
      → Parted (if_declared (upper_row n) (option_map value p.upper) ++ other_bounds ps (i + 1))
      (if_declared (upper_row n) (option_map value p.upper)) (other_bounds ps (i + 1))
  upper_at ps i n p = record { is = refl }

  pub bounds_end : (ps : List (Param N)) (i : ℕ) → drop i ps ≡ [] → other_bounds ps i ≡ []
  bounds_end ps i over = ap (λ (xs : List (Param N)). bound_rows i (map (parameter_of value) xs)) over
