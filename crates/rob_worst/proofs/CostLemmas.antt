-- The numbers of a form at a whole vector, summed column by column, are the costs of its search.
use Rattle.std.proofs.Common.{◌≡◌, ℕ, suc, ◌+◌, ◌-◌, ◌^◌, ◌<◌, ◌≤◌, List, [], ◌∷◌, ◌++◌, length, sym, ap, ap₂, ◌∙◌, subst, arith, inl, inr, to_z, of_z, w64, get_or}
use Rattle.std.proofs.lemmas.Bool.{cases_lt}
use Rattle.std.proofs.lemmas.Int.{ints}
use lib.IntN.{ℤ, pos, neg_ℤ, nat_abs, ◌+ℤ◌, ◌*ℤ◌}
use Rattle.rob_algebra.specs.Fraction.{Fraction}
use Rattle.rob_linear.specs.Vectors.{sum_to, at}
use Rattle.rob_meaning.specs.Forms.{matrix_at, form_columns}
use Rattle.rob_meaning.specs.Places.{Each, tabulate}
use Rattle.rob_meaning.specs.RobustModel.{RobustModel}
use Rattle.rob_meaning.proofs.Lists.EachLemmas.{each_at, each_append}
use Rattle.rob_number.proofs.CastLemmas.{seen}
use Rattle.rob_counterpart.specs.Counterpart.{cell, robust_of}
use Rattle.rob_counterpart.specs.RobustProgram.{number_at}
use Rattle.rob_counterpart.proofs.Sets.ModelLemmas.{number_outside}
use Rattle.rob_counterpart.proofs.Positions.ReformPlaces.{where_less, where_not_less}
use Rattle.rob_elab.specs.Forms.{IsForms}
use Rattle.rob_elab.specs.declared.forms.Forms.{Forms}
use Rattle.rob_runs.specs.Cuts.{wholes}
use Rattle.rob_runs.specs.Spots.{HasWidePrefix, cost_term}
use Rattle.rob_runs.proofs.Clearing.SumLemmas.{cost_is_number}
use Rattle.rob_meaning.proofs.Lists.TabulateLemmas.{tabulate_next}
use Rattle.std.specs.Prelude.{Option, Some, None, MatchOption}
use Rattle.rob_dualize.specs.SetProgram.{in_pairs}
use Rattle.rob_dualize.proofs.SetProgramLemmas.{in_pairs-push}
use Rattle.rob_worst.specs.Costs.{product_at, part_at, column_part, IsWidePart}

-- a number of a list within a limit, as the machine holds it
pub held_small : (limit : ℕ) (xs : List ℤ) (j : ℕ) → limit ≤ 2 ^ 62 - 1 → Each (λ a. nat_abs a ≤ limit) xs
    → j < length xs → nat_abs (get_or xs j (pos 0)) ≤ 2 ^ 62 - 1
held_small limit xs j high h l =
    let k : nat_abs (get_or xs j (pos 0)) ≤ limit = each_at (λ a. nat_abs a ≤ limit) xs h j (pos 0) l in
    omega arith

pub held : (v : ℤ) → nat_abs v ≤ 2 ^ 62 - 1 → to_z w64 (of_z w64 v) ≡ v
held v l = seen v (omega arith)

module _ (forms : Forms) (i : ℕ) (whole : List ℤ) where
  -- one product more
  pub sum_next : (k j : ℕ) (sum a b z : ℤ) → sum ≡ sum_to j (product_at forms i k whole)
      → a ≡ cell (matrix_at forms.matrices i) k j → b ≡ at whole j → z ≡ sum +ℤ (a *ℤ b)
      → z ≡ sum_to (j + 1) (product_at forms i k whole)
  sum_next k j sum a b z s ae be e =
      e ∙ ap₂ ◌+ℤ◌ s (ap₂ ◌*ℤ◌ ae be) ∙ ap (λ n. sum_to n (product_at forms i k whole))
      (let n : suc j ≡ j + 1 = omega arith in n)

  pub prefix_wide : (limit k j : ℕ) (sum a b : ℤ) → j < suc (suc forms.columns)
      → sum ≡ sum_to j (product_at forms i k whole) → a ≡ cell (matrix_at forms.matrices i) k j → b ≡ at whole j
      → limit < nat_abs (sum +ℤ (a *ℤ b)) → IsWidePart forms i limit k whole
  prefix_wide limit k j sum a b l s ae be w =
      (suc j, omega arith, subst (λ v. limit < nat_abs v) (ap₂ ◌+ℤ◌ s (ap₂ ◌*ℤ◌ ae be)) w)

  -- ---- the numbers of set columns
  pub column_inside : (c : ℕ) → c < forms.params → column_part forms i whole c ≡ part_at forms i (suc c) whole
  column_inside c l = where_less c forms.params (part_at forms i (suc c) whole) (pos 0) l

  pub column_outside : (c : ℕ) → forms.params ≤ c → column_part forms i whole c ≡ pos 0
  column_outside c l = where_not_less c forms.params (part_at forms i (suc c) whole) (pos 0) l

  pub told_inside : (limit c k : ℕ) → c < forms.params → k ≡ suc c → (r : Option ℤ)
      → MatchOption r (IsWidePart forms i limit k whole) (λ v. (v ≡ part_at forms i k whole) × (nat_abs v ≤ limit))
      → MatchOption r ((c < forms.params) × IsWidePart forms i limit (suc c) whole)
      (λ v. (v ≡ column_part forms i whole c) × (nat_abs v ≤ limit))
  told_inside limit c k l e None h = (l, subst (λ n. IsWidePart forms i limit n whole) e h)
  told_inside limit c k l e (Some v) h = (h.0 ∙ ap (λ n. part_at forms i n whole) e ∙ sym (column_inside c l), h.1)

  -- one column more
  pub costs_next : (c : ℕ) (list new : List ℤ) (v : ℤ) → list ≡ in_pairs (tabulate c (column_part forms i whole))
      → v ≡ column_part forms i whole c → new ≡ list ++ v ∷ (neg_ℤ v ∷ [])
      → new ≡ in_pairs (tabulate (c + 1) (column_part forms i whole))
  costs_next c list new v h e is =
      is ∙ ap₂ (λ (xs : List ℤ) (x : ℤ). xs ++ x ∷ (neg_ℤ x ∷ [])) h e
      ∙ sym (in_pairs-push (tabulate c (column_part forms i whole)) (column_part forms i whole c))
      ∙ ap in_pairs (tabulate_next (column_part forms i whole) c)

pub pair_within : (limit : ℕ) (list new : List ℤ) (v : ℤ) → Each (λ a. nat_abs a ≤ limit) list → nat_abs v ≤ limit
    → new ≡ list ++ v ∷ (neg_ℤ v ∷ []) → Each (λ a. nat_abs a ≤ limit) new
pair_within limit list new v h l e =
    let n : nat_abs (neg_ℤ v) ≤ limit = omega (arith, ints) in
    subst (λ (xs : List ℤ). Each (λ a. nat_abs a ≤ limit) xs) (sym e)
    (each_append (λ a. nat_abs a ≤ limit) list (v ∷ (neg_ℤ v ∷ [])) h (l, (n, tt)))

-- ---- of a model
module _ (m : RobustModel) (forms : Forms) (f : IsForms m forms) (i : ℕ) (z : List Fraction) where
  pub part_same : (k : ℕ) → part_at forms i k (wholes z) ≡ sum_to (form_columns m) (cost_term m i k z)
  part_same k = ap₂ (λ n all. sum_to (suc (suc n)) (λ j. cell (matrix_at all i) k j *ℤ at (wholes z) j)) f.columns
      f.matrices

  pub part_wide : (limit k : ℕ) → IsWidePart forms i limit k (wholes z)
      → HasWidePrefix limit (form_columns m) (cost_term m i k z)
  part_wide limit k w =
      subst (λ (n : ℕ). HasWidePrefix limit (suc (suc n)) (cost_term m i k z)) f.columns
      (subst (λ (all : List (List (List ℤ))). HasWidePrefix limit (suc (suc forms.columns))
      (λ j. cell (matrix_at all i) k j *ℤ at (wholes z) j)) f.matrices w)

  pub column_same : (c : ℕ) → column_part forms i (wholes z) c ≡ number_at (robust_of m) i c (at (wholes z))
  column_same c =
      elim (cases_lt c forms.params) [
        | inl l ↦ column_inside forms i (wholes z) c l ∙ part_same (suc c)
            ∙ cost_is_number m i c z (subst (λ n. c < n) f.params l)
        | inr l ↦ column_outside forms i (wholes z) c l ∙ sym
            (number_outside (robust_of m) i c (at (wholes z)) (subst (λ n. n ≤ c) f.params l))
      ]
