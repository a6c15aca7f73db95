-- The linear program whose lists are the rows of a set form, in pairs.
use Rattle.std.proofs.Common.{◌≡◌, ℕ, zero, suc, ◌+◌, ◌*◌, ◌≤◌, refl, sym, ap, ◌∙◌, subst, arith, List, [], ◌∷◌, length, map, get_or}
use Rattle.std.proofs.lemmas.List.{length-map, get_or_default}
use lib.IntN.{ℤ, pos, nat_abs}
use Rattle.rob_linear.specs.Vectors.{at}
use Rattle.rob_meaning.specs.Places.{Each}
use Rattle.rob_meaning.proofs.Lists.EachLemmas.{each_at}
use Rattle.rob_rows.specs.PrimitiveParts.{IsWithin}
use Rattle.rob_rows.specs.LinearPrograms.{IsShaped, HasNumbersWithin, program_of}
use Rattle.rob_rows.specs.declared.program.Lp.{Lp}
use Rattle.rob_counterpart.specs.Counterpart.{cell}
use Rattle.rob_counterpart.specs.Splitting.{plus, minus}
use Rattle.rob_sets.specs.SetForm.{SetFits, RowFits}
use Rattle.rob_sets.specs.declared.set_form.SetForm.{SetForm}
use Rattle.rob_sets.specs.declared.set_form.SetRow.{SetRow}
use Rattle.rob_dualize.specs.SetProgram.{HasWholeRows, IsOverRobust, robust_set, in_pairs, left_sides, right_sides}
use Rattle.rob_dualize.proofs.SetProgramLemmas.{at-plus, at-minus, length-in_pairs, negated_within, rights_within}

pairs_within : (limit : ℕ) (xs : List ℤ) → Each (λ a. nat_abs a ≤ limit) xs
    → Each (λ a. nat_abs a ≤ limit) (in_pairs xs)
pairs_within limit [] h = tt
pairs_within limit (x ∷ xs) h = (h.0, (negated_within limit x h.0, pairs_within limit xs h.1))

pairs-at : (rows : List (List ℤ)) (r : ℕ) → get_or (map in_pairs rows) r [] ≡ in_pairs (get_or rows r [])
pairs-at [] r = refl
pairs-at (row ∷ rows) zero = refl
pairs-at (row ∷ rows) (suc r) = pairs-at rows r

left_within : (limit : ℕ) (rows : List SetRow) → Each (RowFits limit) rows
    → Each (λ row. IsWithin limit row) (map in_pairs (left_sides rows))
left_within limit [] h = tt
left_within limit (row ∷ rows) h = (
  each_at (λ a. nat_abs a ≤ limit) (in_pairs row.g) (pairs_within limit row.g h.0.coefficients),
  left_within limit rows h.1,
)

left_wide : (columns width : ℕ) (rows : List SetRow) → width ≡ columns + columns
    → Each (λ (row : SetRow). length row.g ≡ columns) rows
    → Each (λ row. length row ≡ width) (map in_pairs (left_sides rows))
left_wide columns width [] e h = tt
left_wide columns width (row ∷ rows) e h =
    (let one : length row.g ≡ columns = h.0 in omega (arith, length-in_pairs row.g), left_wide columns width rows e h.1)

-- a program with these lists
module _ (set : SetForm) (lp : Lp) (left : lp.a ≡ map in_pairs (left_sides set.rows))
    (right : lp.b ≡ right_sides set.rows) (zeros : (k : ℕ) → at lp.c k ≡ pos 0)
    (wide : length lp.c ≡ 2 * set.columns) where
  rows_many : length lp.b ≡ length set.rows
  rows_many = ap length right ∙ length-map set.rows (λ (row : SetRow). row.h)

  left-at : (r k : ℕ) → cell lp.a r k ≡ at (in_pairs (get_or (left_sides set.rows) r [])) k
  left-at r k =
      ap (λ (rows : List (List ℤ)). cell rows r k) left
      ∙ ap (λ (row : List ℤ). at row k) (pairs-at (left_sides set.rows) r)

  pub is_over : IsOverRobust (robust_set set) (program_of lp)
  is_over = record {
    over_set = record {
      height = rows_many;
      width = omega arith;
      at_plus = λ r c rl cl. left-at r (plus c) ∙ at-plus (get_or (left_sides set.rows) r []) c;
      at_minus = λ r c rl cl. left-at r (minus c) ∙ at-minus (get_or (left_sides set.rows) r []) c;
      at_right = λ r rl. ap (λ (rights : List ℤ). at rights r) right;
    };
    cost = record { cost_plus = λ c cl. zeros (plus c); cost_minus = λ c cl. zeros (minus c) };
  }

  pub is_shaped : HasWholeRows set → IsShaped lp
  is_shaped h = record {
    rows = ap length left ∙ length-map (left_sides set.rows) in_pairs
        ∙ length-map set.rows (λ (row : SetRow). row.g) ∙ sym rows_many;
    columns = each_at (λ row. length row ≡ length lp.c) lp.a
        (subst (λ (rows : List (List ℤ)). Each (λ row. length row ≡ length lp.c) rows) (sym left)
        (left_wide set.columns (length lp.c) set.rows (omega arith) h));
  }

  pub is_within : (limit : ℕ) → SetFits limit set → HasNumbersWithin limit lp
  is_within limit h = record {
    a = each_at (λ row. IsWithin limit row) lp.a
        (subst (λ (rows : List (List ℤ)). Each (λ row. IsWithin limit row) rows) (sym left)
        (left_within limit set.rows h));
    b = subst (λ (rights : List ℤ). IsWithin limit rights) (sym right)
        (each_at (λ a. nat_abs a ≤ limit) (right_sides set.rows) (rights_within limit set.rows h));
    c = λ k d l. subst (λ a. nat_abs a ≤ limit) (sym (get_or_default lp.c k d (pos 0) l ∙ zeros k)) (omega arith);
  }
