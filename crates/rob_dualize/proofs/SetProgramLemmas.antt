-- The numbers of a set form in pairs, and the program that it is of for a model.
use Rattle.std.proofs.Common.{◌≡◌, ℕ, zero, suc, ◌+◌, ◌*◌, ◌^◌, ◌<◌, ◌≤◌, refl, sym, ap, ◌∙◌, subst, arith, List, [], ◌∷◌, ◌++◌, length, map, get_or, take}
use Rattle.std.proofs.lemmas.List.{length-map, length-append, get_or_default, append_assoc}
use Rattle.std.proofs.lemmas.Int.{ints}
use lib.IntN.{ℤ, pos, neg_ℤ, nat_abs}
use Rattle.rob_linear.specs.Vectors.{at}
use Rattle.rob_linear.specs.Programs.{Program}
use Rattle.rob_meaning.specs.Clearing.{whole_at}
use Rattle.rob_meaning.specs.Places.{Each, tabulate}
use Rattle.rob_meaning.specs.RobustModel.{RobustModel}
use Rattle.rob_meaning.specs.SetRows as meaning
use Rattle.rob_meaning.specs.SetRows.{set_rows, set_column_count, lift_count, bound_rows, statement_rows, coefficients, row_denominator, whole_row, whole_limit}
use Rattle.rob_meaning.proofs.Tables.ClearingLemmas.{length-tabulate}
use Rattle.rob_model.specs.Limits.{IsWithinLimits}
use Rattle.rob_counterpart.specs.Counterpart.{robust_of, set_program, cell}
use Rattle.rob_counterpart.specs.SamePrograms.{AreSame}
use Rattle.rob_counterpart.specs.Splitting.{plus, minus}
use Rattle.rob_counterpart.proofs.Positions.SameSystems.{over_set_same}
use Rattle.rob_sets.specs.SetForm.{IsSetForm, RowFits, cleared_row}
use Rattle.rob_sets.specs.declared.set_form.SetForm.{SetForm}
use Rattle.rob_sets.specs.declared.set_form.SetRow.{SetRow}
use Rattle.rob_sets.proofs.WholeRows.BoundRowLemmas.{bounds_many}
use Rattle.rob_sets.proofs.WholeRows.StatementLemmas.{statements_many}
use Rattle.rob_sets.proofs.Cells.ListLemmas.{take_one_more}
use Rattle.rob_dualize.specs.SetProgram.{HasWholeRows, IsOverRobust, robust_set, in_pairs, left_sides, right_sides}

-- ---- numbers in pairs

pub length-in_pairs : (xs : List ℤ) → length (in_pairs xs) ≡ length xs + length xs
length-in_pairs [] = refl
length-in_pairs (x ∷ xs) = omega (arith, length-in_pairs xs)

pub in_pairs-push : (xs : List ℤ) (x : ℤ) → in_pairs (xs ++ x ∷ []) ≡ in_pairs xs ++ x ∷ (neg_ℤ x ∷ [])
in_pairs-push [] x = refl
in_pairs-push (y ∷ ys) x = ap (λ (zs : List ℤ). y ∷ (neg_ℤ y ∷ zs)) (in_pairs-push ys x)

-- one more number, written in its turn and then negated
pub pairs_more : (xs : List ℤ) (i : ℕ) (before half after : List ℤ) (x y : ℤ) → i < length xs → x ≡ get_or xs i (pos 0)
    → y ≡ neg_ℤ (get_or xs i (pos 0))
    → before ≡ in_pairs (take i xs) → half ≡ before ++ x ∷ [] → after ≡ half ++ y ∷ []
    → after ≡ in_pairs (take (i + 1) xs)
pairs_more xs i before half after x y il xe ye e f g =
    let n : take (i + 1) xs ≡ take i xs ++ get_or xs i (pos 0) ∷ [] =
    take_one_more xs i (get_or xs i (pos 0)) il (get_or_default xs i (pos 0) (get_or xs i (pos 0)) il) in
    rw (g, f, e, xe, ye, n, in_pairs-push, append_assoc)

pub at-plus : (xs : List ℤ) (c : ℕ) → at (in_pairs xs) (plus c) ≡ at xs c
at-plus [] c = refl
at-plus (x ∷ xs) zero = refl
at-plus (x ∷ xs) (suc c) =
    let e : plus (suc c) ≡ suc (suc (plus c)) = omega arith in ap (at (in_pairs (x ∷ xs))) e ∙ at-plus xs c

pub at-minus : (xs : List ℤ) (c : ℕ) → at (in_pairs xs) (minus c) ≡ neg_ℤ (at xs c)
at-minus [] c = refl
at-minus (x ∷ xs) zero = refl
at-minus (x ∷ xs) (suc c) =
    let e : minus (suc c) ≡ suc (suc (minus c)) = omega arith in ap (at (in_pairs (x ∷ xs))) e ∙ at-minus xs c

pub negated_within : (limit : ℕ) (x : ℤ) → nat_abs x ≤ limit → nat_abs (neg_ℤ x) ≤ limit
negated_within limit x h = omega (arith, ints)

pub rights_within : (limit : ℕ) (rows : List SetRow) → Each (RowFits limit) rows
    → Each (λ a. nat_abs a ≤ limit) (right_sides rows)
rights_within limit [] h = tt
rights_within limit (row ∷ rows) h = (h.0.right_side, rights_within limit rows h.1)

-- ---- the set form of a model

coefficients_many : (m : RobustModel) (r : meaning.SetRow) → length (whole_row m r) ≡ set_column_count m
coefficients_many m r =
    length-map (coefficients m r) (whole_at (row_denominator m r))
    ∙ length-append (tabulate (length m.parameters) r.on_parameters) (tabulate (lift_count m.set_lines) r.on_lifts)
    ∙ omega (
      arith,
      length-tabulate (length m.parameters) r.on_parameters,
      length-tabulate (lift_count m.set_lines) r.on_lifts,
    )

whole_rows : (m : RobustModel) (columns : ℕ) → columns ≡ set_column_count m → (rows : List meaning.SetRow)
    → Each (λ (row : SetRow). length row.g ≡ columns) (map (cleared_row m) rows)
whole_rows m columns e [] = tt
whole_rows m columns e (row ∷ rows) = (coefficients_many m row ∙ sym e, whole_rows m columns e rows)

pub left_sides-cleared : (m : RobustModel) (rows : List meaning.SetRow)
    → left_sides (map (cleared_row m) rows) ≡ map (whole_row m) rows
left_sides-cleared m [] = refl
left_sides-cleared m (row ∷ rows) = ap (λ (zs : List (List ℤ)). whole_row m row ∷ zs) (left_sides-cleared m rows)

pub right_sides-cleared : (m : RobustModel) (rows : List meaning.SetRow)
    → right_sides (map (cleared_row m) rows) ≡ map (whole_limit m) rows
right_sides-cleared m [] = refl
right_sides-cleared m (row ∷ rows) = ap (λ (zs : List ℤ). whole_limit m row ∷ zs) (right_sides-cleared m rows)

module _ (m : RobustModel) (set : SetForm) (is : IsSetForm m set) where
  pub has_whole_rows : HasWholeRows set
  has_whole_rows =
      subst (λ (rows : List SetRow). Each (λ (row : SetRow). length row.g ≡ set.columns) rows) (sym is.rows)
      (whole_rows m set.columns is.columns (set_rows m))

  pub few : IsWithinLimits m → 2 * set.columns + length set.rows < 2 ^ 31
  few limits =
      let many : length set.rows ≡ length (set_rows m) = ap length is.rows ∙ length-map (set_rows m) (cleared_row m) in
      omega (
        arith,
        is.columns,
        length-append (bound_rows zero m.parameters) (statement_rows m zero m.set_lines),
        bounds_many zero m.parameters,
        statements_many m zero m.set_lines,
        limits.parameters,
        limits.members,
        limits.set_lines,
      )

  pub of_model : (P : Program) → IsOverRobust (robust_set set) P → IsOverRobust (robust_of m) P
  of_model P h = record {
    over_set = record {
      height = h.height ∙ many;
      width = h.width ∙ ap (λ c. c + c) is.columns;
      at_plus = λ r c rl cl. h.at_plus r c (omega (arith, many)) (omega (arith, is.columns)) ∙ left r c;
      at_minus = λ r c rl cl. h.at_minus r c (omega (arith, many)) (omega (arith, is.columns)) ∙ ap neg_ℤ (left r c);
      at_right = λ r rl. h.at_right r (omega (arith, many))
          ∙ ap (λ (rights : List ℤ). at rights r) (ap right_sides is.rows ∙ right_sides-cleared m (set_rows m));
    };
    cost = record {
      cost_plus = λ c cl. h.cost_plus c (omega (arith, is.columns));
      cost_minus = λ c cl. h.cost_minus c (omega (arith, is.columns));
    };
  }
    where
      many : length set.rows ≡ length (set_rows m)
      many = ap length is.rows ∙ length-map (set_rows m) (cleared_row m)

      left : (r c : ℕ) → cell (left_sides set.rows) r c ≡ cell (map (whole_row m) (set_rows m)) r c
      left r c = ap (λ (rows : List (List ℤ)). cell rows r c)
          (ap left_sides is.rows ∙ left_sides-cleared m (set_rows m))

  pub same_program : (P : Program) → IsOverRobust (robust_set set) P → AreSame P (set_program m)
  same_program P h = let q : IsOverRobust (robust_of m) P = of_model P h in
      over_set_same (robust_of m) (λ c. pos 0) P q.over_set q.cost
