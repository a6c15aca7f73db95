-- How large the split model is, by the parts of the model.
use Rattle.std.proofs.Common.{◌≡◌, ℕ, zero, suc, ◌+◌, ◌*◌, ◌<◌, List, [], ◌∷◌, ◌++◌, map, length, get_or, drop, refl, ap, sym, ◌∙◌, arith, length-append, suc-mul, zero-mul}
use Rattle.std.specs.Prelude.{codes, flat_map, Option, Some, None, option_to_list}
use Rattle.std.proofs.lemmas.List.{length-map}
use Rattle.rob_algebra.specs.Fraction.{Fraction}
use Rattle.rob_meaning.specs.Forms.{row_forms, sides}
use Rattle.rob_meaning.specs.Places.{tabulate}
use Rattle.rob_meaning.specs.RobustModel.{AdaptiveVariable, RobustModel, Row, Sense, Variable, at_least, at_most, maximise, minimise}
use Rattle.rob_meaning.specs.SetConditions.{if_declared}
use Rattle.rob_meaning.specs.Sizes.{adaptive_bounds, variable_bounds}
use Rattle.rob_meaning.proofs.Tables.SizeLemmas.{inequalities, length-declared, length-sides}
use Rattle.rob_meaning.specs.SetRows.{lift_count}
use Rattle.rob_model.proofs.ConditionLemmas.{count-map}
use Rattle.rob_model.proofs.PartLemmas.{drop_at}
use Rattle.rob_model.specs.View.{adaptive_of, member_of, set_line_of, variable_of}
use Rattle.rob_model.specs.declared.expr.Expr.{Expr}
use Rattle.rob_model.specs.declared.model.Adaptive.{Adaptive}
use Rattle.rob_model.specs.declared.model.Member.{Member}
use Rattle.rob_model.specs.declared.model.Rel.{Rel}
use Rattle.rob_model.specs.declared.model.SetLine.{SetLine}
use Rattle.rob_model.specs.declared.model.SetLine.TheVariants as lines
use Rattle.rob_model.specs.declared.model.Var.{Var}
use Rattle.rob_pieces.specs.SplitModel.{bound_row, bound_rows, cell_rows, copy_in, cost_relation, cost_row, row_over}

-- ---- one block for each cell
module _ {A : Type 0} (measure : List A → ℕ) (none : measure [] ≡ 0)
    (plus : (xs ys : List A) → measure (xs ++ ys) ≡ measure xs + measure ys) (f : ℕ → List A) (k : ℕ)
    (each : (c : ℕ) → measure (f c) ≡ k) where
  pub blocks : (n : ℕ) (g : ℕ → ℕ) → measure (flat_map f (tabulate n g)) ≡ n * k
  blocks zero g = omega (arith, none, zero-mul k)
  blocks (suc n) g =
      omega (
        arith,
        plus (f (g zero)) (flat_map f (tabulate n (λ i. g (suc i)))),
        each (g zero),
        blocks n (λ i. g (suc i)),
        suc-mul n k,
      )

-- ---- forms
pub row_forms-append : (xs ys : List Row)
    → length (row_forms (xs ++ ys)) ≡ length (row_forms xs) + length (row_forms ys)
row_forms-append [] ys = omega arith
row_forms-append (r ∷ rs) ys =
    omega (
      arith,
      length-append (sides r.relation r.left r.right) (row_forms (rs ++ ys)),
      length-append (sides r.relation r.left r.right) (row_forms rs),
      row_forms-append rs ys,
    )

row_forms-first : (r : Row) (rs : List Row)
    → length (row_forms (r ∷ rs)) ≡ inequalities r.relation + length (row_forms rs)
row_forms-first r rs =
    omega (
      arith,
      length-append (sides r.relation r.left r.right) (row_forms rs),
      length-sides r.relation r.left r.right,
    )

pub variable_bounds-append : (xs ys : List Variable)
    → variable_bounds (xs ++ ys) ≡ variable_bounds xs + variable_bounds ys
variable_bounds-append [] ys = omega arith
variable_bounds-append (x ∷ xs) ys = omega (arith, variable_bounds-append xs ys)

pub adaptive_bounds-append : (xs ys : List AdaptiveVariable)
    → adaptive_bounds (xs ++ ys) ≡ adaptive_bounds xs + adaptive_bounds ys
adaptive_bounds-append [] ys = omega arith
adaptive_bounds-append (y ∷ ys) zs = omega (arith, adaptive_bounds-append ys zs)

module _ (m : RobustModel) (c : ℕ) where
  pub copies_free : (ys : List AdaptiveVariable) → adaptive_bounds (map (copy_in m c) ys) ≡ 0
  copies_free [] = refl
  copies_free (y ∷ ys) = omega (arith, copies_free ys)

  rows_over : (rs : List Row) → length (row_forms (map (row_over m c) rs)) ≡ length (row_forms rs)
  rows_over [] = refl
  rows_over (r ∷ rs) =
      omega (arith, row_forms-first (row_over m c r) (map (row_over m c) rs), row_forms-first r rs, rows_over rs)

  -- each row of a bound is one inequality
  one_each : (name : List ℕ) (k : ℕ) (bound : Option Fraction)
      → (length (row_forms (if_declared (bound_row m c name k at_least) bound)) ≡ length (option_to_list bound))
      × (length (row_forms (if_declared (bound_row m c name k at_most) bound)) ≡ length (option_to_list bound))
  one_each name k None = (refl, refl)
  one_each name k (Some b) = (refl, refl)

  bounds_forms : (k : ℕ) (ys : List AdaptiveVariable) → length (row_forms (bound_rows m c k ys)) ≡ adaptive_bounds ys
  bounds_forms k [] = refl
  bounds_forms k (y ∷ ys) =
      let low = if_declared (bound_row m c (y.name ++ codes "_lower") k at_least) y.lower in
      let high = if_declared (bound_row m c (y.name ++ codes "_upper") k at_most) y.upper in
      omega (
        arith,
        row_forms-append low (high ++ bound_rows m c (suc k) ys),
        row_forms-append high (bound_rows m c (suc k) ys),
        (one_each (y.name ++ codes "_lower") k y.lower).0,
        (one_each (y.name ++ codes "_upper") k y.upper).1,
        bounds_forms (suc k) ys,
      )

  length-bound_rows : (k : ℕ) (ys : List AdaptiveVariable) → length (bound_rows m c k ys) ≡ adaptive_bounds ys
  length-bound_rows k [] = refl
  length-bound_rows k (y ∷ ys) =
      let low = if_declared (bound_row m c (y.name ++ codes "_lower") k at_least) y.lower in
      let high = if_declared (bound_row m c (y.name ++ codes "_upper") k at_most) y.upper in
      omega (
        arith,
        length-append low (high ++ bound_rows m c (suc k) ys),
        length-append high (bound_rows m c (suc k) ys),
        length-declared (bound_row m c (y.name ++ codes "_lower") k at_least) y.lower,
        length-declared (bound_row m c (y.name ++ codes "_upper") k at_most) y.upper,
        length-bound_rows (suc k) ys,
      )

  cost_forms : (s : Sense) (r : Row) → r.relation ≡ cost_relation m c s → length (sides r.relation r.left r.right) ≡ 1
  cost_forms minimise r e = length-sides r.relation r.left r.right ∙ ap inequalities e
  cost_forms maximise r e = length-sides r.relation r.left r.right ∙ ap inequalities e

  pub cell_forms : length (row_forms (cell_rows m c)) ≡ 1 + (length (row_forms m.rows) + adaptive_bounds m.adaptives)
  cell_forms =
      omega (
        arith,
        length-append (sides (cost_row m c).relation (cost_row m c).left (cost_row m c).right)
            (row_forms (map (row_over m c) m.rows ++ bound_rows m c 0 m.adaptives)),
        cost_forms m.sense (cost_row m c) refl,
        row_forms-append (map (row_over m c) m.rows) (bound_rows m c 0 m.adaptives),
        rows_over m.rows,
        bounds_forms 0 m.adaptives,
      )

  pub length-cell_rows : length (cell_rows m c) ≡ 1 + (length m.rows + adaptive_bounds m.adaptives)
  length-cell_rows =
      omega (
        arith,
        length-append (map (row_over m c) m.rows) (bound_rows m c 0 m.adaptives),
        length-map m.rows (row_over m c),
        length-bound_rows 0 m.adaptives,
      )

-- ---- what is counted item by item
module _ {N : Type 0} (value : N → Fraction) where
  -- one variable, adaptive variable or statement more
  pub variable_more : (xs : List (Var N)) (i : ℕ) (x : Var N) (count : ℕ) {lower upper all : ℕ} → i < length xs
      → x ≡ get_or xs i x → lower ≡ length (option_to_list x.lower) → upper ≡ length (option_to_list x.upper)
      → count + variable_bounds (map (variable_of value) (drop i xs)) ≡ all
      → count + (lower + upper) + variable_bounds (map (variable_of value) (drop (i + 1) xs)) ≡ all
  variable_more xs i x count h e l u so_far =
      omega (
        arith,
        ap (λ ys. variable_bounds (map (variable_of value) ys)) (drop_at xs i x h e),
        count-map value x.lower,
        count-map value x.upper,
        l,
        u,
        so_far,
      )

  pub adaptive_more : (ys : List (Adaptive N)) (i : ℕ) (y : Adaptive N) (count : ℕ) {lower upper all : ℕ}
      → i < length ys → y ≡ get_or ys i y → lower ≡ length (option_to_list y.lower)
      → upper ≡ length (option_to_list y.upper)
      → count + adaptive_bounds (map (adaptive_of value) (drop i ys)) ≡ all
      → count + (lower + upper) + adaptive_bounds (map (adaptive_of value) (drop (i + 1) ys)) ≡ all
  adaptive_more ys i y count h e l u so_far =
      omega (
        arith,
        ap (λ zs. adaptive_bounds (map (adaptive_of value) zs)) (drop_at ys i y h e),
        count-map value y.lower,
        count-map value y.upper,
        l,
        u,
        so_far,
      )

  module _ (cs : List (SetLine N)) (i : ℕ) (line : SetLine N) (count : ℕ) {all : ℕ} (h : i < length cs)
      (e : line ≡ get_or cs i line) (so_far : count + lift_count (map (set_line_of value) (drop i cs)) ≡ all) where
    -- the statement there is what is counted next
    next : count + lift_count (map (set_line_of value) (line ∷ drop (i + 1) cs)) ≡ all
    next = ap (λ ds. count + lift_count (map (set_line_of value) ds)) (sym (drop_at cs i line h e)) ∙ so_far

    pub budget_more : {limit : N} {members items : List (Member N)} → line ≡ lines.Budget limit members
        → items ≡ members
        → count + length items + lift_count (map (set_line_of value) (drop (i + 1) cs)) ≡ all
    budget_more {limit} {members} {items} is same =
        omega (
          arith,
          ap (λ d. count + lift_count (map (set_line_of value) (d ∷ drop (i + 1) cs))) is,
          next,
          ap length same,
          length-map members (member_of value),
        )

    pub line_more : {left right : Expr N} {rel : Rel} → line ≡ lines.Line left rel right
        → count + lift_count (map (set_line_of value) (drop (i + 1) cs)) ≡ all
    line_more is =
        sym (ap (λ d. count + lift_count (map (set_line_of value) (d ∷ drop (i + 1) cs))) is) ∙ next
