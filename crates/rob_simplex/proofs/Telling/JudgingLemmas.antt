-- A number that is told and is wide: the row that tells it is wide. What is over a limit is over a lower one.
use Rattle.std.proofs.Common.{◌≡◌, ◌≢◌, ℕ, zero, suc, ◌+◌, ◌-◌, ◌/◌, ◌^◌, ◌<◌, ◌≤◌, sym, ap, ◌∙◌, subst, arith, inl, inr, List, [], Option, Some, None, IfSome}
use Rattle.std.proofs.lemmas.Bool.{cases_eq, cases_lt}
use Rattle.std.proofs.lemmas.Int.{ints}
use Rattle.std.specs.Int.RustNames.{unsigned_abs}
use lib.IntN.{ℤ, pos, neg_ℤ, nat_abs}
use lib.Signed.{◌<ℤ◌}
use Rattle.rob_algebra.specs.Gcd.{gcd}
use Rattle.rob_algebra.specs.Fraction.{of_pair, nat_abs-over}
use Rattle.rob_algebra.specs.Width.{Fits, IsWide}
use Rattle.rob_algebra.proofs.WidthLaws.{fits_not_wide}
use Rattle.rob_linear.specs.Vectors.{Vector, Columns, at}
use Rattle.rob_linear.specs.Systems.{System}
use Rattle.rob_linear.specs.Programs.{Program, system_of, auxiliary_of, kept_of, auxiliary_place}
use Rattle.rob_linear.specs.Paths.{ReachedFrom}
use Rattle.rob_linear.specs.Beside.{without_column}
use Rattle.rob_linear.specs.WideRows.{HasWideEntry, IsWideIn, IsWideStage, IsWideAt, HasWideRow, IsOwnWideAt, HasWideRowFrom}
use Rattle.rob_linear.proofs.KeptOut.BesideLoops.{beside_needs}
use Rattle.rob_linear.proofs.RowForms.Multiples.{parallel_positive}
use Rattle.rob_linear.proofs.CostChange.WideRows.{rows_wide_in}
use Rattle.rob_simplex.specs.declared.state.State.TheVariants.{New}
use Rattle.rob_simplex.specs.LowestTerms.{lowest_terms}
use Rattle.rob_simplex.specs.Dictionaries.{Table, positions, columns_of, rows_of, right_column, spare_column}
use Rattle.rob_simplex.specs.Phases.{StandsFor, EndsFrom}
use Rattle.rob_simplex.specs.PathEnds.{AreWeights}
use Rattle.rob_simplex.specs.Solvers.{Solver, entries, sized_as}
use Rattle.rob_simplex.specs.Judging.{ratio_of, objective_column, HasOwn, TellsWideAt, TellsWideObjective, TellsWideFirst}
use Rattle.rob_simplex.proofs.Rows.LowestRows.{lowest_parallel, parallel_over}
use Rattle.rob_simplex.proofs.Telling.Quotients.{of_pair_fits}
use Rattle.rob_simplex.proofs.Telling.SolverRows.{low_place, high_place}
use Rattle.rob_simplex.proofs.Telling.Solved.{own_in_range, objective_entry, shown_basis}

-- ---- what is over a limit is over a lower one
pub limit_below : {limit top told : ℕ} → told ≡ top → limit ≤ 2 ^ 62 - 1 → 2 ^ 62 ≤ top + 1 → limit ≤ told
limit_below e l h = omega arith

module _ (low high : ℕ) (l : low ≤ high) where
  entry_below : (S : System) (r : Vector) → HasWideEntry high S r → HasWideEntry low S r
  entry_below S r w = (w.0, w.1, let a : high < unsigned_abs (r w.0) = w.2 in omega arith)

  row_below : (S : System) (basis : Columns) (i : ℕ) → IsWideIn high S basis i → IsWideIn low S basis i
  row_below S basis i w = (w.0, w.1, w.2, entry_below S w.0 w.3)

  stage_below : (P : Program) (basis : Columns) → IsWideStage high P basis → IsWideStage low P basis
  stage_below P basis w = (w.0, w.1, w.2, w.3, entry_below (system_of P) w.1 w.4)

  own_below : (P : Program) (basis : Columns) (i : ℕ) → IsOwnWideAt high P basis i → IsOwnWideAt low P basis i
  own_below P basis i (inl w) = inl (row_below (system_of P) basis i w)
  own_below P basis i (inr w) = inr (w.0, stage_below P basis w.1)

  at_below : (P : Program) (basis : Columns) (i : ℕ) → IsWideAt high P basis i → IsWideAt low P basis i
  at_below P basis i (inl w) = inl (row_below (system_of P) basis i w)
  at_below P basis i (inr (inl w)) = inr (inl (w.0, stage_below P basis w.1))
  at_below P basis i (inr (inr w)) =
      inr
      (inr (
        w.0,
        elim w.1 [
          | inl a ↦ inl (row_below (auxiliary_of P) basis i a)
          | inr b ↦
              inr (row_below (kept_of P) basis i b)
        ],
      ))

  pub wide_below : (P : Program) (basis : Columns) (i : ℕ) → HasWideRow high P basis i → HasWideRow low P basis i
  wide_below P basis i h = record { reached = h.reached; wide = at_below P basis i h.wide }

  pub wide_below_from : (P : Program) (start basis : Columns) (i : ℕ) → HasWideRowFrom high P start basis i
      → HasWideRowFrom low P start basis i
  wide_below_from P start basis i h = record { reached = h.reached; wide = own_below P basis i h.wide }

-- ---- a quotient that is wide is one of two entries of which one is wide in lowest terms
told_is_wide : (limit n : ℕ) (r : Vector) (j k : ℕ) → j < n → k < n → pos 0 <ℤ r k
    → IsWide limit (of_pair (r j) (nat_abs (r k)))
    → (e : ℕ) × (e < n) × (limit < unsigned_abs (lowest_terms n r e))
told_is_wide limit n r j k jl kl p w =
    let par = lowest_parallel n r k kl p in
    let s : pos 0 <ℤ lowest_terms n r k = parallel_positive n r (lowest_terms n r) k par kl p in
    let e : of_pair (r j) (nat_abs (r k)) ≡ of_pair (lowest_terms n r j) (nat_abs (lowest_terms n r k)) =
    parallel_over n r (lowest_terms n r) j k par jl kl p s in
    elim (cases_lt limit (nat_abs (lowest_terms n r j))) [
      | inl a ↦ (j, jl, a)
      | inr a ↦ elim (cases_lt limit (nat_abs (lowest_terms n r k))) [
        | inl b ↦ (k, kl, b)
        | inr b ↦
            absurd (fits_not_wide limit (of_pair (lowest_terms n r j) (nat_abs (lowest_terms n r k)))
            (of_pair_fits limit (lowest_terms n r j) (nat_abs (lowest_terms n r k)) (omega (arith, ints)) a b)
            (subst (IsWide limit) e w))
      ]
    ]

-- the same size, whatever the sign
pub fits_minus : (limit : ℕ) (n : ℤ) (d : ℕ) → Fits limit (of_pair n d) → Fits limit (of_pair (neg_ℤ n) d)
unfolding of_pair
fits_minus limit n zero h = h
fits_minus limit n (suc d) h =
    let e : nat_abs (neg_ℤ n) ≡ nat_abs n = omega (arith, ints) in
    record {
      num_fits =
          subst (λ v. v ≤ limit) (sym
          (nat_abs-over (neg_ℤ n) (gcd (nat_abs (neg_ℤ n)) (suc d)) ∙ ap (λ v. v / gcd v (suc d)) e))
          (subst (λ v. v ≤ limit) (nat_abs-over n (gcd (nat_abs n) (suc d))) h.num_fits);
      den_fits = subst (λ v. suc d / gcd v (suc d) ≤ limit) (sym e) h.den_fits;
    }

-- ---- the row of a position
-- a column of the program's own rows: neither the auxiliary nor the spare one
abbrev IsShown : Table → ℕ → Type 0
IsShown t column = (column < spare_column t.columns (positions t)) × (column ≢ t.columns + positions t)

-- its row has an entry that is wide over another one, a positive one
pub record HasWideQuotient (limit : ℕ) (t : Table) (i : ℕ) : Type 0 where
  pub column : ℕ
  pub own : ℕ
  pub column_in : IsShown t column
  pub own_in : IsShown t own
  pub positive : pos 0 <ℤ rows_of t i own
  pub wide : IsWide limit (ratio_of t i column own)

shown_low : (t : Table) (column : ℕ) → column < t.columns + positions t → IsShown t column
shown_low t column l = (omega arith, λ e. omega arith)

shown_objective : (t : Table) → IsShown t (objective_column t)
shown_objective t = (omega arith, λ e. omega arith)

shown_right : (t : Table) → IsShown t (right_column t.columns (positions t))
shown_right t = (omega arith, λ e. omega arith)

-- where it tells a number that is wide
module _ (limit : ℕ) (growing : Option ℕ) (t : Table) (own : HasOwn t)
    (inside : IfSome growing (λ column. column < t.columns + positions t)) where
  quotient_at : (i : ℕ) → i < positions t → TellsWideAt limit growing t i → HasWideQuotient limit t i
  quotient_at i l h =
      let o = own.rows i l in
      elim h.wide [
        | inl w ↦
            record {
              column = right_column t.columns (positions t);
              own = columns_of t.basis i;
              column_in =
                  shown_right t;
              own_in = shown_low t (columns_of t.basis i) o.0;
              positive = o.1;
              wide = w;
            }
        | inr w ↦ record {
          column = w.0;
          own = columns_of t.basis i;
          column_in =
              shown_low t w.0 (subst (λ (g : Option ℕ). IfSome g (λ column. column < t.columns + positions t)) w.1
              inside);
          own_in = shown_low t (columns_of t.basis i) o.0;
          positive = o.1;
          wide = w.2;
        }
      ]

  quotient_objective : TellsWideObjective limit t → HasWideQuotient limit t (positions t)
  quotient_objective (inl w) =
      let l : w.0 < positions t = w.1 in
      record {
        column = t.columns + w.0;
        own = objective_column t;
        column_in =
            shown_low t (t.columns + w.0) (omega arith);
        own_in = shown_objective t;
        positive = own.objective;
        wide =
            w.2;
      }
  quotient_objective (inr w) =
      record {
        column = right_column t.columns (positions t);
        own = objective_column t;
        column_in =
            shown_right t;
        own_in = shown_objective t;
        positive = own.objective;
        wide = w;
      }

  pub quotient_first : (i : ℕ) → TellsWideFirst limit growing t i → HasWideQuotient limit t i
  quotient_first i h =
      elim h.wide [
        | inl w ↦ quotient_at i w.0 w.1
        | inr w ↦ subst (λ k. HasWideQuotient limit t k) (sym w.0) (quotient_objective w.2)
      ]

-- which column of the program's rows a column is
place_back : (s : Solver) (column : ℕ) → IsShown s.dictionary column → (k : ℕ)
    × (k < suc (suc (s.columns + positions s.dictionary))) × (auxiliary_place (sized_as s) k ≡ column)
place_back s column h =
    let l : column < suc (suc (suc (s.columns + positions s.dictionary))) = h.0 in
    elim (cases_lt column (s.columns + positions s.dictionary)) [
      | inl a ↦ (column, omega arith, low_place s column a)
      | inr a ↦
          let d : column ≢ s.columns + positions s.dictionary = h.1 in
          let e : suc (column - 1) ≡ column = omega arith in
          (column - 1, omega arith, high_place s (column - 1) (omega arith) ∙ e)
    ]

pub stands_own : (P : Program) (t : Table) → StandsFor P t → HasOwn t
stands_own P t h =
    let s : Solver = record { state = New; dictionary = t; weights = [] } in
    record { rows = own_in_range P s h; objective = objective_entry P s h }

module _ (limit : ℕ) (P : Program) (t : Table) (h : StandsFor P t) where
  abbrev shown : Solver
  shown = record { state = New; dictionary = t; weights = [] }

  told_row_wide : (i : ℕ) → i ≤ positions t → HasWideQuotient limit t i
      → IsWideIn limit (system_of P) (columns_of t.basis) i
  told_row_wide i il w =
      let j = place_back shown w.column w.column_in in
      let k = place_back shown w.own w.own_in in
      let r = without_column (sized_as shown) (rows_of t) i in
      let e : (e : ℕ) × (e < suc (suc (t.columns + positions t))) × (limit < unsigned_abs (entries shown i e)) =
      told_is_wide limit (suc (suc (t.columns + positions t))) (without_column (sized_as shown) (rows_of t) i) j.0 k.0
      j.1 k.1
      (subst (λ v. pos 0 <ℤ rows_of t i v) (sym k.2) w.positive)
      (subst (λ v. IsWide limit
      (of_pair (rows_of t i v) (nat_abs (rows_of t i (auxiliary_place (sized_as shown) k.0))))) (sym j.2)
      (subst (λ v. IsWide limit (of_pair (rows_of t i w.column) (nat_abs (rows_of t i v)))) (sym k.2) w.wide)) in
      let el : e.0 < suc (suc (t.columns + positions t)) = e.1 in
      rows_wide_in limit (system_of P) (columns_of t.basis) (entries shown) i (shown_basis P shown h)
      (omega (arith, h.rows_are)) (e.0, omega (arith, h.rows_are, h.columns_are), e.2)

  pub told_wide_from : (start : Columns) (i : ℕ) → ReachedFrom P start (columns_of t.basis) → i ≤ positions t
      → HasWideQuotient limit t i → HasWideRowFrom limit P start (columns_of t.basis) i
  told_wide_from start i r il w = record { reached = r; wide = inl (told_row_wide i il w) }

-- the column that grows is one of the program's
pub growing_low : (P : Program) (start : Columns) (t : Table) (growing : Option ℕ) → EndsFrom P start growing t
    → IfSome growing (λ column. column < t.columns + positions t)
growing_low P start t None h = tt
growing_low P start t (Some column) h =
    let l : column < P.n + P.m = h.ends.0.inside in omega (arith, h.own.rows_are, h.own.columns_are)

-- ---- the weights are entries of the auxiliary objective's row
pub weights_wide : (limit : ℕ) (P : Program) (basis : List ℕ) (w : List ℤ) → AreWeights P basis w → (k : ℕ) → k < P.m
    → limit < nat_abs (at w k) → HasWideRow limit P (columns_of basis) P.m
weights_wide limit P basis w h k l wide = record {
  reached = h.reached;
  wide = inr (inr (
    beside_needs P (columns_of basis) h.reached h.ends.1,
    inl (rows_wide_in limit (auxiliary_of P) (columns_of basis) h.ends.0 P.m h.ends.2 (omega arith)
        (P.n + k, omega arith, subst (λ v. limit < unsigned_abs v) (sym (h.entries k l)) wide)),
  ));
}

-- ---- what the objective's row tells, by the places of its numbers
module _ (limit : ℕ) (t : Table) (m column own : ℕ) (em : m ≡ positions t) (eo : own ≡ objective_column t) where
  value_there : column ≡ right_column t.columns (positions t)
      → ratio_of t m column own ≡ ratio_of t (positions t) (right_column t.columns (positions t)) (objective_column t)
  value_there e =
      ap (λ v. ratio_of t v column own) em ∙ ap (λ v. ratio_of t (positions t) v own) e
      ∙ ap (λ v. ratio_of t (positions t) (right_column t.columns (positions t)) v) eo

  dual_there : (k : ℕ) → column ≡ t.columns + k
      → ratio_of t m column own ≡ ratio_of t (positions t) (t.columns + k) (objective_column t)
  dual_there k e =
      ap (λ v. ratio_of t v column own) em ∙ ap (λ v. ratio_of t (positions t) v own) e
      ∙ ap (λ v. ratio_of t (positions t) (t.columns + k) v) eo

  pub value_is_wide : column ≡ right_column t.columns (positions t) → IsWide limit (ratio_of t m column own)
      → TellsWideObjective limit t
  value_is_wide e w = inr (subst (IsWide limit) (value_there e) w)

  pub dual_is_wide : (k : ℕ) → k < positions t → column ≡ t.columns + k → IsWide limit (ratio_of t m column own)
      → TellsWideObjective limit t
  dual_is_wide k l e w = inl (k, l, subst (IsWide limit) (dual_there k e) w)

  pub dual_fits : (k : ℕ) → column ≡ t.columns + k → Fits limit (ratio_of t m column own)
      → Fits limit (ratio_of t (positions t) (t.columns + k) (objective_column t))
  dual_fits k e f = subst (Fits limit) (dual_there k e) f

-- ---- one position more tells what fits
pub fits_more : (f : ℕ → Type 0) (k : ℕ) → ((j : ℕ) → j < k → f j) → f k → (j : ℕ) → j < k + 1 → f j
fits_more f k h here j l = elim (cases_eq j k) [ inl e ↦ subst f (sym e) here | inr d ↦ h j (omega arith) ]

-- where the greatest of them is over the limit, one of them is
pub one_wide : (limit : ℕ) (P : Program) (w : List ℤ) (m greatest : ℕ) → m ≡ P.m → limit < greatest
    → (0 < greatest → (k : ℕ) × (k < m) × (nat_abs (at w (0 + k)) ≡ greatest)) → (k : ℕ) × (k < P.m)
    × (limit < nat_abs (at w k))
one_wide limit P w m greatest e l reached =
    let r : (k : ℕ) × (k < m) × (nat_abs (at w (0 + k)) ≡ greatest) = reached (omega arith) in
    let a : r.0 < m = r.1 in
    let b : nat_abs (at w (0 + r.0)) ≡ greatest = r.2 in
    (0 + r.0, omega (arith, a, e), omega (arith, b, l))

-- and so is a row
pub greatest_wide : (limit : ℕ) (P : Program) (basis : List ℕ) (w : List ℤ) → AreWeights P basis w → (m greatest : ℕ)
    → m ≡ P.m → limit < greatest → (0 < greatest → (k : ℕ) × (k < m) × (nat_abs (at w (0 + k)) ≡ greatest))
    → HasWideRow limit P (columns_of basis) m
greatest_wide limit P basis w h m greatest e l reached =
    let r : (k : ℕ) × (k < m) × (nat_abs (at w (0 + k)) ≡ greatest) = reached (omega arith) in
    let a : r.0 < m = r.1 in
    let b : nat_abs (at w (0 + r.0)) ≡ greatest = r.2 in
    subst (λ m. HasWideRow limit P (columns_of basis) m) (sym e)
    (weights_wide limit P basis w h (0 + r.0) (omega (arith, a, e)) (omega (arith, b, l)))
