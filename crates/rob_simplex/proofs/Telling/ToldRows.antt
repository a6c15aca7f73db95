-- What the row of a position tells, read in the position's own column: where that stands, and what the tests come to.
use Rattle.std.proofs.Common.{◌≡◌, ℕ, ◌+◌, ◌<◌, ◌≤◌, ◌<ℤ◌, pos, length, get_or, sym, subst, arith, inl, inr}
use Rattle.std.specs.Bool.{OnFalse, OnTrue}
use Rattle.std.specs.Prelude.{Bool, true, false, Option, Some, None, IfSome}
use Rattle.rob_algebra.specs.Width.{Fits, IsWide}
use Rattle.rob_table.proofs.Places.{read_at}
use Rattle.rob_simplex.specs.Dictionaries.{Table, columns_of, positions, right_column, rows_of, width_of}
use Rattle.rob_simplex.specs.Judging.{HasOwn, TellsAt, TellsWideAt, ratio_of}

module _ {view t : Table} (seen : view ≡ t) {i own : ℕ} (has : HasOwn t) (inside : i < positions t)
    (own_at : own ≡ get_or view.basis i own) where
  own_is : own ≡ columns_of t.basis i
  own_is = read_at t.basis i own inside (subst (λ (x : Table). own ≡ get_or x.basis i own) seen own_at)

  pub own_in : own < width_of t
  own_in = let low = (has.rows i inside).0 in omega (arith, low, own_is)

  pub own_positive : pos 0 <ℤ rows_of t i own
  own_positive = subst (λ k. pos 0 <ℤ rows_of t i k) (sym own_is) (has.rows i inside).1

  structural : own < view.columns → columns_of t.basis i < t.columns
  structural h = subst (λ k. k < t.columns) own_is (subst (λ (x : Table). own < x.columns) seen h)

  -- a slack column's row tells nothing
  pub told_slack : {limit : ℕ} {growing : Option ℕ} → view.columns ≤ own → TellsAt limit growing t i
  told_slack h =
      let high : t.columns ≤ columns_of t.basis i
      = subst (λ k. t.columns ≤ k) own_is (subst (λ (x : Table). x.columns ≤ own) seen h) in
      record { point = λ low. absurd (omega (arith, low, high)); ray = λ low. absurd (omega (arith, low, high)) }

  -- ---- of the point, and along the ray
  module _ {m : ℕ} (count : m ≡ length view.basis) where
    right_is : view.columns + m + 2 ≡ right_column t.columns (positions t)
    right_is =
        let all : m ≡ positions t = subst (λ (x : Table). m ≡ length x.basis) seen count in
        subst (λ (x : Table). view.columns + m + 2 ≡ right_column x.columns (positions t)) seen (omega (arith, all))

    pub right_in : view.columns + m + 2 < width_of t
    right_in = omega (arith, right_is)

    at_right : (P : ℕ → ℕ → Type 0) → P (view.columns + m + 2) own
        → P (right_column t.columns (positions t)) (columns_of t.basis i)
    at_right P h =
        subst (λ k. P (right_column t.columns (positions t)) k) own_is (subst (λ k. P k own) right_is h)

    point : {limit : ℕ} → Fits limit (ratio_of t i (view.columns + m + 2) own)
        → Fits limit (ratio_of t i (right_column t.columns (positions t)) (columns_of t.basis i))
    point {limit} h = at_right (λ column own. Fits limit (ratio_of t i column own)) h

    pub told_wide_point : {limit : ℕ} {growing : Option ℕ} → own < view.columns
        → IsWide limit (ratio_of t i (view.columns + m + 2) own) → TellsWideAt limit growing t i
    told_wide_point {limit} low h = record {
      structural = structural low;
      wide = inl (at_right (λ column own. IsWide limit (ratio_of t i column own)) h);
    }

    pub told_point : {limit : ℕ} {growing : Option ℕ} → growing ≡ None
        → Fits limit (ratio_of t i (view.columns + m + 2) own) → TellsAt limit growing t i
    told_point {limit} none h = record {
      point = λ _. point h;
      ray = λ _. subst (λ (o : Option ℕ).
          IfSome o (λ column. Fits limit (ratio_of t i column (columns_of t.basis i)))) (sym none) tt;
    }

    module _ {growing : Option ℕ} {column : ℕ} (grows : growing ≡ Some column) where
      pub told_ray : {limit : ℕ} → Fits limit (ratio_of t i (view.columns + m + 2) own) → (r : Bool)
          → OnFalse r (Fits limit (ratio_of t i column own)) → OnFalse r (TellsAt limit growing t i)
      told_ray h true k = tt
      told_ray {limit} h false k = record {
        point = λ _. point h;
        ray = λ _. subst (λ (o : Option ℕ).
            IfSome o (λ column. Fits limit (ratio_of t i column (columns_of t.basis i)))) (sym grows)
            (subst (λ own. Fits limit (ratio_of t i column own)) own_is k);
      }

      pub told_wide_ray : (limit : ℕ) → own < view.columns → (r : Bool)
          → OnTrue r (IsWide limit (ratio_of t i column own)) → OnTrue r (TellsWideAt limit growing t i)
      told_wide_ray limit low true k = record {
        structural = structural low;
        wide = inr (column, grows, subst (λ own. IsWide limit (ratio_of t i column own)) own_is k);
      }
      told_wide_ray limit low false k = tt

-- the growing column is inside
pub growing_in : (t : Table) {growing : Option ℕ} {column : ℕ} → IfSome growing (λ k. k < t.columns + positions t)
    → growing ≡ Some column → column < width_of t
growing_in t {growing} {column} h is =
    let low : column < t.columns + positions t
    = subst (λ (o : Option ℕ). IfSome o (λ k. k < t.columns + positions t)) is h in
    omega (arith, low)
