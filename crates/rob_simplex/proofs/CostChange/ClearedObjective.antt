-- The objective's row after an amount was subtracted in the column of an open position, whose row then clears it.
use Rattle.std.proofs.Common.{◌≡◌, ℕ, suc, ◌<◌, ◌≤◌, sym, refl, ap, ◌∙◌, subst, arith, inl, inr, List, length, nat_abs}
use Rattle.std.proofs.lemmas.Bool.{cases_lt}
use Rattle.std.proofs.lemmas.Int.{ints}
use Rattle.std.specs.Int.RustNames.{unsigned_abs}
use lib.IntN.{ℤ, pos}
use lib.Signed.{◌<ℤ◌}
use Rattle.rob_algebra.specs.Integer.{one-mul}
use Rattle.rob_linear.specs.Vectors.{Vector}
use Rattle.rob_linear.specs.Systems.{IsPrimitive}
use Rattle.rob_linear.specs.Multiples.{IsClearedBy, IsParallel}
use Rattle.rob_linear.proofs.RowForms.Multiples.{primitive_least}
use Rattle.rob_entries.specs.Updates.{IsWideCleared}
use Rattle.rob_table.specs.Lowering.{IsLowered}
use Rattle.rob_table.proofs.ClearingTops.{cleared_by_times}
use Rattle.rob_simplex.specs.Dictionaries.{Table, positions, width_of, columns_of, spare_column, rows_of, IsFree, IsAlone, IsOpen, ClearsTable, StopsTable}
use Rattle.rob_simplex.specs.Pivots.{CanClear}
use Rattle.rob_simplex.specs.Lowering.{amount_of, HasCleared, HasRefusedCost}
use Rattle.rob_simplex.proofs.CostChange.CostStages.{cleared_parallel}

module _ {t : Table} {count' i column : ℕ} (a : CanClear count' t i column) (t2 : Table) (b2 : t2.basis ≡ t.basis)
    (n2 : t2.columns ≡ t.columns)
    (rows2 : (k c : ℕ) → k < positions t → rows_of t2 k c ≡ rows_of t k c) where
  il : i < positions t
  il = a.row_in

  m2 : positions t2 ≡ positions t
  m2 = ap length b2

  w2 : width_of t2 ≡ width_of t
  w2 = omega (arith, m2, n2)

  column_in : column < width_of t
  column_in = a.free.inside

  pub free2 : IsFree t2.columns t2.basis column
  free2 =
      subst (λ n. IsFree n t2.basis column) (sym n2) (subst (λ (b : List ℕ). IsFree t.columns b column) (sym b2) a.free)

  pub open2 : IsOpen t2 i
  open2 =
      let e : spare_column t2.columns (positions t2) ≡ spare_column t.columns (positions t) = omega (arith, m2, n2) in
      record {
        spare = ap (λ (b : List ℕ). columns_of b i) b2 ∙ a.opened.spare ∙ sym e;
        zero =
            ap (rows_of t2 i) e ∙ rows2 i (spare_column t.columns (positions t)) il ∙ a.opened.zero;
      }

  pub positive2 : pos 0 <ℤ rows_of t2 i column
  positive2 = subst (λ z. pos 0 <ℤ z) (sym (rows2 i column il)) a.positive

  top_back : (low low' new : Vector) → ((c : ℕ) → c < width_of t → low c ≡ low' c)
      → IsClearedBy (width_of t2) column low (rows_of t2 i) new → IsClearedBy (width_of t) column low' (rows_of t i) new
  top_back low low' new same c =
      cleared_by_times (width_of t) column low low' (rows_of t2 i) (rows_of t i) new new (pos 1) (omega (arith, ints))
      same (λ k kl. one-mul (rows_of t2 i k) ∙ rows2 i k il) (λ k kl. refl) column_in
      (subst (λ n. IsClearedBy n column low (rows_of t2 i) new) w2 c)

  module _ (factor : ℤ) (l : IsLowered (width_of t) column (amount_of t factor) (rows_of t (positions t))
      (rows_of t2 (positions t))) (count : ℕ) (ec : count ≡ suc (positions t)) (t3 : Table) where
    pub objective_cleared : ClearsTable count t2 t3 i column → HasCleared t t3 i column factor
    objective_cleared h = record {
      half = rows_of t2 (positions t);
      lowered = l;
      objective =
          top_back (rows_of t2 (positions t)) (rows_of t2 (positions t)) (rows_of t3 (positions t)) (λ c cl. refl)
          (h.cleared (positions t) (omega (arith, il)) (omega (arith, m2)) (λ e. absurd (omega (arith, il))));
      row_stays = λ c cl. h.row_stays c ∙ rows2 i c il;
      others =
          λ k kl d. top_back (rows_of t2 k) (rows_of t k) (rows_of t3 k) (λ c cl. rows2 k c kl)
          (h.cleared k (omega (arith, il)) (omega (arith, m2)) d);
    }

    -- a row but the objective's is 0 in the column, and so is not wide
    not_wide : (limit k : ℕ) → k < positions t → rows_of t k column ≡ pos 0
        → ((c : ℕ) → nat_abs (rows_of t k c) ≤ limit)
        → ¬ (IsWideCleared limit (width_of t2) column (rows_of t2 k) (rows_of t2 i))
    not_wide limit k kl z small w =
        let par : IsParallel (width_of t2) (rows_of t2 k) w.0 =
        cleared_parallel (width_of t2) (width_of t2) column (rows_of t2 k) (rows_of t2 i) w.0 (omega (arith, il))
        (omega (arith, w2, column_in)) (rows2 k column kl ∙ z) positive2 w.1 in
        let least : unsigned_abs (w.0 w.3.0) ≤ unsigned_abs (rows_of t2 k w.3.0) =
        primitive_least (width_of t2) par.p par.q (rows_of t2 k) w.0 par.p_positive par.q_positive par.same w.2 w.3.0
        w.3.1 in
        let low : unsigned_abs (rows_of t2 k w.3.0) ≤ limit =
        subst (λ v. unsigned_abs v ≤ limit) (sym (rows2 k w.3.0 kl)) (small w.3.0) in
        let over : limit < unsigned_abs (w.0 w.3.0) = w.3.2 in
        omega (arith, il)

    pub objective_refused : (limit e : ℕ) → IsAlone t i column
        → ((k c : ℕ) → k ≤ positions t → nat_abs (rows_of t k c) ≤ limit) → StopsTable limit count t2 t3 i column e
        → HasRefusedCost limit t i column factor
    objective_refused limit e alone small h = elim (cases_lt e (positions t)) [
      | inl kl ↦
          absurd (not_wide limit e kl (alone e (omega (arith, il)) h.other) (λ c. small e c (omega (arith, il)))
          (h.wide (omega (arith, m2))))
      | inr g ↦
          let inside : e < count = h.inside in
          let s : e ≡ positions t = omega (arith, ec) in
          let w : IsWideCleared limit (width_of t2) column (rows_of t2 (positions t)) (rows_of t2 i) =
          subst (λ k. IsWideCleared limit (width_of t2) column (rows_of t2 k) (rows_of t2 i)) s
          (h.wide (omega (arith, m2))) in
          inr (
            rows_of t2 (positions t),
            l,
            (
              w.0,
              top_back (rows_of t2 (positions t)) (rows_of t2 (positions t)) w.0 (λ c cl. refl) w.1,
              subst
                  (λ n. IsPrimitive n w.0) w2 w.2,
              (w.3.0, subst (λ n. w.3.0 < n) w2 w.3.1, w.3.2),
            ),
          )
    ]
