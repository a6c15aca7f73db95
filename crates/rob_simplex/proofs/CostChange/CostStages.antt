-- The cost of one column put into the objective's row of a dictionary: from a stage to the next.
use Rattle.std.proofs.Common.{◌≡◌, ◌≢◌, ℕ, zero, suc, ◌+◌, ◌<◌, ◌≤◌, sym, refl, ap, ◌∙◌, subst, arith, inl, inr, List, length}
use Rattle.std.proofs.lemmas.Bool.{cases_eq, cases_lt}
use Rattle.std.proofs.lemmas.Int.{ints}
use Rattle.std.proofs.lemmas.Nat.Gcd.{dvd-zero}
use Rattle.std.specs.Int.RustNames.{unsigned_abs}
use Rattle.std.specs.Int.{◌∣◌}
use lib.IntN.{ℤ, pos, ◌-ℤ◌, ◌*ℤ◌}
use lib.Signed.{◌<ℤ◌}
use Rattle.rob_algebra.specs.Integer.{mul-zero, *ℤ_comm}
use Rattle.rob_algebra.specs.IntegerOrder.{mul_cancel_zero}
use Rattle.rob_linear.specs.Vectors.{Vector}
use Rattle.rob_linear.specs.Systems.{IsPrimitive}
use Rattle.rob_linear.specs.Programs.{Program, system_of, auxiliary_place}
use Rattle.rob_linear.specs.Turns.{own_of}
use Rattle.rob_linear.specs.Stages.{cost_before, truncated, unit_row}
use Rattle.rob_linear.specs.MultipleStages.{IsMultipleStage, IsMultipleHalf}
use Rattle.rob_linear.specs.WideRows.{HasWideEntry, IsOwnWideAt}
use Rattle.rob_linear.specs.Multiples.{IsParallel, IsClearedBy, StandsMultiple}
use Rattle.rob_linear.specs.Beside.{without_column}
use Rattle.rob_linear.proofs.BasisPaths.Phases.{place_low, place_high}
use Rattle.rob_linear.proofs.CostChange.Stages.{unit_zero}
use Rattle.rob_linear.proofs.Bases.Turns.{own_low}
use Rattle.rob_linear.proofs.RowForms.MultipleStages.{multiple_next, multiple_half_wide, multiple_new_cost}
use Rattle.rob_linear.proofs.RowForms.Multiples.{parallel_refl}
use Rattle.rob_linear.proofs.RowForms.CondensedNumbers.{primitive_without}
use Rattle.rob_table.specs.Lowering.{IsLowered, IsWideLowered}
use Rattle.rob_table.proofs.LoweredRows.{nothing}
use Rattle.rob_simplex.specs.Dictionaries.{Table, positions, width_of, columns_of, spare_column, rows_of}
use Rattle.rob_simplex.specs.Lowering.{amount_of}
use Rattle.rob_simplex.specs.Phases.{StandsFor}

-- a row that is 0 in the auxiliary and the spare column is as wide without them
pub narrowed : (limit : ℕ) (P : Program) (w : Vector) → w (P.n + P.m) ≡ pos 0 → w (P.n + P.m + 3) ≡ pos 0
    → IsPrimitive (P.n + P.m + 4) w → (k : ℕ) × (k < P.n + P.m + 4) × (limit < unsigned_abs (w k))
    → IsPrimitive (suc (suc (P.n + P.m))) (λ k. w (auxiliary_place P k))
    × HasWideEntry limit (system_of P) (λ k. w (auxiliary_place P k))
narrowed limit P w aux spare prim x = (primitive_without P w aux short, wide_entry)
  where
    short : IsPrimitive (suc (suc (suc (P.n + P.m)))) w
    short g each = prim g (λ k l. elim (cases_eq k (P.n + P.m + 3)) [
      | inl e ↦ subst (λ v. g ∣ unsigned_abs v) (sym (ap w e ∙ spare)) (dvd-zero g)
      | inr o ↦ each k (omega arith)
    ])

    at_high : (c : ℕ) → P.n + P.m < c → c < suc (suc (suc (P.n + P.m))) → limit < unsigned_abs (w c)
        → HasWideEntry limit (system_of P) (λ k. w (auxiliary_place P k))
    at_high zero l u o = absurd (omega arith)
    at_high (suc c) l u o =
        (c, omega arith, subst (λ k. limit < unsigned_abs (w k)) (sym (place_high P c (omega arith))) o)

    wide_entry : HasWideEntry limit (system_of P) (λ k. w (auxiliary_place P k))
    wide_entry =
        let over : limit < unsigned_abs (w x.0) = x.2 in
        let inside : x.0 < P.n + P.m + 4 = x.1 in
        elim (cases_lt x.0 (P.n + P.m)) [
          | inl l ↦ (x.0, omega arith, subst (λ k. limit < unsigned_abs (w k)) (sym (place_low P x.0 l)) over)
          | inr l ↦ elim (cases_eq x.0 (P.n + P.m)) [
            | inl e ↦
                absurd (let z : unsigned_abs (w x.0) ≡ 0 =
                ap (λ k. unsigned_abs (w k)) e ∙ ap unsigned_abs aux in omega arith)
            | inr o ↦ elim (cases_eq x.0 (P.n + P.m + 3)) [
              | inl e ↦
                  absurd (let z : unsigned_abs (w x.0) ≡ 0 =
                  ap (λ k. unsigned_abs (w k)) e ∙ ap unsigned_abs spare in omega arith)
              | inr q ↦ at_high x.0 (omega arith) (omega arith) over
            ]
          ]
        ]

-- a row that is 0 in the column already stays up to a factor
pub cleared_parallel : (n n' column : ℕ) (low top new : Vector) → n' ≤ n → column < n → low column ≡ pos 0
    → pos 0 <ℤ top column → IsClearedBy n column low top new → IsParallel n' low new
cleared_parallel n n' column low top new le cl z p c =
    let a : (c.p *ℤ low column) -ℤ (c.q *ℤ top column) ≡ pos 0 =
    sym (c.entries column cl) ∙ ap (λ v. c.divisor *ℤ v) c.cleared ∙ mul-zero c.divisor in
    let b : c.p *ℤ low column ≡ pos 0 = ap (λ v. c.p *ℤ v) z ∙ mul-zero c.p in
    let d : top column *ℤ c.q ≡ pos 0 =
    *ℤ_comm (top column) c.q ∙ (let y : c.q *ℤ top column ≡ pos 0 = omega (arith, ints) in y) in
    let q : c.q ≡ pos 0 = mul_cancel_zero (top column) c.q p d in
    record {
      p = c.p;
      q = c.divisor;
      p_positive = c.positive;
      q_positive = c.divides;
      same =
          λ k l. sym (c.entries k (omega arith) ∙ ap (λ v. (c.p *ℤ low k) -ℤ (v *ℤ top k)) q
          ∙ none (c.p *ℤ low k) (top k));
    }
  where
    none : (a t : ℤ) → a -ℤ (pos 0 *ℤ t) ≡ a
    none a t = omega (arith, ints)

pub equal_parallel : (n : ℕ) (r s : Vector) → ((k : ℕ) → k < n → s k ≡ r k) → IsParallel n r s
equal_parallel n r s e =
    record {
      p = pos 1;
      q = pos 1;
      p_positive = omega (arith, ints);
      q_positive = omega (arith, ints);
      same =
          λ k l. ap (λ v. pos 1 *ℤ v) (sym (e k l));
    }

pub self_le : (n : ℕ) → n ≤ n
self_le n = omega arith

-- ---- a dictionary at stage j
module _ (P : Program) (j : ℕ) (jl : j < P.n) (t : Table) (h : StandsFor (truncated P j) t) where
  pub rows_is : positions t ≡ P.m
  rows_is = h.rows_are

  pub columns_is : t.columns ≡ P.n
  columns_is = h.columns_are

  pub width_is : width_of t ≡ P.n + P.m + 4
  width_is = omega (arith, rows_is, columns_is)

  amount_is : (factor : ℤ) → P.c j ≡ factor → amount_of t factor ≡ P.c j *ℤ rows_of t P.m (suc (P.n + P.m))
  amount_is factor e =
      ap (λ v. v *ℤ rows_of t (positions t) (suc (t.columns + positions t))) (sym e)
      ∙ ap (λ v. P.c j *ℤ rows_of t v (suc (t.columns + v))) rows_is
      ∙ ap (λ v. P.c j *ℤ rows_of t P.m (suc (v + P.m))) columns_is

  -- the row that has lost the amount
  module _ (factor : ℤ) (ef : P.c j ≡ factor) (r : Vector)
      (l : IsLowered (width_of t) j (amount_of t factor) (rows_of t (positions t)) r) where
    unit_there : (k : ℕ) → unit_row j (auxiliary_place P k) ≡ unit_row j k
    unit_there k = elim (cases_lt k (P.n + P.m)) [
      | inl a ↦ ap (unit_row j) (place_low P k a)
      | inr a ↦ ap (unit_row j) (place_high P k a) ∙ unit_zero j (suc k) (λ e. absurd (omega (arith, jl)))
          ∙ sym (unit_zero j k (λ e. absurd (omega (arith, jl))))
    ]

    pub half : IsMultipleHalf P (own_of (system_of P) (columns_of t.basis)) j (λ k. r (auxiliary_place P k))
    half = record {
      stage = without_column P (rows_of t) P.m;
      is_stage = h.stands.multiples.rows_of P.m (self_le P.m);
      divisor = l.divisor;
      p = l.p;
      divides = l.divides;
      positive = l.positive;
      entries = λ k kl.
          let pl : auxiliary_place P k < P.n + P.m + 4 = elim (cases_lt k (P.n + P.m)) [
            | inl a ↦ let e = place_low P k a in omega arith
            | inr a ↦ let e = place_high P k a in omega arith
          ] in
          same_factor k pl;
    }
      where
        same_factor : (k : ℕ) → auxiliary_place P k < P.n + P.m + 4
            → l.divisor *ℤ r (auxiliary_place P k) ≡ l.p
            *ℤ (rows_of t P.m (auxiliary_place P k)
            -ℤ ((P.c j *ℤ rows_of t P.m (auxiliary_place P (P.n + P.m))) *ℤ unit_row j k))
        same_factor k pl =
            let e : rows_of t (positions t) (auxiliary_place P k) ≡ rows_of t P.m (auxiliary_place P k) =
            ap (λ i. rows_of t i (auxiliary_place P k)) rows_is in
            l.entries (auxiliary_place P k) (omega (arith, width_is))
            ∙ ap (λ v. l.p *ℤ (v -ℤ (amount_of t factor *ℤ unit_row j (auxiliary_place P k)))) e
            ∙ ap (λ v. l.p *ℤ (rows_of t P.m (auxiliary_place P k) -ℤ (v *ℤ unit_row j (auxiliary_place P k))))
            (amount_is factor ef)
            ∙ ap
            (λ v. l.p *ℤ (rows_of t P.m
            (auxiliary_place P k) -ℤ ((P.c j *ℤ rows_of t P.m v) *ℤ unit_row j (auxiliary_place P k))))
            (sym (place_high P (P.n + P.m) (omega arith)))
            ∙ ap
            (λ v. l.p *ℤ (rows_of t P.m
            (auxiliary_place P k) -ℤ ((P.c j *ℤ rows_of t P.m (auxiliary_place P (P.n + P.m))) *ℤ v))) (unit_there k)

    -- it stays 0 in the auxiliary and the spare column
    zero_at : (k : ℕ) → k < width_of t → k ≢ j → rows_of t (positions t) k ≡ pos 0 → r k ≡ pos 0
    zero_at k kl d z =
        mul_cancel_zero l.divisor (r k) l.divides
        (l.entries k kl ∙ nothing l.p (amount_of t factor) (rows_of t (positions t) k) (unit_row j k) z
        (unit_zero j k d))

    pub auxiliary_zero : r (P.n + P.m) ≡ pos 0
    auxiliary_zero =
        zero_at (P.n + P.m) (omega (arith, width_is)) (λ e. absurd (omega (arith, jl)))
        (ap (λ i. rows_of t i (P.n + P.m)) rows_is ∙ h.empty P.m (self_le P.m))

    pub spare_zero : r (P.n + P.m + 3) ≡ pos 0
    spare_zero =
        let e : spare_column t.columns (positions t) ≡ P.n + P.m + 3 = omega (arith, rows_is, columns_is) in
        zero_at (P.n + P.m + 3) (omega (arith, width_is)) (λ f. absurd (omega (arith, jl)))
        (ap (rows_of t (positions t)) (sym e) ∙ h.closed.zero (positions t) (omega arith))

  -- where that row is wide, so is the half stage
  pub half_wide : (limit : ℕ) (factor : ℤ) → P.c j ≡ factor
      → IsWideLowered limit (width_of t) j (amount_of t factor) (rows_of t (positions t))
      → IsOwnWideAt limit P (columns_of t.basis) P.m
  half_wide limit factor ef w =
      let x =
      narrowed limit P w.0 (auxiliary_zero factor ef w.0 w.1) (spare_zero factor ef w.0 w.1)
      (subst (λ v. IsPrimitive v w.0) width_is w.2) (w.3.0, subst (λ v. w.3.0 < v) width_is w.3.1, w.3.2) in
      inr (
        refl,
        multiple_half_wide limit P (columns_of t.basis) (without_column P (rows_of t)) (cost_before P j) j
            (λ k. w.0 (auxiliary_place P k)) (λ k. w.0 (auxiliary_place P k)) h.stands.multiples jl
            (half factor ef w.0 w.1) (parallel_refl (suc (suc (P.n + P.m))) (λ k. w.0 (auxiliary_place P k))) x.0 x.1,
      )

  -- ---- the next dictionary, of the same basis
  module _ (t' : Table) (eb : t'.basis ≡ t.basis) (en : t'.columns ≡ t.columns)
      (low : (i : ℕ) → i < P.m
      → IsParallel (suc (suc (P.n + P.m))) (without_column P (rows_of t) i) (without_column P (rows_of t') i))
      (next : IsMultipleStage P (own_of (system_of P) (columns_of t.basis)) (suc j) (without_column P (rows_of t') P.m))
      (empty : (i : ℕ) → i ≤ P.m → rows_of t' i (P.n + P.m) ≡ pos 0)
      (spare : (i : ℕ) → i ≤ P.m → rows_of t' i (P.n + P.m + 3) ≡ pos 0) where
    em : positions t' ≡ P.m
    em = ap length eb ∙ rows_is

    spare_is : spare_column t'.columns (positions t') ≡ P.n + P.m + 3
    spare_is = omega (arith, em, en, columns_is)

    pub next_stands : StandsFor (truncated P (suc j)) t'
    next_stands = record {
      rows_are = em;
      columns_are = en ∙ columns_is;
      stands =
          subst (λ (b : List ℕ). StandsMultiple (system_of (truncated P (suc j))) (columns_of b)
          (without_column P (rows_of t'))) (sym eb)
          (multiple_new_cost (truncated P j) (columns_of t.basis) (without_column P (rows_of t))
          (without_column P (rows_of t')) (cost_before P (suc j)) h.stands low next);
      empty = empty;
      closed = record {
        free =
            λ i il x. h.closed.free i (omega (arith, em, rows_is))
            (ap (λ (b : List ℕ). columns_of b i) (sym eb) ∙ x
            ∙ (let y : spare_column t'.columns (positions t') ≡ spare_column t.columns (positions t) =
            omega (arith, em, en, rows_is) in y));
        zero = λ i il. ap (rows_of t' i) spare_is ∙ spare i (omega (arith, em));
      };
    }

  -- ---- the column isn't basic: the row that has lost the amount is the next stage
  module _ (factor : ℤ) (ef : P.c j ≡ factor) (t' : Table) (eb : t'.basis ≡ t.basis) (en : t'.columns ≡ t.columns)
      (out : (i : ℕ) → i < positions t → columns_of t.basis i ≢ j)
      (rows : (i c : ℕ) → i < positions t → rows_of t' i c ≡ rows_of t i c)
      (l : IsLowered (width_of t) j (amount_of t factor) (rows_of t (positions t)) (rows_of t' (positions t))) where
    l' : IsLowered (width_of t) j (amount_of t factor) (rows_of t (positions t)) (rows_of t' P.m)
    l' =
        subst (λ (i : ℕ). IsLowered (width_of t) j (amount_of t factor) (rows_of t (positions t)) (rows_of t' i))
        rows_is l

    each : (c : ℕ) → rows_of t' P.m c ≡ pos 0 → ((i : ℕ) → i ≤ P.m → rows_of t i c ≡ pos 0) → (i : ℕ) → i ≤ P.m
        → rows_of t' i c ≡ pos 0
    each c z below i il = elim (cases_lt i P.m) [
      | inl a ↦ rows i c (omega (arith, rows_is)) ∙ below i il
      | inr a ↦ let e : i ≡ P.m = omega arith in ap (λ v. rows_of t' v c) e ∙ z
    ]

    pub next_lowered : StandsFor (truncated P (suc j)) t'
    next_lowered =
        next_stands t' eb en
        (λ i il. equal_parallel (suc (suc (P.n + P.m))) (without_column P (rows_of t) i)
        (without_column P (rows_of t') i) (λ k kl. rows i (auxiliary_place P k) (omega (arith, rows_is))))
        (multiple_next P (own_of (system_of P) (columns_of t.basis)) (without_column P (rows_of t)) (cost_before P j) j
        (without_column P (rows_of t') P.m) h.stands.multiples jl
        (λ i il e. out i (omega (arith, rows_is)) (sym (e ∙ own_low (system_of P) (columns_of t.basis) i il)))
        (half factor ef (rows_of t' P.m) l'))
        (each (P.n + P.m) (auxiliary_zero factor ef (rows_of t' P.m) l') h.empty)
        (each (P.n + P.m + 3) (spare_zero factor ef (rows_of t' P.m) l')
        (λ i il. let e : spare_column t.columns (positions t) ≡ P.n + P.m + 3 =
        omega (arith, rows_is, columns_is) in ap (rows_of t i) (sym e) ∙ h.closed.zero i (omega (arith, rows_is))))
