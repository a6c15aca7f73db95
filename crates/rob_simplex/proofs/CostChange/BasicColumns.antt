-- The cost of a basic column put into the objective's row: its position is opened, the row loses the amount in the
-- column, and the position's row clears it.
use Rattle.std.proofs.Common.{◌≡◌, ◌≢◌, ℕ, suc, ◌+◌, ◌<◌, ◌≤◌, sym, refl, ap, ◌∙◌, subst, arith, inl, inr, List, length, set}
use Rattle.std.proofs.lemmas.Bool.{cases_eq, cases_lt}
use Rattle.std.proofs.lemmas.Int.{ints}
use Rattle.std.proofs.lemmas.List.{get_or-set_same, get_or-set_other, length-set, set-get_or}
use lib.IntN.{ℤ, pos, ◌-ℤ◌, ◌*ℤ◌}
use lib.Signed.{◌<ℤ◌}
use Rattle.rob_algebra.specs.Integer.{one-mul}
use Rattle.rob_linear.specs.Vectors.{Vector}
use Rattle.rob_linear.specs.Systems.{IsPrimitive}
use Rattle.rob_linear.specs.Programs.{Program, system_of, auxiliary_place}
use Rattle.rob_linear.specs.Turns.{own_of}
use Rattle.rob_linear.specs.Stages.{cost_before, truncated, unit_row}
use Rattle.rob_linear.specs.MultipleStages.{IsMultipleStage}
use Rattle.rob_linear.specs.WideRows.{IsOwnWideAt}
use Rattle.rob_linear.specs.Multiples.{IsParallel, IsMultipleRow, IsClearedBy}
use Rattle.rob_linear.specs.Beside.{without_column}
use Rattle.rob_linear.proofs.BasisPaths.Phases.{place_low}
use Rattle.rob_linear.proofs.Bases.Turns.{own_low}
use Rattle.rob_linear.proofs.RowForms.MultipleStages.{multiple_last, multiple_cleared, multiple_stage_wide}
use Rattle.rob_linear.proofs.RowForms.Multiples.{parallel_refl}
use Rattle.rob_linear.proofs.KeptOut.WithoutColumn.{cleared_without, parallel_without}
use Rattle.rob_entries.specs.Updates.{IsWideCleared}
use Rattle.rob_table.specs.Lowering.{IsLowered}
use Rattle.rob_table.proofs.ClearingTops.{cleared_by_times}
use Rattle.rob_simplex.specs.Dictionaries.{Table, positions, width_of, columns_of, spare_column, rows_of, kept_row_of, IsFree, IsAlone, IsOpen}
use Rattle.rob_simplex.specs.Pivots.{CanClear}
use Rattle.rob_simplex.specs.Lowering.{amount_of, HasCleared, HasRefusedCost, HasWay, IsBasicAt}
use Rattle.rob_simplex.specs.Phases.{StandsFor}
use Rattle.rob_simplex.proofs.Places.FreeColumns.{basic_column_low, basics_inside, way_free}
use Rattle.rob_simplex.proofs.Telling.JudgingLemmas.{stands_own}
use Rattle.rob_simplex.proofs.Places.OwnEntries.{own_positive, keeps_positive, keeps_set}
use Rattle.rob_simplex.proofs.CostChange.CostStages.{narrowed, cleared_parallel, equal_parallel, rows_is, columns_is, width_is, half, auxiliary_zero, spare_zero, half_wide, next_stands}
use Rattle.rob_simplex.proofs.Pivoting.PivotLemmas.{set_twice, zero_stays, free_opened}
use Rattle.rob_simplex.proofs.Rows.ReadRows.{basic_low, basic_high}
use Rattle.rob_simplex.proofs.Turns.Ranks.{shorter}

-- ---- a basic column in a dictionary at stage j
module _ (P : Program) (j : ℕ) {t : Table} (h : StandsFor (truncated P j) t) {i : ℕ} (basic : IsBasicAt t i j) where
  jl : j < P.n
  jl = omega (arith, basic.column_in, h.columns_are)

  il : i < positions t
  il = basic.row_in

  rows_at : positions t ≡ P.m
  rows_at = rows_is P j jl t h

  columns_at : t.columns ≡ P.n
  columns_at = columns_is P j jl t h

  im : i < P.m
  im = omega (arith, rows_at)

  im_low : i ≤ P.m
  im_low = omega (arith, im)

  own_is : own_of (system_of P) (columns_of t.basis) i ≡ j
  own_is = own_low (system_of P) (columns_of t.basis) i im ∙ basic.column_is

  there : auxiliary_place P (own_of (system_of P) (columns_of t.basis) i) ≡ j
  there = ap (auxiliary_place P) own_is ∙ place_low P j (omega (arith, jl))

  pub low_zero : (k : ℕ) → k ≤ P.m → k ≢ i → rows_of t k j ≡ pos 0
  low_zero k kl d =
      ap (rows_of t k) (sym there) ∙ (h.stands.multiples.rows_of k kl).along.zeros i im_low (λ e. d (sym e))

  basic_positive : pos 0 <ℤ rows_of t i j
  basic_positive = subst (λ c. pos 0 <ℤ rows_of t i c) there (h.stands.multiples.rows_of i im_low).positive

  -- no other position has it
  apart : (k : ℕ) → k < P.m → k ≢ i → columns_of t.basis k ≢ j
  apart k kl d e =
      let o : own_of (system_of P) (columns_of t.basis) k ≡ j = own_low (system_of P) (columns_of t.basis) k kl ∙ e in
      let kk : k ≤ P.m = omega arith in
      let z : rows_of t i j ≡ pos 0 =
      ap (rows_of t i) (sym (ap (auxiliary_place P) o ∙ place_low P j (omega (arith, jl))))
      ∙ (h.stands.multiples.rows_of i im_low).along.zeros k kk d in
      let p : pos 0 <ℤ rows_of t i j = basic_positive in
      omega (arith, ints)

  -- ---- the next stage
  module _ (factor : ℤ) (ef : P.c j ≡ factor) where
    half_cleared : (r new : Vector) → IsLowered (width_of t) j (amount_of t factor) (rows_of t (positions t)) r
        → IsClearedBy (width_of t) j r (rows_of t i) new
        → IsMultipleStage P (own_of (system_of P) (columns_of t.basis)) (suc j) (λ k. new (auxiliary_place P k))
    half_cleared r new l c =
        let w : width_of t ≡ P.n + P.m + 4 = width_is P j jl t h in
        multiple_cleared P (own_of (system_of P) (columns_of t.basis)) (without_column P (rows_of t)) (cost_before P j)
        j i (λ k. r (auxiliary_place P k)) (λ k. new (auxiliary_place P k)) h.stands.multiples jl im own_is
        (half P j jl t h factor ef r l)
        (cleared_without P j r (rows_of t i) new (omega (arith, jl))
        (shorter (width_of t) (suc (suc (suc (P.n + P.m)))) j r (rows_of t i) new (omega (arith, w)) c))

    module _ (t' : Table) (eb : t'.basis ≡ t.basis) (en : t'.columns ≡ t.columns) (x : HasCleared t t' i j factor) where
      w : width_of t ≡ P.n + P.m + 4
      w = width_is P j jl t h

      objective : IsClearedBy (width_of t) j x.half (rows_of t i) (rows_of t' P.m)
      objective = subst (λ (k : ℕ). IsClearedBy (width_of t) j x.half (rows_of t i) (rows_of t' k)) rows_at x.objective

      low : (k : ℕ) → k < P.m → IsParallel (suc (suc (P.n + P.m))) (without_column P (rows_of t) k)
          (without_column P (rows_of t') k)
      low k kl = parallel_without P (rows_of t k) (rows_of t' k) (elim (cases_eq k i) [
        | inl e ↦
            subst (λ v. IsParallel (suc (suc (suc (P.n + P.m)))) (rows_of t v) (rows_of t' v)) (sym e)
            (equal_parallel (suc (suc (suc (P.n + P.m)))) (rows_of t i) (rows_of t' i)
            (λ c cl. x.row_stays c (omega (arith, w))))
        | inr d ↦
            cleared_parallel (width_of t) (suc (suc (suc (P.n + P.m)))) j (rows_of t k) (rows_of t i) (rows_of t' k)
            (omega (arith, w)) (omega (arith, w, jl)) (low_zero k (omega arith) d) basic_positive
            (x.others k (omega (arith, rows_at)) d)
      ])

      stays_zero : (c : ℕ) → c < width_of t → x.half c ≡ pos 0 → ((k : ℕ) → k ≤ P.m → rows_of t k c ≡ pos 0) → (k : ℕ)
          → k ≤ P.m → rows_of t' k c ≡ pos 0
      stays_zero c cl hz z k kl = elim (cases_eq k i) [
        | inl e ↦ ap (λ v. rows_of t' v c) e ∙ x.row_stays c cl ∙ z i (omega (arith, im))
        | inr d ↦ elim (cases_lt k P.m) [
          | inl l ↦
              let o = x.others k (omega (arith, rows_at)) d in
              zero_stays o.divisor o.p o.q (rows_of t' k c) (rows_of t k c) (rows_of t i c) o.divides (o.entries c cl)
              (z k kl) (z i (omega (arith, im)))
          | inr l ↦
              let e : k ≡ P.m = omega arith in
              ap (λ v. rows_of t' v c) e
              ∙ zero_stays objective.divisor objective.p objective.q (rows_of t' P.m c) (x.half c) (rows_of t i c)
              objective.divides (objective.entries c cl) hz (z i (omega (arith, im)))
        ]
      ]

      pub next_cleared : StandsFor (truncated P (suc j)) t'
      next_cleared =
          let e : spare_column t.columns (positions t) ≡ P.n + P.m + 3 = omega (arith, rows_at, columns_at) in
          next_stands P j jl t h t' eb en low (half_cleared x.half (rows_of t' P.m) x.lowered objective)
          (stays_zero (P.n + P.m) (omega (arith, w)) (auxiliary_zero P j jl t h factor ef x.half x.lowered) h.empty)
          (stays_zero (P.n + P.m + 3) (omega (arith, w)) (spare_zero P j jl t h factor ef x.half x.lowered)
          (λ k kl. ap (rows_of t k) (sym e) ∙ h.closed.zero k (omega (arith, rows_at))))

    -- ---- or a stage is wide
    stage_wide : (limit : ℕ) (r : Vector) → IsLowered (width_of t) j (amount_of t factor) (rows_of t (positions t)) r
        → IsWideCleared limit (width_of t) j r (rows_of t i) → IsOwnWideAt limit P (columns_of t.basis) P.m
    stage_wide limit r l v =
        let w : width_of t ≡ P.n + P.m + 4 = width_is P j jl t h in
        let c : IsClearedBy (width_of t) j r (rows_of t i) v.0 = v.1 in
        let e : spare_column t.columns (positions t) ≡ P.n + P.m + 3 = omega (arith, rows_at, columns_at) in
        let aux : v.0 (P.n + P.m) ≡ pos 0 =
        zero_stays c.divisor c.p c.q (v.0 (P.n + P.m)) (r (P.n + P.m)) (rows_of t i (P.n + P.m)) c.divides
        (c.entries (P.n + P.m) (omega (arith, w))) (auxiliary_zero P j jl t h factor ef r l) (h.empty i im_low) in
        let spare : v.0 (P.n + P.m + 3) ≡ pos 0 =
        zero_stays c.divisor c.p c.q (v.0 (P.n + P.m + 3)) (r (P.n + P.m + 3)) (rows_of t i (P.n + P.m + 3)) c.divides
        (c.entries (P.n + P.m + 3) (omega (arith, w))) (spare_zero P j jl t h factor ef r l)
        (ap (rows_of t i) (sym e) ∙ h.closed.zero i (omega (arith, il))) in
        let x =
        narrowed limit P v.0 aux spare (subst (λ k. IsPrimitive k v.0) w v.2)
        (v.3.0, subst (λ k. v.3.0 < k) w v.3.1, v.3.2) in
        let stage = half_cleared r v.0 l v.1 in
        elim (cases_lt (suc j) P.n) [
          | inl n ↦ inr (
            refl,
            multiple_stage_wide limit P (columns_of t.basis) (without_column P (rows_of t)) (cost_before P j) (suc j)
                (λ k. v.0 (auxiliary_place P k)) (λ k. v.0 (auxiliary_place P k)) h.stands.multiples n stage
                (parallel_refl (suc (suc (P.n + P.m))) (λ k. v.0 (auxiliary_place P k))) x.0 x.1,
          )
          | inr g ↦
              let s : suc j ≡ P.n = omega (arith, jl) in
              let row : IsMultipleRow (system_of P) (own_of (system_of P) (columns_of t.basis)) P.m
              (λ k. v.0 (auxiliary_place P k)) =
              multiple_last P (own_of (system_of P) (columns_of t.basis)) (λ k. v.0 (auxiliary_place P k))
              (subst (λ k. IsMultipleStage P (own_of (system_of P) (columns_of t.basis)) k
              (λ k. v.0 (auxiliary_place P k))) s stage) in
              inl (
                λ k. v.0 (auxiliary_place P k),
                basic_column_low h,
                record { along = row.along; positive = row.positive; primitive = x.0 },
                x.1,
              )
        ]

    pub refused_wide : (limit : ℕ) → HasRefusedCost limit t i j factor → IsOwnWideAt limit P (columns_of t.basis) P.m
    refused_wide limit x =
        elim x [ inl a ↦ half_wide P j jl t h limit factor ef a | inr a ↦ stage_wide limit a.0 a.1 a.2 ]

  -- ---- its position opened by the spare column
  module _ {s : ℕ} (es : s ≡ spare_column t.columns (positions t)) (t1 : Table) (b1 : t1.basis ≡ set t.basis i s)
      (n1 : t1.columns ≡ t.columns)
      (r1 : IsAlone t i s → (k c : ℕ) → k ≤ positions t → c < t.columns + positions t + 4
      → rows_of t1 k c ≡ rows_of t k c) where
    m1 : positions t1 ≡ positions t
    m1 = ap length b1 ∙ length-set t.basis i s

    pub same1 : (k c : ℕ) → k ≤ positions t → c < width_of t → rows_of t1 k c ≡ rows_of t k c
    same1 k c kl cl = r1 (λ v vl d. ap (rows_of t v) es ∙ h.closed.zero v vl) k c kl cl

    free_in : (c : ℕ) → IsFree t.columns (set t.basis i s) c → IsFree t1.columns t1.basis c
    free_in c f =
        subst (λ (b : List ℕ). IsFree t1.columns b c) (sym b1) (subst (λ n. IsFree n (set t.basis i s) c) (sym n1) f)

    way1 : IsFree t1.columns t1.basis (t1.columns + positions t1)
    way1 =
        let e : t.columns + positions t ≡ t1.columns + positions t1 = omega (arith, m1, n1) in
        subst (λ c. IsFree t1.columns t1.basis c) e
        (free_in (t.columns + positions t)
        (free_opened t i (t.columns + positions t) s es il (way_free h) (λ x. absurd (omega arith))))

    pub free1 : IsFree t1.columns t1.basis j
    free1 = free_in j record {
      inside = omega (arith, jl, rows_at, columns_at, length-set t.basis i s);
      not_basic = λ k kl e. elim (cases_lt k (length (set t.basis i s))) [
        | inr l ↦
            absurd (let x : suc (t.columns + length (set t.basis i s)) ≡ j =
            sym (basic_high t.columns (set t.basis i s) k l) ∙ e in omega (arith, jl, columns_at))
        | inl l ↦
            let x : columns_of (set t.basis i s) k ≡ j = sym (basic_low t.columns (set t.basis i s) k l) ∙ e in
            elim (cases_eq k i) [
              | inl q ↦
                  absurd (let y : s ≡ j =
                  sym (get_or-set_same t.basis i s 0 il) ∙ ap (columns_of (set t.basis i s)) (sym q)
                  ∙ x in omega (arith, es, jl, columns_at))
              | inr d ↦
                  apart k (omega (arith, rows_at, length-set t.basis i s)) d
                  (sym (get_or-set_other t.basis i k s 0 d) ∙ x)
            ]
      ];
      not_right = λ e. absurd (omega (arith, jl, columns_at, length-set t.basis i s));
    }

    spare1 : spare_column t1.columns (positions t1) ≡ s
    spare1 = omega (arith, es, n1, m1)

    open1 : IsOpen t1 i
    open1 = record {
      spare = ap (λ (b : List ℕ). columns_of b i) b1 ∙ get_or-set_same t.basis i s 0 il ∙ sym spare1;
      zero =
          ap (rows_of t1 i) spare1 ∙ same1 i s (omega (arith, il)) (omega (arith, es)) ∙ ap (rows_of t i) es
          ∙ h.closed.zero i (omega (arith, il));
    }

    column_in : j < width_of t
    column_in = omega (arith, jl, columns_at)

    positive1 : pos 0 <ℤ rows_of t1 i j
    positive1 = subst (λ z. pos 0 <ℤ z) (sym (same1 i j (omega (arith, il)) column_in)) basic_positive

    pub alone1 : IsAlone t1 i j
    alone1 k kl d = same1 k j (omega (arith, m1)) column_in ∙ low_zero k (omega (arith, m1, rows_at)) d

    zero1 : rows_of t1 (positions t1) (t1.columns + positions t1) ≡ pos 0
    zero1 =
        let e : t1.columns + positions t1 ≡ P.n + P.m = omega (arith, m1, n1, rows_at, columns_at) in
        ap (rows_of t1 (positions t1)) e
        ∙ same1 (positions t1) (P.n + P.m) (omega (arith, m1)) (omega (arith, rows_at, columns_at))
        ∙ h.empty (positions t1) (omega (arith, m1, rows_at))

    not_way : j ≢ t1.columns + positions t1
    not_way e = absurd (omega (arith, jl, n1, columns_at))

    -- so its row clears the column, where the kept row stays too
    pub clears1 : (kept_row_of t s ≡ pos 0 → (c : ℕ) → kept_row_of t1 c ≡ kept_row_of t c)
        → CanClear (positions t1 + 1) t1 i j
    clears1 kept = record {
      row_in = omega (arith, il, m1);
      free = free1;
      opened = open1;
      below = omega arith;
      positive = positive1;
      own =
          keeps_set (positions t1 + 1) i s t t1 b1 n1 same1 (basics_inside h)
          (λ z. kept (ap (kept_row_of t) es ∙ z))
          (keeps_positive (positions t1 + 1) i t (omega (arith, m1))
          (own_positive t (stands_own (truncated P j) t h)));
    }

    pub has_way : HasWay t1 j
    has_way = record { free = free1; way = way1; other = not_way; zero = zero1 }

    -- ---- and brought in again
    pub basis_back : (t3 t4 : Table) → t3.basis ≡ t1.basis → t4.basis ≡ set t3.basis i j → t4.basis ≡ t.basis
    basis_back t3 t4 b3 b4 =
        b4 ∙ ap (λ (b : List ℕ). set b i j) (b3 ∙ b1) ∙ set_twice t.basis i s j
        ∙ ap (λ c. set t.basis i c) (sym basic.column_is) ∙ set-get_or t.basis i 0

    module _ (factor : ℤ) where
      amount1 : amount_of t1 factor ≡ amount_of t factor
      amount1 =
          let e : suc (t1.columns + positions t1) ≡ suc (t.columns + positions t) = omega (arith, m1, n1) in
          ap (λ z. factor *ℤ z) (ap (λ v. rows_of t1 v (suc (t1.columns + positions t1))) m1
          ∙ ap (rows_of t1 (positions t)) e
          ∙ same1 (positions t) (suc (t.columns + positions t)) (omega arith) (omega arith))

      w1 : width_of t1 ≡ width_of t
      w1 = omega (arith, m1, n1)

      lowered_back : (r : Vector) → IsLowered (width_of t1) j (amount_of t1 factor) (rows_of t1 (positions t1)) r
          → IsLowered (width_of t) j (amount_of t factor) (rows_of t (positions t)) r
      lowered_back r l = record {
        divisor = l.divisor;
        p = l.p;
        divides = l.divides;
        positive = l.positive;
        entries = λ k kl.
            l.entries k (omega (arith, w1))
            ∙ ap (λ v. l.p *ℤ (v -ℤ (amount_of t1 factor *ℤ unit_row j k)))
            (ap (λ v. rows_of t1 v k) m1 ∙ same1 (positions t) k (omega arith) kl)
            ∙ ap (λ v. l.p *ℤ (rows_of t (positions t) k -ℤ (v *ℤ unit_row j k))) amount1;
      }

      cleared_back : (r r' new new' : Vector) → ((k : ℕ) → k < width_of t → r k ≡ r' k)
          → ((k : ℕ) → k < width_of t → new' k ≡ new k) → IsClearedBy (width_of t1) j r (rows_of t1 i) new
          → IsClearedBy (width_of t) j r' (rows_of t i) new'
      cleared_back r r' new new' er en c =
          cleared_by_times (width_of t) j r r' (rows_of t1 i) (rows_of t i) new new' (pos 1) (omega (arith, ints)) er
          (λ k kl. one-mul (rows_of t1 i k) ∙ same1 i k (omega (arith, il)) kl) en column_in
          (subst (λ v. IsClearedBy v j r (rows_of t1 i) new) w1 c)

      pub refused_back : (limit : ℕ) → HasRefusedCost limit t1 i j factor → HasRefusedCost limit t i j factor
      refused_back limit x = elim x [
        | inl a ↦
            inl (
              a.0,
              lowered_back a.0 a.1,
              subst (λ k. IsPrimitive k a.0) w1 a.2,
              (a.3.0, subst (λ k. a.3.0 < k) w1 a.3.1, a.3.2),
            )
        | inr a ↦
            let v = a.2 in
            inr (
              a.0,
              lowered_back a.0 a.1,
              (
                v.0,
                cleared_back a.0 a.0 v.0 v.0 (λ k kl. refl) (λ k kl. refl) v.1,
                subst (λ k. IsPrimitive k v.0) w1 v.2,
                (v.3.0, subst (λ k. v.3.0 < k) w1 v.3.1, v.3.2),
              ),
            )
      ]

      module _ (t3 t4 : Table) (b3 : t3.basis ≡ t1.basis) (n3 : t3.columns ≡ t1.columns)
          (x : HasCleared t1 t3 i j factor)
          (r4 : IsAlone t3 i j → (k c : ℕ) → k ≤ positions t3 → c < t3.columns + positions t3 + 4
          → rows_of t4 k c ≡ rows_of t3 k c) where
        m3 : positions t3 ≡ positions t1
        m3 = ap length b3

        alone3 : IsAlone t3 i j
        alone3 k kl d = elim (cases_lt k (positions t1)) [
          | inl l ↦ (x.others k l d).cleared
          | inr l ↦ let e : k ≡ positions t1 = omega (arith, m3) in ap (λ v. rows_of t3 v j) e ∙ x.objective.cleared
        ]

        same4 : (k c : ℕ) → k ≤ positions t → c < width_of t → rows_of t4 k c ≡ rows_of t3 k c
        same4 k c kl cl = r4 alone3 k c (omega (arith, m3, m1)) (omega (arith, m3, m1, n3, n1))

        pub cleared_in_place : HasCleared t t4 i j factor
        cleared_in_place = record {
          half = x.half;
          lowered = lowered_back x.half x.lowered;
          objective =
              cleared_back x.half x.half (rows_of t3 (positions t1)) (rows_of t4 (positions t)) (λ k kl. refl)
              (λ k kl. same4 (positions t) k (omega arith) kl ∙ ap (λ v. rows_of t3 v k) (sym m1)) x.objective;
          row_stays =
              λ c cl. same4 i c (omega (arith, il)) cl ∙ x.row_stays c (omega (arith, w1))
              ∙ same1 i c (omega (arith, il)) cl;
          others = λ k kl d.
              cleared_back (rows_of t1 k) (rows_of t k) (rows_of t3 k) (rows_of t4 k)
              (λ c cl. same1 k c (omega arith) cl) (λ c cl. same4 k c (omega arith) cl)
              (x.others k (omega (arith, m1)) d);
        }
