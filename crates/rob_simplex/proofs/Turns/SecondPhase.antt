-- A turn of the second phase on a dictionary is one of the path.
use Rattle.std.proofs.Common.{◌≡◌, ◌≢◌, ℕ, suc, ◌+◌, ◌<◌, ◌≤◌, ◌-◌, sym, refl, ap, ◌∙◌, subst, arith, inl, inr, List, length, set, cond, nat_lt, nat_eq, zero, None}
use Rattle.std.proofs.lemmas.Bool.{cases_eq, cases_lt}
use Rattle.std.proofs.lemmas.Bool.Decides.{nat_tests}
use Rattle.std.proofs.lemmas.Int.{ints}
use Rattle.std.proofs.lemmas.List.{get_or-set_same, get_or-set_other, length-set}
use Rattle.std.specs.Int.RustNames.{unsigned_abs}
use Rattle.std.specs.Int.{◌∣◌}
use Rattle.std.proofs.lemmas.Nat.Gcd.{dvd-zero}
use lib.IntN.{ℤ, pos, ◌-ℤ◌, ◌*ℤ◌}
use lib.Signed.{◌<ℤ◌, ◌≤ℤ◌}
use Rattle.rob_algebra.specs.Integer.{*ℤ_comm}
use Rattle.rob_linear.specs.Vectors.{Matrix}
use Rattle.rob_linear.specs.Systems.{System, right, IsPrimitive}
use Rattle.rob_linear.specs.Programs.{Program, system_of, kept_of, auxiliary_place}
use Rattle.rob_linear.specs.Turns.{Enters, Leaves, IsExchange, Rises, own_of, TurnsTo}
use Rattle.rob_linear.specs.Rank.{rank, rank_limit, IsWithin}
use Rattle.rob_linear.specs.WideRows.{HasWideEntry, IsWideIn}
use Rattle.rob_linear.specs.Multiples.{IsParallel, IsClearedBy, IsMultiplePivot, IsPivotableMultiple, StandsMultiple}
use Rattle.rob_linear.specs.Beside.{without_column}
use Rattle.rob_linear.proofs.BasisPaths.Starts.{system_tagged}
use Rattle.rob_linear.proofs.Bases.Turns.{own_low}
use Rattle.rob_linear.proofs.KeptOut.WithoutColumn.{enters_without, leaves_without, cleared_without, parallel_without}
use Rattle.rob_linear.proofs.RowForms.CondensedNumbers.{primitive_without}
use Rattle.rob_linear.proofs.BasisPaths.Measure.{rank_rises, rank_below}
use Rattle.rob_linear.proofs.RowForms.Multiples.{factors_clear, pivot_wide, multiple_turn}
use Rattle.rob_linear.proofs.BasisPaths.Phases.{place_low, place_high}
use Rattle.rob_entries.specs.Updates.{IsWideCleared}
use Rattle.rob_simplex.specs.Dictionaries.{Table, positions, width_of, columns_of, spare_column, shape, rows_of, IsFree, IsClosed, IsPivoted, FirstNegative}
use Rattle.rob_simplex.specs.Phases.{StandsFor, TurnsOn, HasRefused, EndsIn, turns_left}
use Rattle.rob_simplex.proofs.Turns.Ranks.{shorter, IsSmall, within_second, left_is, falls}
use Rattle.rob_simplex.proofs.Rows.ReadRows.{basic_low, basic_high}
use Rattle.rob_simplex.proofs.Places.FreeColumns.{basic_column_low}
use Rattle.rob_simplex.proofs.Pivoting.PivotLemmas.{zero_stays}

module _ {P : Program} {t : Table} (h : StandsFor P t) where
  abbrev S : System
  S = system_of P

  own_is : (i : ℕ) → i < P.m → own_of (system_of P) (columns_of t.basis) i ≡ columns_of t.basis i
  own_is i l = own_low (system_of P) (columns_of t.basis) i l

  -- the objective's row is 0 in the basic columns, and positive in its own
  basic_zero : (i : ℕ) → i < P.m → rows_of t P.m (columns_of t.basis i) ≡ pos 0
  basic_zero i l =
      let z = (h.stands.multiples.rows_of P.m (omega arith)).along.zeros i (omega arith) (λ e. absurd (omega arith)) in
      let p : auxiliary_place P (own_of (system_of P) (columns_of t.basis) i) ≡ columns_of t.basis i =
      ap (auxiliary_place P) (own_is i l) ∙ place_low P (columns_of t.basis i) (basic_column_low h i l) in
      ap (rows_of t P.m) (sym p) ∙ z

  size_is : t.columns + positions t ≡ P.n + P.m
  size_is = omega (arith, h.rows_are, h.columns_are)

  module _ {column : ℕ} (first' : FirstNegative (t.columns + positions t) (rows_of t (positions t)) column) where
    first : FirstNegative (P.n + P.m) (rows_of t P.m) column
    first =
        subst (λ k. FirstNegative k (rows_of t P.m) column) size_is
        (subst (λ i. FirstNegative (t.columns + positions t) (rows_of t i) column) h.rows_are first')

    low : column < P.n + P.m
    low = first.inside

    pub entering_free : IsFree t.columns t.basis column
    entering_free = record {
      inside = omega (arith, size_is, low);
      not_basic = λ i il e. elim (cases_lt i (positions t)) [
        | inl l ↦
            let im : i < P.m = omega (arith, h.rows_are) in
            let z : rows_of t P.m column ≡ pos 0 =
            ap (rows_of t P.m) (sym e ∙ basic_low t.columns t.basis i l) ∙ basic_zero i im in
            let n : rows_of t P.m column <ℤ pos 0 = first.negative in
            omega (arith, ints)
        | inr l ↦
            let x : suc (t.columns + positions t) ≡ column = sym (basic_high t.columns t.basis i l) ∙ e in
            omega (arith, size_is, low)
      ];
      not_right = λ e. absurd (omega (arith, size_is, low));
    }

    pub not_spare : column ≢ spare_column t.columns (positions t)
    not_spare e = absurd (omega (arith, size_is, low))

    enters : Enters (system_of P) (without_column P (rows_of t)) column
    enters = enters_without P (rows_of t) column low first.negative first.first

    module _ {row : ℕ} (leaves' : Leaves (shape t.columns (positions t)) (rows_of t) column row) where
      leaves_kept : Leaves (kept_of P) (rows_of t) column row
      leaves_kept =
          let l : Leaves (shape P.n P.m) (rows_of t) column row =
          subst (λ n. Leaves (shape n P.m) (rows_of t) column row) h.columns_are
          (subst (λ m. Leaves (shape t.columns m) (rows_of t) column row) h.rows_are leaves') in
          record { inside = l.inside; positive = l.positive; first = l.first }

      leaves : Leaves (system_of P) (without_column P (rows_of t)) column row
      leaves = leaves_without P (rows_of t) column row low leaves_kept

      row_low : row < P.m
      row_low = leaves_kept.inside

      abbrev next : List ℕ
      next = set t.basis row column

      next_at : columns_of (set t.basis row column) row ≡ column
      next_at = get_or-set_same t.basis row column 0 (omega (arith, h.rows_are, row_low))

      next_other : (i : ℕ) → i ≢ row → columns_of (set t.basis row column) i ≡ columns_of t.basis i
      next_other i d = get_or-set_other t.basis row i column 0 d

      own_next : (i : ℕ) → i ≢ row
          → own_of (system_of P) (columns_of (set t.basis row column)) i ≡ own_of (system_of P) (columns_of t.basis) i
      own_next i d = ap (λ k. cond (nat_lt i P.m) k (P.n + P.m)) (next_other i d)

      exchange : IsExchange (system_of P) (own_of (system_of P) (columns_of t.basis))
          (own_of (system_of P) (columns_of (set t.basis row column))) (without_column P (rows_of t)) row column
      exchange = record {
        row_in = row_low;
        col_in = low;
        entry = leaves.positive;
        own_at = own_low (system_of P) (columns_of (set t.basis row column)) row row_low ∙ next_at;
        own_other = own_next;
      }

      multiple_pivot : (rows' : Matrix)
          → IsParallel (suc (right (system_of P))) (rows' row) (without_column P (rows_of t) row)
          → ((i : ℕ) → i ≤ P.m → i ≢ row
          → IsClearedBy (suc (right (system_of P))) column (without_column P (rows_of t) i)
          (without_column P (rows_of t) row) (rows' i))
          → IsMultiplePivot (system_of P) (own_of (system_of P) (columns_of t.basis))
          (own_of (system_of P) (columns_of (set t.basis row column))) (without_column P (rows_of t)) rows' row column
      multiple_pivot rows' row_at row_other = record { exchange = exchange; row_at = row_at; row_other = row_other }

      turned : (rows' : Matrix) → IsParallel (suc (right (system_of P))) (rows' row) (without_column P (rows_of t) row)
          → ((i : ℕ) → i ≤ P.m → i ≢ row
          → IsClearedBy (suc (right (system_of P))) column (without_column P (rows_of t) i)
          (without_column P (rows_of t) row) (rows' i))
          → TurnsTo (system_of P) (columns_of t.basis) (columns_of (set t.basis row column))
          × StandsMultiple (system_of P) (columns_of (set t.basis row column)) rows'
          × Rises (system_of P) (without_column P (rows_of t) P.m) (rows' P.m)
      turned rows' row_at row_other =
          multiple_turn (system_of P) (columns_of t.basis) (columns_of (set t.basis row column))
          (without_column P (rows_of t)) rows' row column (system_tagged P) h.stands enters leaves
          (multiple_pivot rows' row_at row_other)

      -- ---- the dictionary after the turn
      row_turned : (t' : Table) → IsPivoted t t' row column
          → IsParallel (suc (right (system_of P))) (without_column P (rows_of t') row)
          (without_column P (rows_of t) row)
      row_turned t' p =
          let w : width_of t ≡ suc (suc (suc (suc (P.n + P.m)))) = omega (arith, size_is) in
          parallel_without P (rows_of t' row) (rows_of t row)
          (record {
            p = p.row_at.p;
            q = p.row_at.q;
            p_positive = p.row_at.p_positive;
            q_positive =
                p.row_at.q_positive;
            same = λ k l. p.row_at.same k (omega arith);
          })

      others_turned : (t' : Table) → IsPivoted t t' row column → (i : ℕ) → i ≤ P.m → i ≢ row
          → IsClearedBy (suc (right (system_of P))) column (without_column P (rows_of t) i)
          (without_column P (rows_of t) row) (without_column P (rows_of t') i)
      others_turned t' p i il d =
          let w : width_of t ≡ suc (suc (suc (suc (P.n + P.m)))) = omega (arith, size_is) in
          cleared_without P column (rows_of t i) (rows_of t row) (rows_of t' i) low
          (shorter (width_of t) (suc (suc (suc (P.n + P.m)))) column (rows_of t i) (rows_of t row) (rows_of t' i)
          (omega arith) (p.row_other i (omega (arith, h.rows_are)) d))

      risen : (t' : Table) → IsPivoted t t' row column
          → Rises (system_of P) (without_column P (rows_of t) P.m) (without_column P (rows_of t') P.m)
      risen t' p = (turned (without_column P (rows_of t')) (row_turned t' p) (others_turned t' p)).2

      pub turn_second : (t' : Table) → IsPivoted t t' row column → IsClosed t' → t'.basis ≡ set t.basis row column
          → t'.columns ≡ t.columns → StandsFor P t'
      turn_second t' p c eb en =
          let w : width_of t ≡ suc (suc (suc (suc (P.n + P.m)))) = omega (arith, size_is) in
          let k = turned (without_column P (rows_of t')) (row_turned t' p) (others_turned t' p) in
          record {
            rows_are = ap length eb ∙ length-set t.basis row column ∙ h.rows_are;
            columns_are = en ∙ h.columns_are;
            stands =
                subst (λ (b : List ℕ). StandsMultiple (system_of P) (columns_of b) (without_column P (rows_of t')))
                (sym eb) k.1;
            empty = λ i il. elim (cases_eq i row) [
              | inl e ↦
                  subst (λ (x : ℕ). rows_of t' x (P.n + P.m) ≡ pos 0) (sym e)
                  (zero_stays p.row_at.p (pos 0) p.row_at.q (rows_of t' row (P.n + P.m)) (pos 0)
                  (rows_of t row (P.n + P.m)) p.row_at.p_positive
                  (p.row_at.same (P.n + P.m) (omega arith)
                  ∙ row_zero p.row_at.q (rows_of t row (P.n + P.m)) (h.empty row (omega (arith, row_low)))) refl
                  (h.empty row (omega (arith, row_low))))
              | inr d ↦
                  let x = p.row_other i (omega (arith, h.rows_are)) d in
                  zero_stays x.divisor x.p x.q (rows_of t' i (P.n + P.m)) (rows_of t i (P.n + P.m))
                  (rows_of t row (P.n + P.m)) x.divides (x.entries (P.n + P.m) (omega arith)) (h.empty i il)
                  (h.empty row (omega (arith, row_low)))
            ];
            closed = c;
          }
        where
          row_zero : (q b : ℤ) → b ≡ pos 0 → q *ℤ b ≡ (pos 0 *ℤ pos 0) -ℤ (q *ℤ b)
          row_zero q b e =
              ap (λ x. q *ℤ x) e ∙ (let z : q *ℤ pos 0 ≡ pos 0 = omega (arith, ints) in z)
              ∙ sym (ap (λ x. (pos 0 *ℤ pos 0) -ℤ (q *ℤ x)) e
              ∙ (let z : (pos 0 *ℤ pos 0) -ℤ (q *ℤ pos 0) ≡ pos 0 = omega (arith, ints) in z))

      -- ---- less turns are left
      pub turns_fall : (t' : Table) → IsPivoted t t' row column → IsClosed t' → t'.basis ≡ set t.basis row column
          → t'.columns ≡ t.columns → t'.limit ≡ t.limit → IsSmall t → IsSmall t' → turns_left t' < turns_left t
      turns_fall t' p c eb en el small small' =
          let h' : StandsFor P t' = turn_second t' p c eb en in
          let w : IsWithin (system_of P) t.limit (without_column P (rows_of t) P.m) = within_second P t h small in
          let w' : IsWithin (system_of P) t.limit (without_column P (rows_of t') P.m) =
          subst (λ l. IsWithin (system_of P) l (without_column P (rows_of t') P.m)) el (within_second P t' h' small') in
          let low : rank (system_of P) t.limit (without_column P (rows_of t) P.m) < rank (system_of P) t.limit
          (without_column P (rows_of t') P.m) =
          rank_rises (system_of P) t.limit (without_column P (rows_of t) P.m) (without_column P (rows_of t') P.m) w w'
          (risen t' p) in
          let high : rank (system_of P) t.limit (without_column P (rows_of t') P.m) < rank_limit (system_of P) t.limit =
          rank_below (system_of P) t.limit (without_column P (rows_of t') P.m) w' in
          let e : turns_left t ≡ rank_limit (system_of P) t.limit - rank (system_of P) t.limit
          (without_column P (rows_of t) P.m) = left_is P t h in
          let e' : turns_left t' ≡ rank_limit (system_of P) t.limit - rank (system_of P) t.limit
          (without_column P (rows_of t') P.m) =
          left_is P t' h' ∙ ap (λ l.
          rank_limit (system_of P) l - rank (system_of P) l (without_column P (rows_of t') P.m)) el in
          subst (λ x. x < turns_left t) (sym e')
          (subst (λ x. rank_limit (system_of P) t.limit - rank (system_of P) t.limit
          (without_column P (rows_of t') P.m) < x) (sym e)
          (falls (rank_limit (system_of P) t.limit) (rank (system_of P) t.limit (without_column P (rows_of t) P.m))
          (rank (system_of P) t.limit (without_column P (rows_of t') P.m)) low high))

      -- ---- a row that would be wide
      abbrev R : Matrix
      R = without_column P (rows_of t)

      next_rows : Matrix
      next_rows i k =
          cond (nat_eq i row) (without_column P (rows_of t) row k)
          ((without_column P (rows_of t) row column *ℤ without_column P (rows_of t) i k)
          -ℤ (without_column P (rows_of t) i column *ℤ without_column P (rows_of t) row k))

      next_row : (k : ℕ) → next_rows row k ≡ without_column P (rows_of t) row k
      unfolding next_rows
      next_row k = grind (arith, nat_tests)

      other_row : (i : ℕ) → i ≢ row → (k : ℕ)
          → next_rows i k ≡ (without_column P (rows_of t) row column *ℤ without_column P (rows_of t) i k)
          -ℤ (without_column P (rows_of t) i column *ℤ without_column P (rows_of t) row k)
      unfolding next_rows
      other_row i d k = grind (arith, nat_tests)

      next_turned : TurnsTo (system_of P) (columns_of t.basis) (columns_of (set t.basis row column))
      next_turned =
          (turned next_rows
          (record {
            p = pos 1;
            q = pos 1;
            p_positive = omega (arith, ints);
            q_positive = omega (arith, ints);
            same =
                λ k l. ap (λ x. pos 1 *ℤ x) (next_row k);
          })
          (λ i il d. factors_clear (suc (right (system_of P))) column (without_column P (rows_of t) i)
          (without_column P (rows_of t) row) (next_rows i) (without_column P (rows_of t) row column)
          (without_column P (rows_of t) i column)
          (omega (arith, low)) leaves.positive
          (*ℤ_comm (without_column P (rows_of t) row column) (without_column P (rows_of t) i column))
          (λ k l. other_row i d k))).0

      pub turns_on : (t' : Table) → t'.basis ≡ set t.basis row column → TurnsOn P t t'
      turns_on t' eb =
          subst (λ (b : List ℕ). TurnsTo (system_of P) (columns_of t.basis) (columns_of b)) (sym eb) next_turned

      pivotable : IsPivotableMultiple (system_of P) (own_of (system_of P) (columns_of t.basis))
          (without_column P (rows_of t)) row
      pivotable = record {
        inside = h.stands.multiples.inside;
        last = h.stands.multiples.last;
        others = λ i il d. h.stands.multiples.rows_of i il;
        along = (h.stands.multiples.rows_of row (omega (arith, row_low))).along;
      }

      module _ (limit i : ℕ) (il : i ≤ positions t) (d : i ≢ row)
          (w : IsWideCleared limit (width_of t) column (rows_of t i) (rows_of t row)) where
        im : i ≤ P.m
        im = omega (arith, h.rows_are)

        wide_zero : (c : ℕ) → c < width_of t → rows_of t i c ≡ pos 0 → rows_of t row c ≡ pos 0 → w.0 c ≡ pos 0
        wide_zero c cl a b =
            zero_stays w.1.divisor w.1.p w.1.q (w.0 c) (rows_of t i c) (rows_of t row c) w.1.divides (w.1.entries c cl)
            a b

        auxiliary_zero : w.0 (P.n + P.m) ≡ pos 0
        auxiliary_zero =
            wide_zero (P.n + P.m) (omega (arith, size_is)) (h.empty i im) (h.empty row (omega (arith, row_low)))

        spare_zero : w.0 (suc (suc (suc (P.n + P.m)))) ≡ pos 0
        spare_zero =
            let e : spare_column t.columns (positions t) ≡ suc (suc (suc (P.n + P.m))) = omega (arith, size_is) in
            subst (λ c. w.0 c ≡ pos 0) e
            (wide_zero (spare_column t.columns (positions t)) (omega arith) (h.closed.zero i il)
            (h.closed.zero row (omega (arith, h.rows_are, row_low))))

        primitive_short : IsPrimitive (suc (suc (suc (P.n + P.m)))) w.0
        primitive_short g each = w.2 g (λ k l. elim (cases_eq k (suc (suc (suc (P.n + P.m))))) [
          | inl e ↦ subst (λ v. g ∣ unsigned_abs v) (sym (ap w.0 e ∙ spare_zero)) (dvd-zero g)
          | inr o ↦ each k (omega (arith, size_is))
        ])

        wide_entry : HasWideEntry limit (system_of P) (λ k. w.0 (auxiliary_place P k))
        wide_entry =
            let over : limit < unsigned_abs (w.0 w.3.0) = w.3.2 in
            let inside : w.3.0 < width_of t = w.3.1 in
            elim (cases_lt w.3.0 (P.n + P.m)) [
              | inl l ↦ (w.3.0, omega arith, subst (λ k. limit < unsigned_abs (w.0 k)) (sym (place_low P w.3.0 l)) over)
              | inr l ↦ elim (cases_eq w.3.0 (P.n + P.m)) [
                | inl e ↦
                    absurd (let z : unsigned_abs (w.0 w.3.0) ≡ 0 =
                    ap (λ k. unsigned_abs (w.0 k)) e ∙ ap unsigned_abs auxiliary_zero in omega arith)
                | inr o ↦ elim (cases_eq w.3.0 (suc (suc (suc (P.n + P.m))))) [
                  | inl e ↦
                      absurd (let z : unsigned_abs (w.0 w.3.0) ≡ 0 =
                      ap (λ k. unsigned_abs (w.0 k)) e ∙ ap unsigned_abs spare_zero in omega arith)
                  | inr q ↦ at_high w.3.0 (omega arith) (omega (arith, size_is)) over
                ]
              ]
            ]
          where
            at_high : (c : ℕ) → P.n + P.m < c → c < suc (suc (suc (P.n + P.m))) → limit < unsigned_abs (w.0 c)
                → HasWideEntry limit (system_of P) (λ k. w.0 (auxiliary_place P k))
            at_high zero l u o = absurd (omega arith)
            at_high (suc c) l u o =
                (c, omega arith, subst (λ k. limit < unsigned_abs (w.0 k)) (sym (place_high P c (omega arith))) o)

        wide_next : IsWideIn limit (system_of P) (columns_of (set t.basis row column)) i
        wide_next =
            pivot_wide limit (system_of P) (columns_of t.basis) (columns_of (set t.basis row column))
            (without_column P (rows_of t)) row column i (λ k. w.0 (auxiliary_place P k)) (system_tagged P) pivotable
            exchange im d
            (cleared_without P column (rows_of t i) (rows_of t row) w.0 low
            (shorter (width_of t) (suc (suc (suc (P.n + P.m)))) column (rows_of t i) (rows_of t row) w.0
            (omega (arith, size_is)) w.1))
            (primitive_without P w.0 auxiliary_zero primitive_short) wide_entry

        pub wide_second : (t' : Table) → t'.basis ≡ set t.basis row column → HasRefused limit P i t t'
        wide_second t' eb =
            (turns_on t' eb, subst (λ (b : List ℕ). IsWideIn limit (system_of P) (columns_of b) i) (sym eb) wide_next)

-- ---- the ends
pub ends_optimal : (P : Program) (t : Table) → StandsFor P t
    → ((c : ℕ) → c < t.columns + positions t → pos 0 ≤ℤ rows_of t (positions t) c) → EndsIn P None t
ends_optimal P t h none k l =
    subst (λ i. pos 0 ≤ℤ rows_of t i k) h.rows_are (none k (omega (arith, h.rows_are, h.columns_are)))
