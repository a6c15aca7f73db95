-- A turn of the first phase in the explicit form, on a dictionary, is one of the path, and the kept row turns with
-- the others.
use Rattle.std.proofs.Common.{◌≡◌, ◌≢◌, ℕ, suc, ◌+◌, ◌-◌, ◌<◌, ◌≤◌, sym, refl, ap, ◌∙◌, subst, arith, inl, inr, List, length, set, cond, nat_lt, nat_eq, min, Bool, true, false}
use Rattle.std.proofs.lemmas.Bool.{cases_eq, cases_lt}
use Rattle.std.proofs.lemmas.Bool.Decides.{nat_tests}
use Rattle.std.proofs.lemmas.Int.{ints}
use Rattle.std.proofs.lemmas.List.{get_or-set_same, get_or-set_other, length-set}
use lib.IntN.{pos, ◌-ℤ◌, ◌*ℤ◌}
use lib.Signed.{◌<ℤ◌, ◌≤ℤ◌}
use Rattle.rob_algebra.specs.Integer.{*ℤ_comm}
use Rattle.rob_linear.specs.Vectors.{Vector, Matrix}
use Rattle.rob_linear.specs.Systems.{right, IsBasis}
use Rattle.rob_linear.specs.Programs.{Program, auxiliary_of, kept_of}
use Rattle.rob_linear.specs.Turns.{Enters, Leaves, IsExchange, Rises, own_of, TurnsTo}
use Rattle.rob_linear.specs.Rank.{rank, rank_limit, IsWithin}
use Rattle.rob_linear.specs.Paths.{HasAuxiliary, Reached}
use Rattle.rob_linear.specs.WideRows.{HasWideRow, NeedsAuxiliary}
use Rattle.rob_linear.specs.Multiples.{IsParallel, AreParallel, IsClearedBy, IsMultipleRow, IsPivotableMultiple, StandsMultiple}
use Rattle.rob_linear.proofs.BasisPaths.Starts.{auxiliary_tagged}
use Rattle.rob_linear.proofs.Bases.Turns.{own_low}
use Rattle.rob_linear.proofs.Bases.Unique.{own_apart}
use Rattle.rob_linear.proofs.Bases.Choices.{lex_feasible}
use Rattle.rob_linear.proofs.BasisPaths.LastBases.{auxiliary_bounded}
use Rattle.rob_linear.proofs.BasisPaths.Measure.{rank_rises, rank_below}
use Rattle.rob_linear.proofs.CostChange.WideRows.{exchange_inside}
use Rattle.rob_linear.proofs.KeptOut.BesideLoops.{beside_needs}
use Rattle.rob_linear.proofs.RowForms.Multiples.{multiple_rows_exist, rows_parallel, unbounded_parallel, factors_clear, pivot_wide, multiple_turn}
use Rattle.rob_linear.proofs.RowForms.MultiplePhases.{kept_multiple}
use Rattle.rob_entries.specs.Updates.{IsWideCleared}
use Rattle.rob_simplex.specs.Dictionaries.{Table, positions, width_of, columns_of, basic_columns, spare_column, shape, rows_of, kept_row_of, IsFree, IsClosed, IsPivoted, FirstNegative}
use Rattle.rob_simplex.specs.Pivots.{KeepsSpare}
use Rattle.rob_simplex.specs.Explicit.{HoldsExplicit, HasTurnedExplicit, FollowsFirst, StopsFirst, turn_after, turns_left_explicit}
use Rattle.rob_simplex.proofs.Rows.ReadRows.{basic_low, basic_high}
use Rattle.rob_simplex.proofs.Turns.SpareColumns.{wide_cleared, wide_primitive, wide_entry}
use Rattle.rob_simplex.proofs.Pivoting.PivotLemmas.{zero_stays}
use Rattle.rob_simplex.proofs.Turns.Ranks.{explicit_positive, explicit_within, explicit_left_is, IsSmall, falls, shorter}

-- ---- a basis of the explicit form
module _ {P : Program} {t : Table} (h : HoldsExplicit P t) where
  pub kept_spare : KeepsSpare t
  kept_spare =
      let e : spare_column P.n P.m ≡ spare_column t.columns (positions t) = omega (arith, h.rows_are, h.columns_are) in
      subst (λ k. kept_row_of t k ≡ pos 0) e h.kept_zero

  size_is : t.columns + positions t ≡ P.n + P.m
  size_is = omega (arith, h.rows_are, h.columns_are)

  own_is : (i : ℕ) → i < P.m → own_of (auxiliary_of P) (columns_of t.basis) i ≡ columns_of t.basis i
  own_is i l = own_low (auxiliary_of P) (columns_of t.basis) i l

  -- the objective's row is 0 in the basic columns
  basic_zero : (i : ℕ) → i < P.m → rows_of t P.m (columns_of t.basis i) ≡ pos 0
  basic_zero i l =
      ap (rows_of t P.m) (sym (own_is i l))
      ∙ (h.stands.multiples.rows_of P.m (omega arith)).along.zeros i (omega arith) (λ e. absurd (omega arith))

  pub explicit_own : pos 0 ≤ℤ rows_of t (positions t) (basic_columns t.columns t.basis (positions t))
  explicit_own =
      let e : basic_columns t.columns t.basis (positions t) ≡ suc (P.n + P.m) =
      basic_high t.columns t.basis (positions t) (omega arith) ∙ ap suc size_is in
      let p : pos 0 <ℤ rows_of t P.m (suc (P.n + P.m)) = explicit_positive P t h in
      let q : pos 0 ≤ℤ rows_of t P.m (suc (P.n + P.m)) = omega (arith, ints) in
      subst (λ i. pos 0 ≤ℤ rows_of t i (basic_columns t.columns t.basis (positions t))) (sym h.rows_are)
      (subst (λ k. pos 0 ≤ℤ rows_of t P.m k) (sym e) q)

  module _ {column : ℕ} (first' : FirstNegative (t.columns + positions t) (rows_of t (positions t)) column) where
    first : FirstNegative (P.n + P.m) (rows_of t P.m) column
    first =
        subst (λ k. FirstNegative k (rows_of t P.m) column) size_is
        (subst (λ i. FirstNegative (t.columns + positions t) (rows_of t i) column) h.rows_are first')

    low : column < P.n + P.m
    low = first.inside

    pub explicit_free : IsFree t.columns t.basis column
    explicit_free = record {
      inside = omega (arith, size_is, low);
      not_basic = λ i il e. elim (cases_lt i (positions t)) [
        | inl l ↦
            let z : rows_of t P.m column ≡ pos 0 =
            ap (rows_of t P.m) (sym e ∙ basic_low t.columns t.basis i l) ∙ basic_zero i (omega (arith, h.rows_are)) in
            let n : rows_of t P.m column <ℤ pos 0 = first.negative in
            omega (arith, ints)
        | inr l ↦
            let x : suc (t.columns + positions t) ≡ column = sym (basic_high t.columns t.basis i l) ∙ e in
            omega (arith, size_is, low)
      ];
      not_right = λ e. absurd (omega (arith, size_is, low));
    }

    pub explicit_not_spare : column ≢ spare_column t.columns (positions t)
    explicit_not_spare e = absurd (omega (arith, size_is, low))

    enters : Enters (auxiliary_of P) (rows_of t) column
    enters = record { inside = omega (arith, low); improving = first.negative; first = first.first }

    -- the auxiliary form is never unbounded
    pub explicit_bounded : ((i : ℕ) → i < positions t → rows_of t i column ≤ℤ pos 0) → ⊥
    explicit_bounded none =
        let b : (prim : Matrix) × IsBasis (auxiliary_of P) (own_of (auxiliary_of P) (columns_of t.basis)) prim =
        multiple_rows_exist (auxiliary_of P) (own_of (auxiliary_of P) (columns_of t.basis)) (rows_of t)
        (auxiliary_tagged P) h.stands.multiples in
        let par : AreParallel (auxiliary_of P) (rows_of t) b.0 =
        rows_parallel (auxiliary_of P) (own_of (auxiliary_of P) (columns_of t.basis)) b.0 (rows_of t) b.1
        h.stands.multiples in
        auxiliary_bounded P (own_of (auxiliary_of P) (columns_of t.basis)) b.0 column b.1
        (unbounded_parallel (auxiliary_of P) (own_of (auxiliary_of P) (columns_of t.basis)) (rows_of t) b.0 column par
        record {
          feasible = lex_feasible (auxiliary_of P) (rows_of t) h.stands.feasible;
          inside = omega (arith, low);
          improving = first.negative;
          no_limit = λ i il. none i (omega (arith, h.rows_are));
        })

    module _ {row : ℕ} (leaves' : Leaves (shape t.columns (positions t)) (rows_of t) column row) where
      leaves : Leaves (auxiliary_of P) (rows_of t) column row
      leaves =
          let l : Leaves (shape P.n P.m) (rows_of t) column row =
          subst (λ n. Leaves (shape n P.m) (rows_of t) column row) h.columns_are
          (subst (λ m. Leaves (shape t.columns m) (rows_of t) column row) h.rows_are leaves') in
          record { inside = l.inside; positive = l.positive; first = l.first }

      row_low : row < P.m
      row_low = leaves.inside

      next_at : columns_of (set t.basis row column) row ≡ column
      next_at = get_or-set_same t.basis row column 0 (omega (arith, h.rows_are, row_low))

      next_other : (i : ℕ) → i ≢ row → columns_of (set t.basis row column) i ≡ columns_of t.basis i
      next_other i d = get_or-set_other t.basis row i column 0 d

      own_next : (i : ℕ) → i ≢ row
          → own_of (auxiliary_of P) (columns_of (set t.basis row column)) i ≡ own_of (auxiliary_of P)
          (columns_of t.basis) i
      own_next i d = ap (λ k. cond (nat_lt i P.m) k (suc (P.n + P.m))) (next_other i d)

      own_at : own_of (auxiliary_of P) (columns_of (set t.basis row column)) row ≡ column
      own_at = own_low (auxiliary_of P) (columns_of (set t.basis row column)) row row_low ∙ next_at

      exchange : IsExchange (auxiliary_of P) (own_of (auxiliary_of P) (columns_of t.basis))
          (own_of (auxiliary_of P) (columns_of (set t.basis row column))) (rows_of t) row column
      exchange =
          record {
            row_in = row_low;
            col_in = omega (arith, low);
            entry = leaves.positive;
            own_at = own_at;
            own_other =
                own_next;
          }

      abbrev IsNext : Matrix → Type 0
      IsNext rows' =
          TurnsTo (auxiliary_of P) (columns_of t.basis) (columns_of (set t.basis row column))
          × StandsMultiple (auxiliary_of P) (columns_of (set t.basis row column)) rows'
          × Rises (auxiliary_of P) (rows_of t P.m) (rows' P.m)

      turned : (rows' : Matrix) → IsParallel (suc (right (auxiliary_of P))) (rows' row) (rows_of t row)
          → ((i : ℕ) → i ≤ P.m → i ≢ row
          → IsClearedBy (suc (right (auxiliary_of P))) column (rows_of t i) (rows_of t row) (rows' i)) → IsNext rows'
      turned rows' row_at row_other =
          multiple_turn (auxiliary_of P) (columns_of t.basis) (columns_of (set t.basis row column)) (rows_of t) rows'
          row column (auxiliary_tagged P) h.stands enters leaves
          (record { exchange = exchange; row_at = row_at; row_other = row_other })

      -- ---- whether the auxiliary column has left
      pub explicit_left : columns_of t.basis row ≡ P.n + P.m → ¬ (HasAuxiliary P (columns_of (set t.basis row column)))
      explicit_left e a = elim (cases_eq a.0 row) [
        | inl c ↦
            let x : P.n + P.m ≡ column = a.2 ∙ ap (columns_of (set t.basis row column)) c ∙ next_at in
            absurd (omega (arith, low))
        | inr d ↦
            let b : (prim : Matrix) × IsBasis (auxiliary_of P) (own_of (auxiliary_of P) (columns_of t.basis)) prim =
            multiple_rows_exist (auxiliary_of P) (own_of (auxiliary_of P) (columns_of t.basis)) (rows_of t)
            (auxiliary_tagged P) h.stands.multiples in
            let o : own_of (auxiliary_of P) (columns_of t.basis) a.0 ≡ own_of (auxiliary_of P) (columns_of t.basis)
            row =
            own_is a.0 a.1 ∙ sym (next_other a.0 d) ∙ sym a.2 ∙ sym e ∙ sym (own_is row row_low) in
            let al : a.0 < P.m = a.1 in
            d (own_apart (auxiliary_of P) (own_of (auxiliary_of P) (columns_of t.basis)) b.0 b.1 a.0 row (omega arith)
            (omega (arith, row_low)) o)
      ]

      pub explicit_stays : columns_of t.basis row ≢ P.n + P.m → HasAuxiliary P (columns_of t.basis)
          → HasAuxiliary P (columns_of (set t.basis row column))
      explicit_stays d a = (a.0, a.1, a.2 ∙ sym (next_other a.0 (λ c. d (ap (columns_of t.basis) (sym c) ∙ sym a.2))))

      -- ---- the dictionary after the turn
      width_is : width_of t ≡ suc (suc (suc (suc (P.n + P.m))))
      width_is = omega (arith, size_is)

      shorter_row : (lower new : Vector) → IsClearedBy (width_of t) column lower (rows_of t row) new
          → IsClearedBy (suc (suc (suc (P.n + P.m)))) column lower (rows_of t row) new
      shorter_row lower new c =
          shorter (width_of t) (suc (suc (suc (P.n + P.m)))) column lower (rows_of t row) new (omega (arith, width_is))
          c

      row_zero : rows_of t row (spare_column P.n P.m) ≡ pos 0
      row_zero =
          let e : spare_column t.columns (positions t) ≡ spare_column P.n P.m = omega (arith, size_is) in
          subst (λ k. rows_of t row k ≡ pos 0) e (h.closed.zero row (omega (arith, h.rows_are, row_low)))

      module _ (t' : Table) (p : IsPivoted t t' row column) where
        next : IsNext (rows_of t')
        next = turned (rows_of t')
            (record {
              p = p.row_at.p;
              q = p.row_at.q;
              p_positive = p.row_at.p_positive;
              q_positive =
                  p.row_at.q_positive;
              same = λ k l. p.row_at.same k (omega (arith, width_is));
            })
            (λ i il d. shorter_row (rows_of t i) (rows_of t' i) (p.row_other i (omega (arith, h.rows_are)) d))

        module _ (c : IsClosed t')
            (k : IsClearedBy (width_of t) column (kept_row_of t) (rows_of t row) (kept_row_of t'))
            (eb : t'.basis ≡ set t.basis row column) (en : t'.columns ≡ t.columns)
            (a : HasAuxiliary P (columns_of t.basis)) where
          pub turn_explicit : HoldsExplicit P t'
          turn_explicit = record {
            rows_are = ap length eb ∙ length-set t.basis row column ∙ h.rows_are;
            columns_are = en ∙ h.columns_are;
            reached =
                subst (λ (b : List ℕ). Reached P (columns_of b)) (sym eb)
                (suc h.reached.0, (columns_of t.basis, h.reached.1, inl (a, next.0)));
            stands =
                subst (λ (b : List ℕ). StandsMultiple (auxiliary_of P) (columns_of b) (rows_of t')) (sym eb) next.1;
            kept =
                subst (λ (b : List ℕ). IsMultipleRow (kept_of P) (own_of (kept_of P) (columns_of b)) P.m
                (kept_row_of t')) (sym eb)
                (kept_multiple P (own_of (auxiliary_of P) (columns_of t.basis))
                (own_of (auxiliary_of P) (columns_of (set t.basis row column))) (rows_of t) (kept_row_of t)
                (kept_row_of t') row column h.stands.multiples h.kept row_low own_at own_next
                (shorter_row (kept_row_of t) (kept_row_of t') k));
            closed = c;
            kept_zero =
                zero_stays k.divisor k.p k.q (kept_row_of t' (spare_column P.n P.m))
                (kept_row_of t (spare_column P.n P.m)) (rows_of t row (spare_column P.n P.m)) k.divides
                (k.entries (spare_column P.n P.m) (omega (arith, width_is))) h.kept_zero row_zero;
          }

          pub explicit_falls : t'.limit ≡ t.limit → IsSmall t → IsSmall t'
              → turns_left_explicit t' < turns_left_explicit t
          explicit_falls el small small' =
              let h' : HoldsExplicit P t' = turn_explicit in
              let w : IsWithin (auxiliary_of P) t.limit (rows_of t P.m) = explicit_within P t h small in
              let w' : IsWithin (auxiliary_of P) t.limit (rows_of t' P.m) =
              subst (λ l. IsWithin (auxiliary_of P) l (rows_of t' P.m)) el (explicit_within P t' h' small') in
              let up : rank (auxiliary_of P) t.limit (rows_of t P.m) < rank (auxiliary_of P) t.limit (rows_of t' P.m) =
              rank_rises (auxiliary_of P) t.limit (rows_of t P.m) (rows_of t' P.m) w w' next.2 in
              let high : rank (auxiliary_of P) t.limit (rows_of t' P.m) < rank_limit (auxiliary_of P) t.limit =
              rank_below (auxiliary_of P) t.limit (rows_of t' P.m) w' in
              let e' : turns_left_explicit t' ≡ rank_limit (auxiliary_of P) t.limit - rank (auxiliary_of P) t.limit
              (rows_of t' P.m) =
              explicit_left_is P t' h'
              ∙ ap (λ l. rank_limit (auxiliary_of P) l - rank (auxiliary_of P) l (rows_of t' P.m)) el in
              subst (λ x. x < turns_left_explicit t) (sym e')
              (subst (λ x. rank_limit (auxiliary_of P) t.limit - rank (auxiliary_of P) t.limit (rows_of t' P.m) < x)
              (sym (explicit_left_is P t h))
              (falls (rank_limit (auxiliary_of P) t.limit) (rank (auxiliary_of P) t.limit (rows_of t P.m))
              (rank (auxiliary_of P) t.limit (rows_of t' P.m)) up high))

          pub explicit_turned : t'.limit ≡ t.limit → IsSmall t → IsSmall t' → (b : Bool)
              → (b ≡ true → columns_of t.basis row ≡ P.n + P.m) → (b ≡ false → columns_of t.basis row ≢ P.n + P.m)
              → HasTurnedExplicit P (turn_after b) t t'
          explicit_turned el small small' true gone stays = (
            turn_explicit,
            subst (λ (b : List ℕ). ¬ (HasAuxiliary P (columns_of b))) (sym eb)
                (explicit_left (gone refl)),
          )
          explicit_turned el small small' false gone stays = (
            record {
              holds = turn_explicit;
              auxiliary =
                  subst (λ (b : List ℕ). HasAuxiliary P (columns_of b)) (sym eb) (explicit_stays (stays refl) a);
            },
            explicit_falls el small small',
          )

      -- ---- a row that would be wide
      next_rows : Matrix
      next_rows i k =
          cond (nat_eq i row) (rows_of t row k)
          ((rows_of t row column *ℤ rows_of t i k) -ℤ (rows_of t i column *ℤ rows_of t row k))

      next_row : (k : ℕ) → next_rows row k ≡ rows_of t row k
      unfolding next_rows
      next_row k = grind (arith, nat_tests)

      other_row : (i : ℕ) → i ≢ row → (k : ℕ)
          → next_rows i k ≡ (rows_of t row column *ℤ rows_of t i k) -ℤ (rows_of t i column *ℤ rows_of t row k)
      unfolding next_rows
      other_row i d k = grind (arith, nat_tests)

      turn_exists : IsNext next_rows
      turn_exists =
          turned next_rows
          (record {
            p = pos 1;
            q = pos 1;
            p_positive = omega (arith, ints);
            q_positive = omega (arith, ints);
            same =
                λ k l. ap (λ x. pos 1 *ℤ x) (next_row k);
          })
          (λ i il d. factors_clear (suc (right (auxiliary_of P))) column (rows_of t i) (rows_of t row) (next_rows i)
          (rows_of t row column) (rows_of t i column)
          (omega (arith, low)) leaves.positive (*ℤ_comm (rows_of t row column) (rows_of t i column))
          (λ k l. other_row i d k))

      pivotable : IsPivotableMultiple (auxiliary_of P) (own_of (auxiliary_of P) (columns_of t.basis)) (rows_of t) row
      pivotable = record {
        inside = h.stands.multiples.inside;
        last = h.stands.multiples.last;
        others = λ i il d. h.stands.multiples.rows_of i il;
        along = (h.stands.multiples.rows_of row (omega (arith, row_low))).along;
      }

      module _ (limit : ℕ) (a : HasAuxiliary P (columns_of t.basis)) where
        next_reached : Reached P (columns_of (set t.basis row column))
        next_reached = (suc h.reached.0, (columns_of t.basis, h.reached.1, inl (a, turn_exists.0)))

        needs : NeedsAuxiliary P
        needs = beside_needs P (columns_of t.basis) h.reached a

        explicit_wide : (i : ℕ) → i ≤ P.m → i ≢ row
            → IsWideCleared limit (width_of t) column (rows_of t i) (rows_of t row)
            → HasWideRow limit P (columns_of (set t.basis row column)) i
        explicit_wide i il d w =
            let e : spare_column t.columns (positions t) ≡ spare_column P.n P.m = omega (arith, size_is) in
            let z : rows_of t i (spare_column P.n P.m) ≡ pos 0 =
            subst (λ k. rows_of t i k ≡ pos 0) e (h.closed.zero i (omega (arith, h.rows_are))) in
            record {
              reached = next_reached;
              wide = inr (inr (
                needs,
                inl (
                    pivot_wide limit (auxiliary_of P) (columns_of t.basis) (columns_of (set t.basis row column))
                    (rows_of t) row column i w.0 (auxiliary_tagged P) pivotable exchange il d
                    (wide_cleared limit P.n P.m (width_of t) column (rows_of t i) (rows_of t row) width_is w z row_zero)
                    (wide_primitive limit P.n P.m (width_of t) column (rows_of t i) (rows_of t row) width_is w z
                    row_zero)
                    (wide_entry limit P.n P.m (width_of t) column (rows_of t i) (rows_of t row) width_is w z row_zero)),
              ));
            }

        explicit_wide_kept : IsWideCleared limit (width_of t) column (kept_row_of t) (rows_of t row)
            → HasWideRow limit P (columns_of (set t.basis row column)) P.m
        explicit_wide_kept w =
            let m : IsMultipleRow (kept_of P) (own_of (kept_of P) (columns_of (set t.basis row column))) P.m w.0 =
            kept_multiple P (own_of (auxiliary_of P) (columns_of t.basis))
            (own_of (auxiliary_of P) (columns_of (set t.basis row column))) (rows_of t) (kept_row_of t) w.0 row column
            h.stands.multiples h.kept row_low own_at own_next
            (wide_cleared limit P.n P.m (width_of t) column (kept_row_of t) (rows_of t row) width_is w h.kept_zero
            row_zero) in
            record {
              reached = next_reached;
              wide = inr (inr (
                needs,
                inr (
                  w.0,
                  exchange_inside (auxiliary_of P) (own_of (auxiliary_of P) (columns_of t.basis))
                      (columns_of (set t.basis row column)) (rows_of t) row column h.stands.multiples.inside exchange,
                  record {
                    along = m.along;
                    positive = m.positive;
                    primitive =
                        wide_primitive limit P.n P.m (width_of t) column (kept_row_of t) (rows_of t row) width_is w
                        h.kept_zero row_zero;
                  },
                  wide_entry limit P.n P.m (width_of t) column (kept_row_of t) (rows_of t row) width_is w h.kept_zero
                      row_zero,
                ),
              ));
            }

        refused_row : (i : ℕ) → i < positions t + 2 → i ≢ row
            → (i ≤ positions t → IsWideCleared limit (width_of t) column (rows_of t i) (rows_of t row))
            → (i ≡ suc (positions t) → IsWideCleared limit (width_of t) column (kept_row_of t) (rows_of t row))
            → HasWideRow limit P (columns_of (set t.basis row column)) (min i (positions t))
        refused_row i il d w k = elim (cases_eq i (suc (positions t))) [
          | inl e ↦
              subst (λ v. HasWideRow limit P (columns_of (set t.basis row column)) v)
              (let x : P.m ≡ min i (positions t) = omega (arith, h.rows_are) in x) (explicit_wide_kept (k e))
          | inr o ↦
              subst (λ v. HasWideRow limit P (columns_of (set t.basis row column)) v)
              (let x : i ≡ min i (positions t) = omega (arith, h.rows_are) in x)
              (explicit_wide i (omega (arith, h.rows_are)) d (w (omega arith)))
        ]

        follows : FollowsFirst P (columns_of (set t.basis row column))
        follows = (columns_of t.basis, h.reached, a, turn_exists.0)

        pub explicit_refused : (i : ℕ) → i < positions t + 2 → i ≢ row
            → (i ≤ positions t → IsWideCleared limit (width_of t) column (rows_of t i) (rows_of t row))
            → (i ≡ suc (positions t) → IsWideCleared limit (width_of t) column (kept_row_of t) (rows_of t row))
            → StopsFirst limit P (columns_of (set t.basis row column)) (min i (positions t))
        explicit_refused i il d w k = record { row = refused_row i il d w k; phase = inr follows }
