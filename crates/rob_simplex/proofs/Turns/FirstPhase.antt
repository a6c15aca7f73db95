-- A turn of the first phase beside the auxiliary column on a dictionary is one of the path.
use Rattle.std.proofs.Common.{◌≡◌, ◌≢◌, ℕ, suc, ◌+◌, ◌<◌, ◌≤◌, sym, ap, ◌∙◌, subst, arith, inl, inr, List, length, set, cond, nat_eq, ◌-◌}
use Rattle.std.specs.Prelude.{nat_abs}
use Rattle.std.proofs.lemmas.Bool.{cases_eq}
use Rattle.std.proofs.lemmas.Int.{ints}
use Rattle.std.proofs.lemmas.List.{length-set}
use lib.IntN.{ℤ, pos, ◌*ℤ◌, neg_ℤ}
use lib.Signed.{◌<ℤ◌}
use Rattle.rob_linear.specs.Programs.{Program, system_of, kept_of, auxiliary_of}
use Rattle.rob_linear.specs.Turns.{own_of, IsSameBasis}
use Rattle.rob_linear.specs.Paths.{Turned}
use Rattle.rob_linear.specs.Multiples.{IsParallel, IsClearedBy, HasMultipleRows, put_at}
use Rattle.rob_linear.specs.Beside.{HoldsBeside, EntersBeside, IsBesidePivot, IsBegun, IsLeast, HasNoLeast, exchanged, swapped, turned_columns, path_basis, without_column, beside_objective}
use Rattle.rob_linear.specs.Rank.{rank, rank_limit, IsWithin}
use Rattle.rob_linear.proofs.KeptOut.Beside.{put_same, put_other}
use Rattle.rob_linear.proofs.KeptOut.BesideColumns.{multiples_same, stands_multiple_same, holds_turn, holds_leaves, holds_stands}
use Rattle.rob_linear.proofs.KeptOut.BesideLoops.{beside_within, beside_rank}
use Rattle.rob_linear.proofs.BasisPaths.Measure.{rank_below}
use Rattle.rob_linear.proofs.RowForms.MultipleNumbers.{rank_parallel}
use Rattle.rob_linear.proofs.BasisPaths.Starts.{auxiliary_tagged}
use Rattle.rob_linear.proofs.KeptOut.BesidePaths.{exchanged_in, exchanged_low, exchanged_q}
use Rattle.rob_linear.proofs.RowForms.Multiples.{multiple_parallel, multiples_in}
use Rattle.rob_linear.proofs.CostChange.OtherCosts.{turned_same}
use Rattle.rob_linear.proofs.Bases.Solutions.{tags_in}
use Rattle.rob_linear.proofs.Bases.Turns.{own_same}
use Rattle.rob_linear.proofs.BasisPaths.TwoPhases.{kept_tagged}
use Rattle.rob_simplex.specs.Dictionaries.{Table, positions, width_of, columns_of, spare_column, shape, rows_of, IsFree, IsClosed, IsPivoted, IsBegunPivot, FirstNegative}
use Rattle.rob_simplex.specs.Phases.{InBeside, HasLeft, IsOpenBeside, rank_left_beside, turns_left_beside}
use Rattle.rob_simplex.specs.LeastRows.{IsLeastIn, HasNoLeastIn}
use Rattle.rob_simplex.proofs.Turns.BesideRows.{size_is, q_low, q_in, negative_free}
use Rattle.rob_simplex.proofs.Turns.NegatedRows.{cleared_negated, set_is}
use Rattle.rob_simplex.proofs.Turns.Ranks.{IsSmall, falls}

module _ {P : Program} {q : ℕ} {t : Table} (h : InBeside P q t) where
  module _ {column : ℕ} (first' : FirstNegative (t.columns + positions t) (rows_of t q) column) where
    first : FirstNegative (P.n + P.m) (rows_of t q) column
    first = subst (λ k. FirstNegative k (rows_of t q) column) (size_is h) first'

    low : column < P.n + P.m
    low = first.inside

    enters : EntersBeside P q (rows_of t) column
    enters = record { inside = low; improving = first.negative; first = first.first }

    pub column_free : IsFree t.columns t.basis column
    column_free = negative_free h column (omega (arith, low)) first.negative

    -- ---- row q negated
    module _ (r : Table) (rb : r.basis ≡ t.basis) (rn : r.columns ≡ t.columns)
        (rr : (c : ℕ) → rows_of r q c ≡ neg_ℤ (rows_of t q c))
        (ro : (i c : ℕ) → i ≤ positions t → i ≢ q → rows_of r i c ≡ rows_of t i c) where
      rm : positions r ≡ positions t
      rm = ap length rb

      width_is : width_of r ≡ suc (suc (suc (suc (P.n + P.m))))
      width_is = omega (arith, size_is h, rm, rn)

      pub negated_free : IsFree r.columns r.basis column
      negated_free =
          subst (λ n. IsFree n r.basis column) (sym rn)
          (subst (λ (b : List ℕ). IsFree t.columns b column) (sym rb) column_free)

      pub negated_positive : pos 0 <ℤ rows_of r q column
      negated_positive =
          subst (λ z. pos 0 <ℤ z) (sym (rr column))
          (let n : rows_of t q column <ℤ pos 0 = first.negative in omega (arith, ints))

      pub negated_closed : IsClosed r
      negated_closed =
          let e : spare_column r.columns (positions r) ≡ spare_column t.columns (positions t) = omega (arith, rm, rn) in
          record {
            free = λ i l x. h.closed.free i (omega (arith, rm)) (ap (λ (b : List ℕ). columns_of b i) (sym rb) ∙ x ∙ e);
            zero = λ i l. ap (rows_of r i) e ∙ zero_at i (omega (arith, rm));
          }
        where
          zero_at : (i : ℕ) → i ≤ positions t → rows_of r i (spare_column t.columns (positions t)) ≡ pos 0
          zero_at i l = elim (cases_eq i q) [
            | inl e ↦ ap (λ k. rows_of r k (spare_column t.columns (positions t))) e
                ∙ rr (spare_column t.columns (positions t)) ∙ ap neg_ℤ (h.closed.zero q (omega (arith, q_in h)))
            | inr d ↦ ro i (spare_column t.columns (positions t)) l d ∙ h.closed.zero i l
          ]

      row_negated : (new : ℕ → ℤ) → IsParallel (width_of r) new (rows_of r q)
          → IsParallel (suc (suc (suc (P.n + P.m)))) new (λ k. neg_ℤ (rows_of t q k))
      row_negated new p = record {
        p = p.p;
        q = p.q;
        p_positive = p.p_positive;
        q_positive = p.q_positive;
        same = λ k l. p.same k (omega (arith, width_is)) ∙ ap (λ z. p.q *ℤ z) (rr k);
      }

      other_negated : (i : ℕ) (new : ℕ → ℤ) → i ≤ P.m → i ≢ q
          → IsClearedBy (width_of r) column (rows_of r i) (rows_of r q) new
          → IsClearedBy (suc (suc (suc (P.n + P.m)))) column (rows_of t i) (rows_of t q) new
      other_negated i new il d c =
          cleared_negated (width_of r) (suc (suc (suc (P.n + P.m)))) column (rows_of r i) (rows_of t i) (rows_of r q)
          (rows_of t q) new (omega (arith, width_is)) (λ k. ro i k (omega (arith, h.rows_are)) d) rr c

      -- a pivot that was begun
      pub begun_beside : (t' : Table) → IsBegunPivot r t' q column → IsBegun P q column (rows_of t) (rows_of t')
      begun_beside t' b = record {
        inside = low;
        row_at = row_negated (rows_of t' q) b.row_at;
        row_other = λ i il d. elim (b.row_other i (omega (arith, rm, h.rows_are)) d) [
          | inl s ↦ inl (record {
            p = pos 1;
            q = pos 1;
            p_positive = omega (arith, ints);
            q_positive = omega (arith, ints);
            same =
                λ k l. ap (λ z. pos 1 *ℤ z)
                (sym (s k (omega (arith, width_is)) ∙ ro i k (omega (arith, h.rows_are)) d));
          })
          | inr c ↦ inr (other_negated i (rows_of t' i) il d c)
        ];
      }

      pub open_beside : (t' : Table) → IsBegunPivot r t' q column → t'.columns ≡ r.columns → IsOpenBeside P q t'
      open_beside t' b en =
          let e : spare_column r.columns (positions r) ≡ spare_column P.n P.m = omega (arith, size_is h, rm, rn) in
          record {
            before = t;
            stood = h;
            column = column;
            begun = begun_beside t' b;
            basis = b.basis ∙ ap (λ k. set r.basis q k) e ∙ ap (λ (x : List ℕ). set x q (spare_column P.n P.m)) rb;
            columns_are = en ∙ rn ∙ h.columns_are;
            opened = b.opened;
            zero = λ i l. ap (rows_of t' i) (sym e) ∙ b.zero i (omega (arith, rm, h.rows_are));
          }

      module _ (t' : Table) (p : IsPivoted r t' q column) (c' : IsClosed t') (eb : t'.basis ≡ set r.basis q column)
          (en : t'.columns ≡ r.columns) where
        beside_pivot : IsBesidePivot P q column (rows_of t) (rows_of t')
        beside_pivot = record {
          row_at = row_negated (rows_of t' q) p.row_at;
          row_other = λ i il d. other_negated i (rows_of t' i) il d (p.row_other i (omega (arith, rm, h.rows_are)) d);
        }

        pub rows_after : positions t' ≡ P.m
        rows_after = ap length eb ∙ length-set r.basis q column ∙ rm ∙ h.rows_are

        pub columns_after : t'.columns ≡ P.n
        columns_after = en ∙ rn ∙ h.columns_are

        basis_after : (i : ℕ) → columns_of t'.basis i ≡ put_at (columns_of t.basis) q column i
        basis_after i =
            ap (λ (b : List ℕ). columns_of b i) (eb ∙ ap (λ (b : List ℕ). set b q column) rb)
            ∙ set_is t.basis q column i (q_in h)

        -- the auxiliary column leaves
        pub leaves_beside : HasNoLeastIn t' → HasLeft P t'
        leaves_beside none' =
            let none : HasNoLeast (shape P.n P.m) (P.n + P.m) (rows_of t') =
            subst (λ n. HasNoLeast (shape n P.m) (n + P.m) (rows_of t')) columns_after
            (subst (λ m. HasNoLeast (shape t'.columns m) (t'.columns + m) (rows_of t')) rows_after none') in
            let x =
            holds_leaves P h.reached.0 (columns_of t.basis) q column (rows_of t) (rows_of t') h.reached.1 h.holds enters
            beside_pivot none in
            record {
              rows_are = rows_after;
              columns_are = columns_after;
              reached = (
                suc h.reached.0,
                turned_same P (suc h.reached.0) (put_at (columns_of t.basis) q column)
                    (columns_of t'.basis) (λ i l. sym (basis_after i)) x.0,
              );
              without = λ a. x.1 (a.0, a.1, a.2 ∙ basis_after a.0);
              stands =
                  stands_multiple_same (system_of P) (put_at (columns_of t.basis) q column) (columns_of t'.basis)
                  (without_column P (rows_of t')) (λ i l. sym (basis_after i)) x.2;
              closed = c';
            }

        -- it stays in: the least row comes to position q
        module _ (least : ℕ) (found' : IsLeastIn t' least) (t'' : Table)
            (rx : (i c : ℕ) → i ≤ positions t' → c < width_of t' → rows_of t'' i c ≡ rows_of t' (exchanged q least i) c)
            (bx : (i : ℕ) → columns_of t''.basis i ≡ columns_of t'.basis (exchanged q least i))
            (mx : positions t'' ≡ positions t') (nx : t''.columns ≡ t'.columns) where
          found : IsLeast (shape P.n P.m) (P.n + P.m) (rows_of t') least
          found =
              subst (λ n. IsLeast (shape n P.m) (n + P.m) (rows_of t') least) columns_after
              (subst (λ m. IsLeast (shape t'.columns m) (t'.columns + m) (rows_of t') least) rows_after found')

          least_in : IsLeast (auxiliary_of P) (P.n + P.m) (rows_of t') least
          least_in =
              record { inside = found.inside; below = found.below; negative = found.negative; first = found.first }

          turn : Turned P (suc h.reached.0) (path_basis P (turned_columns (columns_of t.basis) q least column) q)
              × HoldsBeside P (turned_columns (columns_of t.basis) q least column) q (swapped q least (rows_of t'))
          turn =
              holds_turn P h.reached.0 (columns_of t.basis) q column least (rows_of t) (rows_of t') h.reached.1 h.holds
              enters beside_pivot least_in

          basis_swapped : (i : ℕ) → columns_of t''.basis i ≡ turned_columns (columns_of t.basis) q least column i
          basis_swapped i = bx i ∙ basis_after (exchanged q least i)

          same_path : IsSameBasis P.m (path_basis P (turned_columns (columns_of t.basis) q least column) q)
              (path_basis P (columns_of t''.basis) q)
          same_path i l = elim (cases_eq i q) [
            | inl e ↦
                ap (path_basis P (turned_columns (columns_of t.basis) q least column) q) e
                ∙ put_same (turned_columns (columns_of t.basis) q least column) q (P.n + P.m)
                ∙ sym (ap (path_basis P (columns_of t''.basis) q) e ∙ put_same (columns_of t''.basis) q (P.n + P.m))
            | inr d ↦
                put_other (turned_columns (columns_of t.basis) q least column) q (P.n + P.m) i d ∙ sym (basis_swapped i)
                ∙ sym (put_other (columns_of t''.basis) q (P.n + P.m) i d)
          ]

          row_same : (i k : ℕ) → i ≤ P.m → k < suc (suc (suc (P.n + P.m)))
              → rows_of t'' i k ≡ swapped q least (rows_of t') i k
          row_same i k il kl = rx i k (omega (arith, rows_after)) (omega (arith, rows_after, columns_after))

          multiples_after : HasMultipleRows (kept_of P)
              (own_of (kept_of P) (turned_columns (columns_of t.basis) q least column)) (rows_of t'')
          multiples_after =
              let m = turn.1.multiples in
              record {
                inside = m.inside;
                last = m.last;
                rows_of =
                    λ i il. multiple_parallel (kept_of P)
                    (own_of (kept_of P) (turned_columns (columns_of t.basis) q least column)) i
                    (swapped q least (rows_of t') i) (rows_of t'' i) (tags_in (kept_of P) (kept_tagged P))
                    (multiples_in (kept_of P) (own_of (kept_of P) (turned_columns (columns_of t.basis) q least column))
                    (swapped q least (rows_of t')) m) il
                    (record {
                      p = pos 1;
                      q = pos 1;
                      p_positive = omega (arith, ints);
                      q_positive =
                          omega (arith, ints);
                      same = λ k kl. ap (λ z. pos 1 *ℤ z) (sym (row_same i k il kl));
                    })
                    (m.rows_of i il);
              }

          closed_swapped : IsClosed t''
          closed_swapped =
              let e : spare_column t''.columns (positions t'') ≡ spare_column t'.columns (positions t') =
              omega (arith, mx, nx) in
              let ql : q < positions t' = omega (arith, rows_after, q_low h) in
              let ll : least < positions t' = omega (arith, rows_after, found.inside) in
              record {
                free =
                    λ i l x. c'.free (exchanged q least i)
                    (exchanged_low q least i (positions t') ql ll (omega (arith, mx))) (sym (bx i) ∙ x ∙ e);
                zero = λ i l.
                    ap (rows_of t'' i) e ∙ rx i (spare_column t'.columns (positions t')) (omega (arith, mx))
                    (omega arith)
                    ∙ c'.zero (exchanged q least i)
                    (exchanged_in q least i (positions t') (omega arith) (omega arith) (omega (arith, mx)));
              }

          pub stays_beside : InBeside P q t''
          stays_beside = record {
            rows_are = mx ∙ rows_after;
            columns_are = nx ∙ columns_after;
            reached = (
              suc h.reached.0,
              turned_same P (suc h.reached.0)
                  (path_basis P (turned_columns (columns_of t.basis) q least column) q)
                  (path_basis P (columns_of t''.basis) q) same_path turn.0,
            );
            holds = record {
              inside = q_low h;
              multiples =
                  multiples_same (kept_of P) (own_of (kept_of P) (columns_of t''.basis))
                  (own_of (kept_of P) (turned_columns (columns_of t.basis) q least column)) (rows_of t'')
                  (λ i il. own_same (kept_of P) (turned_columns (columns_of t.basis) q least column)
                  (columns_of t''.basis) (λ j jl. sym (basis_swapped j)) i) multiples_after;
              below =
                  subst (λ z. z <ℤ pos 0) (sym (row_same q (P.n + P.m) (omega (arith, q_low h)) (omega arith)))
                  turn.1.below;
            };
            closed = closed_swapped;
          }

          -- ---- less turns are left
          module _ (lt : t'.limit ≡ t.limit) (lx : t''.limit ≡ t'.limit) (small : IsSmall t) (small' : IsSmall t') where
            row_q : (k : ℕ) → k < suc (suc (suc (P.n + P.m))) → rows_of t'' q k ≡ rows_of t' least k
            row_q k l = row_same q k (omega (arith, q_low h)) l ∙ ap (λ i. rows_of t' i k) (exchanged_q q least)

            in_before : (k : ℕ) → k ≤ suc (suc (P.n + P.m)) → nat_abs (rows_of t q k) ≤ t.limit
            in_before k l = small q k (omega (arith, q_in h))

            in_least : (k : ℕ) → k ≤ suc (suc (P.n + P.m)) → nat_abs (rows_of t' least k) ≤ t.limit
            in_least k l =
                subst (λ x. nat_abs (rows_of t' least k) ≤ x) lt
                (small' least k (omega (arith, rows_after, found.inside)))

            in_after : (k : ℕ) → k ≤ suc (suc (P.n + P.m)) → nat_abs (rows_of t'' q k) ≤ t.limit
            in_after k l = subst (λ z. nat_abs z ≤ t.limit) (sym (row_q k (omega arith))) (in_least k l)

            objective_same : (k : ℕ) → k < suc (suc (suc (P.n + P.m)))
                → beside_objective P (rows_of t' least) k ≡ beside_objective P (rows_of t'' q) k
            objective_same k l =
                ap (λ x. cond (nat_eq k (suc (P.n + P.m))) (neg_ℤ x)
                (cond (nat_eq k (P.n + P.m)) (pos 0) (rows_of t' least k))) (sym (row_q (P.n + P.m) (omega arith)))
                ∙ ap (λ y. cond (nat_eq k (suc (P.n + P.m))) (neg_ℤ (rows_of t'' q (P.n + P.m)))
                (cond (nat_eq k (P.n + P.m)) (pos 0) y)) (sym (row_q k l))

            within_least : IsWithin (auxiliary_of P) t.limit (beside_objective P (rows_of t' least))
            within_least = beside_within P t.limit (rows_of t' least) least_in.below in_least

            within_after : IsWithin (auxiliary_of P) t.limit (beside_objective P (rows_of t'' q))
            within_after = beside_within P t.limit (rows_of t'' q) stays_beside.holds.below in_after

            rank_same : rank (auxiliary_of P) t.limit (beside_objective P (rows_of t' least)) ≡ rank (auxiliary_of P)
                t.limit (beside_objective P (rows_of t'' q))
            rank_same =
                rank_parallel (auxiliary_of P) t.limit (beside_objective P (rows_of t' least))
                (beside_objective P (rows_of t'' q)) (auxiliary_tagged P) within_least within_after
                (record {
                  p = pos 1;
                  q = pos 1;
                  p_positive = omega (arith, ints);
                  q_positive =
                      omega (arith, ints);
                  same = λ k l. ap (λ z. pos 1 *ℤ z) (objective_same k l);
                })

            rank_up : rank (auxiliary_of P) t.limit (beside_objective P (rows_of t q)) < rank (auxiliary_of P) t.limit
                (beside_objective P (rows_of t' least))
            rank_up =
                beside_rank P t.limit (path_basis P (columns_of t.basis) q) q (columns_of t.basis q) column least
                (rows_of t) (rows_of t') (holds_stands P (columns_of t.basis) q (rows_of t) h.holds) h.reached enters
                beside_pivot least_in in_before in_least

            left_before : turns_left_beside q t ≡ rank_limit (auxiliary_of P) t.limit - rank (auxiliary_of P) t.limit
                (beside_objective P (rows_of t q))
            left_before =
                ap (λ n. rank_left_beside n (positions t) q t) h.columns_are
                ∙ ap (λ m. rank_left_beside P.n m q t) h.rows_are

            left_after : turns_left_beside q t'' ≡ rank_limit (auxiliary_of P) t.limit - rank (auxiliary_of P) t.limit
                (beside_objective P (rows_of t'' q))
            left_after =
                ap (λ n. rank_left_beside n (positions t'') q t'') (nx ∙ columns_after)
                ∙ ap (λ m. rank_left_beside P.n m q t'') (mx ∙ rows_after)
                ∙ ap (λ l. rank_limit (auxiliary_of P) l - rank (auxiliary_of P) l (beside_objective P (rows_of t'' q)))
                (lx ∙ lt)

            pub falls_beside : turns_left_beside q t'' < turns_left_beside q t
            falls_beside =
                subst (λ x. x < turns_left_beside q t) (sym left_after)
                (subst (λ x. rank_limit (auxiliary_of P) t.limit - rank (auxiliary_of P) t.limit
                (beside_objective P (rows_of t'' q)) < x) (sym left_before)
                (falls (rank_limit (auxiliary_of P) t.limit)
                (rank (auxiliary_of P) t.limit (beside_objective P (rows_of t q)))
                (rank (auxiliary_of P) t.limit (beside_objective P (rows_of t'' q)))
                (subst (λ x. rank (auxiliary_of P) t.limit (beside_objective P (rows_of t q)) < x) rank_same rank_up)
                (rank_below (auxiliary_of P) t.limit (beside_objective P (rows_of t'' q)) within_after)))
