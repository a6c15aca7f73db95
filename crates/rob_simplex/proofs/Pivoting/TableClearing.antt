-- Rows of a table that are cleared place by place are cleared column by column.
use Rattle.std.proofs.Common.{◌≡◌, ◌≢◌, ℕ, suc, ◌+◌, ◌*◌, ◌-◌, ◌<◌, ◌≤◌, sym, ap, ◌∙◌, subst, arith, inl, inr, List, length}
use Rattle.std.proofs.lemmas.Bool.{cases_eq, cases_lt}
use Rattle.std.proofs.lemmas.Int.{ints}
use Rattle.std.specs.Int.RustNames.{unsigned_abs}
use Rattle.std.specs.Int.{◌∣◌}
use lib.IntN.{ℤ, pos, ◌-ℤ◌, ◌*ℤ◌}
use lib.Signed.{◌<ℤ◌}
use Rattle.rob_algebra.specs.Integer.{mul-zero}
use Rattle.rob_linear.specs.Vectors.{Vector, Columns, at}
use Rattle.rob_linear.specs.Systems.{IsPrimitive}
use Rattle.rob_linear.specs.CondensedRows.{IsPlaced}
use Rattle.rob_linear.specs.Multiples.{IsClearedBy}
use Rattle.rob_linear.proofs.RowForms.CondensedNumbers.{entry_primitive}
use Rattle.rob_entries.specs.Updates.{AreOwn, IsMultipleOf, IsWideCleared}
use Rattle.rob_table.specs.Tables.{row_at, AreCleared, IsStopped}
use Rattle.rob_table.proofs.ClearingTops.{cleared_whole, part_positive, part_zero}
use Rattle.rob_simplex.proofs.Rows.ReadRows.{read_near, read_own, read_none, read_same, basic_high}
use Rattle.rob_simplex.proofs.Pivoting.Replacing.{row_in, free_low, left_at}
use Rattle.rob_simplex.specs.Dictionaries.{Table, columns_of, basic_columns, spare_column, read_row, rows_of, IsSound, ClearsTable, StopsTable}
use Rattle.rob_simplex.specs.Pivots.{CanClear}

-- ---- a row that is cleared
module _ (w n : ℕ) (places : Columns) (i r column : ℕ) (low top new : Vector) (other : i ≢ r) (free : places column < w)
    (open_at : top w ≡ pos 0) (c : IsClearedBy (suc w) (places column) low top new) where
  cleared_entry : (k : ℕ) → c.divisor *ℤ read_row w places i new
      k ≡ (c.p *ℤ read_row w places i low k) -ℤ (c.q *ℤ read_row w places r top k)
  cleared_entry k = elim (cases_lt (places k) w) [
    | inl l ↦
        ap (λ t. c.divisor *ℤ t) (read_near w places i new k l) ∙ c.entries (places k) (omega arith)
        ∙ ap (λ t. (c.p *ℤ t) -ℤ (c.q *ℤ top (places k))) (sym (read_near w places i low k l))
        ∙ ap (λ t. (c.p *ℤ read_row w places i low k) -ℤ (c.q *ℤ t)) (sym (read_near w places r top k l))
    | inr l ↦ elim (cases_eq (places k) (w + i)) [
      | inl s ↦
          let z : read_row w places r top k ≡ pos 0 = read_none w places r top k l (λ e. other (omega arith)) in
          ap (λ t. c.divisor *ℤ t) (read_own w places i new k s) ∙ c.entries w (omega arith)
          ∙ ap (λ t. (c.p *ℤ t) -ℤ (c.q *ℤ top w)) (sym (read_own w places i low k s))
          ∙ ap (λ t. (c.p *ℤ read_row w places i low k) -ℤ (c.q *ℤ t)) (open_at ∙ sym z)
      | inr d ↦
          let a : read_row w places i new k ≡ pos 0 = read_none w places i new k l d in
          let b : read_row w places i low k ≡ pos 0 = read_none w places i low k l d in
          let z : read_row w places r top k ≡ pos 0 =
          elim (cases_eq (places k) (w + r)) [
            | inl s ↦ read_own w places r top k s
                ∙ open_at
            | inr o ↦ read_none w places r top k l o
          ] in
          ap (λ t. c.divisor *ℤ t) a ∙ mul-zero c.divisor
          ∙ sym (ap (λ t. (c.p *ℤ t) -ℤ (c.q *ℤ read_row w places r top k)) b ∙ ap (λ t. (c.p *ℤ pos 0) -ℤ (c.q *ℤ t)) z
          ∙ zeros c.p c.q)
    ]
  ]
    where
      zeros : (p q : ℤ) → (p *ℤ pos 0) -ℤ (q *ℤ pos 0) ≡ pos 0
      zeros p q =
          let a : p *ℤ pos 0 ≡ pos 0 = mul-zero p in let b : q *ℤ pos 0 ≡ pos 0 = mul-zero q in omega (arith, ints)

  pub cleared_read : IsClearedBy n column (read_row w places i low) (read_row w places r top) (read_row w places i new)
  cleared_read = record {
    divisor = c.divisor;
    p = c.p;
    q = c.q;
    divides = c.divides;
    positive = c.positive;
    entries = λ k l. cleared_entry k;
    cleared = read_near w places i new column free ∙ c.cleared;
  }

-- ---- a wide row
module _ (m w n : ℕ) (places near basis : Columns) (placed : IsPlaced m w n places near basis) (limit i r column : ℕ)
    (il : i ≤ m) (low top : Vector) (other : i ≢ r) (free : places column < w) (open_at : top w ≡ pos 0) where
  pub wide_read : IsWideCleared limit (suc w) (places column) low top
      → IsWideCleared limit n column (read_row w places i low) (read_row w places r top)
  wide_read x =
      let k = x.3.0 in
      let kl : x.3.0 < suc w = x.3.1 in
      let over : limit < unsigned_abs (x.0 x.3.0) = x.3.2 in
      let entry : (c : ℕ) × (c < n) × (read_row w places i x.0 c ≡ x.0 x.3.0) = elim (cases_lt x.3.0 w) [
        | inl l ↦ (
          near x.3.0,
          placed.near_in x.3.0 l,
          read_near w places i x.0 (near x.3.0)
              (subst (λ t. t < w) (sym (placed.near_at x.3.0 l)) l) ∙ ap x.0 (placed.near_at x.3.0 l),
        )
        | inr l ↦
            let e : w ≡ x.3.0 = omega arith in
            (basis i, placed.basic_in i il, read_own w places i x.0 (basis i) (placed.basic_at i il) ∙ ap x.0 e)
      ] in (
        read_row w places i x.0,
        cleared_read w n places i r column low top x.0 other free open_at x.1,
        entry_primitive m w n places near basis (λ j. x.0) (λ j. x.0 w) i placed il
            (λ d each own. x.2 d (λ j jl. elim (cases_lt j w) [
              | inl l ↦ each j l
              | inr l ↦
                  let e : w ≡ j = omega arith in
                  subst (λ t. d ∣ unsigned_abs (x.0 t)) e own
            ])),
        (entry.0, entry.1, subst (λ t. limit < unsigned_abs t) (sym entry.2) over),
      )

-- ---- the table
module _ {limit n : ℕ} {basis places near : List ℕ} {table : List ℤ} {bounds : List ℕ} {workspace : ℕ}
    (sound : IsSound limit n basis places near table bounds workspace) {count row column : ℕ}
    (a : CanClear count (record { limit = limit; columns = n; basis = basis; places = places; table = table }) row
    column) where
  abbrev pub before : Table
  before = record { limit = limit; columns = n; basis = basis; places = places; table = table }

  abbrev pub after : List ℤ → Table
  after t = record { limit = limit; columns = n; basis = basis; places = places; table = t }

  rl : row < length basis
  rl = a.row_in

  pub free_place : columns_of places column < n + 3
  free_place = free_low sound row column rl a.free

  -- the row is there
  pub row_there : row * (n + 4) + (n + 4) ≤ length table
  row_there = row_in sound row column rl a.free

  pub own_zero : row_at table (n + 4) row (n + 3) ≡ pos 0
  own_zero =
      let at_spare : columns_of places (spare_column n (length basis)) ≡ n + 3 + row =
      ap (columns_of places) (sym a.opened.spare) ∙ left_at sound row column rl a.free in
      sym (read_own (n + 3) (columns_of places) row (row_at table (n + 4) row) (spare_column n (length basis)) at_spare)
      ∙ a.opened.zero

  positive_there : pos 0 <ℤ row_at table (n + 4) row (columns_of places column)
  positive_there =
      subst (λ t. pos 0 <ℤ t) (read_near (n + 3) (columns_of places) row (row_at table (n + 4) row) column free_place)
      a.positive

  -- each row before `count` but this one has a last number
  own_left : (i : ℕ) → i < count → i ≢ row → row_at table (n + 4) i (n + 3) ≢ pos 0
  own_left i il d z = elim (cases_lt (length basis) i) [
    | inl l ↦
        let e : i ≡ suc (length basis) = omega (arith, a.below) in
        let o : columns_of places (suc (n + length basis)) ≡ n + 3 + length basis =
        ap (columns_of places) (sym (basic_high n basis (length basis) (omega arith)))
        ∙ sound.placed.basic_at (length basis) (omega arith) in
        (a.own.kept (omega (arith, e))).1
        (read_own (n + 3) (columns_of places) (length basis) (row_at table (n + 4) (suc (length basis)))
        (suc (n + length basis)) o ∙ ap (λ j. row_at table (n + 4) j (n + 3)) (sym e) ∙ z)
    | inr l ↦
        a.own.rows i il l d (read_own (n + 3) (columns_of places) i (row_at table (n + 4) i) (basic_columns n basis i)
        (sound.placed.basic_at i l) ∙ z)
  ]

  module _ (entries : List ℤ) (m : IsMultipleOf (n + 4) (row_at table (n + 4) row) (at entries)) (x : ℕ)
      (ex : x ≡ columns_of places column) where
    -- the loaded row is positive where it clears, and has no number of its own
    pub positive_entry : pos 0 <ℤ at entries x
    positive_entry =
        subst (λ y. pos 0 <ℤ at entries y) (sym ex)
        (part_positive m (columns_of places column) (omega (arith, free_place)) positive_there)

    pub own_there : (i : ℕ) → i < count → i ≢ row → AreOwn (row_at table (n + 4) i) (at entries) (n + 4 - 1)
    own_there i il d =
        let e : n + 4 - 1 ≡ n + 3 = omega arith in
        record {
          zero =
              ap (at entries) e ∙ part_zero m (n + 3) (omega arith) own_zero;
          some = λ z. own_left i il d (ap (row_at table (n + 4) i) (sym e) ∙ z);
        }

    at_top : (low new : Vector) → IsClearedBy (n + 4) x low (at entries) new
        → IsClearedBy (suc (n + 3)) (columns_of places column) low (row_at table (n + 4) row) new
    at_top low new c =
        let e : n + 4 ≡ suc (n + 3) = omega arith in
        subst (λ k. IsClearedBy k (columns_of places column) low (row_at table (n + 4) row) new) e
        (subst (λ y. IsClearedBy (n + 4) y low (row_at table (n + 4) row) new) ex
        (cleared_whole m x low new c))

    row_cleared : (j i : ℕ) (new : List ℤ) → j ≢ row
        → IsClearedBy (n + 4) x (row_at table (n + 4) i) (at entries) (row_at new (n + 4) i)
        → IsClearedBy (n + length basis + 4) column (read_row (n + 3) (columns_of places) j (row_at table (n + 4) i))
        (rows_of before row) (read_row (n + 3) (columns_of places) j (row_at new (n + 4) i))
    row_cleared j i new d c =
        cleared_read (n + 3) (n + length basis + 4) (columns_of places) j row column (row_at table (n + 4) i)
        (row_at table (n + 4) row) (row_at new (n + 4) i) d free_place own_zero
        (at_top (row_at table (n + 4) i) (row_at new (n + 4) i) c)

    clears : (some : ℕ) (new : List ℤ)
        → AreCleared some (n + 4) row x (at entries) (row_at table (n + 4)) (row_at new (n + 4))
        → ClearsTable some before (after new) row column
    clears some new h = record {
      cleared = λ i l il d. row_cleared i i new d (h.cleared i l d);
      row_stays =
          read_same (n + 3) (columns_of places) row (row_at table (n + 4) row) (row_at new (n + 4) row)
          (λ k l. h.row_stays k (omega arith));
      others =
          λ i c l il. read_same (n + 3) (columns_of places) i (row_at table (n + 4) i) (row_at new (n + 4) i)
          (λ k kl. h.others i k l (omega arith)) c;
      kept =
          λ l. row_cleared (length basis) (suc (length basis)) new (λ e. absurd (omega (arith, rl)))
          (h.cleared (suc (length basis)) l (λ e. absurd (omega (arith, rl))));
      kept_stays =
          λ l. read_same (n + 3) (columns_of places) (length basis) (row_at table (n + 4) (suc (length basis)))
          (row_at new (n + 4) (suc (length basis))) (λ k kl. h.others (suc (length basis)) k l (omega arith));
    }

    pub table_cleared : (new : List ℤ)
        → AreCleared count (n + 4) row x (at entries) (row_at table (n + 4)) (row_at new (n + 4))
        → ClearsTable count before (after new) row column
    table_cleared new h = clears count new h

    at_wide : (low : Vector) → IsWideCleared limit (n + 4) x low (at entries)
        → IsWideCleared limit (suc (n + 3)) (columns_of places column) low (row_at table (n + 4) row)
    at_wide low h =
        let e : n + 4 ≡ suc (n + 3) = omega arith in
        (h.0, at_top low h.0 h.1, subst (λ k. IsPrimitive k h.0) e h.2, (h.3.0, subst (λ k. h.3.0 < k) e h.3.1, h.3.2))

    row_wide : (j i : ℕ) → j ≤ length basis → j ≢ row
        → IsWideCleared limit (n + 4) x (row_at table (n + 4) i) (at entries)
        → IsWideCleared limit (n + length basis + 4) column
        (read_row (n + 3) (columns_of places) j (row_at table (n + 4) i)) (rows_of before row)
    row_wide j i jl d h =
        wide_read (length basis) (n + 3) (n + length basis + 4) (columns_of places) (columns_of near)
        (basic_columns n basis) sound.placed limit j row column jl (row_at table (n + 4) i) (row_at table (n + 4) row) d
        free_place own_zero
        (at_wide (row_at table (n + 4) i) h)

    pub table_stopped : (new : List ℤ) (i : ℕ)
        → IsStopped limit count (n + 4) row x (at entries) (row_at table (n + 4)) (row_at new (n + 4)) i
        → StopsTable limit count before (after new) row column i
    table_stopped new i h = record {
      inside = h.inside;
      other = h.other;
      before = clears i new h.before;
      wide = λ il. row_wide i i il h.other h.wide;
      wide_kept =
          λ s. row_wide (length basis) (suc (length basis)) (omega arith) (λ x. absurd (omega (arith, rl)))
          (subst (λ k. IsWideCleared limit (n + 4) x (row_at table (n + 4) k) (at entries)) s h.wide);
    }
