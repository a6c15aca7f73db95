-- A column that comes to a position: the maps stay inverse to one another, and the rows stay the same functions.
use Rattle.std.proofs.Common.{◌≡◌, ◌≢◌, ℕ, suc, ◌+◌, ◌*◌, ◌^◌, ◌<◌, ◌≤◌, sym, refl, ap, ◌∙◌, subst, arith, inl, inr, List, length, get_or, set, nat_abs}
use Rattle.std.proofs.lemmas.Bool.{cases_eq, cases_lt}
use Rattle.std.proofs.lemmas.List.{get_or-set_same, get_or-set_other, length-set}
use lib.IntN.{ℤ, pos}
use Rattle.rob_linear.specs.CondensedRows.{IsPlaced, IsReplaced, IsTurnedRow}
use Rattle.rob_linear.proofs.RowForms.CondensedRows.{placed_again, turned_entry}
use Rattle.rob_table.specs.Tables.{row_at, bound_at, HasBounds}
use Rattle.rob_table.proofs.Places.{row_within, set_here, set_elsewhere}
use Rattle.rob_table.proofs.RowMoves.{exchanged_entries}
use Rattle.rob_simplex.specs.Dictionaries.{Table, columns_of, basic_columns, right_column, read_row, rows_of, kept_row_of, IsSound, IsFree, IsAlone, IsExchanged}
use Rattle.rob_simplex.proofs.Rows.ReadRows.{read_near, read_zero, read_ext, basic_low, basic_high}

-- ---- a column that comes to a position
module _ {limit n : ℕ} {basis places near : List ℕ} {table : List ℤ} {bounds : List ℕ} {workspace : ℕ}
    (sound : IsSound limit n basis places near table bounds workspace) (row column : ℕ) (rl : row < length basis)
    (free : IsFree n basis column) where
  abbrev w : ℕ
  w = n + 3

  abbrev place : ℕ
  place = columns_of places column

  abbrev left : ℕ
  left = columns_of basis row

  pub free_low : columns_of places column < n + 3
  free_low = elim (cases_lt (columns_of places column) (n + 3)) [
    | inl l ↦ l
    | inr l ↦ let b = sound.placed.basic_column column free.inside l in absurd (free.not_basic b.0 b.1 b.3)
  ]

  pub place_low : columns_of places column < n + 2
  place_low = elim (cases_eq (columns_of places column) (n + 2)) [
    | inr d ↦ let l : columns_of places column < n + 3 = free_low in omega arith
    | inl e ↦
        let a : columns_of near (columns_of places column) ≡ column =
        sound.placed.near_column column free.inside free_low in
        let r : columns_of places (right_column n (length basis)) < n + 3 =
        let s : columns_of places (right_column n (length basis)) ≡ n + 2 = sound.right_at in omega arith in
        let b : columns_of near (columns_of places (right_column n (length basis))) ≡ right_column n (length basis) =
        sound.placed.near_column (right_column n (length basis)) (omega arith) r in
        absurd (free.not_right (sym a ∙ ap (columns_of near) (e ∙ sym sound.right_at) ∙ b))
  ]

  left_is : basic_columns n basis row ≡ columns_of basis row
  left_is = basic_low n basis row rl

  pub left_in : columns_of basis row < length places
  left_in =
      let b : basic_columns n basis row < n + length basis + 4 = sound.placed.basic_in row (omega arith) in
      omega (arith, left_is, sound.places_size)

  pub left_at : columns_of places (columns_of basis row) ≡ n + 3 + row
  left_at = ap (columns_of places) (sym left_is) ∙ sound.placed.basic_at row (omega arith)

  apart : column ≢ columns_of basis row
  apart e = free.not_basic row (omega arith) (left_is ∙ sym e)

  abbrev places' : List ℕ
  places' = set (set places (columns_of basis row) (columns_of places column)) column (n + 3 + row)

  abbrev near' : List ℕ
  near' = set near (columns_of places column) (columns_of basis row)

  abbrev basis' : List ℕ
  basis' = set basis row column

  column_in : column < length (set places (columns_of basis row) (columns_of places column))
  column_in =
      let i : column < n + length basis + 4 = free.inside in
      omega (arith, length-set places (columns_of basis row) (columns_of places column), sound.places_size)

  same_length : length basis' ≡ length basis
  same_length = length-set basis row column

  basis_other : (i : ℕ) → i ≢ row → basic_columns n basis' i ≡ basic_columns n basis i
  basis_other i d = elim (cases_lt i (length basis)) [
    | inl l ↦ basic_low n basis' i (omega (arith, same_length)) ∙ get_or-set_other basis row i column 0 d
        ∙ sym (basic_low n basis i l)
    | inr l ↦ basic_high n basis' i (omega (arith, same_length)) ∙ ap (λ t. suc (n + t)) same_length
        ∙ sym (basic_high n basis i l)
  ]

  replaced : IsReplaced (length basis) (n + 3) (n + length basis + 4) row column (columns_of places) (columns_of near)
      (basic_columns n basis) (columns_of places') (columns_of near') (basic_columns n basis')
  replaced = record {
    row_in = omega arith;
    col_in = free.inside;
    free = free_low;
    at_in = get_or-set_same (set places left place) column (n + 3 + row) 0 column_in;
    at_out =
        ap (columns_of places') left_is
        ∙ get_or-set_other (set places left place) column left (n + 3 + row) 0 (λ e. apart (sym e))
        ∙ get_or-set_same places left place 0 left_in;
    at_other =
        λ c d o. get_or-set_other (set places left place) column c (n + 3 + row) 0 d
        ∙ get_or-set_other places left c place 0 (λ e. o (e ∙ sym left_is));
    near_out =
        get_or-set_same near place left 0
        (let l : columns_of places column < n + 3 = free_low in omega (arith, sound.near_size)) ∙ sym left_is;
    near_other = λ k d. get_or-set_other near place k left 0 d;
    basis_in = basic_low n basis' row (omega (arith, same_length)) ∙ get_or-set_same basis row column 0 rl;
    basis_other = basis_other;
  }

  -- ---- the row's numbers
  abbrev start : ℕ
  start = row * (n + 4)

  abbrev table' : List ℤ
  table' = exchanged_entries table (row * (n + 4) + columns_of places column) (row * (n + 4) + (n + 3))

  pub row_in : row * (n + 4) + (n + 4) ≤ length table
  row_in =
      let r = row_within (length bounds) (n + 4) row (omega (arith, sound.count)) in omega (arith, sound.bounded.size)

  pub first_in : row * (n + 4) + columns_of places column < length table
  first_in = let l : columns_of places column < n + 3 = free_low in let r = row_in in omega arith

  second_in : row * (n + 4) + (n + 3) < length
      (set table (row * (n + 4) + columns_of places column) (get_or table (row * (n + 4) + (n + 3)) (pos 0)))
  second_in =
      let r = row_in in
      omega (
        arith,
        length-set table (row * (n + 4) + columns_of places column)
            (get_or table (row * (n + 4) + (n + 3)) (pos 0)),
      )

  entry_other : (i k : ℕ) → i ≢ row → k < n + 4 → row_at table' (n + 4) i k ≡ row_at table (n + 4) i k
  entry_other i k d l =
      let p : columns_of places column < n + 4 = let q : columns_of places column < n + 3 = free_low in omega arith in
      set_elsewhere (set table (row * (n + 4) + columns_of places column)
      (get_or table (row * (n + 4) + (n + 3)) (pos 0))) (n + 4) row (n + 3) i k
      (get_or table (row * (n + 4) + columns_of places column) (pos 0)) (omega arith) l (inr d)
      ∙ set_elsewhere table (n + 4) row (columns_of places column) i k (get_or table (row * (n + 4) + (n + 3)) (pos 0))
      p l (inr d)

  entry_same : (k : ℕ) → k < n + 3 → k ≢ columns_of places column
      → row_at table' (n + 4) row k ≡ row_at table (n + 4) row k
  entry_same k l d =
      let p : columns_of places column < n + 4 = let q : columns_of places column < n + 3 = free_low in omega arith in
      set_elsewhere (set table (row * (n + 4) + columns_of places column)
      (get_or table (row * (n + 4) + (n + 3)) (pos 0))) (n + 4) row (n + 3) row k
      (get_or table (row * (n + 4) + columns_of places column) (pos 0)) (omega arith) (omega arith)
      (inl (λ e. absurd (omega arith)))
      ∙ set_elsewhere table (n + 4) row (columns_of places column) row k
      (get_or table (row * (n + 4) + (n + 3)) (pos 0)) p (omega arith) (inl d)

  own_in : row_at table' (n + 4) row (n + 3) ≡ row_at table (n + 4) row (columns_of places column)
  own_in =
      set_here (set table (row * (n + 4) + columns_of places column) (get_or table (row * (n + 4) + (n + 3)) (pos 0)))
      (n + 4) row (n + 3) (get_or table (row * (n + 4) + columns_of places column) (pos 0)) second_in

  own_out : row_at table' (n + 4) row (columns_of places column) ≡ row_at table (n + 4) row (n + 3)
  own_out =
      let p : columns_of places column < n + 4 = let q : columns_of places column < n + 3 = free_low in omega arith in
      set_elsewhere (set table (row * (n + 4) + columns_of places column)
      (get_or table (row * (n + 4) + (n + 3)) (pos 0))) (n + 4) row (n + 3) row (columns_of places column)
      (get_or table (row * (n + 4) + columns_of places column) (pos 0)) (omega arith) p
      (inl (λ e. let l : columns_of places column < n + 3 = free_low in absurd (omega arith)))
      ∙ set_here table (n + 4) row (columns_of places column) (get_or table (row * (n + 4) + (n + 3)) (pos 0)) first_in

  turned : IsTurnedRow (n + 3) row (columns_of places column) (row_at table (n + 4)) (row_at table' (n + 4))
      (λ j. row_at table (n + 4) j (n + 3)) (λ j. row_at table' (n + 4) j (n + 3))
  turned = record { own_in = own_in; own_out = own_out; others = entry_same }

  -- ---- the rows as functions
  pub row_same : (c : ℕ) → c < n + length basis + 4
      → read_row (n + 3) (columns_of places') row (row_at table' (n + 4) row) c ≡ read_row (n + 3) (columns_of places)
      row (row_at table (n + 4) row) c
  row_same c l =
      turned_entry (length basis) (n + 3) (n + length basis + 4) row column (columns_of places) (columns_of near)
      (basic_columns n basis) (columns_of places') (columns_of near') (basic_columns n basis') sound.placed replaced
      (row_at table (n + 4)) (row_at table' (n + 4)) (λ j. row_at table (n + 4) j (n + 3))
      (λ j. row_at table' (n + 4) j (n + 3)) turned c l

  -- another row, at position j, that is 0 in the column
  pub other_same : (j : ℕ) (r r' : ℕ → ℤ) → j ≢ row → ((k : ℕ) → k < n + 4 → r' k ≡ r k)
      → read_row (n + 3) (columns_of places) j r column ≡ pos 0
      → (c : ℕ) → read_row (n + 3) (columns_of places') j r' c ≡ read_row (n + 3) (columns_of places) j r c
  other_same j r r' d same zero c =
      let z : r (columns_of places column) ≡ pos 0 =
      sym (read_near (n + 3) (columns_of places) j r column free_low) ∙ zero in
      elim (cases_eq c column) [
        | inl e ↦
            subst (λ (x : ℕ). read_row (n + 3) (columns_of places') j r' x ≡ read_row (n + 3) (columns_of places) j r x)
            (sym e)
            (read_zero (n + 3) (columns_of places') row j r' column replaced.at_in (λ s. d (sym s)) ∙ sym zero)
        | inr o ↦ elim (cases_eq c (columns_of basis row)) [
          | inl e ↦
              subst (λ (x : ℕ). read_row (n + 3) (columns_of places') j r' x ≡ read_row (n + 3) (columns_of places) j r
              x) (sym e)
              (let there : columns_of places' (columns_of basis row) ≡ columns_of places column =
              ap (columns_of places') (sym left_is) ∙ replaced.at_out in
              read_near (n + 3) (columns_of places') j r' (columns_of basis row)
              (subst (λ t. t < n + 3) (sym there) free_low) ∙ ap r' there
              ∙ same (columns_of places column) (let l : columns_of places column < n + 3 = free_low in omega arith) ∙ z
              ∙ sym (read_zero (n + 3) (columns_of places) row j r (columns_of basis row) left_at (λ s. d (sym s))))
          | inr q ↦
              let here : columns_of places' c ≡ columns_of places c = replaced.at_other c o (λ e. q (e ∙ left_is)) in
              read_ext (n + 3) j (columns_of places') (columns_of places) r' r c here (λ k l. same k (omega arith))
        ]
      ]

  -- any other row, at position j: its number in the column comes to the one that has left
  other_moved : (j : ℕ) (r r' : ℕ → ℤ) → ((k : ℕ) → k < n + 4 → r' k ≡ r k)
      → read_row (n + 3) (columns_of places') j r' (columns_of basis row) ≡ read_row (n + 3) (columns_of places) j r
      column
  other_moved j r r' same =
      let there : columns_of places' (columns_of basis row) ≡ columns_of places column =
      ap (columns_of places') (sym left_is) ∙ replaced.at_out in
      read_near (n + 3) (columns_of places') j r' (columns_of basis row) (subst (λ t. t < n + 3) (sym there) free_low)
      ∙ ap r' there
      ∙ same (columns_of places column) (let l : columns_of places column < n + 3 = free_low in omega arith)
      ∙ sym (read_near (n + 3) (columns_of places) j r column free_low)

  other_zero : (j : ℕ) (r' : ℕ → ℤ) → j ≢ row → read_row (n + 3) (columns_of places') j r' column ≡ pos 0
  other_zero j r' d = read_zero (n + 3) (columns_of places') row j r' column replaced.at_in (λ s. d (sym s))

  other_else : (j : ℕ) (r r' : ℕ → ℤ) → ((k : ℕ) → k < n + 4 → r' k ≡ r k) → (c : ℕ) → c ≢ columns_of basis row
      → c ≢ column
      → read_row (n + 3) (columns_of places') j r' c ≡ read_row (n + 3) (columns_of places) j r c
  other_else j r r' same c q o =
      read_ext (n + 3) j (columns_of places') (columns_of places) r' r c (replaced.at_other c o (λ e. q (e ∙ left_is)))
      (λ k l. same k (omega arith))

  pub others_same : (j i : ℕ) → j ≢ row → i ≢ row
      → read_row (n + 3) (columns_of places) j (row_at table (n + 4) i) column ≡ pos 0
      → (c : ℕ) → read_row (n + 3) (columns_of places') j (row_at table' (n + 4) i) c ≡ read_row (n + 3)
      (columns_of places) j (row_at table (n + 4) i) c
  others_same j i dj di zero c =
      other_same j (row_at table (n + 4) i) (row_at table' (n + 4) i) dj (λ k l. entry_other i k di l) zero c

  -- ---- the invariant
  bounds_same : HasBounds limit (n + 4) table' bounds
  bounds_same = record {
    size =
        length-set (set table (row * (n + 4) + columns_of places column)
        (get_or table (row * (n + 4) + (n + 3)) (pos 0))) (row * (n + 4) + (n + 3))
        (get_or table (row * (n + 4) + columns_of places column) (pos 0))
        ∙ length-set table (row * (n + 4) + columns_of places column) (get_or table (row * (n + 4) + (n + 3)) (pos 0))
        ∙ sound.bounded.size;
    within = λ i k il kl. elim (cases_eq i row) [
      | inr d ↦ subst (λ t. nat_abs t ≤ bound_at bounds i) (sym (entry_other i k d kl)) (sound.bounded.within i k il kl)
      | inl e ↦
          let rb : row < length bounds = omega (arith, sound.count) in
          let pl : columns_of places column < n + 4 = let q : columns_of places column < n + 3 =
          free_low in omega arith in
          subst (λ (x : ℕ). nat_abs (row_at table' (n + 4) x k) ≤ bound_at bounds x) (sym e)
          (elim (cases_eq k (n + 3)) [
            | inl s ↦
                subst (λ (x : ℕ). nat_abs (row_at table' (n + 4) row x) ≤ bound_at bounds row) (sym s)
                (subst (λ t. nat_abs t ≤ bound_at bounds row) (sym own_in)
                (sound.bounded.within row (columns_of places column) rb pl))
            | inr o ↦ elim (cases_eq k (columns_of places column)) [
              | inl s ↦
                  subst (λ (x : ℕ). nat_abs (row_at table' (n + 4) row x) ≤ bound_at bounds row) (sym s)
                  (subst (λ t. nat_abs t ≤ bound_at bounds row) (sym own_out)
                  (sound.bounded.within row (n + 3) rb (omega arith)))
              | inr q ↦
                  subst (λ t. nat_abs t ≤ bound_at bounds row) (sym (entry_same k (omega arith) q))
                  (sound.bounded.within row k rb kl)
            ]
          ])
    ];
    low = sound.bounded.low;
  }

  pub replaced_sound : IsSound limit n basis' places' near' table' bounds workspace
  replaced_sound = record {
    few = subst (λ t. n + t < 2 ^ 31) (sym same_length) sound.few;
    limit_low = sound.limit_low;
    count = sound.count ∙ ap (λ t. t + 2) (sym same_length);
    bounded = bounds_same;
    places_size =
        length-set (set places left place) column (n + 3 + row) ∙ length-set places left place ∙ sound.places_size
        ∙ ap (λ t. n + t + 4) (sym same_length);
    near_size = length-set near place left ∙ sound.near_size;
    placed =
        subst (λ t. IsPlaced t (n + 3) (n + t + 4) (columns_of places') (columns_of near') (basic_columns n basis'))
        (sym same_length)
        (placed_again (length basis) (n + 3) (n + length basis + 4) row column (columns_of places) (columns_of near)
        (basic_columns n basis) (columns_of places') (columns_of near') (basic_columns n basis') sound.placed replaced);
    right_at =
        ap (λ t. columns_of places' (right_column n t)) same_length
        ∙ replaced.at_other (right_column n (length basis)) (λ e. free.not_right (sym e))
        (λ e.
        let s : columns_of places (right_column n (length basis)) ≡ n + 2 = sound.right_at in
        let t : columns_of places (right_column n (length basis)) ≡ n + 3 + row =
        ap (columns_of places) (e ∙ left_is) ∙ left_at in
        absurd (omega arith))
        ∙ sound.right_at;
    workspace_is = sound.workspace_is;
  }

  -- ---- what contracts see
  abbrev pub old : Table
  old = record { limit = limit; columns = n; basis = basis; places = places; table = table }

  -- the fields after the call, from the numbers that it has read
  abbrev pub made : ℕ → ℕ → List ℤ → Table
  made x l t =
      record {
        limit = limit;
        columns = n;
        basis = set basis row column;
        places =
            set (set places l x) column (n + 3 + row);
        table = t;
      }

  rows_same : IsAlone old row column → (i c : ℕ) → i ≤ length basis → c < n + length basis + 4
      → rows_of (made (columns_of places column) (columns_of basis row) table') i c ≡ rows_of old i c
  rows_same alone i c il cl = elim (cases_eq i row) [
    | inl e ↦
        subst (λ (x : ℕ). rows_of (made (columns_of places column) (columns_of basis row) table') x c ≡ rows_of old x c)
        (sym e) (row_same c cl)
    | inr d ↦ others_same i i d d (alone i il d) c
  ]

  kept_same : kept_row_of old column ≡ pos 0 → (c : ℕ)
      → kept_row_of (made (columns_of places column) (columns_of basis row) table') c ≡ kept_row_of old c
  kept_same zero c =
      subst (λ (k : ℕ). read_row (n + 3) (columns_of places') k (row_at table' (n + 4) (suc k)) c ≡ kept_row_of old c)
      (sym same_length)
      (others_same (length basis) (suc (length basis)) (λ e. absurd (omega arith)) (λ e. absurd (omega arith)) zero c)

  -- the kept row, which is read at the objective's position
  kept_is : (c : ℕ) → kept_row_of (made (columns_of places column) (columns_of basis row) table') c ≡ read_row (n + 3)
      (columns_of places') (length basis) (row_at table' (n + 4) (suc (length basis))) c
  kept_is c = ap (λ k. read_row (n + 3) (columns_of places') k (row_at table' (n + 4) (suc k)) c) same_length

  kept_stays : (k : ℕ) → k < n + 4
      → row_at table' (n + 4) (suc (length basis)) k ≡ row_at table (n + 4) (suc (length basis)) k
  kept_stays k l = entry_other (suc (length basis)) k (λ e. absurd (omega arith)) l

  exchanged_columns : IsExchanged old (made (columns_of places column) (columns_of basis row) table') row
      (columns_of basis row) column
  exchanged_columns = record {
    basis = refl;
    columns = refl;
    row_stays = λ c l. row_same c l;
    moved = λ i il d. other_moved i (row_at table (n + 4) i) (row_at table' (n + 4) i) (λ k l. entry_other i k d l);
    emptied = λ i il d. other_zero i (row_at table' (n + 4) i) d;
    others =
        λ i c il d q o. other_else i (row_at table (n + 4) i) (row_at table' (n + 4) i) (λ k l. entry_other i k d l) c q
        o;
    kept_moved =
        kept_is (columns_of basis row)
        ∙ other_moved (length basis) (row_at table (n + 4) (suc (length basis)))
        (row_at table' (n + 4) (suc (length basis))) kept_stays;
    kept_emptied =
        kept_is column ∙ other_zero (length basis) (row_at table' (n + 4) (suc (length basis)))
        (λ e. absurd (omega arith));
    kept_others =
        λ c q o. kept_is c ∙ other_else (length basis) (row_at table (n + 4) (suc (length basis)))
        (row_at table' (n + 4) (suc (length basis))) kept_stays c q o;
  }

  module _ {x l : ℕ} {t : List ℤ} (ex : x ≡ columns_of places column) (el : l ≡ columns_of basis row)
      (et : t ≡ exchanged_entries table (row * (n + 4) + x) (row * (n + 4) + (n + 3))) where
    all_same : (Q : ℕ → ℕ → List ℤ → Type 0) → Q (columns_of places column) (columns_of basis row) table' → Q x l t
    all_same Q q =
        let e : t ≡ table' = et ∙ ap (λ y. exchanged_entries table (row * (n + 4) + y) (row * (n + 4) + (n + 3))) ex in
        subst (λ v. Q x l v) (sym e)
        (subst (λ y. Q y l table') (sym ex) (subst (λ y. Q (columns_of places column) y table') (sym el) q))

    pub made_sound : IsSound limit n (set basis row column) (set (set places l x) column (n + 3 + row)) (set near x l) t
        bounds workspace
    made_sound =
        all_same (λ x l t. IsSound limit n (set basis row column) (set (set places l x) column (n + 3 + row))
        (set near x l) t bounds workspace) replaced_sound

    pub made_rows : IsAlone old row column → (i c : ℕ) → i ≤ length basis → c < n + length basis + 4
        → rows_of (made x l t) i c ≡ rows_of old i c
    made_rows alone i c il cl =
        all_same (λ x l t. rows_of (made x l t) i c ≡ rows_of old i c) (rows_same alone i c il cl)

    pub made_kept : kept_row_of old column ≡ pos 0 → (c : ℕ) → kept_row_of (made x l t) c ≡ kept_row_of old c
    made_kept zero c = all_same (λ x l t. kept_row_of (made x l t) c ≡ kept_row_of old c) (kept_same zero c)

    pub made_exchanged : IsExchanged old (made x l t) row (columns_of basis row) column
    made_exchanged =
        all_same (λ x l t. IsExchanged old (made x l t) row (columns_of basis row) column) exchanged_columns
