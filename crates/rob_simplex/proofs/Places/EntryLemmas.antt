-- Entries of a dictionary's rows, as its code reads them, and the first negative one.
use Rattle.std.proofs.Common.{◌≡◌, ◌≢◌, ℕ, ◌+◌, ◌*◌, ◌<◌, ◌≤◌, sym, ap, ◌∙◌, subst, arith, inl, inr, List, length, get_or, nat_abs}
use Rattle.std.proofs.lemmas.Bool.{cases_eq, cases_lt}
use lib.IntN.{ℤ, pos}
use lib.Signed.{◌<ℤ◌, ◌≤ℤ◌}
use Rattle.rob_linear.specs.Vectors.{at}
use Rattle.rob_linear.proofs.RowForms.CondensedSigns.{condensed_first, condensed_none}
use Rattle.rob_table.specs.Tables.{row_at, bound_at}
use Rattle.rob_table.proofs.Places.{read_at, row_within}
use Rattle.rob_simplex.specs.Dictionaries.{Table, columns_of, basic_columns, positions, right_column, read_row, rows_of, width_of, IsSound, FirstNegative}
use Rattle.rob_entries.specs.Choices.{IsLowest}
use Rattle.rob_simplex.proofs.Rows.CopiedTables.{table_of}
use Rattle.rob_simplex.proofs.Rows.ReadRows.{read_near, read_own, read_none, basic_low}

module _ {limit n : ℕ} {basis places near : List ℕ} {table : List ℤ} {bounds : List ℕ} {workspace : ℕ}
    (sound : IsSound limit n basis places near table bounds workspace) (i : ℕ) (il : i ≤ length basis) where
  abbrev pub shown : Table
  shown = record { limit = limit; columns = n; basis = basis; places = places; table = table }

  bound_in : i < length bounds
  bound_in = omega (arith, sound.count)

  pub row_inside : i * (n + 4) + (n + 4) ≤ length table
  row_inside = let r = row_within (length bounds) (n + 4) i bound_in in omega (arith, sound.bounded.size)

  number : (k : ℕ) → k < n + 4 → (x : ℤ) → x ≡ row_at table (n + 4) i k → nat_abs x ≤ limit
  number k l x e =
      let small : nat_abs (row_at table (n + 4) i k) ≤ bound_at bounds i = sound.bounded.within i k bound_in l in
      let low : bound_at bounds i ≤ limit = sound.bounded.low i bound_in in
      subst (λ t. nat_abs t ≤ limit) (sym e) (omega arith)

  near_value : (column p : ℕ) → p ≡ columns_of places column → p < n + 3 → (x : ℤ) → x ≡ at table (i * (n + 4) + p)
      → (x ≡ rows_of shown i column) × (nat_abs x ≤ limit)
  near_value column p ep l x e = (
    e ∙ ap (row_at table (n + 4) i) ep
        ∙ sym (read_near (n + 3) (columns_of places) i (row_at table (n + 4) i) column (omega arith)),
    number p (omega arith) x e,
  )

  own_value : (column p : ℕ) → p ≡ columns_of places column → p ≡ n + 3 + i → (x : ℤ)
      → x ≡ at table (i * (n + 4) + (n + 3)) → (x ≡ rows_of shown i column) × (nat_abs x ≤ limit)
  own_value column p ep l x e = (
    e ∙ sym (read_own (n + 3) (columns_of places) i (row_at table (n + 4) i) column (sym ep ∙ l)),
    number (n + 3) (omega arith) x e,
  )

  -- ---- in a basic column all rows but its own are 0
  pub zero_beside : (before : ℕ) → i < length basis → before ≤ length basis
      → ((k : ℕ) → k < before → columns_of basis i ≢ n + k) → (k : ℕ) → k < before
      → n + 3 ≤ columns_of places (n + k) → rows_of shown i (n + k) ≡ pos 0
  zero_beside before bl few other k l p =
      read_none (n + 3) (columns_of places) i (row_at table (n + 4) i) (n + k) p
      (λ e.
      let b = sound.placed.basic_column (n + k) (omega arith) p in
      let there : b.0 ≡ i = (let x : columns_of places (n + k) ≡ n + 3 + b.0 = b.2 in omega arith) in
      other k l (sym (basic_low n basis i bl) ∙ ap (basic_columns n basis) (sym there) ∙ b.3))

  -- ---- the slack entries before the first one that may not be 0
  module _ (before column : ℕ) (few : before ≤ n + length basis) (bl : i < length basis)
      (own : n ≤ columns_of basis i → before ≤ columns_of basis i) (low : column ≤ before)
      (zeros : (k : ℕ) → k < n + 2 → n ≤ columns_of near k → columns_of near k < column
      → row_at table (n + 4) i k ≡ pos 0) where
    near_zero : (c : ℕ) → n ≤ c → c < column → columns_of places c < n + 3
        → row_at table (n + 4) i (columns_of places c) ≡ pos 0
    near_zero c nl l p =
        let there : columns_of near (columns_of places c) ≡ c = sound.placed.near_column c (omega arith) p in
        elim (cases_eq (columns_of places c) (n + 2)) [
          | inr d ↦ zeros (columns_of places c) (omega arith) (omega arith) (omega arith)
          | inl e ↦
              let e2 : columns_of places (right_column n (length basis)) ≡ n + 2 = sound.right_at in
              let r : columns_of near (n + 2) ≡ right_column n (length basis) =
              ap (columns_of near) (sym e2)
              ∙ sound.placed.near_column (right_column n (length basis)) (omega arith) (omega arith) in
              let s : columns_of near (columns_of places c) ≡ columns_of near (n + 2) = ap (columns_of near) e in
              absurd (omega arith)
        ]

    not_own : (c : ℕ) → n ≤ c → c < column → columns_of places c ≢ n + 3 + i
    not_own c nl l e =
        let b = sound.placed.basic_column c (omega arith) (omega arith) in
        let there : b.0 ≡ i = (let x : columns_of places c ≡ n + 3 + b.0 = b.2 in omega arith) in
        let is : columns_of basis i ≡ c =
        sym (basic_low n basis i bl) ∙ ap (basic_columns n basis) (sym there) ∙ b.3 in
        let o : before ≤ columns_of basis i = own (omega arith) in omega arith

    pub zeros_before : (k : ℕ) → n + k < column → rows_of shown i (n + k) ≡ pos 0
    zeros_before k l = elim (cases_lt (columns_of places (n + k)) (n + 3)) [
      | inl p ↦
          read_near (n + 3) (columns_of places) i (row_at table (n + 4) i) (n + k) p
          ∙ near_zero (n + k) (omega arith) l p
      | inr p ↦
          read_none (n + 3) (columns_of places) i (row_at table (n + 4) i) (n + k) p (not_own (n + k) (omega arith) l)
    ]

  -- ---- the first negative entry
  module _ (own : pos 0 ≤ℤ rows_of shown i (basic_columns n basis i)) (best : ℕ)
      (lowest : IsLowest (row_at table (n + 4) i) (columns_of near) (n + 2) (n + length basis) best) where
    own_nonneg : pos 0 ≤ℤ row_at table (n + 4) i (n + 3)
    own_nonneg =
        subst (λ t. pos 0 ≤ℤ t) (read_own (n + 3) (columns_of places) i (row_at table (n + 4) i)
        (basic_columns n basis i) (sound.placed.basic_at i il)) own

    right_near : columns_of near (n + 2) ≡ right_column n (length basis)
    right_near =
        let e : columns_of places (right_column n (length basis)) ≡ n + 2 = sound.right_at in
        ap (columns_of near) (sym e)
        ∙ sound.placed.near_column (right_column n (length basis)) (omega arith) (omega arith)

    none_before : (limit : ℕ) → limit ≤ best → best ≤ n + length basis → (j : ℕ) → j < n + 3 → columns_of near j < limit
        → pos 0 ≤ℤ row_at table (n + 4) i j
    none_before limit l b j jl jn = elim (cases_eq j (n + 2)) [
      | inr d ↦ lowest.none_lower j (omega arith) (omega arith)
      | inl e ↦
          absurd (let r : columns_of near j ≡ right_column n (length basis) =
          ap (columns_of near) e ∙ right_near in omega arith)
    ]

    pub is_first : best < n + length basis → FirstNegative (n + length basis) (rows_of shown i) best
    is_first b = elim lowest.found [
      | inl e ↦ absurd (omega arith)
      | inr f ↦
          let kl : f.0 < n + 2 = f.1 in
          let e : columns_of near f.0 ≡ best = f.2 in
          let r =
          condensed_first (length basis) (n + 3) (n + length basis + 4) (columns_of places) (columns_of near)
          (basic_columns n basis) (row_at table (n + 4)) (λ j. row_at table (n + 4) j (n + 3)) i f.0 sound.placed
          (omega arith) f.3
          (λ j jl jn. none_before best (omega arith) (omega arith) j jl (omega arith)) own_nonneg in
          record {
            inside = b;
            negative = subst (λ k. rows_of shown i k <ℤ pos 0) e r.0;
            first = λ k l. r.1 k (omega arith);
          }
    ]

    pub is_none : n + length basis ≤ best → (k : ℕ) → k < n + length basis → pos 0 ≤ℤ rows_of shown i k
    is_none b k l =
        let low : best ≤ n + length basis = lowest.low in
        condensed_none (length basis) (n + 3) (n + length basis + 4) (columns_of places) (columns_of near)
        (basic_columns n basis) (row_at table (n + 4)) (λ j. row_at table (n + 4) j (n + 3)) i (n + length basis)
        sound.placed
        (λ j jl jn. none_before (n + length basis) b low j jl jn) own_nonneg k (omega arith) l

-- ---- an entry that is read by its column's place, where the dictionary is seen as a table
module _ {limit n : ℕ} {basis places near : List ℕ} {table : List ℤ} {bounds : List ℕ} {workspace : ℕ}
    (sound : IsSound limit n basis places near table bounds workspace) {seen : Table}
    (seen_is : table_of limit n basis places table ≡ seen) (i column : ℕ) (row_in : i ≤ positions seen)
    (column_in : column < width_of seen) (p : ℕ) (place : p ≡ get_or places column p) where
  row_here : i ≤ length basis
  row_here = subst (λ (t : Table). i ≤ positions t) (sym seen_is) row_in

  place_is : p ≡ columns_of places column
  place_is =
      let inside : column < n + length basis + 4 =
      subst (λ (t : Table). column < width_of t) (sym seen_is) column_in in
      read_at places column p (omega (arith, sound.places_size)) place

  as_seen : (x : ℤ) → (x ≡ rows_of (table_of limit n basis places table) i column) × (nat_abs x ≤ limit)
      → (x ≡ rows_of seen i column) × (nat_abs x ≤ seen.limit) × (nat_abs x ≤ limit)
  as_seen x v = (
    v.0 ∙ ap (λ (t : Table). rows_of t i column) seen_is,
    subst (λ (t : Table). nat_abs x ≤ t.limit) seen_is v.1,
    v.1,
  )

  -- in a column that isn't basic
  pub near_read : p < n + 3 → (x : ℤ) → x ≡ at table (i * (n + 4) + p)
      → (x ≡ rows_of seen i column) × (nat_abs x ≤ seen.limit) × (nat_abs x ≤ limit)
  near_read l x e = as_seen x (near_value sound i row_here column p place_is l x e)

  -- in the row's own column
  pub own_read : p ≡ n + 3 + i → (x : ℤ) → x ≡ at table (i * (n + 4) + (n + 3))
      → (x ≡ rows_of seen i column) × (nat_abs x ≤ seen.limit) × (nat_abs x ≤ limit)
  own_read l x e = as_seen x (own_value sound i row_here column p place_is l x e)

-- ---- no entry is over the limit
module _ {limit n : ℕ} {basis places near : List ℕ} {table : List ℤ} {bounds : List ℕ} {workspace : ℕ}
    (s : IsSound limit n basis places near table bounds workspace) where
  pub small_entries : (i c : ℕ) → i ≤ length basis
      → nat_abs (read_row (n + 3) (columns_of places) i (row_at table (n + 4) i) c) ≤ limit
  small_entries i c il =
      let il2 : i < length bounds = omega (arith, s.count) in
      let low : bound_at bounds i ≤ limit = s.bounded.low i il2 in
      elim (cases_lt (columns_of places c) (n + 3)) [
        | inl l ↦
            let b : nat_abs (row_at table (n + 4) i (columns_of places c)) ≤ bound_at bounds i =
            s.bounded.within i (columns_of places c) il2 (omega arith) in
            subst (λ z. nat_abs z ≤ limit) (sym (read_near (n + 3) (columns_of places) i (row_at table (n + 4) i) c l))
            (omega arith)
        | inr l ↦ elim (cases_eq (columns_of places c) (n + 3 + i)) [
          | inl e ↦
              let b : nat_abs (row_at table (n + 4) i (n + 3)) ≤ bound_at bounds i =
              s.bounded.within i (n + 3) il2 (omega arith) in
              subst (λ z. nat_abs z ≤ limit) (sym (read_own (n + 3) (columns_of places) i (row_at table (n + 4) i) c e))
              (omega arith)
          | inr d ↦
              subst (λ z. nat_abs z ≤ limit)
              (sym (read_none (n + 3) (columns_of places) i (row_at table (n + 4) i) c l d)) (omega arith)
        ]
      ]
