-- Edits of a dictionary: two positions exchanged, a column emptied, the objective's row kept and written back.
use Rattle.std.proofs.Common.{◌≡◌, ◌≢◌, ◌⊎◌, ℕ, suc, ◌+◌, ◌^◌, ◌<◌, ◌≤◌, sym, ap, ◌∙◌, subst, arith, inl, inr, List, length, set}
use Rattle.std.proofs.lemmas.Bool.{cases_eq, cases_lt}
use Rattle.std.proofs.lemmas.List.{get_or-set_same, get_or-set_other, length-set}
use lib.IntN.{ℤ, pos}
use Rattle.rob_linear.specs.Vectors.{Matrix}
use Rattle.rob_linear.specs.CondensedRows.{IsPlaced}
use Rattle.rob_linear.specs.Beside.{exchanged}
use Rattle.rob_linear.proofs.KeptOut.BesidePaths.{exchanged_q, exchanged_p, exchanged_other, exchanged_low}
use Rattle.rob_linear.proofs.RowForms.CondensedRows.{placed_swapped, swapped_entry}
use Rattle.rob_table.specs.Tables.{row_at, HasBounds}
use Rattle.rob_simplex.specs.Dictionaries.{Table, columns_of, basic_columns, right_column, read_row, rows_of, kept_row_of, IsSound, IsFree}
use Rattle.rob_simplex.proofs.Rows.ReadRows.{read_near, read_own, read_none, read_same, basic_low, basic_high}

module _ {limit n : ℕ} {basis places near : List ℕ} {table : List ℤ} {bounds : List ℕ} {workspace : ℕ}
    (sound : IsSound limit n basis places near table bounds workspace) where
  abbrev pub table_with : List ℤ → Table
  table_with t = record { limit = limit; columns = n; basis = basis; places = places; table = t }

  pub free_place : (column : ℕ) → IsFree n basis column → columns_of places column < n + 3
  free_place column free = elim (cases_lt (columns_of places column) (n + 3)) [
    | inl l ↦ l
    | inr l ↦ let b = sound.placed.basic_column column free.inside l in absurd (free.not_basic b.0 b.1 b.3)
  ]

  pub column_in : (column : ℕ) → IsFree n basis column → column < length places
  column_in column free = let l : column < n + length basis + 4 = free.inside in omega (arith, sound.places_size)

  pub objective_place : columns_of places (suc (n + length basis)) ≡ n + 3 + length basis
  objective_place =
      ap (columns_of places) (sym (basic_high n basis (length basis) (omega arith)))
      ∙ sound.placed.basic_at (length basis) (omega arith)

  -- ---- a column emptied
  module _ (column : ℕ) (free : IsFree n basis column) (x : ℕ) (ex : x ≡ columns_of places column) (new : List ℤ)
      (zero : (i : ℕ) → i < length basis + 1 → row_at new (n + 4) i x ≡ pos 0)
      (others : (i k : ℕ) → k < n + 4 → (length basis + 1 ≤ i) ⊎ (k ≢ x)
      → row_at new (n + 4) i k ≡ row_at table (n + 4) i k) where
    pub emptied_zero : (i : ℕ) → i ≤ length basis → rows_of (table_with new) i column ≡ pos 0
    emptied_zero i il =
        read_near (n + 3) (columns_of places) i (row_at new (n + 4) i) column (free_place column free)
        ∙ ap (row_at new (n + 4) i) (sym ex) ∙ zero i (omega arith)

    pub emptied_others : (i c : ℕ) → i ≤ length basis → c < n + length basis + 4 → c ≢ column
        → rows_of (table_with new) i c ≡ rows_of (table_with table) i c
    emptied_others i c il cl d = elim (cases_lt (columns_of places c) (n + 3)) [
      | inl l ↦
          let apart : columns_of places c ≢ x =
          (λ e. d (sym (sound.placed.near_column c cl l) ∙ ap (columns_of near) (e ∙ ex)
          ∙ sound.placed.near_column column free.inside (free_place column free))) in
          read_near (n + 3) (columns_of places) i (row_at new (n + 4) i) c l
          ∙ others i (columns_of places c) (omega arith) (inr apart)
          ∙ sym (read_near (n + 3) (columns_of places) i (row_at table (n + 4) i) c l)
      | inr l ↦ elim (cases_eq (columns_of places c) (n + 3 + i)) [
        | inl s ↦
            let p : columns_of places column < n + 3 = free_place column free in
            read_own (n + 3) (columns_of places) i (row_at new (n + 4) i) c s
            ∙ others i (n + 3) (omega arith) (inr (λ e. absurd (omega arith)))
            ∙ sym (read_own (n + 3) (columns_of places) i (row_at table (n + 4) i) c s)
        | inr o ↦ read_none (n + 3) (columns_of places) i (row_at new (n + 4) i) c l o
            ∙ sym (read_none (n + 3) (columns_of places) i (row_at table (n + 4) i) c l o)
      ]
    ]

  -- ---- one row copied over another one
  pub copied_between : (from to f g : ℕ) → from ≡ f → to ≡ g → (new : List ℤ)
      → ((k : ℕ) → k < n + 4 → row_at new (n + 4) to k ≡ row_at table (n + 4) from k)
      → (i c : ℕ) → read_row (n + 3) (columns_of places) i (row_at new (n + 4) g) c ≡ read_row (n + 3)
      (columns_of places) i (row_at table (n + 4) f) c
  copied_between from to f g ef eg new here i =
      subst (λ (j : ℕ). (c : ℕ)
      → read_row (n + 3) (columns_of places) i (row_at new (n + 4) j) c ≡ read_row (n + 3) (columns_of places) i
      (row_at table (n + 4) f) c) eg
      (subst (λ (j : ℕ). (c : ℕ)
      → read_row (n + 3) (columns_of places) i (row_at new (n + 4) to) c ≡ read_row (n + 3) (columns_of places) i
      (row_at table (n + 4) j) c) ef
      (read_same (n + 3) (columns_of places) i (row_at table (n + 4) from) (row_at new (n + 4) to)
      (λ k l. here k (omega arith))))

  -- a row that has not changed
  pub other_read : (m : ℕ) (new : List ℤ)
      → ((i k : ℕ) → i ≢ m → k < n + 4 → row_at new (n + 4) i k ≡ row_at table (n + 4) i k) → (i j c : ℕ) → j ≢ m
      → read_row (n + 3) (columns_of places) i (row_at new (n + 4) j) c ≡ read_row (n + 3) (columns_of places) i
      (row_at table (n + 4) j) c
  other_read m new others i j c d =
      read_same (n + 3) (columns_of places) i (row_at table (n + 4) j) (row_at new (n + 4) j)
      (λ k l. others j k d (omega arith)) c

  -- ---- the auxiliary objective
  module _ (free : IsFree n basis (n + length basis)) (x : ℕ) (ex : x ≡ columns_of places (n + length basis))
      (new : List ℤ) (there : row_at new (n + 4) (length basis) x ≡ pos 1)
      (own : (w : ℕ) → w + 1 ≡ n + 4 → row_at new (n + 4) (length basis) w ≡ pos 1)
      (zero : (k : ℕ) → k + 1 < n + 4 → k ≢ x → row_at new (n + 4) (length basis) k ≡ pos 0) where
    pub unit_auxiliary : rows_of (table_with new) (length basis) (n + length basis) ≡ pos 1
    unit_auxiliary =
        read_near (n + 3) (columns_of places) (length basis) (row_at new (n + 4) (length basis)) (n + length basis)
        (free_place (n + length basis) free) ∙ ap (row_at new (n + 4) (length basis)) (sym ex) ∙ there

    pub unit_objective : rows_of (table_with new) (length basis) (suc (n + length basis)) ≡ pos 1
    unit_objective =
        read_own (n + 3) (columns_of places) (length basis) (row_at new (n + 4) (length basis)) (suc (n + length basis))
        objective_place ∙ own (n + 3) (omega arith)

    pub unit_else : (c : ℕ) → c < n + length basis + 4 → c ≢ n + length basis → c ≢ suc (n + length basis)
        → rows_of (table_with new) (length basis) c ≡ pos 0
    unit_else c cl d o = elim (cases_lt (columns_of places c) (n + 3)) [
      | inl l ↦
          let apart : columns_of places c ≢ x =
          (λ e. d (sym (sound.placed.near_column c cl l) ∙ ap (columns_of near) (e ∙ ex)
          ∙ sound.placed.near_column (n + length basis) free.inside (free_place (n + length basis) free))) in
          read_near (n + 3) (columns_of places) (length basis) (row_at new (n + 4) (length basis)) c l
          ∙ zero (columns_of places c) (omega arith) apart
      | inr l ↦ elim (cases_eq (columns_of places c) (n + 3 + length basis)) [
        | inr s ↦ read_none (n + 3) (columns_of places) (length basis) (row_at new (n + 4) (length basis)) c l s
        | inl s ↦
            let b : (i : ℕ) × (i ≤ length basis) × (columns_of places c ≡ n + 3 + i) × (basic_columns n basis i ≡ c) =
            sound.placed.basic_column c cl l in
            let bp : columns_of places c ≡ n + 3 + b.0 = b.2 in
            let e : b.0 ≡ length basis = omega arith in
            absurd (o (sym b.3 ∙ ap (basic_columns n basis) e ∙ basic_high n basis (length basis) (omega arith)))
      ]
    ]

  -- ---- two positions exchanged
  module _ (a b : ℕ) (al : a < length basis) (bl : b < length basis) (x y : ℕ) (ex : x ≡ columns_of basis a)
      (ey : y ≡ columns_of basis b) where
    abbrev basis' : List ℕ
    basis' = set (set basis a y) b x

    abbrev places' : List ℕ
    places' = set (set places y (n + 3 + a)) x (n + 3 + b)

    same_length : length basis' ≡ length basis
    same_length = length-set (set basis a y) b x ∙ length-set basis a y

    x_is : basic_columns n basis a ≡ x
    x_is = basic_low n basis a al ∙ sym ex

    y_is : basic_columns n basis b ≡ y
    y_is = basic_low n basis b bl ∙ sym ey

    x_at : columns_of places x ≡ n + 3 + a
    x_at = ap (columns_of places) (sym x_is) ∙ sound.placed.basic_at a (omega arith)

    y_at : columns_of places y ≡ n + 3 + b
    y_at = ap (columns_of places) (sym y_is) ∙ sound.placed.basic_at b (omega arith)

    pub x_in : x < length places
    x_in =
        let l : basic_columns n basis a < n + length basis + 4 = sound.placed.basic_in a (omega arith) in
        omega (arith, x_is, sound.places_size)

    pub y_in : y < length places
    y_in =
        let l : basic_columns n basis b < n + length basis + 4 = sound.placed.basic_in b (omega arith) in
        omega (arith, y_is, sound.places_size)

    x_in_set : x < length (set places y (n + 3 + a))
    x_in_set = let l : x < length places = x_in in omega (arith, length-set places y (n + 3 + a))

    elsewhere : (c : ℕ) → c ≢ x → c ≢ y → columns_of places' c ≡ columns_of places c
    elsewhere c dx dy =
        get_or-set_other (set places y (n + 3 + a)) x c (n + 3 + b) 0 dx ∙ get_or-set_other places y c (n + 3 + a) 0 dy

    at_x : columns_of places' x ≡ n + 3 + b
    at_x = get_or-set_same (set places y (n + 3 + a)) x (n + 3 + b) 0 x_in_set

    at_y : y ≢ x → columns_of places' y ≡ n + 3 + a
    at_y d =
        get_or-set_other (set places y (n + 3 + a)) x y (n + 3 + b) 0 d ∙ get_or-set_same places y (n + 3 + a) 0 y_in

    stays : (c : ℕ) → columns_of places c < n + 3 → columns_of places' c ≡ columns_of places c
    stays c l =
        elsewhere c (λ e. let s : columns_of places c ≡ n + 3 + a =
        ap (columns_of places) e ∙ x_at in absurd (omega arith))
        (λ e. let s : columns_of places c ≡ n + 3 + b = ap (columns_of places) e ∙ y_at in absurd (omega arith))

    pub columns_exchanged : (i : ℕ) → columns_of basis' i ≡ columns_of basis (exchanged a b i)
    columns_exchanged i = elim (cases_eq i b) [
      | inl e ↦ ap (columns_of basis') e ∙ get_or-set_same (set basis a y) b x 0 (omega (arith, length-set basis a y))
          ∙ ex ∙ ap (columns_of basis) (sym (exchanged_p a b) ∙ ap (exchanged a b) (sym e))
      | inr d ↦ elim (cases_eq i a) [
        | inl e ↦
            ap (columns_of basis') e ∙ get_or-set_other (set basis a y) b a x 0 (λ s. d (e ∙ s))
            ∙ get_or-set_same basis a y 0 al ∙ ey
            ∙ ap (columns_of basis) (sym (exchanged_q a b) ∙ ap (exchanged a b) (sym e))
        | inr o ↦ get_or-set_other (set basis a y) b i x 0 d ∙ get_or-set_other basis a i y 0 o
            ∙ ap (columns_of basis) (sym (exchanged_other a b i o d))
      ]
    ]

    basic_exchanged : (i : ℕ) → i ≤ length basis → basic_columns n basis' i ≡ basic_columns n basis (exchanged a b i)
    basic_exchanged i il = elim (cases_lt i (length basis)) [
      | inl l ↦ basic_low n basis' i (omega (arith, same_length)) ∙ columns_exchanged i
          ∙ sym (basic_low n basis (exchanged a b i) (exchanged_low a b i (length basis) al bl l))
      | inr l ↦
          let s : exchanged a b i ≡ i = exchanged_other a b i (λ e. absurd (omega arith)) (λ e. absurd (omega arith)) in
          basic_high n basis' i (omega (arith, same_length)) ∙ ap (λ t. suc (n + t)) same_length
          ∙ sym (basic_high n basis i l) ∙ ap (basic_columns n basis) (sym s)
    ]

    moved : (i : ℕ) → i ≤ length basis → columns_of places' (basic_columns n basis i) ≡ n + 3 + exchanged a b i
    moved i il = elim (cases_eq i a) [
      | inl e ↦ ap (λ (t : ℕ). columns_of places' (basic_columns n basis t)) e ∙ ap (columns_of places') x_is ∙ at_x
          ∙ ap (λ t. n + 3 + t) (sym (exchanged_q a b) ∙ ap (exchanged a b) (sym e))
      | inr d ↦ elim (cases_eq i b) [
        | inl e ↦
            ap (λ (t : ℕ). columns_of places' (basic_columns n basis t)) e ∙ ap (columns_of places') y_is
            ∙ at_y (λ s. let t : n + 3 + b ≡ n + 3 + a =
            sym y_at ∙ ap (columns_of places) s ∙ x_at in d (e ∙ omega arith))
            ∙ ap (λ t. n + 3 + t) (sym (exchanged_p a b) ∙ ap (exchanged a b) (sym e))
        | inr o ↦
            let here : columns_of places (basic_columns n basis i) ≡ n + 3 + i = sound.placed.basic_at i il in
            elsewhere (basic_columns n basis i)
            (λ s. let t : n + 3 + i ≡ n + 3 + a = sym here ∙ ap (columns_of places) s ∙ x_at in d (omega arith))
            (λ s. let t : n + 3 + i ≡ n + 3 + b = sym here ∙ ap (columns_of places) s ∙ y_at in o (omega arith))
            ∙ here ∙ ap (λ t. n + 3 + t) (sym (exchanged_other a b i d o))
      ]
    ]

    pub exchanged_sound : (new : List ℤ) (news : List ℕ) → HasBounds limit (n + 4) new news
        → length news ≡ length bounds → IsSound limit n basis' places' near new news workspace
    exchanged_sound new news h ln = record {
      few = subst (λ t. n + t < 2 ^ 31) (sym same_length) sound.few;
      limit_low = sound.limit_low;
      count = ln ∙ sound.count ∙ ap (λ t. t + 2) (sym same_length);
      bounded = h;
      places_size =
          length-set (set places y (n + 3 + a)) x (n + 3 + b) ∙ length-set places y (n + 3 + a) ∙ sound.places_size
          ∙ ap (λ t. n + t + 4) (sym same_length);
      near_size = sound.near_size;
      placed =
          subst (λ t. IsPlaced t (n + 3) (n + t + 4) (columns_of places') (columns_of near) (basic_columns n basis'))
          (sym same_length)
          (placed_swapped (length basis) (n + 3) (n + length basis + 4) a b (columns_of places) (columns_of near)
          (basic_columns n basis) (columns_of places') (basic_columns n basis') (omega arith) (omega arith) sound.placed
          stays moved basic_exchanged);
      right_at =
          ap (λ t. columns_of places' (right_column n t)) same_length
          ∙ stays (right_column n (length basis))
          (let s : columns_of places (right_column n (length basis)) ≡ n + 2 = sound.right_at in omega arith)
          ∙ sound.right_at;
      workspace_is = sound.workspace_is;
    }

    read_exchanged : (rows rows' : Matrix) (i : ℕ) → i ≤ length basis
        → ((k : ℕ) → k < n + 4 → rows' i k ≡ rows (exchanged a b i) k) → (c : ℕ) → c < n + length basis + 4
        → read_row (n + 3) (columns_of places') i (rows' i) c ≡ read_row (n + 3) (columns_of places) (exchanged a b i)
        (rows (exchanged a b i)) c
    read_exchanged rows rows' i il same c cl =
        swapped_entry (length basis) (n + 3) (n + length basis + 4) a b (columns_of places) (columns_of near)
        (basic_columns n basis) (columns_of places') (basic_columns n basis') (omega arith) (omega arith) sound.placed
        stays moved basic_exchanged
        rows rows' (λ j. rows j (n + 3)) (λ j. rows' j (n + 3)) i il (λ k l. same k (omega arith))
        (same (n + 3) (omega arith)) c cl

    abbrev pub exchanged_table : List ℤ → Table
    exchanged_table t = record { limit = limit; columns = n; basis = basis'; places = places'; table = t }

    module _ (new : List ℤ) (same : (i k : ℕ) → k < n + 4
        → row_at new (n + 4) i k ≡ row_at table (n + 4) (exchanged a b i) k) where
      pub exchanged_rows : (i c : ℕ) → i ≤ length basis → c < n + length basis + 4
          → rows_of (exchanged_table new) i c ≡ rows_of (table_with table) (exchanged a b i) c
      exchanged_rows i c il cl = read_exchanged (row_at table (n + 4)) (row_at new (n + 4)) i il (same i) c cl

      pub exchanged_kept : (c : ℕ) → c < n + length basis + 4
          → kept_row_of (exchanged_table new) c ≡ kept_row_of (table_with table) c
      exchanged_kept c cl =
          let s : exchanged a b (length basis) ≡ length basis =
          exchanged_other a b (length basis) (λ e. absurd (omega arith)) (λ e. absurd (omega arith)) in
          let t : exchanged a b (suc (length basis)) ≡ suc (length basis) =
          exchanged_other a b (suc (length basis)) (λ e. absurd (omega arith)) (λ e. absurd (omega arith)) in
          ap (λ (k : ℕ). read_row (n + 3) (columns_of places') k (row_at new (n + 4) (suc k)) c) same_length
          ∙ read_exchanged (λ j. row_at table (n + 4) (suc (length basis)))
          (λ j. row_at new (n + 4) (suc (length basis))) (length basis) (omega arith)
          (λ k l. same (suc (length basis)) k l ∙ ap (λ (j : ℕ). row_at table (n + 4) j k) t) c cl
          ∙ ap (λ (k : ℕ). read_row (n + 3) (columns_of places) k (row_at table (n + 4) (suc (length basis))) c) s
