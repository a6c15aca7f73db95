-- The dictionary that a program starts from.
use Rattle.std.proofs.Common.{◌≡◌, ℕ, suc, ◌+◌, ◌-◌, ◌*◌, ◌^◌, ◌<◌, ◌≤◌, sym, refl, ap, ◌∙◌, subst, arith, inl, inr, List, length, replicate, nat_abs}
use Rattle.std.proofs.lemmas.Bool.{cases_eq, cases_lt}
use Rattle.std.proofs.lemmas.List.{get_or-replicate, length-replicate}
use Rattle.std.proofs.lemmas.Bool.Decides.{nat_tests}
use lib.IntN.{ℤ, pos, neg_ℤ}
use Rattle.rob_linear.specs.Vectors.{Vector, at}
use Rattle.rob_linear.specs.CondensedRows.{IsPlaced}
use Rattle.rob_linear.specs.Programs.{Program, kept_row, auxiliary_tag}
use Rattle.rob_linear.proofs.LinearPrograms.Programs.{auxiliary_tag-slack, auxiliary_tag-objective}
use Rattle.rob_linear.proofs.BasisPaths.TwoPhases.{kept_one, kept_zero}
use Rattle.rob_table.specs.Tables.{row_at, bound_at, HasBounds}
use Rattle.rob_simplex.specs.Dictionaries.{columns_of, basic_columns, spare_column, read_row, IsSound}
use Rattle.rob_simplex.specs.Starts.{start_place, start_column, start_entry, IsStartingTable}
use Rattle.rob_simplex.proofs.Rows.ReadRows.{read_near, read_own, read_none, basic_low, basic_high}

-- ---- one entry of a row
pub entry_low : (n : ℕ) (low : Vector) (x y : ℤ) (k : ℕ) → k < n → start_entry n low x y k ≡ low k
entry_low n low x y k l = grind (arith, nat_tests)

entry_auxiliary : (n : ℕ) (low : Vector) (x y : ℤ) → start_entry n low x y n ≡ x
entry_auxiliary n low x y = grind (arith, nat_tests)

entry_spare : (n : ℕ) (low : Vector) (x y : ℤ) → start_entry n low x y (n + 1) ≡ pos 0
entry_spare n low x y = grind (arith, nat_tests)

entry_right : (n : ℕ) (low : Vector) (x y : ℤ) → start_entry n low x y (n + 2) ≡ y
entry_right n low x y = grind (arith, nat_tests)

entry_own : (n : ℕ) (low : Vector) (x y : ℤ) (k : ℕ) → n + 2 < k → start_entry n low x y k ≡ pos 1
entry_own n low x y k l = grind (arith, nat_tests)

pub entry_within : (n limit : ℕ) (low : Vector) (x y : ℤ) → ((k : ℕ) → k < n → nat_abs (low k) ≤ limit)
    → nat_abs x ≤ limit → nat_abs y ≤ limit → 1 ≤ limit → (k : ℕ) → nat_abs (start_entry n low x y k) ≤ limit
entry_within n limit low x y h hx hy one k = elim (cases_lt k n) [
  | inl l ↦ subst (λ t. nat_abs t ≤ limit) (sym (entry_low n low x y k l)) (h k l)
  | inr l ↦ elim (cases_eq k n) [
    | inl e ↦ subst (λ t. nat_abs t ≤ limit) (sym (ap (start_entry n low x y) e ∙ entry_auxiliary n low x y)) hx
    | inr d ↦ elim (cases_eq k (n + 1)) [
      | inl e ↦
          subst (λ t. nat_abs t ≤ limit) (sym (ap (start_entry n low x y) e ∙ entry_spare n low x y)) (omega arith)
      | inr f ↦ elim (cases_eq k (n + 2)) [
        | inl e ↦ subst (λ t. nat_abs t ≤ limit) (sym (ap (start_entry n low x y) e ∙ entry_right n low x y)) hy
        | inr g ↦ subst (λ t. nat_abs t ≤ limit) (sym (entry_own n low x y k (omega arith))) one
      ]
    ]
  ]
]

-- rows of zeros
pub zero_bounds : (limit width count : ℕ) (rows : List ℤ) (bounds : List ℕ) → length rows ≡ count * width
    → ((k : ℕ) → at rows k ≡ pos 0) → bounds ≡ replicate count 0 → HasBounds limit width rows bounds
zero_bounds limit width count rows bounds lr zeros eb =
    let lb : length bounds ≡ count = ap length eb ∙ length-replicate count 0 in
    record {
      size = lr ∙ ap (λ t. t * width) (sym lb);
      within = λ i k il kl. subst (λ t. nat_abs t ≤ bound_at bounds i) (sym (zeros (i * width + k))) (omega arith);
      low = λ i il. let z : bound_at bounds i ≡ 0 =
          ap (λ (s : List ℕ). bound_at s i) eb ∙ get_or-replicate count i 0 0 (omega arith) in omega arith;
    }

-- the greatest size of entries that are within a limit
pub largest_within : (limit width size : ℕ) (f : ℕ → ℤ) → ((k : ℕ) → k < width → nat_abs (f k) ≤ limit)
    → (0 < size → (k : ℕ) × (k < width) × (nat_abs (f k) ≡ size)) → size ≤ limit
largest_within limit width size f small reached = elim (cases_lt 0 size) [
  | inl l ↦
      let r = reached l in
      let b : nat_abs (f r.0) ≤ limit = small r.0 r.1 in
      let e : nat_abs (f r.0) ≡ size = r.2 in
      omega arith
  | inr l ↦ omega arith
]

-- ---- the maps
place_low : (n m c : ℕ) → c < n → start_place n m c ≡ c
place_low n m c l = grind (arith, nat_tests)

place_slack : (n m c : ℕ) → n ≤ c → c < n + m → start_place n m c ≡ c + 3
place_slack n m c l u = grind (arith, nat_tests)

place_auxiliary : (n m : ℕ) → start_place n m (n + m) ≡ n
place_auxiliary n m = grind (arith, nat_tests)

place_objective : (n m : ℕ) → start_place n m (suc (n + m)) ≡ n + 3 + m
place_objective n m = grind (arith, nat_tests)

place_right : (n m : ℕ) → start_place n m (suc (suc (n + m))) ≡ n + 2
place_right n m = grind (arith, nat_tests)

place_spare : (n m : ℕ) → start_place n m (suc (suc (suc (n + m)))) ≡ n + 1
place_spare n m = grind (arith, nat_tests)

column_low : (n m k : ℕ) → k < n → start_column n m k ≡ k
column_low n m k l = grind (arith, nat_tests)

column_auxiliary : (n m : ℕ) → start_column n m n ≡ n + m
column_auxiliary n m = grind (arith, nat_tests)

column_spare : (n m : ℕ) → start_column n m (suc n) ≡ suc (suc (suc (n + m)))
column_spare n m = grind (arith, nat_tests)

column_right : (n m : ℕ) → start_column n m (suc (suc n)) ≡ suc (suc (n + m))
column_right n m = grind (arith, nat_tests)

-- the columns, one kind after the other
module _ (n m : ℕ) (Q : ℕ → Type 0) (low : (c : ℕ) → c < n → Q c) (slack : (i : ℕ) → i < m → Q (n + i))
    (auxiliary : Q (n + m)) (objective : Q (suc (n + m))) (right : Q (suc (suc (n + m))))
    (spare : Q (suc (suc (suc (n + m))))) where
  column_cases : (c : ℕ) → c < n + m + 4 → Q c
  column_cases c l = elim (cases_lt c n) [
    | inl a ↦ low c a
    | inr a ↦ elim (cases_lt c (n + m)) [
      | inl b ↦ let e : n + (c - n) ≡ c = omega arith in subst Q e (slack (c - n) (omega arith))
      | inr b ↦ elim (cases_eq c (n + m)) [
        | inl e ↦ subst Q (sym e) auxiliary
        | inr d ↦ elim (cases_eq c (suc (n + m))) [
          | inl e ↦ subst Q (sym e) objective
          | inr f ↦ elim (cases_eq c (suc (suc (n + m)))) [
            | inl e ↦ subst Q (sym e) right
            | inr g ↦ let e : suc (suc (suc (n + m))) ≡ c = omega arith in subst Q e spare
          ]
        ]
      ]
    ]
  ]

-- the places below the own entry
module _ (n : ℕ) (Q : ℕ → Type 0) (low : (k : ℕ) → k < n → Q k) (auxiliary : Q n) (spare : Q (suc n))
    (right : Q (suc (suc n))) where
  place_cases : (k : ℕ) → k < n + 3 → Q k
  place_cases k l = elim (cases_lt k n) [
    | inl a ↦ low k a
    | inr a ↦ elim (cases_eq k n) [
      | inl e ↦ subst Q (sym e) auxiliary
      | inr d ↦ elim (cases_eq k (suc n)) [
        | inl e ↦ subst Q (sym e) spare
        | inr f ↦ let e : suc (suc n) ≡ k = omega arith in subst Q e right
      ]
    ]
  ]

-- each column at its first place, and each position with its slack column
pub record IsNumbered (n : ℕ) (basis places near : List ℕ) : Type 0 where
  pub slacks : (i : ℕ) → i < length basis → columns_of basis i ≡ n + i
  pub placed : (c : ℕ) → c < n + length basis + 4 → columns_of places c ≡ start_place n (length basis) c
  pub nears : (k : ℕ) → k < n + 3 → columns_of near k ≡ start_column n (length basis) k

module _ {n : ℕ} {basis places near : List ℕ} (numbered : IsNumbered n basis places near) where
  abbrev m : ℕ
  m = length basis

  at_low : (c : ℕ) → c < n → columns_of places c ≡ c
  at_low c l = numbered.placed c (omega arith) ∙ place_low n (length basis) c l

  at_slack : (i : ℕ) → i < length basis → columns_of places (n + i) ≡ n + 3 + i
  at_slack i l =
      let e : n + i + 3 ≡ n + 3 + i = omega arith in
      numbered.placed (n + i) (omega arith) ∙ place_slack n (length basis) (n + i) (omega arith) (omega arith) ∙ e

  at_auxiliary : columns_of places (n + length basis) ≡ n
  at_auxiliary = numbered.placed (n + length basis) (omega arith) ∙ place_auxiliary n (length basis)

  at_objective : columns_of places (suc (n + length basis)) ≡ n + 3 + length basis
  at_objective = numbered.placed (suc (n + length basis)) (omega arith) ∙ place_objective n (length basis)

  pub at_right : columns_of places (suc (suc (n + length basis))) ≡ n + 2
  at_right = numbered.placed (suc (suc (n + length basis))) (omega arith) ∙ place_right n (length basis)

  pub at_spare : columns_of places (suc (suc (suc (n + length basis)))) ≡ n + 1
  at_spare = numbered.placed (suc (suc (suc (n + length basis)))) (omega arith) ∙ place_spare n (length basis)

  near_low : (k : ℕ) → k < n → columns_of near k ≡ k
  near_low k l = numbered.nears k (omega arith) ∙ column_low n (length basis) k l

  near_auxiliary : columns_of near n ≡ n + length basis
  near_auxiliary = numbered.nears n (omega arith) ∙ column_auxiliary n (length basis)

  near_spare : columns_of near (suc n) ≡ suc (suc (suc (n + length basis)))
  near_spare = numbered.nears (suc n) (omega arith) ∙ column_spare n (length basis)

  near_right : columns_of near (suc (suc n)) ≡ suc (suc (n + length basis))
  near_right = numbered.nears (suc (suc n)) (omega arith) ∙ column_right n (length basis)

  tag_slack : (i : ℕ) → i < length basis → basic_columns n basis i ≡ n + i
  tag_slack i l = basic_low n basis i l ∙ numbered.slacks i l

  pub start_is_placed : IsPlaced (length basis) (n + 3) (n + length basis + 4) (columns_of places) (columns_of near)
      (basic_columns n basis)
  start_is_placed = record {
    near_in =
        place_cases n (λ k. columns_of near k < n + length basis + 4)
        (λ k l. let e : columns_of near k ≡ k = near_low k l in omega arith)
        (let e : columns_of near n ≡ n + length basis = near_auxiliary in omega arith)
        (let e : columns_of near (suc n) ≡ suc (suc (suc (n + length basis))) = near_spare in omega arith)
        (let e : columns_of near (suc (suc n)) ≡ suc (suc (n + length basis)) = near_right in omega arith);
    near_at =
        place_cases n (λ k. columns_of places (columns_of near k) ≡ k)
        (λ k l. ap (columns_of places) (near_low k l) ∙ at_low k l)
        (ap (columns_of places) near_auxiliary ∙ at_auxiliary)
        (let e : n + 1 ≡ suc n = omega arith in ap (columns_of places) near_spare ∙ at_spare ∙ e)
        (let e : n + 2 ≡ suc (suc n) = omega arith in ap (columns_of places) near_right ∙ at_right ∙ e);
    basic_in = λ i il. elim (cases_lt i (length basis)) [
      | inl l ↦ let e : basic_columns n basis i ≡ n + i = tag_slack i l in omega arith
      | inr l ↦ let e : basic_columns n basis i ≡ suc (n + length basis) = basic_high n basis i l in omega arith
    ];
    basic_at = λ i il. elim (cases_lt i (length basis)) [
      | inl l ↦ ap (columns_of places) (tag_slack i l) ∙ at_slack i l
      | inr l ↦
          let e : length basis ≡ i = omega arith in
          ap (columns_of places) (basic_high n basis i l) ∙ at_objective ∙ ap (λ t. n + 3 + t) e
    ];
    near_column =
        column_cases n (length basis) (λ c. columns_of places c < n + 3 → columns_of near (columns_of places c) ≡ c)
        (λ c cl l. ap (columns_of near) (at_low c cl) ∙ near_low c cl)
        (λ i il l. let e : columns_of places (n + i) ≡ n + 3 + i = at_slack i il in absurd (omega arith))
        (λ l. ap (columns_of near) at_auxiliary ∙ near_auxiliary)
        (λ l. let e : columns_of places (suc (n + length basis)) ≡ n + 3 + length basis =
        at_objective in absurd (omega arith))
        (λ l. let e : n + 2 ≡ suc (suc n) = omega arith in ap (columns_of near) (at_right ∙ e) ∙ near_right)
        (λ l. let e : n + 1 ≡ suc n = omega arith in ap (columns_of near) (at_spare ∙ e) ∙ near_spare);
    basic_column =
        column_cases n (length basis)
        (λ c. n + 3 ≤ columns_of places c → (i : ℕ) × (i ≤ length basis) × (columns_of places c ≡ n + 3 + i)
        × (basic_columns n basis i ≡ c))
        (λ c cl l. let e : columns_of places c ≡ c = at_low c cl in absurd (omega arith))
        (λ i il l. (i, omega arith, at_slack i il, tag_slack i il))
        (λ l. let e : columns_of places (n + length basis) ≡ n = at_auxiliary in absurd (omega arith))
        (λ l. (length basis, omega arith, at_objective, basic_high n basis (length basis) (omega arith)))
        (λ l. let e : columns_of places (suc (suc (n + length basis))) ≡ n + 2 = at_right in absurd (omega arith))
        (λ l. let e : columns_of places (suc (suc (suc (n + length basis)))) ≡ n + 1 =
        at_spare in absurd (omega arith));
  }

  pub start_is_sound : {limit : ℕ} {table : List ℤ} {bounds : List ℕ} {workspace : ℕ} → n + length basis < 2 ^ 31
      → 1 ≤ limit → length bounds ≡ length basis + 2 → HasBounds limit (n + 4) table bounds
      → length places ≡ n + length basis + 4 → length near ≡ n + 3 → workspace ≡ n + 4
      → IsSound limit n basis places near table bounds workspace
  start_is_sound few low count h ps ns rs = record {
    few = few;
    limit_low = low;
    count = count;
    bounded = h;
    places_size = ps;
    near_size = ns;
    placed = start_is_placed;
    right_at = at_right;
    workspace_is = rs;
  }

  -- ---- the rows as functions
  module _ (a : ℕ → ℕ → ℤ) (b c : ℕ → ℤ) (table : List ℤ)
      (constraint : (i k : ℕ) → i < length basis → k < n + 4
      → row_at table (n + 4) i k ≡ start_entry n (a i) (neg_ℤ (pos 1)) (b i) k)
      (objective : (k : ℕ) → k < n + 4
      → row_at table (n + 4) (length basis) k ≡ start_entry n (λ j. neg_ℤ (c j)) (pos 0) (pos 0) k) where
    abbrev P : Program
    P = record { m = length basis; n = n; a = a; b = b; c = c }

    tag_same : (i : ℕ) → i ≤ length basis → basic_columns n basis i ≡ auxiliary_tag P i
    tag_same i il = elim (cases_lt i (length basis)) [
      | inl l ↦ tag_slack i l ∙ sym (auxiliary_tag-slack P i l)
      | inr l ↦
          let e : i ≡ length basis = omega arith in
          basic_high n basis i l ∙ sym (ap (auxiliary_tag P) e ∙ auxiliary_tag-objective P)
    ]

    start_read : (i k : ℕ) → i ≤ length basis → k < n + length basis + 4
        → (columns_of places k < n + 3 → row_at table (n + 4) i (columns_of places k) ≡ kept_row P i k)
        → row_at table (n + 4) i (n + 3) ≡ pos 1
        → read_row (n + 3) (columns_of places) i (row_at table (n + 4) i) k ≡ kept_row P i k
    start_read i k il kl t o = elim (cases_lt (columns_of places k) (n + 3)) [
      | inl l ↦ read_near (n + 3) (columns_of places) i (row_at table (n + 4) i) k l ∙ t l
      | inr l ↦
          let s : (j : ℕ) × (j ≤ length basis) × (columns_of places k ≡ n + 3 + j) × (basic_columns n basis j ≡ k) =
          start_is_placed.basic_column k kl l in
          elim (cases_eq s.0 i) [
            | inl e ↦
                read_own (n + 3) (columns_of places) i (row_at table (n + 4) i) k (s.2 ∙ ap (λ v. n + 3 + v) e) ∙ o
                ∙ sym (kept_one P i il) ∙ ap (kept_row P i)
                (ap (auxiliary_tag P) (sym e) ∙ sym (tag_same s.0 s.1) ∙ s.3)
            | inr d ↦
                read_none (n + 3) (columns_of places) i (row_at table (n + 4) i) k l
                (λ e. d (let sp : columns_of places k ≡ n + 3 + s.0 = s.2 in omega arith))
                ∙ sym (kept_zero P i s.0 il s.1 d) ∙ ap (kept_row P i) (sym (tag_same s.0 s.1) ∙ s.3)
          ]
    ]

    near_read : (i : ℕ) → ((k : ℕ) → k < n → row_at table (n + 4) i k ≡ kept_row P i k)
        → row_at table (n + 4) i n ≡ kept_row P i (n + length basis)
        → row_at table (n + 4) i (n + 2) ≡ kept_row P i (suc (suc (n + length basis)))
        → (k : ℕ) → k < n + length basis + 4 → k ≤ suc (suc (n + length basis)) → columns_of places k < n + 3
        → row_at table (n + 4) i (columns_of places k) ≡ kept_row P i k
    near_read i low auxiliary right =
        column_cases n (length basis)
        (λ k. k ≤ suc (suc (n + length basis)) → columns_of places k < n + 3
        → row_at table (n + 4) i (columns_of places k) ≡ kept_row P i k)
        (λ k kl u l. ap (row_at table (n + 4) i) (at_low k kl) ∙ low k kl)
        (λ j jl u l. let e : columns_of places (n + j) ≡ n + 3 + j = at_slack j jl in absurd (omega arith))
        (λ u l. ap (row_at table (n + 4) i) at_auxiliary ∙ auxiliary)
        (λ u l. let e : columns_of places (suc (n + length basis)) ≡ n + 3 + length basis =
        at_objective in absurd (omega arith))
        (λ u l. ap (row_at table (n + 4) i) at_right ∙ right)
        (λ u l. absurd (omega arith))

    kept_structural : (i k : ℕ) → i < length basis → k < n → kept_row P i k ≡ a i k
    kept_structural i k il kl = grind (arith, nat_tests)

    kept_auxiliary : (i : ℕ) → i < length basis → kept_row P i (n + length basis) ≡ neg_ℤ (pos 1)
    kept_auxiliary i il = grind (arith, nat_tests)

    kept_right : (i : ℕ) → i < length basis → kept_row P i (suc (suc (n + length basis))) ≡ b i
    kept_right i il = grind (arith, nat_tests, auxiliary_tag-slack P i il)

    cost_structural : (k : ℕ) → k < n → kept_row P (length basis) k ≡ neg_ℤ (c k)
    cost_structural k kl = grind (arith, nat_tests)

    cost_auxiliary : kept_row P (length basis) (n + length basis) ≡ pos 0
    cost_auxiliary = grind (arith, nat_tests)

    cost_right : kept_row P (length basis) (suc (suc (n + length basis))) ≡ pos 0
    cost_right = grind (arith, nat_tests)

    pub start_rows : (i k : ℕ) → i ≤ length basis → k ≤ suc (suc (n + length basis))
        → read_row (n + 3) (columns_of places) i (row_at table (n + 4) i) k ≡ kept_row P i k
    start_rows i k il kl = elim (cases_lt i (length basis)) [
      | inl l ↦
          start_read i k il (omega arith)
          (near_read i (λ j jl. constraint i j l (omega arith) ∙ entry_low n (a i) (neg_ℤ (pos 1)) (b i) j jl
          ∙ sym (kept_structural i j l jl))
          (constraint i n l (omega arith) ∙ entry_auxiliary n (a i) (neg_ℤ (pos 1)) (b i) ∙ sym (kept_auxiliary i l))
          (constraint i (n + 2) l (omega arith) ∙ entry_right n (a i) (neg_ℤ (pos 1)) (b i) ∙ sym (kept_right i l)) k
          (omega arith) kl)
          (constraint i (n + 3) l (omega arith) ∙ entry_own n (a i) (neg_ℤ (pos 1)) (b i) (n + 3) (omega arith))
      | inr l ↦
          let e : i ≡ length basis = omega arith in
          subst (λ (i : ℕ). read_row (n + 3) (columns_of places) i (row_at table (n + 4) i) k ≡ kept_row P i k) (sym e)
          (start_read (length basis) k (omega arith) (omega arith)
          (near_read (length basis)
          (λ j jl. objective j (omega arith) ∙ entry_low n (λ j. neg_ℤ (c j)) (pos 0) (pos 0) j jl
          ∙ sym (cost_structural j jl))
          (objective n (omega arith) ∙ entry_auxiliary n (λ j. neg_ℤ (c j)) (pos 0) (pos 0) ∙ sym cost_auxiliary)
          (objective (n + 2) (omega arith) ∙ entry_right n (λ j. neg_ℤ (c j)) (pos 0) (pos 0) ∙ sym cost_right) k
          (omega arith) kl)
          (objective (n + 3) (omega arith) ∙ entry_own n (λ j. neg_ℤ (c j)) (pos 0) (pos 0) (n + 3) (omega arith)))
    ]

    spare_zero : (i : ℕ) → i ≤ length basis → row_at table (n + 4) i (n + 1) ≡ pos 0
    spare_zero i il = elim (cases_lt i (length basis)) [
      | inl l ↦ constraint i (n + 1) l (omega arith) ∙ entry_spare n (a i) (neg_ℤ (pos 1)) (b i)
      | inr l ↦
          let e : i ≡ length basis = omega arith in
          ap (λ (i : ℕ). row_at table (n + 4) i (n + 1)) e ∙ objective (n + 1) (omega arith)
          ∙ entry_spare n (λ j. neg_ℤ (c j)) (pos 0) (pos 0)
    ]

    pub starting : (limit : ℕ)
        → IsStartingTable P (record { limit = limit; columns = n; basis = basis; places = places; table = table })
    starting limit = record {
      columns_are = refl;
      rows_are = refl;
      slacks = numbered.slacks;
      rows = start_rows;
      closed = record {
        free = λ i l e. let s : columns_of basis i ≡ n + i = numbered.slacks i l in absurd (omega arith);
        zero = λ i il.
            read_near (n + 3) (columns_of places) i (row_at table (n + 4) i) (spare_column n (length basis))
            (let e : columns_of places (spare_column n (length basis)) ≡ n + 1 = at_spare in omega arith)
            ∙ ap (row_at table (n + 4) i) at_spare ∙ spare_zero i il;
      };
    }
