-- At which position a column is basic, as its place tells.
use Rattle.std.proofs.Common.{◌≡◌, ℕ, suc, ◌+◌, ◌-◌, ◌^◌, ◌<◌, ◌≤◌, sym, ap, ◌∙◌, arith, inl, inr, List, length, get_or, Some, None}
use Rattle.std.proofs.lemmas.Bool.{cases_lt}
use lib.IntN.{ℤ}
use Rattle.rob_simplex.specs.Dictionaries.{columns_of, basic_columns, IsSound}
use Rattle.rob_simplex.specs.Solutions.{position_of}
use Rattle.rob_simplex.proofs.Places.Positions.{position_found, position_none}
use Rattle.rob_simplex.proofs.Rows.ReadRows.{basic_low, basic_high}

module _ {limit n : ℕ} {basis places near : List ℕ} {table : List ℤ} {bounds : List ℕ} {workspace : ℕ}
    (sound : IsSound limit n basis places near table bounds workspace) where
  basic_place : (j : ℕ) → j < length basis → columns_of places (columns_of basis j) ≡ n + 3 + j
  basic_place j l = ap (columns_of places) (sym (basic_low n basis j l)) ∙ sound.placed.basic_at j (omega arith)

  -- a basic column is one of the dictionary's
  pub basic_few : (i : ℕ) → i < length basis → columns_of basis i < 2 ^ 32
  basic_few i l =
      let e : columns_of basis i ≡ basic_columns n basis i = sym (basic_low n basis i l) in
      let b : basic_columns n basis i < n + length basis + 4 = sound.placed.basic_in i (omega arith) in
      omega (arith, sound.few)

  module _ (column : ℕ) (column_in : column < n + length basis) where
    pub nowhere : columns_of places column < n + 3 → None ≡ position_of basis column
    nowhere l =
        sym (position_none basis column
        (λ j jl e. let p : columns_of places column ≡ n + 3 + j =
        ap (columns_of places) (sym e) ∙ basic_place j jl in omega arith))

    pub somewhere : n + 3 ≤ columns_of places column
        → (Some (columns_of places column - (n + 3)) ≡ position_of basis column)
        × (columns_of places column - (n + 3) < length basis)
    somewhere l =
        let b = sound.placed.basic_column column (omega arith) l in
        let bl : b.0 ≤ length basis = b.1 in
        let p : columns_of places column ≡ n + 3 + b.0 = b.2 in
        elim (cases_lt b.0 (length basis)) [
          | inl low ↦
              let e : get_or basis b.0 0 ≡ column = sym (basic_low n basis b.0 low) ∙ b.3 in
              let k : columns_of places column - (n + 3) ≡ b.0 = omega arith in (
                ap Some k ∙ sym (position_found basis column b.0 low e
                    (λ j jl f. let q : columns_of places column ≡ n + 3 + j =
                    ap (columns_of places) (sym f) ∙ basic_place j (omega arith) in omega arith)),
                omega arith,
              )
          | inr high ↦
              absurd (let x : suc (n + length basis) ≡ column = sym (basic_high n basis b.0 high) ∙ b.3 in omega arith)
        ]
