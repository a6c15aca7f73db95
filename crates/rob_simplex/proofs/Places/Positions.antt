-- Where a column is basic.
use Rattle.std.proofs.Common.{◌≡◌, ◌≢◌, ℕ, zero, suc, ◌<◌, refl, ap, ◌∙◌, arith, inl, inr, ◌⊎◌, List, [], ◌∷◌, length, get_or, Some, None}
use Rattle.std.proofs.lemmas.Bool.{cases_eq}
use Rattle.std.proofs.lemmas.Bool.Decides.{nat_tests}
use Rattle.rob_simplex.specs.Solutions.{one_further, position_of}

here : (own : ℕ) (basis : List ℕ) (column : ℕ) → own ≡ column → position_of (own ∷ basis) column ≡ Some 0
here own basis column e = grind (arith, nat_tests)

not_here : (own : ℕ) (basis : List ℕ) (column : ℕ) → own ≢ column
    → position_of (own ∷ basis) column ≡ one_further (position_of basis column)
not_here own basis column d = grind (arith, nat_tests)

-- the first place is found
pub position_found : (basis : List ℕ) (column k : ℕ) → k < length basis → get_or basis k 0 ≡ column
    → ((j : ℕ) → j < k → get_or basis j 0 ≢ column) → position_of basis column ≡ Some k
position_found [] column k l e h = absurd (omega arith)
position_found (own ∷ basis) column zero l e h = here own basis column e
position_found (own ∷ basis) column (suc k) l e h =
    not_here own basis column (h 0 (omega arith))
    ∙ ap one_further (position_found basis column k (omega arith) e (λ j jl. h (suc j) (omega arith)))

pub position_none : (basis : List ℕ) (column : ℕ) → ((j : ℕ) → j < length basis → get_or basis j 0 ≢ column)
    → position_of basis column ≡ None
position_none [] column h = refl
position_none (own ∷ basis) column h =
    not_here own basis column (h 0 (omega arith))
    ∙ ap one_further (position_none basis column (λ j jl. h (suc j) (omega arith)))

-- a column is basic somewhere, or nowhere
pub position_cases : (basis : List ℕ) (column : ℕ)
    → ((k : ℕ) × (k < length basis) × (get_or basis k 0 ≡ column) × (position_of basis column ≡ Some k))
    ⊎ (((j : ℕ) → j < length basis → get_or basis j 0 ≢ column) × (position_of basis column ≡ None))
position_cases [] column = inr ((λ j jl. absurd (omega arith)), refl)
position_cases (own ∷ basis) column =
    elim (cases_eq own column) [
      | inl e ↦ inl (0, omega arith, e, here own basis column e)
      | inr d ↦ elim (position_cases basis column) [
        | inl h ↦
            let l : h.0 < length basis = h.1 in
            inl (suc h.0, omega arith, h.2, not_here own basis column d ∙ ap one_further h.3)
        | inr h ↦ inr (nowhere own basis column d h.0, not_here own basis column d ∙ ap one_further h.1)
      ]
    ]
  where
    nowhere : (own : ℕ) (basis : List ℕ) (column : ℕ) → own ≢ column
        → ((j : ℕ) → j < length basis → get_or basis j 0 ≢ column) → (j : ℕ) → j < suc (length basis)
        → get_or (own ∷ basis) j 0 ≢ column
    nowhere own basis column d h zero l = d
    nowhere own basis column d h (suc j) l = h j (omega arith)

-- what its position tells
pub position_is : (basis : List ℕ) (column k : ℕ) → Some k ≡ position_of basis column → (k < length basis)
    × (get_or basis k 0 ≡ column)
position_is basis column k e = elim (position_cases basis column) [
  | inl h ↦
      let s : k ≡ h.0 = some_is k h.0 (e ∙ h.3) in
      let l : h.0 < length basis = h.1 in (omega arith, ap (λ i. get_or basis i 0) s ∙ h.2)
  | inr h ↦ absurd (let f : Some k ≡ None = e ∙ h.1 in cc)
]
  where
    some_is : (a b : ℕ) → Some a ≡ Some b → a ≡ b
    some_is a b f = cc

pub position_not : (basis : List ℕ) (column : ℕ) → None ≡ position_of basis column → (j : ℕ) → j < length basis
    → get_or basis j 0 ≢ column
position_not basis column e = elim (position_cases basis column) [
  | inl h ↦ absurd (let f : None ≡ Some h.0 = e ∙ h.3 in cc)
  | inr h ↦ h.0
]
