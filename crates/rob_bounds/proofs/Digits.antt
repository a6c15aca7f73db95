-- Vectors of numbers below a base are numbers, by their digits.
use Rattle.std.proofs.Common.{◌≡◌, ◌≢◌, ℕ, zero, suc, ◌+◌, ◌*◌, ◌^◌, ◌/◌, ◌%◌, ◌<◌, ◌≤◌, ◌⊎◌, sym, refl, ap, ◌∙◌, arith, inl, inr, cond, eqb, mod-lt}
use Rattle.std.proofs.Math.Nat.{pow-zero, pow-succ', mod-add-div, mul-div-le, lt_of_mul-lt-mul_left}
use Rattle.std.proofs.lemmas.Bool.{cases_eq}
use Rattle.std.proofs.lemmas.Bool.Decides.{nat_tests}
use Rattle.rob_linear.proofs.BasisPaths.Paths.{code}

-- the digits of u, the last of m being that of the units
abbrev pub digits : ℕ → ℕ → ℕ → ℕ → ℕ
digits zero base u j = 0
digits (suc m) base u j = cond (eqb j m) (u % base) (digits m base (u / base) j)

digits-last : (m base u : ℕ) → digits (suc m) base u m ≡ u % base
digits-last m base u = grind (arith, nat_tests)

digits-other : (m base u j : ℕ) → j ≢ m → digits (suc m) base u j ≡ digits m base (u / base) j
digits-other m base u j d = grind (arith, nat_tests)

pub digits_below : (m base u j : ℕ) → 0 < base → digits m base u j < base
digits_below zero base u j p = p
digits_below (suc m) base u j p =
    elim (cases_eq j m) [
      | inl e ↦ let a : u % base < base = mod-lt u p in
          let b : digits (suc m) base u j ≡ u % base =
          ap (digits (suc m) base u) e ∙ digits-last m base u in omega arith
      | inr d ↦ let a : digits m base (u / base) j < base = digits_below m base (u / base) j p in
          let b : digits (suc m) base u j ≡ digits m base (u / base) j = digits-other m base u j d in omega arith
    ]

pub code_ext : (m base : ℕ) (x y : ℕ → ℕ) → ((j : ℕ) → j < m → x j ≡ y j) → code m base x ≡ code m base y
code_ext zero base x y h = refl
code_ext (suc m) base x y h =
    let a : x m ≡ y m = h m (omega arith) in
    let b : base * code m base x ≡ base * code m base y =
    ap (λ v. base * v) (code_ext m base x y (λ j l. h j (omega arith))) in
    omega arith

-- a number is that of its digits
pub code-digits : (m base u : ℕ) → 0 < base → u < base ^ m → code m base (digits m base u) ≡ u
code-digits zero base u p l = let e : base ^ 0 ≡ 1 = pow-zero base in omega arith
code-digits (suc m) base u p l =
    let e : base ^ suc m ≡ base * base ^ m = pow-succ' base m in
    let d : base * (u / base) ≤ u = mul-div-le u base in
    let s : u / base < base ^ m = lt_of_mul-lt-mul_left base (omega arith) in
    let ih : code m base (digits m base (u / base)) ≡ u / base = code-digits m base (u / base) p s in
    let x : code m base (digits (suc m) base u) ≡ code m base (digits m base (u / base)) =
    code_ext m base (digits (suc m) base u) (digits m base (u / base))
    (λ j jl. digits-other m base u j (omega arith)) in
    let y : base * code m base (digits (suc m) base u) ≡ base * (u / base) = ap (λ v. base * v) (x ∙ ih) in
    let z : digits (suc m) base u m ≡ u % base = digits-last m base u in
    let w : u % base + base * (u / base) ≡ u = mod-add-div u base in
    omega arith

-- two vectors differ at a place, or are the same
pub differ_or_same : (n : ℕ) (x y : ℕ → ℕ) → ((j : ℕ) × (j < n) × (x j ≢ y j)) ⊎ ((j : ℕ) → j < n → x j ≡ y j)
differ_or_same zero x y = inr (λ j l. absurd (omega arith))
differ_or_same (suc n) x y =
    elim (differ_or_same n x y) [
      | inl h ↦ let l : h.0 < n = h.1 in inl (h.0, omega arith, h.2)
      | inr h ↦ elim (cases_eq (x n) (y n)) [
        | inl e ↦ inr (λ j l. elim (cases_eq j n) [ inl c ↦ ap x c ∙ e ∙ ap y (sym c) | inr d ↦ h j (omega arith) ])
        | inr d ↦ inl (n, omega arith, d)
      ]
    ]

-- different numbers have different digits
pub digits_apart : (m base u v : ℕ) → 0 < base → u < base ^ m → v < base ^ m → u ≢ v → (j : ℕ) × (j < m)
    × (digits m base u j ≢ digits m base v j)
digits_apart m base u v p ul vl d =
    elim (differ_or_same m (digits m base u) (digits m base v)) [
      | inl h ↦ h
      | inr h ↦ absurd
          (d (sym (code-digits m base u p ul) ∙ code_ext m base (digits m base u) (digits m base v) h
          ∙ code-digits m base v p vl))
    ]
