-- Sums over pairs and blocks, and the rows and columns by their places.
use Rattle.std.proofs.Common.{◌≡◌, ℕ, zero, suc, ◌+◌, ◌-◌, ◌*◌, ◌<◌, refl, ap, ◌∙◌, arith, inl, inr, ◌⊎◌}
use Rattle.std.proofs.lemmas.Int.{ints}
use Rattle.std.proofs.lemmas.Bool.{cases_eq}
use lib.IntN.{ℤ, ◌+ℤ◌}
use Rattle.rob_linear.specs.Vectors.{sum_to}
use Rattle.rob_linear.proofs.LinearPrograms.Sums.{sum_split}

-- the first term apart
pub sum_first : (n : ℕ) (f : ℕ → ℤ) → sum_to (suc n) f ≡ f 0 +ℤ sum_to n (λ j. f (suc j))
sum_first zero f = omega (arith, ints)
sum_first (suc n) f =
    let ih : sum_to (suc n) f ≡ f 0 +ℤ sum_to n (λ j. f (suc j)) = sum_first n f in omega (arith, ints)

pub sum_pairs : (n : ℕ) (f : ℕ → ℤ) → sum_to (n + n) f ≡ sum_to n (λ j. f (j + j) +ℤ f (suc (j + j)))
sum_pairs zero f = refl
sum_pairs (suc n) f =
    let e : suc n + suc n ≡ suc (suc (n + n)) = omega arith in
    let ih : sum_to (n + n) f ≡ sum_to n (λ j. f (j + j) +ℤ f (suc (j + j))) = sum_pairs n f in
    ap (λ t. sum_to t f) e ∙ omega (arith, ints)

pub sum_blocks : (n w : ℕ) (f : ℕ → ℤ) → sum_to (n * w) f ≡ sum_to n (λ i. sum_to w (λ p. f ((i * w) + p)))
sum_blocks zero w f = let e : zero * w ≡ zero = grind arith in ap (λ t. sum_to t f) e
sum_blocks (suc n) w f =
    let e : suc n * w ≡ (n * w) + w = grind arith in
    ap (λ t. sum_to t f) e ∙ sum_split (n * w) w f ∙ ap (λ t. t +ℤ sum_to w (λ p. f ((n * w) + p))) (sum_blocks n w f)

-- a place in its block is in range
pub block_in : (n w i p : ℕ) → i < n → p < w → ((i * w) + p) < (n * w)
block_in zero w i p il pl = absurd (omega arith)
block_in (suc n) w i p il pl =
    let e : suc n * w ≡ (n * w) + w = grind arith in
    elim (cases_eq i n) [
      | inl c ↦ let g : i * w ≡ n * w = ap (λ t. t * w) c in omega arith
      | inr c ↦ let g : ((i * w) + p) < (n * w) = block_in n w i p (omega arith) pl in omega arith
    ]

-- each number is even or odd
pub halves : (p : ℕ) → ((c : ℕ) × (p ≡ c + c)) ⊎ ((c : ℕ) × (p ≡ suc (c + c)))
halves zero = inl (0, refl)
halves (suc p) =
    elim (halves p) [
      | inl h ↦ inr (h.0, ap suc h.1)
      | inr h ↦ let e : p ≡ suc (h.0 + h.0) = h.1 in inl (suc h.0, omega arith)
    ]
