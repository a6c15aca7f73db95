-- Entries of a combination that 128 bits hold, and the bound that shows it.
use Rattle.std.proofs.Common.{◌≡◌, ℕ, ◌+◌, ◌-◌, ◌*◌, ◌^◌, ◌<◌, ◌≤◌, ap, ◌∙◌, arith}
use Rattle.std.proofs.Math.Nat.{mul-le-mul}
use Rattle.std.proofs.lemmas.Int.{ints, unsigned_abs-mul, fits_signed_from_abs, to_z-of_z}
use mir.Syntax.{w128}
use mir.Val.{SFits}
use lib.IntN.{ℤ, ◌*ℤ◌, ◌-ℤ◌, nat_abs}
use Rattle.rob_deep.proofs.Words.{read}

-- two products of a number of 128 bits and a size of 127 sum to 256 bits
pub sum_below : (m x n y : ℕ) → m ≤ 2 ^ 127 → x < 2 ^ 128 → n ≤ 2 ^ 127 → y < 2 ^ 128 → m * x + n * y < 2 ^ 256
sum_below m x n y hm hx hn hy =
    let first : m * x ≤ 2 ^ 127 * (2 ^ 128 - 1) =
    mul-le-mul {n₁ = m} {m₁ = x} {n₂ = 2 ^ 127} {m₂ = 2 ^ 128 - 1} hm (omega arith) in
    let second : n * y ≤ 2 ^ 127 * (2 ^ 128 - 1) =
    mul-le-mul {n₁ = n} {m₁ = y} {n₂ = 2 ^ 127} {m₂ = 2 ^ 128 - 1} hn (omega arith) in
    omega arith

-- the bound of a combination, by the sizes of the factors as the code reads them
pub bound_is : (p q : ℤ) (m n x y a b s : ℕ) → SFits w128 p → SFits w128 q → m ≡ nat_abs (read p) → n ≡ nat_abs (read q)
    → a ≡ m * x → b ≡ n * y → s ≡ a + b
    → s ≡ nat_abs p * x + nat_abs q * y
bound_is p q m n x y a b s fp fq em en ea eb es =
    es ∙ ap (λ t. t + b) (ea ∙ ap (λ t. t * x) (em ∙ ap nat_abs (to_z-of_z w128 p fp)))
    ∙ ap (λ t. nat_abs p * x + t) (eb ∙ ap (λ t. t * y) (en ∙ ap nat_abs (to_z-of_z w128 q fq)))

-- a number of 256 bits that is at most one of 128 is its low word
pub low_word : (h l w limit : ℕ) → h * 2 ^ 128 + l ≡ w → h * 2 ^ 128 + l ≤ 0 + limit → limit < 2 ^ 128 → l ≡ w
low_word h l w limit e m s = omega arith

-- ---- an entry
product_fits : (p a : ℤ) → nat_abs p * nat_abs a < 2 ^ 127 → SFits w128 (p *ℤ a)
product_fits p a h =
    fits_signed_from_abs w128 (p *ℤ a) (let e : nat_abs (p *ℤ a) ≡ nat_abs p * nat_abs a =
    unsigned_abs-mul p a in omega arith)

product_read : (p a : ℤ) → SFits w128 p → SFits w128 a → nat_abs p * nat_abs a < 2 ^ 127
    → read (read p *ℤ read a) ≡ p *ℤ a
product_read p a f g h =
    ap (λ t. read (t *ℤ read a)) (to_z-of_z w128 p f) ∙ ap (λ t. read (p *ℤ t)) (to_z-of_z w128 a g)
    ∙ to_z-of_z w128 (p *ℤ a) (product_fits p a h)

difference_fits : (x y : ℤ) → nat_abs x + nat_abs y < 2 ^ 127 → SFits w128 (x -ℤ y)
difference_fits x y h = fits_signed_from_abs w128 (x -ℤ y) (omega (arith, ints))

narrow_sum : (p a q b : ℤ) → nat_abs p * nat_abs a + nat_abs q * nat_abs b < 2 ^ 127
    → nat_abs (p *ℤ a) + nat_abs (q *ℤ b) < 2 ^ 127
narrow_sum p a q b h =
    let e : nat_abs (p *ℤ a) ≡ nat_abs p * nat_abs a = unsigned_abs-mul p a in
    let f : nat_abs (q *ℤ b) ≡ nat_abs q * nat_abs b = unsigned_abs-mul q b in
    omega arith

-- it fits
pub narrow_fits : (p a q b : ℤ) → SFits w128 p → SFits w128 a → SFits w128 q → SFits w128 b
    → nat_abs p * nat_abs a + nat_abs q * nat_abs b < 2 ^ 127
    → SFits w128 (read (read p *ℤ read a) -ℤ read (read q *ℤ read b))
narrow_fits p a q b fp fa fq fb h =
    let first : read (read p *ℤ read a) ≡ p *ℤ a = product_read p a fp fa (omega arith) in
    let second : read (read q *ℤ read b) ≡ q *ℤ b = product_read q b fq fb (omega arith) in
    rw (first, second) (difference_fits (p *ℤ a) (q *ℤ b) (narrow_sum p a q b h))

-- and is what it should be
pub narrow_read : (p a q b : ℤ) → SFits w128 p → SFits w128 a → SFits w128 q → SFits w128 b
    → nat_abs p * nat_abs a + nat_abs q * nat_abs b < 2 ^ 127
    → read (read (read p *ℤ read a) -ℤ read (read q *ℤ read b)) ≡ (p *ℤ a) -ℤ (q *ℤ b)
narrow_read p a q b fp fa fq fb h =
    let first : read (read p *ℤ read a) ≡ p *ℤ a = product_read p a fp fa (omega arith) in
    let second : read (read q *ℤ read b) ≡ q *ℤ b = product_read q b fq fb (omega arith) in
    ap (λ t. read (t -ℤ read (read q *ℤ read b))) first ∙ ap (λ t. read ((p *ℤ a) -ℤ t)) second
    ∙ to_z-of_z w128 ((p *ℤ a) -ℤ (q *ℤ b)) (difference_fits (p *ℤ a) (q *ℤ b) (narrow_sum p a q b h))
