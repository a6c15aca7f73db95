-- An entry of a combination in machine numbers: it fits, and it is what it should be.
use Rattle.std.proofs.Common.{◌≡◌, ℕ, ◌+◌, ◌*◌, ◌^◌, ◌<◌, ◌≤◌, sym, ap, ◌∙◌, arith, inl, inr, List, length, get_or, set, to_z, of_z, w64}
use Rattle.std.proofs.Math.Nat.{mul-le-mul}
use Rattle.std.proofs.lemmas.Int.{ints, unsigned_abs-mul, fits_signed_from_abs, to_z-of_z}
use mir.Syntax.{w128}
use mir.Val.{SFits}
use lib.IntN.{ℤ, pos, ◌*ℤ◌, ◌-ℤ◌, nat_abs}
use Rattle.std.proofs.lemmas.Bool.{cases_eq}
use Rattle.std.proofs.lemmas.List.{get_or-set_same, get_or-set_other, same_lists, get_or_default}
use Rattle.rob_rows.specs.PrimitiveParts.{combination}
use Rattle.rob_rows.proofs.Combinations.{combination-at, length-combination}

-- what is read of a number of 64 bits
abbrev pub read : ℤ → ℤ
read z = to_z w64 (of_z w64 z)

-- a product of 64 bits
pub product_fits : (p a : ℤ) → nat_abs p * nat_abs a < 2 ^ 63 → SFits w64 (p *ℤ a)
product_fits p a h =
    fits_signed_from_abs w64 (p *ℤ a) (let e : nat_abs (p *ℤ a) ≡ nat_abs p * nat_abs a =
    unsigned_abs-mul p a in omega arith)

pub entry_fits : (p a : ℤ) → SFits w64 p → SFits w64 a → nat_abs p * nat_abs a < 2 ^ 63 → SFits w64 (read p *ℤ read a)
entry_fits p a f g h = rw (to_z-of_z w64 p f, to_z-of_z w64 a g) (product_fits p a h)

pub product_read : (p a : ℤ) → SFits w64 p → SFits w64 a → nat_abs p * nat_abs a < 2 ^ 63
    → read (read p *ℤ read a) ≡ p *ℤ a
product_read p a f g h =
    ap (λ t. read (t *ℤ read a)) (to_z-of_z w64 p f) ∙ ap (λ t. read (p *ℤ t)) (to_z-of_z w64 a g)
    ∙ to_z-of_z w64 (p *ℤ a) (product_fits p a h)

difference_fits : (x y : ℤ) → nat_abs x + nat_abs y < 2 ^ 63 → SFits w64 (x -ℤ y)
difference_fits x y h = omega (arith, ints)

narrow_sum : (p a q b : ℤ) → nat_abs p * nat_abs a + nat_abs q * nat_abs b < 2 ^ 63
    → nat_abs (p *ℤ a) + nat_abs (q *ℤ b) < 2 ^ 63
narrow_sum p a q b h =
    let e : nat_abs (p *ℤ a) ≡ nat_abs p * nat_abs a = unsigned_abs-mul p a in
    let f : nat_abs (q *ℤ b) ≡ nat_abs q * nat_abs b = unsigned_abs-mul q b in
    omega arith

-- an entry of 64 bits
pub narrow_fits : (p a q b : ℤ) → SFits w64 p → SFits w64 a → SFits w64 q → SFits w64 b
    → nat_abs p * nat_abs a + nat_abs q * nat_abs b < 2 ^ 63
    → SFits w64 (read (read p *ℤ read a) -ℤ read (read q *ℤ read b))
narrow_fits p a q b fp fa fq fb h =
    let first : read (read p *ℤ read a) ≡ p *ℤ a = product_read p a fp fa (omega arith) in
    let second : read (read q *ℤ read b) ≡ q *ℤ b = product_read q b fq fb (omega arith) in
    rw (first, second) (difference_fits (p *ℤ a) (q *ℤ b) (narrow_sum p a q b h))

pub narrow_read : (p a q b : ℤ) → SFits w64 p → SFits w64 a → SFits w64 q → SFits w64 b
    → nat_abs p * nat_abs a + nat_abs q * nat_abs b < 2 ^ 63
    → read (read (read p *ℤ read a) -ℤ read (read q *ℤ read b)) ≡ (p *ℤ a) -ℤ (q *ℤ b)
narrow_read p a q b fp fa fq fb h =
    let first : read (read p *ℤ read a) ≡ p *ℤ a = product_read p a fp fa (omega arith) in
    let second : read (read q *ℤ read b) ≡ q *ℤ b = product_read q b fq fb (omega arith) in
    ap (λ t. read (t -ℤ read (read q *ℤ read b))) first ∙ ap (λ t. read ((p *ℤ a) -ℤ t)) second
    ∙ to_z-of_z w64 ((p *ℤ a) -ℤ (q *ℤ b)) (difference_fits (p *ℤ a) (q *ℤ b) (narrow_sum p a q b h))

-- bounds on the factors and the entries show it
pub narrow_from_bounds : (p a q b m n x y : ℕ) → p ≡ m → q ≡ n → a ≤ x → b ≤ y → m * x + n * y < 2 ^ 63
    → p * a + q * b < 2 ^ 63
narrow_from_bounds p a q b m n x y e f h k l =
    let first : p * a ≤ m * x = mul-le-mul (omega arith) h in
    let second : q * b ≤ n * y = mul-le-mul (omega arith) k in
    omega arith

-- ---- a combination written entry by entry
pub entry_more : (p : ℤ) (top : List ℤ) (q : ℤ) (low out : List ℤ) (k : ℕ) (w : ℤ) → k < length out
    → ((j : ℕ) → j < k → get_or out j (pos 0) ≡ (p *ℤ get_or top j (pos 0)) -ℤ (q *ℤ get_or low j (pos 0)))
    → w ≡ (p *ℤ get_or top k (pos 0)) -ℤ (q *ℤ get_or low k (pos 0))
    → (j : ℕ) → j < k + 1 → get_or (set out k w) j (pos 0) ≡ (p *ℤ get_or top j (pos 0)) -ℤ (q *ℤ get_or low j (pos 0))
entry_more p top q low out k w kl h e j l =
    elim (cases_eq j k) [
      | inl s ↦
          ap (λ t. get_or (set out k w) t (pos 0)) s ∙ get_or-set_same out k w (pos 0) kl ∙ e
          ∙ ap (λ t. (p *ℤ get_or top t (pos 0)) -ℤ (q *ℤ get_or low t (pos 0))) (sym s)
      | inr d ↦ get_or-set_other out k j w (pos 0) d ∙ h j (omega arith)
    ]

pub combination_written : (p : ℤ) (top : List ℤ) (q : ℤ) (low out : List ℤ) → length top ≡ length out
    → length low ≡ length out
    → ((j : ℕ) → j < length out → get_or out j (pos 0) ≡ (p *ℤ get_or top j (pos 0)) -ℤ (q *ℤ get_or low j (pos 0)))
    → out ≡ combination p top q low
combination_written p top q low out n m h =
    let len : length (combination p top q low) ≡ length top = length-combination p top q low (n ∙ sym m) in
    same_lists out (combination p top q low) (omega arith)
    (λ k d l.
    get_or_default out k d (pos 0) l ∙ h k l ∙ sym (combination-at p top q low k (n ∙ sym m) (omega arith))
    ∙ get_or_default (combination p top q low) k (pos 0) d (omega arith))

-- ---- entries of 128 bits
-- what is read of a number of 64 bits in 128
abbrev pub long : ℤ → ℤ
long z = to_z w128 (of_z w128 (to_z w64 (of_z w64 z)))

abbrev pub read_long : ℤ → ℤ
read_long z = to_z w128 (of_z w128 z)

long_is : (z : ℤ) → nat_abs z < 2 ^ 62 → long z ≡ z
long_is z h = omega (arith, ints)

long_size : (p a : ℤ) → nat_abs p < 2 ^ 62 → nat_abs a < 2 ^ 62 → nat_abs (p *ℤ a) < 2 ^ 124
long_size p a h k =
    let e : nat_abs (p *ℤ a) ≡ nat_abs p * nat_abs a = unsigned_abs-mul p a in
    let hp : nat_abs p ≤ 4611686018427387903 = omega arith in
    let ha : nat_abs a ≤ 4611686018427387903 = omega arith in
    let l : nat_abs p * nat_abs a ≤ 4611686018427387903 * 4611686018427387903 = mul-le-mul hp ha in
    omega arith

long_product : (p a : ℤ) → nat_abs p < 2 ^ 62 → nat_abs a < 2 ^ 62 → read_long (long p *ℤ long a) ≡ p *ℤ a
long_product p a h k =
    let size : nat_abs (p *ℤ a) < 2 ^ 124 = long_size p a h k in
    ap (λ t. read_long (t *ℤ long a)) (long_is p h) ∙ ap (λ t. read_long (p *ℤ t)) (long_is a k)
    ∙ to_z-of_z w128 (p *ℤ a) (fits_signed_from_abs w128 (p *ℤ a) (omega arith))

long_difference : (x y : ℤ) → nat_abs x < 2 ^ 124 → nat_abs y < 2 ^ 124 → SFits w128 (x -ℤ y)
long_difference x y h k = fits_signed_from_abs w128 (x -ℤ y) (omega (arith, ints))

pub long_fits : (p a q b : ℤ) → nat_abs p < 2 ^ 62 → nat_abs a < 2 ^ 62 → nat_abs q < 2 ^ 62 → nat_abs b < 2 ^ 62
    → SFits w128 (read_long (long p *ℤ long a) -ℤ read_long (long q *ℤ long b))
long_fits p a q b hp ha hq hb =
    let first : read_long (long p *ℤ long a) ≡ p *ℤ a = long_product p a hp ha in
    let second : read_long (long q *ℤ long b) ≡ q *ℤ b = long_product q b hq hb in
    rw (first, second) (long_difference (p *ℤ a) (q *ℤ b) (long_size p a hp ha) (long_size q b hq hb))

pub long_read : (p a q b : ℤ) → nat_abs p < 2 ^ 62 → nat_abs a < 2 ^ 62 → nat_abs q < 2 ^ 62 → nat_abs b < 2 ^ 62
    → read_long (read_long (long p *ℤ long a) -ℤ read_long (long q *ℤ long b)) ≡ (p *ℤ a) -ℤ (q *ℤ b)
long_read p a q b hp ha hq hb =
    let first : read_long (long p *ℤ long a) ≡ p *ℤ a = long_product p a hp ha in
    let second : read_long (long q *ℤ long b) ≡ q *ℤ b = long_product q b hq hb in
    ap (λ t. read_long (t -ℤ read_long (long q *ℤ long b))) first ∙ ap (λ t. read_long ((p *ℤ a) -ℤ t)) second
    ∙ to_z-of_z w128 ((p *ℤ a) -ℤ (q *ℤ b))
    (long_difference (p *ℤ a) (q *ℤ b) (long_size p a hp ha) (long_size q b hq hb))

-- an entry, whose arguments were read in 64 bits and whose result is read in 128
pub entry_seen : (p : ℤ) (top : List ℤ) (q : ℤ) (low : List ℤ) (k : ℕ) (r : ℤ) → SFits w64 (get_or top k (pos 0))
    → SFits w64 (get_or low k (pos 0)) → SFits w128 r
    → length top ≡ length low → k < length top
    → r ≡ (p *ℤ read (get_or top k (pos 0))) -ℤ (q *ℤ read (get_or low k (pos 0)))
    → read_long r ≡ get_or (combination p top q low) k (pos 0)
entry_seen p top q low k r fa fb fr n l e =
    to_z-of_z w128 r fr ∙ e
    ∙ ap (λ t. (p *ℤ t) -ℤ (q *ℤ read (get_or low k (pos 0)))) (to_z-of_z w64 (get_or top k (pos 0)) fa)
    ∙ ap (λ t. (p *ℤ get_or top k (pos 0)) -ℤ (q *ℤ t)) (to_z-of_z w64 (get_or low k (pos 0)) fb)
    ∙ sym (combination-at p top q low k n l)
