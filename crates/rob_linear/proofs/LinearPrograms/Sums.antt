-- Finite sums of whole numbers.
use Rattle.std.proofs.Common.{◌≡◌, ◌≢◌, ℕ, zero, suc, ◌+◌, ◌<◌, sym, refl, ap, ◌∙◌, arith, inl, inr, add-zero, add-suc}
use Rattle.std.proofs.lemmas.Int.{ints}
use Rattle.std.proofs.lemmas.Bool.{cases_eq}
use lib.IntN.{ℤ, pos, ◌+ℤ◌, ◌-ℤ◌, ◌*ℤ◌, neg_ℤ}
use lib.Signed.{◌≤ℤ◌}
use Rattle.rob_linear.specs.Vectors.{sum_to, dot}
use Rattle.rob_algebra.specs.Integer.{ring, mul-add, mul-zero, zero-mul, *ℤ_comm, neg-mul, add_assoc}
use Rattle.rob_algebra.specs.IntegerOrder.{mul_le_mul}

-- equal terms, equal sums
pub sum_ext : (n : ℕ) (f g : ℕ → ℤ) → ((j : ℕ) → j < n → f j ≡ g j) → sum_to n f ≡ sum_to n g
sum_ext zero f g h = refl
sum_ext (suc n) f g h =
    let ih : sum_to n f ≡ sum_to n g = sum_ext n f g (λ j l. h j (omega arith)) in
    let e : f n ≡ g n = h n (omega arith) in
    cc

pub sum_zero : (n : ℕ) (f : ℕ → ℤ) → ((j : ℕ) → j < n → f j ≡ pos 0) → sum_to n f ≡ pos 0
sum_zero zero f h = refl
sum_zero (suc n) f h =
    let ih : sum_to n f ≡ pos 0 = sum_zero n f (λ j l. h j (omega arith)) in
    let e : f n ≡ pos 0 = h n (omega arith) in
    omega (arith, ints)

pub sum_add : (n : ℕ) (f g : ℕ → ℤ) → sum_to n (λ j. f j +ℤ g j) ≡ sum_to n f +ℤ sum_to n g
sum_add zero f g = refl
sum_add (suc n) f g =
    let ih : sum_to n (λ j. f j +ℤ g j) ≡ sum_to n f +ℤ sum_to n g = sum_add n f g in omega (arith, ints)

pub sum_scale : (n : ℕ) (c : ℤ) (f : ℕ → ℤ) → sum_to n (λ j. c *ℤ f j) ≡ c *ℤ sum_to n f
sum_scale zero c f = sym (mul-zero c)
sum_scale (suc n) c f =
    let ih : sum_to n (λ j. c *ℤ f j) ≡ c *ℤ sum_to n f = sum_scale n c f in
    let d : c *ℤ (sum_to n f +ℤ f n) ≡ (c *ℤ sum_to n f) +ℤ (c *ℤ f n) = mul-add c (sum_to n f) (f n) in
    omega (arith, ints)

pub sum_neg : (n : ℕ) (f : ℕ → ℤ) → sum_to n (λ j. neg_ℤ (f j)) ≡ neg_ℤ (sum_to n f)
sum_neg zero f = refl
sum_neg (suc n) f = let ih : sum_to n (λ j. neg_ℤ (f j)) ≡ neg_ℤ (sum_to n f) = sum_neg n f in omega (arith, ints)

-- two sums can change places
pub sum_swap : (m n : ℕ) (f : ℕ → ℕ → ℤ) → sum_to m (λ i. sum_to n (λ j. f i j)) ≡ sum_to n (λ j. sum_to m (λ i. f i j))
sum_swap zero n f = sym (sum_zero n (λ j. pos 0) (λ j l. refl))
sum_swap (suc m) n f =
    ap (λ t. t +ℤ sum_to n (λ j. f m j)) (sum_swap m n f) ∙ sym (sum_add n (λ j. sum_to m (λ i. f i j)) (λ j. f m j))

pub sum_nonneg : (n : ℕ) (f : ℕ → ℤ) → ((j : ℕ) → j < n → pos 0 ≤ℤ f j) → pos 0 ≤ℤ sum_to n f
sum_nonneg zero f h = omega (arith, ints)
sum_nonneg (suc n) f h =
    let ih : pos 0 ≤ℤ sum_to n f = sum_nonneg n f (λ j l. h j (omega arith)) in
    let e : pos 0 ≤ℤ f n = h n (omega arith) in
    omega (arith, ints)

pub sum_mono : (n : ℕ) (f g : ℕ → ℤ) → ((j : ℕ) → j < n → f j ≤ℤ g j) → sum_to n f ≤ℤ sum_to n g
sum_mono zero f g h = omega (arith, ints)
sum_mono (suc n) f g h =
    let ih : sum_to n f ≤ℤ sum_to n g = sum_mono n f g (λ j l. h j (omega arith)) in
    let e : f n ≤ℤ g n = h n (omega arith) in
    omega (arith, ints)

-- one term alone
pub sum_one : (n k : ℕ) (f : ℕ → ℤ) → k < n → ((j : ℕ) → j < n → j ≢ k → f j ≡ pos 0) → sum_to n f ≡ f k
sum_one zero k f l h = absurd (omega arith)
sum_one (suc n) k f l h =
    elim (cases_eq n k) [
      | inl e ↦ let z : sum_to n f ≡ pos 0 = sum_zero n f (λ j b. h j (omega arith) (omega arith)) in
          let q : f n ≡ f k = ap f e in omega (arith, ints)
      | inr e ↦
          let z : f n ≡ pos 0 = h n (omega arith) e in
          let ih : sum_to n f ≡ f k = sum_one n k f (omega arith) (λ j b d. h j (omega arith) d) in
          omega (arith, ints)
    ]

-- the sum over two stretches
pub sum_split : (n m : ℕ) (f : ℕ → ℤ) → sum_to (n + m) f ≡ sum_to n f +ℤ sum_to m (λ j. f (n + j))
sum_split n zero f = ap (λ t. sum_to t f) (add-zero n) ∙ omega (arith, ints)
sum_split n (suc m) f =
    ap (λ t. sum_to t f) (add-suc n m) ∙ ap (λ t. t +ℤ f (n + m)) (sum_split n m f)
    ∙ add_assoc (sum_to n f) (sum_to m (λ j. f (n + j))) (f (n + m))

-- ---- scalar products

pub dot_ext : (n : ℕ) (f g x : ℕ → ℤ) → ((j : ℕ) → j < n → f j ≡ g j) → dot n f x ≡ dot n g x
dot_ext n f g x h = sum_ext n (λ j. f j *ℤ x j) (λ j. g j *ℤ x j) (λ j l. ap (λ t. t *ℤ x j) (h j l))

-- of two multiples' difference
pub dot_combine : (n : ℕ) (p q : ℤ) (f g x : ℕ → ℤ)
    → dot n (λ j. (p *ℤ f j) -ℤ (q *ℤ g j)) x ≡ (p *ℤ dot n f x) -ℤ (q *ℤ dot n g x)
dot_combine n p q f g x =
    sum_ext n (λ j. ((p *ℤ f j) -ℤ (q *ℤ g j)) *ℤ x j)
    (λ j. (p *ℤ (f j *ℤ x j)) +ℤ (neg_ℤ q *ℤ (g j *ℤ x j))) (λ j l. simp ring)
    ∙ sum_add n (λ j. p *ℤ (f j *ℤ x j)) (λ j. neg_ℤ q *ℤ (g j *ℤ x j))
    ∙ ap (λ t. t +ℤ sum_to n (λ j. neg_ℤ q *ℤ (g j *ℤ x j))) (sum_scale n p (λ j. f j *ℤ x j))
    ∙ ap (λ t. (p *ℤ dot n f x) +ℤ t) (sum_scale n (neg_ℤ q) (λ j. g j *ℤ x j) ∙ neg-mul q (dot n g x))

-- a linear combination of rows, the scalar product of one, and its bound
pub dot_rows : (m n : ℕ) (w : ℕ → ℤ) (a : ℕ → ℕ → ℤ) (x : ℕ → ℤ)
    → dot n (λ j. sum_to m (λ i. w i *ℤ a i j)) x ≡ sum_to m (λ i. w i *ℤ dot n (a i) x)
dot_rows m n w a x =
    sum_ext n (λ j. sum_to m (λ i. w i *ℤ a i j) *ℤ x j) (λ j. sum_to m (λ i. w i *ℤ (a i j *ℤ x j))) (λ j l.
    *ℤ_comm (sum_to m (λ i. w i *ℤ a i j)) (x j)
    ∙ sym (sum_scale m (x j) (λ i. w i *ℤ a i j))
    ∙ sum_ext m (λ i. x j *ℤ (w i *ℤ a i j)) (λ i. w i *ℤ (a i j *ℤ x j)) (λ i k. simp ring))
    ∙ sum_swap n m (λ j i. w i *ℤ (a i j *ℤ x j))
    ∙ sum_ext m (λ i. sum_to n (λ j. w i *ℤ (a i j *ℤ x j))) (λ i. w i *ℤ dot n (a i) x)
    (λ i l. sum_scale n (w i) (λ j. a i j *ℤ x j))

pub rows_bound : (m n : ℕ) (w b : ℕ → ℤ) (a : ℕ → ℕ → ℤ) (x : ℕ → ℤ) → ((i : ℕ) → i < m → pos 0 ≤ℤ w i)
    → ((i : ℕ) → i < m → dot n (a i) x ≤ℤ b i) → dot n (λ j. sum_to m (λ i. w i *ℤ a i j)) x ≤ℤ dot m w b
rows_bound m n w b a x wp h =
    rw (dot_rows m n w a x)
    (sum_mono m (λ i. w i *ℤ dot n (a i) x) (λ i. w i *ℤ b i)
    (λ i l. mul_le_mul (w i) (dot n (a i) x) (b i) (wp i l) (h i l)))

-- a unit vector picks an entry
pub dot_one : (n k : ℕ) (f x : ℕ → ℤ) → k < n → ((j : ℕ) → j < n → j ≢ k → f j ≡ pos 0) → dot n f x ≡ f k *ℤ x k
dot_one n k f x l h =
    sum_one n k (λ j. f j *ℤ x j) l (λ j b d. ap (λ t. t *ℤ x j) (h j b d) ∙ zero-mul (x j))

-- along a direction
pub dot_along : (n : ℕ) (f z r : ℕ → ℤ) (u : ℤ) → dot n f (λ j. z j +ℤ (u *ℤ r j)) ≡ dot n f z +ℤ (u *ℤ dot n f r)
dot_along n f z r u =
    sum_ext n (λ j. f j *ℤ (z j +ℤ (u *ℤ r j))) (λ j. (f j *ℤ z j) +ℤ (u *ℤ (f j *ℤ r j))) (λ j l. simp ring)
    ∙ sum_add n (λ j. f j *ℤ z j) (λ j. u *ℤ (f j *ℤ r j))
    ∙ ap (λ t. dot n f z +ℤ t) (sum_scale n u (λ j. f j *ℤ r j))

-- each column's bound, for x without negative entries
pub dot_mono : (n : ℕ) (f g x : ℕ → ℤ) → ((j : ℕ) → j < n → f j ≤ℤ g j) → ((j : ℕ) → j < n → pos 0 ≤ℤ x j)
    → dot n f x ≤ℤ dot n g x
dot_mono n f g x h p =
    sum_mono n (λ j. f j *ℤ x j) (λ j. g j *ℤ x j)
    (λ j l. rw (*ℤ_comm (f j) (x j), *ℤ_comm (g j) (x j)) (mul_le_mul (x j) (f j) (g j) (p j l) (h j l)))

pub dot_scale : (n : ℕ) (u : ℤ) (f x : ℕ → ℤ) → dot n (λ j. u *ℤ f j) x ≡ u *ℤ dot n f x
dot_scale n u f x =
    sum_ext n (λ j. (u *ℤ f j) *ℤ x j) (λ j. u *ℤ (f j *ℤ x j)) (λ j l. simp ring) ∙ sum_scale n u (λ j. f j *ℤ x j)

pub dot_scale_right : (n : ℕ) (u : ℤ) (f x : ℕ → ℤ) → dot n f (λ j. u *ℤ x j) ≡ u *ℤ dot n f x
dot_scale_right n u f x =
    sum_ext n (λ j. f j *ℤ (u *ℤ x j)) (λ j. u *ℤ (f j *ℤ x j)) (λ j l. simp ring) ∙ sum_scale n u (λ j. f j *ℤ x j)
