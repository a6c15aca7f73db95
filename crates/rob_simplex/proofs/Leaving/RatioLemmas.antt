-- The lexicographic order of two rows, place by place.
use Rattle.std.proofs.Common.{◌≡◌, ℕ, zero, suc, ◌+◌, ◌<◌, ◌≤◌, sym, refl, ap, ◌∙◌, subst, arith, inl, inr, true, false, Bool, IsTrue, ◌↔◌}
use Rattle.std.proofs.lemmas.Bool.{cases_eq, cases_order}
use Rattle.std.proofs.lemmas.Bool.Decides.{nat_tests}
use Rattle.std.proofs.lemmas.Int.{ints}
use lib.IntN.{ℤ, pos, neg_ℤ, ◌-ℤ◌, ◌*ℤ◌}
use lib.Signed.{◌<ℤ◌, ◌≤ℤ◌}
use Rattle.rob_algebra.specs.Integer.{mul-neg}
use Rattle.rob_algebra.specs.IntegerOrder.{mul_nonneg, mul-pos_z, le_of_lt_z}
use Rattle.rob_linear.specs.Vectors.{Vector}
use Rattle.rob_linear.specs.Programs.{auxiliary_tag}
use Rattle.rob_linear.specs.Turns.{IsLexPositive, key, ComesBefore}
use Rattle.rob_simplex.specs.Dictionaries.{shape, Decided}

-- two entries that are 0 are in the same ratio, whatever their divisors
pub both_zero : (a p b q : ℤ) → a ≡ pos 0 → b ≡ pos 0 → (p *ℤ b) -ℤ (q *ℤ a) ≡ pos 0
both_zero a p b q ea eb =
    subst (λ x. (p *ℤ x) -ℤ (q *ℤ a) ≡ pos 0) (sym eb)
    (subst (λ y. (p *ℤ pos 0) -ℤ (q *ℤ y) ≡ pos 0) (sym ea) (omega (arith, ints)))

-- over positive divisors a number that isn't below 0 is not less than one that is
pub apart : (p a q b : ℤ) → pos 0 <ℤ p → pos 0 <ℤ q → pos 0 ≤ℤ a → b <ℤ pos 0 → ((p *ℤ b) -ℤ (q *ℤ a)) <ℤ pos 0
apart p a q b hp hq ha hb =
    let low : pos 0 <ℤ neg_ℤ b = omega (arith, ints) in
    let first : pos 0 <ℤ (p *ℤ neg_ℤ b) = mul-pos_z p (neg_ℤ b) hp low in
    let is : p *ℤ neg_ℤ b ≡ neg_ℤ (p *ℤ b) = mul-neg p b in
    let second : pos 0 ≤ℤ (q *ℤ a) = mul_nonneg q a (le_of_lt_z (pos 0) q hq) ha in
    omega (arith, ints)

-- the first place that is not 0 decides
pub lex_decided : (n : ℕ) (f : ℕ → ℤ) (k : ℕ) (b : Bool) → k < n → ((j : ℕ) → j < k → f j ≡ pos 0) → Decided b (f k)
    → IsTrue b ↔ IsLexPositive n f
lex_decided n f k true l z d = ((λ t. (k, l, z, d)), λ h. refl)
lex_decided n f k false l z d = (
  (λ t. absurd (cc)),
  λ h. absurd (elim (cases_order h.0 k) [
    | inl e ↦ let p : pos 0 <ℤ f k = subst (λ t. pos 0 <ℤ f t) e h.3 in omega (arith, ints)
    | inr (inl c) ↦ let y : f h.0 ≡ pos 0 = z h.0 c in let p : pos 0 <ℤ f h.0 = h.3 in omega (arith, ints)
    | inr (inr c) ↦ let y : f k ≡ pos 0 = h.2 k c in omega (arith, ints)
  ]),
)

pub lex_none : (n : ℕ) (f : ℕ → ℤ) → ((j : ℕ) → j < n → f j ≡ pos 0) → IsTrue false ↔ IsLexPositive n f
lex_none n f z = (
  (λ t. absurd (cc)),
  λ h.
      absurd (let y : f h.0 ≡ pos 0 = z h.0 h.1 in let p : pos 0 <ℤ f h.0 = h.3 in omega (arith, ints)),
)

-- ---- keys
module _ (n m : ℕ) (a b : Vector) (p q : ℤ) where
  -- the difference in a column
  abbrev pub difference : ℕ → ℤ
  difference c = (p *ℤ b c) -ℤ (q *ℤ a c)

  abbrev pub key_difference : ℕ → ℤ
  key_difference k = (p *ℤ key (shape n m) b k) -ℤ (q *ℤ key (shape n m) a k)

  tag_low : (k : ℕ) → k < m → key_difference (suc k) ≡ difference (n + k)
  tag_low k l = ap difference (tag k l)
    where
      tag : (k : ℕ) → k < m → auxiliary_tag (record { m = m; n = n; a = λ i j. pos 0; b = λ i. pos 0; c = λ j. pos 0 })
          k ≡ n + k
      tag k l = grind (arith, nat_tests)

  zeros_to : (k : ℕ) → k ≤ m → difference (n + m + 2) ≡ pos 0 → ((j : ℕ) → j < k → difference (n + j) ≡ pos 0) → (j : ℕ)
      → j < suc k → key_difference j ≡ pos 0
  zeros_to k kl first rest zero l = ap difference (let e : suc (suc (n + m)) ≡ n + m + 2 = omega arith in e) ∙ first
  zeros_to k kl first rest (suc j) l = tag_low j (omega arith) ∙ rest j (omega arith)

  pub first_decides : (less : Bool) → Decided less (difference (n + m + 2))
      → IsTrue less ↔ ComesBefore (shape n m) a p b q
  first_decides less d =
      let e : n + m + 2 ≡ suc (suc (n + m)) = omega arith in
      lex_decided (suc m) key_difference 0 less (omega arith) (λ j l. absurd (omega arith))
      (subst (λ (c : ℕ). Decided less (difference c)) e d)

  pub later_decides : (k : ℕ) (less : Bool) → k < m → difference (n + m + 2) ≡ pos 0
      → ((j : ℕ) → j < k → difference (n + j) ≡ pos 0) → Decided less (difference (n + k))
      → IsTrue less ↔ ComesBefore (shape n m) a p b q
  later_decides k less l first rest d =
      lex_decided (suc m) key_difference (suc k) less (omega arith) (zeros_to k (omega arith) first rest)
      (subst (Decided less) (sym (tag_low k l)) d)

  pub none_decides : difference (n + m + 2) ≡ pos 0 → ((j : ℕ) → j < m → difference (n + j) ≡ pos 0)
      → IsTrue false ↔ ComesBefore (shape n m) a p b q
  none_decides first rest = lex_none (suc m) key_difference (zeros_to m (omega arith) first rest)

-- ---- the same from numbers that the code has read
pub first_found : (a b : Vector) (n m col : ℕ) (p q p' q' : ℤ) (less : Bool) → p' ≡ p → q' ≡ q → col ≡ n + m + 2
    → Decided less ((p' *ℤ b col) -ℤ (q' *ℤ a col)) → IsTrue less ↔ ComesBefore (shape n m) a p b q
first_found a b n m col p q p' q' less ep eq ec d =
    first_decides n m a b p q less
    (subst (λ (c : ℕ). Decided less ((p *ℤ b c) -ℤ (q *ℤ a c))) ec
    (subst (λ (y : ℤ). Decided less ((p *ℤ b col) -ℤ (y *ℤ a col))) eq
    (subst (λ (x : ℤ). Decided less ((x *ℤ b col) -ℤ (q' *ℤ a col))) ep d)))

zero_is : (a b : Vector) (c c' : ℕ) (p q p' q' : ℤ) → p' ≡ p → q' ≡ q → c ≡ c' → (p' *ℤ b c) -ℤ (q' *ℤ a c) ≡ pos 0
    → (p *ℤ b c') -ℤ (q *ℤ a c') ≡ pos 0
zero_is a b c c' p q p' q' ep eq ec z =
    subst (λ (k : ℕ). (p *ℤ b k) -ℤ (q *ℤ a k) ≡ pos 0) ec
    (subst (λ (y : ℤ). (p *ℤ b c) -ℤ (y *ℤ a c) ≡ pos 0) eq (subst (λ (x : ℤ). (x *ℤ b c) -ℤ (q' *ℤ a c) ≡ pos 0) ep z))

pub later_found : (a b : Vector) (n m n0 col k : ℕ) (p q p' q' : ℤ) (less : Bool) → p' ≡ p → q' ≡ q → n0 ≡ n
    → col ≡ n + m + 2 → k < m → (p' *ℤ b col) -ℤ (q' *ℤ a col) ≡ pos 0
    → ((j : ℕ) → j < k → (p' *ℤ b (n + j)) -ℤ (q' *ℤ a (n + j)) ≡ pos 0)
    → Decided less ((p' *ℤ b (n0 + k)) -ℤ (q' *ℤ a (n0 + k))) → IsTrue less ↔ ComesBefore (shape n m) a p b q
later_found a b n m n0 col k p q p' q' less ep eq en ec l first rest d =
    later_decides n m a b p q k less l (zero_is a b col (n + m + 2) p q p' q' ep eq ec first)
    (λ j jl. zero_is a b (n + j) (n + j) p q p' q' ep eq refl (rest j jl))
    (subst (λ (c : ℕ). Decided less ((p *ℤ b (c + k)) -ℤ (q *ℤ a (c + k)))) en
    (subst (λ (y : ℤ). Decided less ((p *ℤ b (n0 + k)) -ℤ (y *ℤ a (n0 + k)))) eq
    (subst (λ (x : ℤ). Decided less ((x *ℤ b (n0 + k)) -ℤ (q' *ℤ a (n0 + k)))) ep d)))

pub none_found : (a b : Vector) (n m k col : ℕ) (p q p' q' : ℤ) → p' ≡ p → q' ≡ q → col ≡ n + m + 2 → k ≡ m
    → (p' *ℤ b col) -ℤ (q' *ℤ a col) ≡ pos 0
    → ((j : ℕ) → j < k → (p' *ℤ b (n + j)) -ℤ (q' *ℤ a (n + j)) ≡ pos 0)
    → IsTrue false ↔ ComesBefore (shape n m) a p b q
none_found a b n m k col p q p' q' ep eq ec ek first rest =
    none_decides n m a b p q (zero_is a b col (n + m + 2) p q p' q' ep eq ec first)
    (λ j jl. zero_is a b (n + j) (n + j) p q p' q' ep eq refl (rest j (omega arith)))

pub zeros_more : (f : ℕ → ℤ) (k : ℕ) → ((j : ℕ) → j < k → f j ≡ pos 0) → f k ≡ pos 0 → (j : ℕ) → j < k + 1 → f j ≡ pos 0
zeros_more f k h z j l = elim (cases_eq j k) [ inl e ↦ ap f e ∙ z | inr d ↦ h j (omega arith) ]
