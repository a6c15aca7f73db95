-- The sign of a row's key, and the least row so far.
use Rattle.std.proofs.Common.{◌≡◌, ℕ, zero, suc, ◌+◌, ◌<◌, ◌≤◌, refl, sym, ap, ◌∙◌, subst, arith, inl, inr, Option, Some, None, Bool, IsTrue, ◌↔◌, true, false}
use Rattle.std.proofs.lemmas.Int.{ints}
use Rattle.std.proofs.lemmas.Bool.{cases_eq}
use Rattle.std.proofs.lemmas.Bool.Decides.{nat_tests}
use Rattle.std.specs.Option.{IfSome, MatchOption}
use lib.IntN.{ℤ, pos, neg_ℤ}
use lib.Signed.{◌<ℤ◌}
use Rattle.rob_linear.specs.Vectors.{Matrix, Vector}
use Rattle.rob_linear.specs.Programs.{auxiliary_tag}
use Rattle.rob_linear.specs.Turns.{key, ComesBefore}
use Rattle.rob_linear.specs.Beside.{IsLexNegative, IsLeast, HasNoLeast}
use Rattle.rob_linear.proofs.Bases.Lexical.{before_trans}
use Rattle.rob_linear.proofs.Bases.Choices.{before_not_self}
use Rattle.rob_simplex.specs.Dictionaries.{Table, positions, rows_of, shape, Decided}
use Rattle.rob_simplex.specs.LeastRows.{IsBelowZero, IsLower, MayBeLeast}
use Rattle.rob_simplex.proofs.Leaving.RatioLemmas.{lex_decided, lex_none}

-- ---- a number negated
pub negative_of : (z : ℤ) → pos 0 <ℤ neg_ℤ z → z <ℤ pos 0
negative_of z h = omega (arith, ints)

pub positive_of : (z : ℤ) → z <ℤ pos 0 → pos 0 <ℤ neg_ℤ z
positive_of z h = omega (arith, ints)

-- ---- the sign of a key
module _ (n m : ℕ) (r : Vector) where
  abbrev minus_key : ℕ → ℤ
  minus_key k = neg_ℤ (key (shape n m) r k)

  tag_low : (k : ℕ) → k < m → minus_key (suc k) ≡ neg_ℤ (r (n + k))
  tag_low k l = ap (λ c. neg_ℤ (r c)) (tag k l)
    where
      tag : (k : ℕ) → k < m → auxiliary_tag (record { m = m; n = n; a = λ i j. pos 0; b = λ i. pos 0; c = λ j. pos 0 })
          k ≡ n + k
      tag k l = grind (arith, nat_tests)

  zeros_to : (k : ℕ) → k ≤ m → r (n + m + 2) ≡ pos 0 → ((j : ℕ) → j < k → r (n + j) ≡ pos 0) → (j : ℕ) → j < suc k
      → minus_key j ≡ pos 0
  zeros_to k kl first rest zero l =
      ap (λ c. neg_ℤ (r c)) (let e : suc (suc (n + m)) ≡ n + m + 2 = omega arith in e) ∙ ap neg_ℤ first
  zeros_to k kl first rest (suc j) l = tag_low j (omega arith) ∙ ap neg_ℤ (rest j (omega arith))

  pub right_decides : (col : ℕ) (below : Bool) → col ≡ n + m + 2 → Decided below (neg_ℤ (r col))
      → IsTrue below ↔ IsLexNegative (suc m) (key (shape n m) r)
  right_decides col below e d =
      let w : col ≡ suc (suc (n + m)) = omega arith in
      lex_decided (suc m) minus_key 0 below (omega arith) (λ j l. absurd (omega arith))
      (subst (λ (c : ℕ). Decided below (neg_ℤ (r c))) w d)

  pub slack_decides : (col c k : ℕ) (below : Bool) → col ≡ n + m + 2 → c ≡ n + k → k < m → r col ≡ pos 0
      → ((j : ℕ) → j < k → r (n + j) ≡ pos 0) → Decided below (neg_ℤ (r c))
      → IsTrue below ↔ IsLexNegative (suc m) (key (shape n m) r)
  slack_decides col c k below e ec l first rest d =
      lex_decided (suc m) minus_key (suc k) below (omega arith) (zeros_to k (omega arith) (ap r (sym e) ∙ first) rest)
      (subst (Decided below) (ap (λ x. neg_ℤ (r x)) ec ∙ sym (tag_low k l)) d)

  pub none_decides : (col k : ℕ) → col ≡ n + m + 2 → k ≡ m → r col ≡ pos 0 → ((j : ℕ) → j < k → r (n + j) ≡ pos 0)
      → IsTrue false ↔ IsLexNegative (suc m) (key (shape n m) r)
  none_decides col k e ek first rest =
      lex_none (suc m) minus_key (zeros_to m (omega arith) (ap r (sym e) ∙ first) (λ j l. rest j (omega arith)))

pub below_negative : (n m : ℕ) (r : Vector) → r (n + m + 2) <ℤ pos 0 → IsLexNegative (suc m) (key (shape n m) r)
below_negative n m r l = (right_decides n m r (n + m + 2) true refl (positive_of (r (n + m + 2)) l)).0 refl

pub may_be_least : (t : Table) (column e : ℕ) → IsBelowZero t column e
    → MayBeLeast t.columns (positions t) (rows_of t) column e
may_be_least t column e h = (h.0, below_negative t.columns (positions t) (rows_of t e) h.1)

-- ---- the least row so far: rows are looked at from the last one on
module _ (n m : ℕ) (rows : Matrix) (column : ℕ) where
  -- a row that may be the least, and before which none of the last k rows comes; or none of these may be
  abbrev pub IsLeastSoFar : ℕ → Option ℕ → Type 0
  IsLeastSoFar k best =
      MatchOption best ((j : ℕ) → j < m → m ≤ j + k → rows j column <ℤ pos 0
      → ¬ (IsLexNegative (suc m) (key (shape n m) (rows j))))
      (λ e. (e < m) × (rows e column <ℤ pos 0) × IsLexNegative (suc m) (key (shape n m) (rows e))
      × ((j : ℕ) → j < m → m ≤ j + k → rows j column <ℤ pos 0 → IsLexNegative (suc m) (key (shape n m) (rows j))
      → ¬ (ComesBefore (shape n m) (rows j) (neg_ℤ (rows j column)) (rows e) (neg_ℤ (rows e column)))))

  -- at the start any row that may be the least will do
  pub least_begins : (best : Option ℕ) → IfSome best (λ e. (e < m) × MayBeLeast n m rows column e) → IsLeastSoFar 0 best
  least_begins None h = λ j l s. absurd (omega arith)
  least_begins (Some e) h = (h.0, h.1.0, h.1.1, (λ j l s. absurd (omega arith)))

  negated : (j : ℕ) → rows j column <ℤ pos 0 → pos 0 <ℤ neg_ℤ (rows j column)
  negated j b = omega (arith, ints)

  pub least_takes : (k i : ℕ) (best : Option ℕ) → i + (k + 1) ≡ m → IsLeastSoFar k best → IsLower n m rows column i best
      → IsLeastSoFar (k + 1) (Some i)
  least_takes k i None l f g = (
    omega arith,
    g.0,
    g.2,
    (λ j jl s b neg. elim (cases_eq j i) [
      | inl c ↦
          (λ w. before_not_self (shape n m) (rows i) (neg_ℤ (rows i column))
          (subst (λ v. ComesBefore (shape n m) (rows v) (neg_ℤ (rows v column)) (rows i) (neg_ℤ (rows i column))) c w))
      | inr d ↦ absurd (f j jl (omega arith) b neg)
    ]),
  )
  least_takes k i (Some e) l f g = (
    omega arith,
    g.0,
    g.2,
    (λ j jl s b neg. elim (cases_eq j i) [
      | inl c ↦
          (λ w. before_not_self (shape n m) (rows i) (neg_ℤ (rows i column))
          (subst (λ v. ComesBefore (shape n m) (rows v) (neg_ℤ (rows v column)) (rows i) (neg_ℤ (rows i column))) c w))
      | inr d ↦ (λ w. f.3 j jl (omega arith) b neg
          (before_trans (shape n m) (rows j) (rows i) (rows e) (neg_ℤ (rows j column)) (neg_ℤ (rows i column))
          (neg_ℤ (rows e column)) (negated j b) (negated i g.0) (negated e f.1) w g.1))
    ]),
  )

  pub least_keeps : (k i : ℕ) (best : Option ℕ) → i + (k + 1) ≡ m → IsLeastSoFar k best
      → ¬ (IsLower n m rows column i best) → IsLeastSoFar (k + 1) best
  least_keeps k i None l f g =
      λ j jl s b. elim (cases_eq j i) [
        | inl c ↦
            (λ neg. g (
              subst (λ t. rows t column <ℤ pos 0) c b,
              tt,
              subst
                  (λ v. IsLexNegative (suc m) (key (shape n m) (rows v))) c neg,
            ))
        | inr d ↦ f j jl (omega arith) b
      ]
  least_keeps k i (Some e) l f g = (
    f.0,
    f.1,
    f.2,
    (λ j jl s b neg. elim (cases_eq j i) [
      | inl c ↦ (λ w. g (
        subst (λ t. rows t column <ℤ pos 0) c b,
        subst (λ v. ComesBefore (shape n m) (rows v) (neg_ℤ (rows v column)) (rows e) (neg_ℤ (rows e column))) c w,
        subst (λ v. IsLexNegative (suc m) (key (shape n m) (rows v))) c neg,
      ))
      | inr d ↦ f.3 j jl (omega arith) b neg
    ]),
  )

  pub least_of_all : (best : Option ℕ) → IsLeastSoFar m best
      → MatchOption best (HasNoLeast (shape n m) column rows) (λ e. IsLeast (shape n m) column rows e)
  least_of_all None f = λ j l. f j l (omega arith)
  least_of_all (Some e) f = record { inside = f.0; below = f.1; negative = f.2; first = λ j l. f.3 j l (omega arith) }

  pub lowest_within : (k : ℕ) (best : Option ℕ) → IsLeastSoFar k best
      → IfSome best (λ e. (e < m) × (rows e column <ℤ pos 0))
  lowest_within k None f = tt
  lowest_within k (Some e) f = (f.0, f.1)
