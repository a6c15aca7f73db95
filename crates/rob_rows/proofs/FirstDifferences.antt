-- The lexicographic order of two rows over their divisors, by the first place where cross products differ.
use Rattle.std.proofs.Common.{◌≡◌, ℕ, zero, suc, ◌<◌, sym, ap, ◌∙◌, subst, arith, List, [], ◌∷◌, length, Ordering, Less, Equal, Greater, int_cmp}
use Rattle.std.proofs.lemmas.Int.{ints}
use Rattle.std.specs.Ordering.{MatchOrdering, ordering_then}
use Rattle.std.specs.Cmp.{int_ranks}
use Rattle.std.specs.Cmp.Lexicographic.{slice_cmp}
use lib.IntN.{ℤ, pos, ◌*ℤ◌, ◌-ℤ◌, nat_abs}
use lib.Signed.{◌<ℤ◌}
use Rattle.rob_algebra.specs.Fraction.{of_pair}
use Rattle.rob_algebra.specs.Integer.{*ℤ_comm}
use Rattle.rob_algebra.specs.FractionOrder.{cmp_ℚ}
use Rattle.rob_linear.specs.Vectors.{at}
use Rattle.rob_linear.specs.Turns.{IsLexPositive}
use Rattle.rob_rows.specs.Quotients.{quotients}
use Rattle.rob_rows.proofs.Orders.{cmp_ℚ-of_pair}
use Rattle.rob_number.specs.Lowest.{size_back}

-- what an ordering says of n numbers f, and of the same numbers negated, g
abbrev pub Tells : ℕ → (ℕ → ℤ) → (ℕ → ℤ) → Ordering → Type 0
Tells n f g o = MatchOrdering o (IsLexPositive n f) ((k : ℕ) → k < n → f k ≡ pos 0) (IsLexPositive n g)

later : (n : ℕ) (f : ℕ → ℤ) → f 0 ≡ pos 0 → IsLexPositive n (λ k. f (suc k)) → IsLexPositive (suc n) f
later n f z h = let l : h.0 < n = h.1 in (suc h.0, omega arith, zeros f h.0 z h.2, h.3)
  where
    zeros : (f : ℕ → ℤ) (m : ℕ) → f 0 ≡ pos 0 → ((j : ℕ) → j < m → f (suc j) ≡ pos 0) → (j : ℕ)
        → j < suc m → f j ≡ pos 0
    zeros f m z h zero l = z
    zeros f m z h (suc j) l = h j (omega arith)

first_zero : (n : ℕ) (f : ℕ → ℤ) → f 0 ≡ pos 0 → ((k : ℕ) → k < n → f (suc k) ≡ pos 0) → (k : ℕ)
    → k < suc n → f k ≡ pos 0
first_zero n f z h zero l = z
first_zero n f z h (suc k) l = h k (omega arith)

-- the first place, and then the rest
tells_more : (n : ℕ) (f g : ℕ → ℤ) (o r : Ordering)
    → MatchOrdering o (pos 0 <ℤ f 0) ((f 0 ≡ pos 0) × (g 0 ≡ pos 0)) (pos 0 <ℤ g 0)
    → Tells n (λ k. f (suc k)) (λ k. g (suc k)) r → Tells (suc n) f g (ordering_then o r)
tells_more n f g Less r h t = (0, omega arith, (λ j l. absurd (omega arith)), h)
tells_more n f g Greater r h t = (0, omega arith, (λ j l. absurd (omega arith)), h)
tells_more n f g Equal Less h t = later n f h.0 t
tells_more n f g Equal Equal h t = first_zero n f h.0 t
tells_more n f g Equal Greater h t = later n g h.1 t

ranks_places : (x y p q : ℤ) (o : Ordering)
    → MatchOrdering o ((x *ℤ q) <ℤ (y *ℤ p)) (x *ℤ q ≡ y *ℤ p) ((y *ℤ p) <ℤ (x *ℤ q))
    → MatchOrdering o (pos 0 <ℤ ((p *ℤ y) -ℤ (q *ℤ x)))
    (((p *ℤ y) -ℤ (q *ℤ x) ≡ pos 0) × ((q *ℤ x) -ℤ (p *ℤ y) ≡ pos 0)) (pos 0 <ℤ ((q *ℤ x) -ℤ (p *ℤ y)))
ranks_places x y p q Less h = omega (arith, ints, *ℤ_comm x q, *ℤ_comm y p)
ranks_places x y p q Equal h =
    (omega (arith, ints, *ℤ_comm x q, *ℤ_comm y p), omega (arith, ints, *ℤ_comm x q, *ℤ_comm y p))
ranks_places x y p q Greater h = omega (arith, ints, *ℤ_comm x q, *ℤ_comm y p)

pub first_difference : (a b : List ℤ) (p q : ℤ) → pos 0 <ℤ p → pos 0 <ℤ q → length a ≡ length b
    → Tells (length a) (λ k. (p *ℤ at b k) -ℤ (q *ℤ at a k)) (λ k. (q *ℤ at a k) -ℤ (p *ℤ at b k))
    (slice_cmp cmp_ℚ (quotients a p) (quotients b q))
first_difference [] [] p q hp hq e = λ k l. absurd (omega arith)
first_difference [] (y ∷ b) p q hp hq e = cc
first_difference (x ∷ a) [] p q hp hq e = cc
first_difference (x ∷ a) (y ∷ b) p q hp hq e =
    let np : 0 < nat_abs p = omega (arith, ints) in
    let nq : 0 < nat_abs q = omega (arith, ints) in
    let here : cmp_ℚ (of_pair x (nat_abs p)) (of_pair y (nat_abs q)) ≡ int_cmp (x *ℤ q) (y *ℤ p) =
    cmp_ℚ-of_pair x y (nat_abs p) (nat_abs q) np nq ∙ ap (λ t. int_cmp (x *ℤ t) (y *ℤ pos (nat_abs p))) (size_back q hq)
    ∙ ap (λ t. int_cmp (x *ℤ q) (y *ℤ t)) (size_back p hp) in
    tells_more (length a) (λ k. (p *ℤ at (y ∷ b) k) -ℤ (q *ℤ at (x ∷ a) k))
    (λ k. (q *ℤ at (x ∷ a) k) -ℤ (p *ℤ at (y ∷ b) k))
    (cmp_ℚ (of_pair x (nat_abs p)) (of_pair y (nat_abs q))) (slice_cmp cmp_ℚ (quotients a p) (quotients b q))
    (subst (λ o. MatchOrdering o (pos 0 <ℤ ((p *ℤ y) -ℤ (q *ℤ x)))
    (((p *ℤ y) -ℤ (q *ℤ x) ≡ pos 0) × ((q *ℤ x) -ℤ (p *ℤ y) ≡ pos 0)) (pos 0 <ℤ ((q *ℤ x) -ℤ (p *ℤ y)))) (sym here)
    (ranks_places x y p q (int_cmp (x *ℤ q) (y *ℤ p)) (int_ranks (x *ℤ q) (y *ℤ p))))
    (first_difference a b p q hp hq (omega arith))
