-- The order of quotients, by cross products, and of rows of them, place by place.
use Rattle.std.proofs.Common.{◌≡◌, ℕ, ◌+◌, ◌<◌, sym, refl, ap, ◌∙◌, arith, List, ◌∷◌, drop, length, get_or, Ordering, Less, Equal, Greater, int_cmp, true, false}
use Rattle.std.proofs.lemmas.Int.{ints, to_z-of_z}
use mir.Syntax.{w64, w128}
use mir.Val.{SFits}
use Rattle.std.proofs.lemmas.List.{drop_more}
use Rattle.std.specs.Ordering.{MatchOrdering, ordering_then, is_ne}
use Rattle.std.specs.Cmp.{int_ranks}
use Rattle.std.specs.Cmp.Lexicographic.{slice_cmp}
use lib.IntN.{ℤ, pos, ◌*ℤ◌, nat_abs}
use lib.Signed.{◌<ℤ◌}
use Rattle.rob_algebra.specs.Fraction.{of_pair, ◌<ℚ◌}
use Rattle.rob_algebra.specs.FractionPairs.{of_pair_eq, is_of_pair}
use Rattle.rob_algebra.specs.PairOrder.{is_lt_out}
use Rattle.rob_algebra.specs.FractionOrder.{cmp_ℚ, cmp_ℚ-ranks}
use Rattle.rob_rows.specs.Quotients.{quotients}
use Rattle.rob_rows.proofs.Entries.{read, read_long}
use Rattle.rob_number.specs.Lowest.{size_back}

-- of three facts that exclude one another two orderings tell the same
same_order : {P Q R : Type 0} (o o' : Ordering) → (P → Q → ⊥) → (P → R → ⊥) → (Q → R → ⊥) → MatchOrdering o P Q R
    → MatchOrdering o' P Q R → o ≡ o'
same_order Less Less pq pr qr h k = refl
same_order Less Equal pq pr qr h k = absurd (pq h k)
same_order Less Greater pq pr qr h k = absurd (pr h k)
same_order Equal Less pq pr qr h k = absurd (pq k h)
same_order Equal Equal pq pr qr h k = refl
same_order Equal Greater pq pr qr h k = absurd (qr h k)
same_order Greater Less pq pr qr h k = absurd (pr k h)
same_order Greater Equal pq pr qr h k = absurd (qr k h)
same_order Greater Greater pq pr qr h k = refl

crossed_order : (x y : ℤ) (m n : ℕ) (o : Ordering) → 0 < m → 0 < n
    → MatchOrdering o (of_pair x m <ℚ of_pair y n) (of_pair x m ≡ of_pair y n) (of_pair y n <ℚ of_pair x m)
    → MatchOrdering o ((x *ℤ pos n) <ℤ (y *ℤ pos m)) (x *ℤ pos n ≡ y *ℤ pos m) ((y *ℤ pos m) <ℤ (x *ℤ pos n))
crossed_order x y m n Less h k r = is_lt_out (is_of_pair x m h) (is_of_pair y n k) r
crossed_order x y m n Equal h k r = (of_pair_eq x y m n h k).0 r
crossed_order x y m n Greater h k r = is_lt_out (is_of_pair y n k) (is_of_pair x m h) r

less_not_equal : (a b : ℤ) → a <ℤ b → a ≡ b → ⊥
less_not_equal a b h e = omega (arith, ints)

less_not_greater : (a b : ℤ) → a <ℤ b → b <ℤ a → ⊥
less_not_greater a b h k = omega (arith, ints)

equal_not_greater : (a b : ℤ) → a ≡ b → b <ℤ a → ⊥
equal_not_greater a b e h = omega (arith, ints)

-- the order of two quotients is that of the cross products
pub cmp_ℚ-of_pair : (x y : ℤ) (m n : ℕ) → 0 < m → 0 < n
    → cmp_ℚ (of_pair x m) (of_pair y n) ≡ int_cmp (x *ℤ pos n) (y *ℤ pos m)
cmp_ℚ-of_pair x y m n h k =
    same_order (cmp_ℚ (of_pair x m) (of_pair y n)) (int_cmp (x *ℤ pos n) (y *ℤ pos m))
    (less_not_equal (x *ℤ pos n) (y *ℤ pos m)) (less_not_greater (x *ℤ pos n) (y *ℤ pos m))
    (equal_not_greater (x *ℤ pos n) (y *ℤ pos m))
    (crossed_order x y m n (cmp_ℚ (of_pair x m) (of_pair y n)) h k (cmp_ℚ-ranks (of_pair x m) (of_pair y n)))
    (int_ranks (x *ℤ pos n) (y *ℤ pos m))

-- the order from a place on: there, and from the next place on where the quotients are equal
pub order_from : (a : List ℤ) (p : ℤ) (b : List ℤ) (q : ℤ) (k : ℕ) → pos 0 <ℤ p → pos 0 <ℤ q
    → k < length a → k < length b
    → slice_cmp cmp_ℚ (quotients (drop k a) p) (quotients (drop k b) q)
    ≡ ordering_then (int_cmp (get_or a k (pos 0) *ℤ q) (get_or b k (pos 0) *ℤ p))
    (slice_cmp cmp_ℚ (quotients (drop (k + 1) a) p) (quotients (drop (k + 1) b) q))
order_from a p b q k hp hq la lb =
    let np : 0 < nat_abs p = omega (arith, ints) in
    let nq : 0 < nat_abs q = omega (arith, ints) in
    let x = get_or a k (pos 0) in
    let y = get_or b k (pos 0) in
    let here : cmp_ℚ (of_pair x (nat_abs p)) (of_pair y (nat_abs q)) ≡ int_cmp (x *ℤ q) (y *ℤ p) =
    cmp_ℚ-of_pair x y (nat_abs p) (nat_abs q) np nq ∙ ap (λ t. int_cmp (x *ℤ t) (y *ℤ pos (nat_abs p))) (size_back q hq)
    ∙ ap (λ t. int_cmp (x *ℤ q) (y *ℤ t)) (size_back p hp) in
    ap (λ t. slice_cmp cmp_ℚ (quotients t p) (quotients (drop k b) q)) (drop_more a k (pos 0) la)
    ∙ ap (λ t. slice_cmp cmp_ℚ (quotients (x ∷ drop (k + 1) a) p) (quotients t q)) (drop_more b k (pos 0) lb)
    ∙ ap (λ t. ordering_then t (slice_cmp cmp_ℚ (quotients (drop (k + 1) a) p) (quotients (drop (k + 1) b) q))) here

-- where the first orders differ they decide, and else the rest does
pub first_decides : (whole here rest : Ordering) → whole ≡ ordering_then here rest → is_ne here ≡ true → here ≡ whole
first_decides whole Less rest e n = sym e
first_decides whole Equal rest e n = cc
first_decides whole Greater rest e n = sym e

pub rest_decides : (whole here rest : Ordering) → whole ≡ ordering_then here rest → is_ne here ≡ false → whole ≡ rest
rest_decides whole Less rest e n = cc
rest_decides whole Equal rest e n = e
rest_decides whole Greater rest e n = cc

-- the order of two products, which are read in 128 bits
pub order_read : (x y p q r s : ℤ) (o : Ordering) → SFits w64 x → SFits w64 y → SFits w128 r → SFits w128 s
    → r ≡ read x *ℤ q → s ≡ read y *ℤ p → o ≡ int_cmp (read_long r) (read_long s) → o ≡ int_cmp (x *ℤ q) (y *ℤ p)
order_read x y p q r s o fx fy fr fs er es eo =
    eo ∙ ap (λ t. int_cmp t (read_long s)) (to_z-of_z w128 r fr ∙ er ∙ ap (λ t. t *ℤ q) (to_z-of_z w64 x fx))
    ∙ ap (int_cmp (x *ℤ q)) (to_z-of_z w128 s fs ∙ es ∙ ap (λ t. t *ℤ p) (to_z-of_z w64 y fy))
