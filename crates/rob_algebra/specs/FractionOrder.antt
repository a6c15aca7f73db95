-- The order of fractions as a function that answers, for `Ord`.
use Rattle.std.specs.Prelude.{◌≡◌, pos, ◌*ℤ◌, ◌<ℤ◌, Bool, ◌&&◌, nat_abs, refl}
use Rattle.std.proofs.Common.{Ordering, Less, Equal, Greater, int_cmp, int_eq, is_eq, sym, ap, subst}
use Rattle.std.specs.Ordering.{MatchOrdering}
use Rattle.std.specs.Bool.{Decides, one_answer}
use Rattle.std.specs.Cmp.{IsTotalOrder, IsEquivalence, IsPartialEquivalence, strict, int_ranks, eq_by_cmp_equiv, partial_equiv_from_equiv, signed_Decides}
use Rattle.std.proofs.lemmas.Bool.Decides.{Decides-and}
use Rattle.rob_algebra.specs.Fraction.{Fraction, ◌<ℚ◌, ext}
use Rattle.rob_algebra.specs.FractionPairs.{eq_from_cross}
use Rattle.rob_algebra.specs.FractionOrderLaws.{lt_irrefl_ℚ, lt_le_trans_ℚ, le_of_lt_ℚ}

-- how x stands to y, by cross products
abbrev pub cmp_ℚ : Fraction → Fraction → Ordering
cmp_ℚ x y = int_cmp (x.num *ℤ pos y.den) (y.num *ℤ pos x.den)

-- whether x and y stand level
abbrev pub eq_ℚ : Fraction → Fraction → Bool
eq_ℚ x y = is_eq (cmp_ℚ x y)

ranked_by : (x y : Fraction) (r : Ordering)
    → MatchOrdering r ((x.num *ℤ pos y.den) <ℤ (y.num *ℤ pos x.den)) (x.num *ℤ pos y.den ≡ y.num *ℤ pos x.den)
    ((y.num *ℤ pos x.den) <ℤ (x.num *ℤ pos y.den)) →
    MatchOrdering r (x <ℚ y) (x ≡ y) (y <ℚ x)
ranked_by x y Less h = record { lt = h }
ranked_by x y Equal h = eq_from_cross x y h
ranked_by x y Greater h = record { lt = h }

-- what `cmp` answers
pub cmp_ℚ-ranks : (x y : Fraction) → MatchOrdering (cmp_ℚ x y) (x <ℚ y) (x ≡ y) (y <ℚ x)
cmp_ℚ-ranks x y = ranked_by x y (cmp_ℚ x y) (int_ranks (x.num *ℤ pos y.den) (y.num *ℤ pos x.den))

pub cmp_ℚ-total : IsTotalOrder cmp_ℚ
cmp_ℚ-total =
    strict (λ x y. x <ℚ y) lt_irrefl_ℚ (λ x y z h k. lt_le_trans_ℚ x y z h (le_of_lt_ℚ y z k)) cmp_ℚ cmp_ℚ-ranks

pub eq_ℚ-equiv : IsEquivalence eq_ℚ
eq_ℚ-equiv = eq_by_cmp_equiv cmp_ℚ-total

pub eq_ℚ-partial : IsPartialEquivalence eq_ℚ
eq_ℚ-partial = partial_equiv_from_equiv eq_ℚ-equiv

decides_by : (x y : Fraction) (r : Ordering) → MatchOrdering r (x <ℚ y) (x ≡ y) (y <ℚ x) → Decides (is_eq r) (x ≡ y)
decides_by x y Less h = (λ e. cc, λ e. absurd (lt_irrefl_ℚ x (subst (λ z. x <ℚ z) (sym e) h)))
decides_by x y Equal h = (λ e. h, λ e. refl)
decides_by x y Greater h = (λ e. cc, λ e. absurd (lt_irrefl_ℚ y (subst (λ z. y <ℚ z) e h)))

-- `==` answers whether two fractions are equal
pub eq_ℚ-decides : (x y : Fraction) → Decides (eq_ℚ x y) (x ≡ y)
eq_ℚ-decides x y = decides_by x y (cmp_ℚ x y) (cmp_ℚ-ranks x y)

parts_decide : (x y : Fraction) → Decides (int_eq x.num y.num && int_eq (pos x.den) (pos y.den)) (x ≡ y)
parts_decide x y =
    let d : Decides (int_eq x.num y.num && int_eq (pos x.den) (pos y.den)) ((x.num ≡ y.num) × (pos x.den ≡ pos y.den)) =
    Decides-and (int_eq x.num y.num) (int_eq (pos x.den) (pos y.den)) (signed_Decides x.num y.num)
    (signed_Decides (pos x.den) (pos y.den)) in
    (λ e. ext x y (d.0 e).0 (ap nat_abs (d.0 e).1), λ e. d.1 (ap (λ z. z.num) e, ap (λ z. pos z.den) e))

-- two fractions are compared by their parts
pub eq_ℚ-parts : (x y : Fraction) → (int_eq x.num y.num && int_eq (pos x.den) (pos y.den)) ≡ eq_ℚ x y
eq_ℚ-parts x y =
    one_answer (int_eq x.num y.num && int_eq (pos x.den) (pos y.den)) (eq_ℚ x y) (parts_decide x y) (eq_ℚ-decides x y)
