-- The rows of declared bounds, and of the members of a budget, as tables of a few numbers.
use Rattle.std.specs.Prelude.{◌≡◌, ℕ, suc, ◌+◌, Bool, true, false, not, if◌then◌else◌, pos, [], ◌∷◌, refl}
use Rattle.std.proofs.Common.{◌∙◌, ap, ap₂, add-one}
use Rattle.rob_algebra.specs.Fraction.{Fraction, ◌+ℚ◌, ◌*ℚ◌, neg_ℚ}
use Rattle.rob_algebra.specs.FractionLaws as Q
use Rattle.rob_algebra.specs.Polynomials.{lit, minus, ◌:+◌, ◌:*◌, v0, v1, v2, v3}
use Rattle.rob_meaning.specs.Coefficients.{Table, unit, single}
use Rattle.rob_meaning.specs.Places.{0ℚ, 1ℚ}
use Rattle.rob_meaning.specs.RobustModel.{Member}
use Rattle.rob_meaning.specs.SetRows as lifted
use Rattle.rob_meaning.specs.SetRows.{down_row, lower_row, up_row, upper_row}
use Rattle.rob_meaning.specs.Values.{signed}
use Rattle.rob_sets.specs.Appending.{row_of}

-- rows with the same numbers are the same
pub row_same : (f : Table) (p l : ℕ → Fraction) (b : Fraction) → ((k : ℕ) → f (suc k) 0 ≡ p k)
    → ((j : ℕ) → f 0 (suc j) ≡ l j) → neg_ℚ (f 0 0) ≡ b
    → row_of f ≡ (let row : lifted.SetRow = record { on_parameters = p; on_lifts = l; limit = b } in row)
row_same f p l b hp hl hb = λ i. record { on_parameters = λ k. hp k i; on_lifts = λ j. hl j i; limit = hb i }

-- a number in a parameter's row, and a constant
abbrev pub two_numbers : ℕ → Fraction → Fraction → Table
two_numbers d a c k j = (0ℚ +ℚ a *ℚ single (suc d) 0 k j) +ℚ c *ℚ single 0 0 k j

-- one number more, of column t
abbrev pub three_numbers : ℕ → ℕ → Fraction → Fraction → Fraction → Table
three_numbers d t a b c k j = ((0ℚ +ℚ a *ℚ single (suc d) 0 k j) +ℚ b *ℚ single 0 (suc t) k j) +ℚ c *ℚ single 0 0 k j

two_on_parameters : (d : ℕ) (a c : Fraction) (k : ℕ) → two_numbers d a c (suc k) 0 ≡ a *ℚ unit d k
two_on_parameters d a c k =
    Q.ring (a ∷ c ∷ unit d k ∷ [])
    ((lit (pos 0) :+ v0 :* (v2 :* lit (pos 1))) :+ v1 :* (lit (pos 0) :* lit (pos 1))) (v0 :* v2) refl

two_on_lifts : (d : ℕ) (a c : Fraction) (j : ℕ) → two_numbers d a c 0 (suc j) ≡ 0ℚ
two_on_lifts d a c j =
    Q.ring (a ∷ c ∷ []) ((lit (pos 0) :+ v0 :* (lit (pos 0) :* lit (pos 0))) :+ v1 :* (lit (pos 1) :* lit (pos 0)))
    (lit (pos 0)) refl

two_constant : (d : ℕ) (a c : Fraction) → two_numbers d a c 0 0 ≡ c
two_constant d a c =
    Q.ring (a ∷ c ∷ []) ((lit (pos 0) :+ v0 :* (lit (pos 0) :* lit (pos 1))) :+ v1 :* (lit (pos 1) :* lit (pos 1))) v1
    refl

three_on_parameters : (d t : ℕ) (a b c : Fraction) (k : ℕ) → three_numbers d t a b c (suc k) 0 ≡ a *ℚ unit d k
three_on_parameters d t a b c k =
    Q.ring (a ∷ b ∷ c ∷ unit d k ∷ [])
    (((lit (pos 0) :+ v0 :* (v3 :* lit (pos 1))) :+ v1 :* (lit (pos 0) :* lit (pos 0))) :+ v2 :*
    (lit (pos 0) :* lit (pos 1)))
    (v0 :* v3) refl

three_on_lifts : (d t : ℕ) (a b c : Fraction) (j : ℕ) → three_numbers d t a b c 0 (suc j) ≡ b *ℚ unit t j
three_on_lifts d t a b c j =
    Q.ring (a ∷ b ∷ c ∷ unit t j ∷ [])
    (((lit (pos 0) :+ v0 :* (lit (pos 0) :* lit (pos 0))) :+ v1 :* (lit (pos 1) :* v3)) :+ v2 :*
    (lit (pos 1) :* lit (pos 0)))
    (v1 :* v3) refl

three_constant : (d t : ℕ) (a b c : Fraction) → three_numbers d t a b c 0 0 ≡ c
three_constant d t a b c =
    Q.ring (a ∷ b ∷ c ∷ [])
    (((lit (pos 0) :+ v0 :* (lit (pos 0) :* lit (pos 1))) :+ v1 :* (lit (pos 1) :* lit (pos 0))) :+ v2 :*
    (lit (pos 1) :* lit (pos 1)))
    v2 refl

one_times : (x : Fraction) → 1ℚ *ℚ x ≡ x
one_times x = Q.ℚ-one-mul x

minus_times : (x : Fraction) → neg_ℚ 1ℚ *ℚ x ≡ neg_ℚ x
minus_times x = Q.ring (x ∷ []) (minus (lit (pos 1)) :* v0) (minus v0) refl

pub minus_minus : (x : Fraction) → neg_ℚ (neg_ℚ x) ≡ x
minus_minus x = Q.ring (x ∷ []) (minus (minus v0)) v0 refl

-- ---- one number after another
-- the first number of an empty table
pub first_number : (d : ℕ) (a : Fraction) (empty f : Table) → ((k j : ℕ) → empty k j ≡ 0ℚ)
    → ((k j : ℕ) → f k j ≡ empty k j +ℚ a *ℚ single (d + 1) 0 k j)
    → (k j : ℕ) → f k j ≡ 0ℚ +ℚ a *ℚ single (suc d) 0 k j
first_number d a empty f z h k j =
    h k j ∙ ap₂ (λ u n. u +ℚ a *ℚ single n 0 k j) (z k j) (add-one d)

-- which has no constant
pub no_constant : (d : ℕ) (a : Fraction) → 0ℚ +ℚ a *ℚ single (suc d) 0 0 0 ≡ 0ℚ
no_constant d a = Q.ring (a ∷ []) (lit (pos 0) :+ v0 :* (lit (pos 0) :* lit (pos 1))) (lit (pos 0)) refl

-- and none in a column t
pub no_lift : (d t : ℕ) (a : Fraction) → 0ℚ +ℚ a *ℚ single (suc d) 0 0 (t + 1) ≡ 0ℚ
no_lift d t a =
    ap (λ n. 0ℚ +ℚ a *ℚ single (suc d) 0 0 n) (add-one t)
    ∙ Q.ring (a ∷ []) (lit (pos 0) :+ v0 :* (lit (pos 0) :* lit (pos 0))) (lit (pos 0)) refl

-- a second one in a column t
pub second_number : (d t : ℕ) (a b : Fraction) (f g : Table) → ((k j : ℕ) → f k j ≡ 0ℚ +ℚ a *ℚ single (suc d) 0 k j)
    → ((k j : ℕ) → g k j ≡ f k j +ℚ b *ℚ single 0 (t + 1) k j) → (k j : ℕ)
    → g k j ≡ (0ℚ +ℚ a *ℚ single (suc d) 0 k j) +ℚ b *ℚ single 0 (suc t) k j
second_number d t a b f g z h k j = h k j ∙ ap₂ (λ u n. u +ℚ b *ℚ single 0 n k j) (z k j) (add-one t)

pub still_no_constant : (d t : ℕ) (a b : Fraction) → (0ℚ +ℚ a *ℚ single (suc d) 0 0 0) +ℚ b *ℚ single 0 (suc t) 0 0 ≡ 0ℚ
still_no_constant d t a b =
    Q.ring (a ∷ b ∷ []) ((lit (pos 0) :+ v0 :* (lit (pos 0) :* lit (pos 1))) :+ v1 :* (lit (pos 1) :* lit (pos 0)))
    (lit (pos 0)) refl

-- ---- declared bounds
pub bound_row : (lower : Bool) (d : ℕ) (b one sign bound : Fraction) (f : Table) → one ≡ 1ℚ → sign ≡ signed lower one
    → bound ≡ signed (not lower) b
    → ((k j : ℕ) → f k j ≡ two_numbers d sign bound k j) → row_of f ≡ (if lower then lower_row d b else upper_row d b)
bound_row true d b one sign bound f is s c h =
    row_same f (λ i. neg_ℚ (unit d i)) (λ i. 0ℚ) (neg_ℚ b)
    (λ k. h (suc k) 0 ∙ two_on_parameters d sign bound k ∙ ap (λ u. u *ℚ unit d k) (s ∙ ap neg_ℚ is)
    ∙ minus_times (unit d k))
    (λ j. h 0 (suc j) ∙ two_on_lifts d sign bound j)
    (ap neg_ℚ (h 0 0 ∙ two_constant d sign bound ∙ c))
bound_row false d b one sign bound f is s c h =
    row_same f (unit d) (λ i. 0ℚ) b
    (λ k. h (suc k) 0 ∙ two_on_parameters d sign bound k ∙ ap (λ u. u *ℚ unit d k) (s ∙ is) ∙ one_times (unit d k))
    (λ j. h 0 (suc j) ∙ two_on_lifts d sign bound j)
    (ap neg_ℚ (h 0 0 ∙ two_constant d sign bound ∙ c) ∙ minus_minus b)

-- ---- members of a budget
pub member_row : (up : Bool) (t : ℕ) (h : Member) (one sign spread centre : Fraction) (f : Table) → one ≡ 1ℚ
    → sign ≡ signed (not up) one
    → spread ≡ neg_ℚ h.deviation → centre ≡ signed up h.centre
    → ((k j : ℕ) → f k j ≡ three_numbers h.parameter t sign spread centre k j)
    → row_of f ≡ (if up then up_row t h else down_row t h)
member_row true t h one sign spread centre f is s d c e =
    row_same f (unit h.parameter) (λ i. neg_ℚ h.deviation *ℚ unit t i) h.centre
    (λ k. e (suc k) 0 ∙ three_on_parameters h.parameter t sign spread centre k
    ∙ ap (λ u. u *ℚ unit h.parameter k) (s ∙ is) ∙ one_times (unit h.parameter k))
    (λ j. e 0 (suc j) ∙ three_on_lifts h.parameter t sign spread centre j ∙ ap (λ u. u *ℚ unit t j) d)
    (ap neg_ℚ (e 0 0 ∙ three_constant h.parameter t sign spread centre ∙ c) ∙ minus_minus h.centre)
member_row false t h one sign spread centre f is s d c e =
    row_same f (λ i. neg_ℚ (unit h.parameter i)) (λ i. neg_ℚ h.deviation *ℚ unit t i) (neg_ℚ h.centre)
    (λ k. e (suc k) 0 ∙ three_on_parameters h.parameter t sign spread centre k
    ∙ ap (λ u. u *ℚ unit h.parameter k) (s ∙ ap neg_ℚ is)
    ∙ minus_times (unit h.parameter k))
    (λ j. e 0 (suc j) ∙ three_on_lifts h.parameter t sign spread centre j ∙ ap (λ u. u *ℚ unit t j) d)
    (ap neg_ℚ (e 0 0 ∙ three_constant h.parameter t sign spread centre ∙ c))
