-- Names and numbers that are no fault: a name that may be used, and a number
-- whose digits are within the limit and whose divisor isn't 0.
use Rattle.std.proofs.Common.{◌≡◌, ℕ, ◌<◌, ◌≤◌, Bool, true, false, List, [], ◌∷◌, refl, ap, ◌∙◌, arith}
use Rattle.std.specs.Prelude.{◌==◌, ◌||◌, nat_abs, nat_lt, not, if◌then◌else◌, Option, Some, None}
use Rattle.std.specs.List.{list_any}
use Rattle.std.proofs.lemmas.Bool.Decides.{nat_tests}
use Rattle.rob_algebra.specs.Fraction.{Fraction, den_pos}
use Rattle.rob_algebra.specs.Width.{Fits}
use Rattle.rob_meaning.specs.Places.{Each}
use Rattle.rob_rules.specs.Degrees.{sort_at}
use Rattle.rob_rules.specs.Faults.{has_divisor_over, has_zero_divisor, is_over, is_unknown, is_usable, is_zero_divisor}
use Rattle.rob_rules.specs.declared.leaf.Leaf.{Leaf}
use Rattle.rob_rules.specs.declared.leaf.Leaf.TheVariants.{Name, Number}
use Rattle.rob_rules.specs.declared.sort.Sort.{Sort}
use Rattle.rob_syntax.specs.declared.syntax.Numeral.{Numeral}
use Rattle.rob_round_trip.proofs.ReadBack.NumberText.{divisor_of, numeral_of}

-- the digits are within the limit, and the divisor isn't 0
pub record IsFineNumber (limit : ℕ) (n : Numeral) : Type 0 where
  pub within : nat_lt limit n.numerator ≡ false
  pub divisor_within : has_divisor_over limit n.divisor ≡ false
  pub some_divisor : is_zero_divisor n.divisor ≡ false

-- a name may be used, a number is so
abbrev pub IsFineLeaf : ℕ → List (Option Sort) → Leaf → Type 0
IsFineLeaf limit sorts (Name k) = is_usable (sort_at sorts k) ≡ true
IsFineLeaf limit sorts (Number n) = IsFineNumber limit n

-- ---- numbers in lowest terms are so
not_over : (limit n : ℕ) → n ≤ limit → nat_lt limit n ≡ false
not_over limit n h = grind (arith, nat_tests)

pub not_zero : (n : ℕ) → 0 < n → (n == 0) ≡ false
not_zero n h = grind (arith, nat_tests)

record IsFineDivisor (limit : ℕ) (d : Option ℕ) : Type 0 where
  within : has_divisor_over limit d ≡ false
  some : is_zero_divisor d ≡ false

fine_divisor : (limit den : ℕ) → 0 < den → den ≤ limit → IsFineDivisor limit (divisor_of den)
fine_divisor limit den positive h = go (den == 1)
  where
    go : (one : Bool) → IsFineDivisor limit (if one then None else Some den)
    go true = record { within = refl; some = refl }
    go false = record { within = not_over limit den h; some = not_zero den positive }

pub fine_numeral : (limit : ℕ) (q : Fraction) → Fits limit q → IsFineNumber limit (numeral_of q)
fine_numeral limit q h =
    let d = fine_divisor limit q.den (den_pos q) h.den_fits in
    record { within = not_over limit (nat_abs q.num) h.num_fits; divisor_within = d.within; some_divisor = d.some }

-- ---- what no such name and number passes
pub none_passes : {A : Type 0} (P : A → Type 0) (test : A → Bool) → ((x : A) → P x → test x ≡ false) → (xs : List A)
    → Each P xs → list_any test xs ≡ false
none_passes P test fails [] each = refl
none_passes P test fails (x ∷ xs) each =
    ap (λ (b : Bool). b || list_any test xs) (fails x each.0) ∙ none_passes P test fails xs each.1

module _ (limit : ℕ) (sorts : List (Option Sort)) where
  not_unknown : (x : Leaf) → IsFineLeaf limit sorts x → is_unknown sorts x ≡ false
  not_unknown (Name k) fine = ap not fine
  not_unknown (Number n) fine = refl

  digits_within : (x : Leaf) → IsFineLeaf limit sorts x → is_over limit x ≡ false
  digits_within (Name k) fine = refl
  digits_within (Number n) fine = λ i. fine.within i || fine.divisor_within i

  divisor_there : (x : Leaf) → IsFineLeaf limit sorts x → has_zero_divisor x ≡ false
  divisor_there (Name k) fine = refl
  divisor_there (Number n) fine = fine.some_divisor

  pub all_usable : (xs : List Leaf) → Each (IsFineLeaf limit sorts) xs → list_any (is_unknown sorts) xs ≡ false
  all_usable xs fine = none_passes (IsFineLeaf limit sorts) (is_unknown sorts) not_unknown xs fine

  pub all_within : (xs : List Leaf) → Each (IsFineLeaf limit sorts) xs → list_any (is_over limit) xs ≡ false
  all_within xs fine = none_passes (IsFineLeaf limit sorts) (is_over limit) digits_within xs fine

  pub no_zero_divisor : (xs : List Leaf) → Each (IsFineLeaf limit sorts) xs → list_any has_zero_divisor xs ≡ false
  no_zero_divisor xs fine = none_passes (IsFineLeaf limit sorts) has_zero_divisor divisor_there xs fine
