-- The number that a field is: an optional `-`, digits, and behind a `/` further digits, with spaces and tabs round it.
-- Leading zeros are allowed.
use Rattle.std.specs.Prelude.{ℕ, ◌+◌, ◌*◌, ◌-◌, nat_le, List, [], ◌∷◌, Bool, true, ◌&&◌, ◌||◌, ◌==◌, Option, Some, None, if◌then◌else◌, pos, map}
-- `0` to `9`
pub use Rattle.std.specs.Char.{is_ascii_digit as is_digit}
use Rattle.rob_algebra.specs.Fraction.{Fraction, of_pair, neg_ℚ}
use Rattle.rob_model.specs.Within.{◌>>=◌}
use Rattle.rob_replay.specs.Gathering.{all_of}

-- a space or a tab
abbrev pub is_blank : ℕ → Bool
is_blank b = (b == 32) || (b == 9)

-- without the blanks in front
abbrev pub behind_blanks : List ℕ → List ℕ
behind_blanks [] = []
behind_blanks (b ∷ bytes) = if is_blank b then behind_blanks bytes else b ∷ bytes

-- the bytes are blanks
abbrev pub all_blank : List ℕ → Bool
all_blank [] = true
all_blank (b ∷ bytes) = is_blank b && all_blank bytes

-- without the blanks at the end
abbrev pub before_blanks : List ℕ → List ℕ
before_blanks [] = []
before_blanks (b ∷ bytes) = if is_blank b && all_blank bytes then [] else b ∷ before_blanks bytes

-- the bytes are digits
abbrev pub all_digits : List ℕ → Bool
all_digits [] = true
all_digits (b ∷ bytes) = is_digit b && all_digits bytes

-- the value of digits behind digits of a value
abbrev pub value_behind : ℕ → List ℕ → ℕ
value_behind so_far [] = so_far
value_behind so_far (b ∷ bytes) = value_behind (so_far * 10 + (b - 48)) bytes

-- the value of a run of digits, at least one, if it is at most the limit
abbrev pub whole_in : ℕ → List ℕ → Option ℕ
whole_in limit [] = None
whole_in limit (b ∷ bytes) =
    if all_digits (b ∷ bytes) && nat_le (value_behind 0 (b ∷ bytes)) limit
    then Some (value_behind 0 (b ∷ bytes)) else None

-- the bytes before the first `/`
abbrev pub numerator_in : List ℕ → List ℕ
numerator_in [] = []
numerator_in (b ∷ bytes) = if b == 47 then [] else b ∷ numerator_in bytes

-- the bytes behind the first `/`, if there is one
abbrev pub denominator_in : List ℕ → Option (List ℕ)
denominator_in [] = None
denominator_in (b ∷ bytes) = if b == 47 then Some bytes else denominator_in bytes

-- a denominator is a whole number that is not 0
abbrev pub divisor_in : ℕ → List ℕ → Option ℕ
divisor_in limit bytes = whole_in limit bytes >>= (λ d. if d == 0 then None else Some d)

-- digits [ "/" digits ]
abbrev pub quotient_in : ℕ → ℕ → Option (List ℕ) → Option Fraction
quotient_in limit numerator None = Some (of_pair (pos numerator) 1)
quotient_in limit numerator (Some bytes) = divisor_in limit bytes >>= (λ d. Some (of_pair (pos numerator) d))

-- the same of bytes that have no sign
abbrev pub unsigned_in : ℕ → List ℕ → Option Fraction
unsigned_in limit bytes = whole_in limit (numerator_in bytes) >>= (λ n. quotient_in limit n (denominator_in bytes))

-- a number with the other sign, if there is one
abbrev pub negated : Option Fraction → Option Fraction
negated None = None
negated (Some q) = Some (neg_ℚ q)

-- [ "-" ] number
abbrev pub signed_in : ℕ → List ℕ → Option Fraction
signed_in limit [] = None
signed_in limit (b ∷ bytes) = if b == 45 then negated (unsigned_in limit bytes) else unsigned_in limit (b ∷ bytes)

-- the number that a field is, if it is one
abbrev pub number_in : ℕ → List ℕ → Option Fraction
number_in limit field = signed_in limit (before_blanks (behind_blanks field))

-- the numbers that fields are, if each is one
abbrev pub numbers_in : ℕ → List (List ℕ) → Option (List Fraction)
numbers_in limit fields = all_of (map (number_in limit) fields)
