-- Numbers of the cases: the words of a line, the numbers that words write, and numbers as they are shown.
use Rattle.std.specs.Prelude.{ℕ, ◌^◌, ◌==◌, nat_lt, ◌&&◌, Bool, cond, ℤ, pos, negsuc, List, [], ◌∷◌, ◌++◌, length, filter, codes}
use Rattle.std.specs.Prelude.{Option, Some, None, option_map, option_and_then}
use Rattle.std.specs.Fmt.{decimal, signed_decimal}
use Rattle.std.specs.List.{slice_split}
use Rattle.std.specs.Str.{all_ascii_digits}
use Rattle.std.specs.Str.Parse.{digits_value, without_leading_plus, without_leading_sign, signed_digits_value}
use Rattle.rob_algebra.specs.Fraction.{Fraction, of_int}
use Rattle.rob_algebra.specs.Width.{kept}

-- a piece has a byte
abbrev pub is_filled : List ℕ → Bool
is_filled piece = nat_lt 0 (length piece)

-- the words of a line: its pieces between spaces, but the empty ones
abbrev pub words : List ℕ → List (List ℕ)
words line = filter is_filled (slice_split (λ byte. byte == 32) line)

-- one decimal digit or more, and nothing else
abbrev pub is_numeral : List ℕ → Bool
is_numeral digits = is_filled digits && all_ascii_digits digits

-- a whole number of 64 bits
abbrev pub is_whole : ℤ → Bool
is_whole (pos n) = nat_lt n (2 ^ 63)
is_whole (negsuc n) = nat_lt n (2 ^ 63)

-- the whole number of 64 bits that a word writes: a sign or none, and then digits
abbrev pub whole_of : List ℕ → Option ℤ
whole_of word =
    cond (is_numeral (without_leading_sign word) && is_whole (signed_digits_value 10 word))
    (Some (signed_digits_value 10 word)) None

-- the number below 2 ^ 32 that a word writes: a plus or none, and then digits
abbrev pub small_of : List ℕ → Option ℕ
small_of word =
    let digits = without_leading_plus word in
    cond (is_numeral digits && nat_lt (digits_value 10 digits) (2 ^ 32)) (Some (digits_value 10 digits)) None

-- what a function gives of each item, where it gives something of all
abbrev pub of_all : {X Y : Type 0} → (X → Option Y) → List X → Option (List Y)
of_all f [] = Some []
of_all f (item ∷ items) = option_and_then (λ first. option_map (λ more. first ∷ more) (of_all f items)) (f item)

-- the whole numbers that the words of a line write
abbrev pub wholes_of : List ℕ → Option (List ℤ)
wholes_of line = of_all whole_of (words line)

-- a number: its numerator, and its denominator where that isn't 1
abbrev pub number_text : Fraction → List ℕ
number_text q = signed_decimal q.num ++ cond (q.den == 1) [] (codes "/" ++ decimal q.den)

-- numbers, each behind a space
abbrev pub spaced : {X : Type 0} → (X → Fraction) → List X → List ℕ
spaced value [] = []
spaced value (number ∷ more) = (32 ∷ number_text (value number)) ++ spaced value more

-- a whole number as a number of a width, where it fits
abbrev pub exact_of : ℕ → ℤ → Option Fraction
exact_of limit number = kept limit (of_int number)
