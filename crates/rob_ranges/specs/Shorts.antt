-- Forms over two values at most, by factors of few bits.
use Rattle.std.specs.Prelude.{ℤ, pos, ◌+ℤ◌, ◌*ℤ◌, List, [], ◌∷◌}
-- the innermost value, or 0: it is read as the factor of the innermost value is
pub use Rattle.rob_index.specs.Forms.{first_factor as first_of}
use Rattle.rob_ranges.specs.declared.short.Short.{Short}
use Rattle.rob_ranges.specs.DigitLists.{wide_of}

-- the value around the innermost, or 0
abbrev pub second_of : List ℤ → ℤ
second_of [] = pos 0
second_of (x ∷ xs) = first_of xs

-- the form's value
abbrev pub short_value : Short → List ℤ → ℤ
short_value f xs = (wide_of f.constant +ℤ (f.first *ℤ first_of xs)) +ℤ (f.second *ℤ second_of xs)
