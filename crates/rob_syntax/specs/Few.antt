-- Whether no more than two ranges stand beside each other, and a budget has a member, as a test.
use Rattle.std.specs.Prelude.{Bool, true, false, ◌&&◌, nat_le, List, [], ◌∷◌, length}
use Rattle.rob_index.specs.Statements.{Range, Ranged, Indexed}
use Rattle.rob_index.specs.Statements as stated

-- there are at most two ranges
abbrev pub are_few : List Range → Bool
are_few rs = nat_le (length rs) 2

-- each item has at most two ranges
abbrev pub all_few : {A : Type 0} → List (Ranged A) → Bool
all_few [] = true
all_few (x ∷ xs) = are_few x.ranges && all_few xs

-- there is an item
abbrev pub has_some : {A : Type 0} → List A → Bool
has_some [] = false
has_some (x ∷ xs) = true

-- the line is within these limits
abbrev pub is_line : {E : Type 0} → Indexed E → Bool
is_line (stated.uncertain r b rs) = are_few rs
is_line (stated.over r rs) = are_few rs
is_line (stated.set s rs) = are_few rs
is_line (stated.budget n ms o) = all_few ms && has_some ms
is_line (stated.variable r b rs) = are_few rs
is_line (stated.adaptive r on b rs) = all_few on && are_few rs
is_line (stated.goal s e o rs) = are_few rs
is_line (stated.row r s rs) = are_few rs
