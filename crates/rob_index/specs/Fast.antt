-- Rules 26 and 27 judged without running through settings where the ends of the ranges tell.
use Rattle.std.specs.Prelude.{ℕ, ◌==◌, ◌||◌, Bool, true, false, ℤ, pos, negsuc, List, [], ◌∷◌, if◌then◌else◌}
use Rattle.rob_index.specs.Statements.{Atom, digits, bound, Step, Index, Range}
use Rattle.rob_index.specs.Settings.{Setting}
use Rattle.rob_index.specs.Forms.{Form, plus_times, minus, Ends, length_form, reaches}
use Rattle.rob_index.specs.Places.{of_ref, of_range, Inside}

-- the setting in which these names have these values; both begin with the innermost
abbrev pub setting_of : List ℕ → List ℤ → Setting
setting_of [] xs = []
setting_of (n ∷ ns) [] = []
setting_of (n ∷ ns) (x ∷ xs) = record { name = n; value = x } ∷ setting_of ns xs

-- the factor 1 at the innermost place of a name
abbrev pub unit_at : List ℕ → ℕ → List ℤ
unit_at [] k = []
unit_at (n ∷ ns) k = if n == k then (pos 1 ∷ []) else (pos 0 ∷ unit_at ns k)

-- an atom as a form
abbrev pub atom_form : List ℕ → Atom → Form
atom_form names (digits n) = record { constant = pos n; factors = [] }
atom_form names (bound k) = record { constant = pos 0; factors = unit_at names k }

-- 1, or its opposite where the step is subtracted
abbrev pub sign_factor : Bool → ℤ
sign_factor true = negsuc 0
sign_factor false = pos 1

-- the form that is 0 everywhere
abbrev pub nothing : Form
nothing = record { constant = pos 0; factors = [] }

-- the sum of the steps as a form
abbrev pub steps_form : List ℕ → List Step → Form
steps_form names [] = nothing
steps_form names (s ∷ ss) = plus_times (steps_form names ss) (sign_factor s.minus) (atom_form names s.atom)

-- an index as a form over the values of these names
abbrev pub index_form : List ℕ → Index → Form
index_form names x = plus_times (steps_form names x.more) (pos 1) (atom_form names x.first)

-- the ends of a range as forms
abbrev pub ends_of : List ℕ → Range → Ends
ends_of names r = record { from = index_form names r.from; upto = index_form names r.upto }

-- the ends of ranges inside each other, the outermost first, and the names bound inside them
abbrev pub nest_of : List ℕ → List Range → List Ends
nest_of names [] = []
nest_of names (r ∷ rs) = ends_of names r ∷ nest_of (r.name ∷ names) rs

-- the names bound inside some ranges, the innermost first
abbrev pub names_in : List ℕ → List Range → List ℕ
names_in names [] = names
names_in names (r ∷ rs) = names_in (r.name ∷ names) rs

-- the index is over 999 somewhere
abbrev pub goes_over : List Range → Index → Bool
goes_over around x = reaches (nest_of [] around) [] (index_form (names_in [] around) x) (pos 1000)

-- the index is below 0 somewhere
abbrev pub goes_below : List Range → Index → Bool
goes_below around x = reaches (nest_of [] around) [] (minus nothing (index_form (names_in [] around) x)) (pos 1)

-- the range has more than 100 values somewhere
abbrev pub grows_long : List Range → Range → Bool
grows_long around r = reaches (nest_of [] around) [] (length_form (ends_of (names_in [] around) r)) (pos 100)

-- whether a range is too long somewhere, from the ends where they tell
abbrev pub is_long_fast : Inside → Bool
is_long_fast i = elim i.place [ of_ref x ↦ false | of_range r ↦ grows_long i.around r ]

-- whether an index is out of bounds somewhere, from the ends where they tell
abbrev pub is_out_fast : Inside → Bool
is_out_fast i = elim i.place [ of_ref x ↦ goes_below i.around x || goes_over i.around x | of_range r ↦ false ]
