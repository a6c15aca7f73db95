-- What is looked for at a place.
use Rattle.std.specs.Prelude.{ℕ, ◌*◌, ◌||◌, Bool, true, false, pos, List, [], length, get_or, if◌then◌else◌}
use Rattle.rob_index.specs.Statements.{Index, Range}
use Rattle.rob_index.specs.Forms.{Form, minus, length_form}
use Rattle.rob_index.specs.Places.{Inside}
use Rattle.rob_index.specs.Rules.{has_great, is_unknown, has_great_digits}
use Rattle.rob_index.specs.Search.{Searched, missed, search_on, search, search_long, search_out}
use Rattle.rob_index.specs.Fast.{nothing, index_form, ends_of}
use Rattle.rob_places.specs.declared.test.Test.{Test}
use Rattle.rob_places.specs.declared.test.Test.TheVariants.{Unknown, GreatDigits, SoughtLong, Out}
use Rattle.rob_places.specs.Around.{Around, binds, has_loose}

-- an answer that costs nothing
abbrev pub told : Bool → ℕ → Searched
told found left = record { found = found; left = left }

-- a table of words, by their number
abbrev pub is_set : List Bool → ℕ → Bool
is_set table word = get_or table word false

-- what each test is of a place with the ranges around it
abbrev pub test_of : (ℕ → Bool) → Test → Inside → ℕ → Searched
test_of is_declared Unknown i left = told (is_unknown is_declared i) left
test_of is_declared GreatDigits i left = told (has_great_digits i) left
test_of is_declared SoughtLong i left = search_long i left
test_of is_declared Out i left = if has_great_digits i then told true left else search_out i left

-- ---- the same by the names around and the ends as forms
-- what putting in a value costs
abbrev pub price : Around → ℕ
price a = length a.names * (length a.names * length a.names)

-- the value of an index
abbrev pub form_of : Around → Index → Form
form_of a x = index_form a.names x

-- how far a range's end is from its start
abbrev pub length_of : Around → Range → Form
length_of a r = length_form (ends_of a.names r)

-- somewhere the index is below 0, or over 999, as far as it is found
abbrev pub sought_out_in : Around → Index → ℕ → Searched
sought_out_in a x left =
    search_on (search (price a) a.nest [] (minus nothing (form_of a x)) (pos 1) left)
    (search (price a) a.nest [] (form_of a x) (pos 1000))

-- the same, where no digits in it are over 999
abbrev pub out_in : Around → Index → ℕ → Searched
out_in a x left = if has_great x then told true left else sought_out_in a x left

-- somewhere a range has more than 100 values, as far as it is found
abbrev pub sought_long_in : Around → Range → ℕ → Searched
sought_long_in a r left = search (price a) a.nest [] (length_of a r) (pos 100) left

-- at an index of a ref
abbrev pub at_index : Test → Around → Index → ℕ → Searched
at_index Unknown a x left = told (has_loose a x) left
at_index GreatDigits a x left = told (has_great x) left
at_index SoughtLong a x left = missed left
at_index Out a x left = out_in a x left

-- a range has a name in its ends that no range around has, or its own name is such a one or declared
abbrev pub is_unknown_in : (ℕ → Bool) → Around → Range → Bool
is_unknown_in is_declared a r =
    (has_loose a r.from || has_loose a r.upto) || (binds a r.name || is_declared r.name)

-- at a range
abbrev pub at_range : (ℕ → Bool) → Test → Around → Range → ℕ → Searched
at_range is_declared Unknown a r left = told (is_unknown_in is_declared a r) left
at_range is_declared GreatDigits a r left = told (has_great r.from || has_great r.upto) left
at_range is_declared SoughtLong a r left = sought_long_in a r left
at_range is_declared Out a r left = told (has_great r.from || has_great r.upto) left
