-- Linear forms over the values of nested ranges, and the greatest and least value that a form takes over a nest,
-- found by putting the innermost range's end for its value, range by range (back substitution; for triangular systems
-- whose ranges are never empty the ends are reached, so the bound is exact). A nest and a list of values begin with
-- the innermost.
use Rattle.std.specs.Prelude.{◌≡◌, ℤ, pos, negsuc, ◌+ℤ◌, ◌*ℤ◌, ◌≤ℤ◌, int_lt, int_le, ◌&&◌, ◌||◌, Bool, true, false, List, [], ◌∷◌, if◌then◌else◌, Option, Some, None}
use Rattle.std.specs.List.{list_any, flat_map}
use Rattle.rob_index.specs.Settings.{count, upwards}

-- a constant, and a factor for each value
pub record Form : Type 0 where
  pub constant : ℤ
  pub factors : List ℤ

-- the sum of the products
abbrev pub weighed : List ℤ → List ℤ → ℤ
weighed [] xs = pos 0
weighed (c ∷ cs) [] = pos 0
weighed (c ∷ cs) (x ∷ xs) = (c *ℤ x) +ℤ weighed cs xs

-- the value of a form
abbrev pub value_of : Form → List ℤ → ℤ
value_of f xs = f.constant +ℤ weighed f.factors xs

-- c times the one plus the other
abbrev pub joined : ℤ → List ℤ → List ℤ → List ℤ
joined c [] ds = ds
joined c (b ∷ bs) [] = (c *ℤ b) ∷ joined c bs []
joined c (b ∷ bs) (d ∷ ds) = ((c *ℤ b) +ℤ d) ∷ joined c bs ds

-- the one form, and c times the other
abbrev pub plus_times : Form → ℤ → Form → Form
plus_times f c g = record { constant = f.constant +ℤ (c *ℤ g.constant); factors = joined c g.factors f.factors }

-- the difference of two forms
abbrev pub minus : Form → Form → Form
minus f g = plus_times f (negsuc 0) g

-- the factor of the innermost value, and the form without it
abbrev pub first_factor : List ℤ → ℤ
first_factor [] = pos 0
first_factor (c ∷ cs) = c

-- the factors of the values around the innermost
abbrev pub other_factors : List ℤ → List ℤ
other_factors [] = []
other_factors (c ∷ cs) = cs

-- the form over the values around the innermost
abbrev pub outer : Form → Form
outer f = record { constant = f.constant; factors = other_factors f.factors }

-- the ends of a range, over the values of the ranges around it
pub record Ends : Type 0 where
  pub from : Form
  pub upto : Form

-- each value is in its range
abbrev pub AreWithin : List Ends → List ℤ → Type 0
AreWithin [] [] = Unit {0}
AreWithin [] (x ∷ xs) = ⊥
AreWithin (r ∷ rs) [] = ⊥
AreWithin (r ∷ rs) (x ∷ xs) = AreWithin rs xs × (value_of r.from xs ≤ℤ x) × (x ≤ℤ value_of r.upto xs)

-- the end that makes c times the value greatest
abbrev pub far_end : ℤ → Ends → Form
far_end (pos c) r = r.upto
far_end (negsuc c) r = r.from

-- the form with the innermost value at that end
abbrev pub without : Ends → Form → Form
without r f = plus_times (outer f) (first_factor f.factors) (far_end (first_factor f.factors) r)

-- no value of the form is over this
abbrev pub greatest : List Ends → Form → ℤ
greatest [] f = f.constant
greatest (r ∷ rs) f = greatest rs (without r f)

-- how far the end is from the start
abbrev pub length_form : Ends → Form
length_form r = minus r.upto r.from

-- how far the start is behind the end
abbrev pub lack_form : Ends → Form
lack_form r = minus r.from r.upto

-- every range has a value, whatever the values around it
abbrev pub all_run : List Ends → Bool
all_run [] = true
all_run (r ∷ rs) = int_le (greatest rs (lack_form r)) (pos 0) && all_run rs

-- some range has no value, whatever the values around it
abbrev pub is_dead : List Ends → Bool
is_dead [] = false
is_dead (r ∷ rs) = int_lt (greatest rs (length_form r)) (pos 0) || is_dead rs

-- whether the form reaches the bound somewhere in the nest, where that is seen from the ends alone
abbrev pub from_ends : List Ends → Form → ℤ → Option Bool
from_ends rs f bound =
    if int_lt (greatest rs f) bound || is_dead rs then Some false else (if all_run rs then Some true else None)

-- ---- where it isn't, values are put in for the ranges, from the outermost inwards
-- a value as a range
abbrev pub only : ℤ → Form
only v = record { constant = v; factors = [] }

-- the range of one value
abbrev pub at_one : ℤ → Ends
at_one v = record { from = only v; upto = only v }

-- values as ranges
abbrev pub fixed : List ℤ → List Ends
fixed [] = []
fixed (v ∷ vs) = at_one v ∷ fixed vs

-- the nest of some ranges, the outermost first, inside another
abbrev pub onto : List Ends → List Ends → List Ends
onto [] nest = nest
onto (r ∷ rs) nest = onto rs (r ∷ nest)

-- the values of a range inside these values, upwards
abbrev pub values_of : Ends → List ℤ → List ℤ
values_of r vs = upwards (value_of r.from vs) (count (value_of r.from vs) (value_of r.upto vs))

-- whether the form reaches the bound at some values of these ranges, the outermost first, inside fixed values
abbrev pub reaches : List Ends → List ℤ → Form → ℤ → Bool
reaches [] vs f bound = int_le bound (value_of f vs)
reaches (r ∷ rs) vs f bound = elim (from_ends (onto (r ∷ rs) (fixed vs)) f bound) [
  | None ↦ list_any (λ v. reaches rs (v ∷ vs) f bound) (values_of r vs)
  | Some b ↦ b
]

-- the plain definition: the values run through all settings of the ranges
abbrev pub extensions : List Ends → List ℤ → List (List ℤ)
extensions [] vs = vs ∷ []
extensions (r ∷ rs) vs = flat_map (λ v. extensions rs (v ∷ vs)) (values_of r vs)

-- whether the form reaches the bound in some setting of the ranges
abbrev pub reaches_plainly : List Ends → List ℤ → Form → ℤ → Bool
reaches_plainly rs vs f bound = list_any (λ xs. int_le bound (value_of f xs)) (extensions rs vs)

-- ranges whose ends name no value
abbrev pub AreConstant : List Ends → Type 0
AreConstant [] = Unit {0}
AreConstant (r ∷ rs) = (r.from.factors ≡ []) × (r.upto.factors ≡ []) × AreConstant rs
