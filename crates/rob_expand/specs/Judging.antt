-- What is found of a line in a setting: a range of more than 100 values, or an index below 0 or over 999.
use Rattle.std.specs.Prelude.{ℤ, pos, int_lt, ◌||◌, Bool, true, false, List, [], ◌∷◌, Option, Some, None, if◌then◌else◌}
use Rattle.rob_index.specs.Settings.{count, upwards}
use Rattle.rob_index.specs.Forms.{Form, Ends, value_of, values_of, length_form, extensions}
use Rattle.rob_index.specs.Rules.{greatest_index}
use Rattle.rob_expand.specs.declared.finding.Finding.{Finding}
use Rattle.rob_expand.specs.declared.finding.Finding.TheVariants.{Nothing, Out, TooLong}
use Rattle.rob_settings.specs.declared.item.Item.{Item}
use Rattle.rob_expand.specs.declared.line.Line.{Line}
use Rattle.rob_settings.specs.declared.item.Named.{Named}
use Rattle.rob_expand.specs.Placed.{Placed, number, name, sum, product, over, Parts, no_parts, part, Factors, no_factors, factor, placed_of}

-- the finding where some range is too long or none is, and some index is out of bounds or none is
abbrev pub finding : (long out : Bool) → Finding
finding long out = if long then TooLong else (if out then Out else Nothing)

-- a range is too long
abbrev pub is_too_long : Finding → Bool
is_too_long Nothing = false
is_too_long Out = false
is_too_long TooLong = true

-- an index is out of bounds
abbrev pub is_out_found : Finding → Bool
is_out_found Nothing = false
is_out_found Out = true
is_out_found TooLong = false

-- the worse of two findings
abbrev pub worse : Finding → Finding → Finding
worse Nothing b = b
worse TooLong b = TooLong
worse Out Nothing = Out
worse Out Out = Out
worse Out TooLong = TooLong

-- the worst of what is found of each
abbrev pub worst : {A : Type 0} → (A → Finding) → List A → Finding
worst found [] = Nothing
worst found (x ∷ xs) = worse (found x) (worst found xs)

-- a number is below 0 or over the greatest index
abbrev pub is_outside : ℤ → Bool
is_outside z = int_lt z (pos 0) || int_lt (pos greatest_index) z

-- an index
abbrev pub index_found : Form → List ℤ → Finding
index_found f vs = finding false (is_outside (value_of f vs))

-- the indices of a name
abbrev pub indices_found : List Form → List ℤ → Finding
indices_found fs vs = worst (λ f. index_found f vs) fs

-- how long a range is
abbrev pub length_found : Ends → List ℤ → Finding
length_found r vs = finding (int_lt (pos 99) (value_of (length_form r) vs)) false

-- a range, and what is inside it at each of its values
abbrev pub range_found : Ends → (List ℤ → Finding) → List ℤ → Finding
range_found r inside vs = worse (length_found r vs) (worst (λ v. inside (v ∷ vs)) (values_of r vs))

-- ranges, each inside those before it
abbrev pub ranges_found : List Ends → List ℤ → Finding
ranges_found [] vs = Nothing
ranges_found (r ∷ rs) vs = range_found r (ranges_found rs) vs

-- these ranges at each value from one up to another of a range around them
abbrev pub values_found : ℤ → ℤ → List Ends → List ℤ → Finding
values_found from upto inner vs = worst (λ v. ranges_found inner (v ∷ vs)) (upwards from (count from upto))

abbrev mutual
  -- an expression
  pub tree_found : Placed → List ℤ → Finding
  tree_found (number n) vs = Nothing
  tree_found (name k fs) vs = indices_found fs vs
  tree_found (sum ps) vs = parts_found ps vs
  tree_found (product fs) vs = factors_found fs vs
  tree_found (over r p) vs = range_found r (tree_found p) vs

  -- the parts of a sum
  pub parts_found : Parts → List ℤ → Finding
  parts_found no_parts vs = Nothing
  parts_found (part minus p ps) vs = worse (tree_found p vs) (parts_found ps vs)

  -- the factors of a product
  pub factors_found : Factors → List ℤ → Finding
  factors_found no_factors vs = Nothing
  factors_found (factor p ps) vs = worse (tree_found p vs) (factors_found ps vs)

-- a name that may be missing
abbrev pub optional_found : Option Named → List ℤ → Finding
optional_found None vs = Nothing
optional_found (Some n) vs = indices_found n.indices vs

-- the ranges of an item, and its name in each of their settings
abbrev pub item_found : Item → List ℤ → Finding
item_found x vs = worse (ranges_found x.ranges vs) (worst (indices_found x.name.indices) (extensions x.ranges vs))

-- a line: its name, its expressions, its items, and the name behind `over`
abbrev pub line_found : Line → List ℤ → Finding
line_found line vs =
    worse (optional_found line.head vs)
    (worse (worst (λ t. tree_found (placed_of t) vs) line.trees)
    (worse (worst (λ x. item_found x vs) line.items) (optional_found line.over vs)))

-- ranges, and a line in each of their settings
abbrev pub lines_found : List Ends → Line → Finding
lines_found ranges line = worse (ranges_found ranges []) (worst (line_found line) (extensions ranges []))
