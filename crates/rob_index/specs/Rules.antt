-- The rules of indices, in the order in which they are judged on a line that is a statement: 25, 26, 27, 28, and the
-- part of rule 11 that is judged on what the statement expands to.
use Rattle.std.specs.Prelude.{ℕ, ◌+◌, ◌==◌, nat_lt, ◌||◌, not, Bool, true, false, pos, int_lt, List, [], ◌∷◌, length, Option, Some, None}
use Rattle.std.specs.List.{list_any}
use Rattle.rob_index.specs.Statements.{Name, Plain, Parts, Factors, Member, Statement, Atom, digits, bound, Step, Index, Range, Tree, Indexed}
use Rattle.rob_index.specs.Statements as stated
use Rattle.rob_index.specs.Settings.{Setting, settings, index_value, count}
use Rattle.rob_index.specs.Expansion.{expand}
use Rattle.rob_index.specs.Counting.{lines_tokens}
use Rattle.rob_index.specs.Places.{of_ref, of_range, Inside, places}

-- the values that a range may have
abbrev pub most_values : ℕ
most_values = 100

-- the greatest value of an index of a ref, and of digits in an index
abbrev pub greatest_index : ℕ
greatest_index = 999

-- the tokens that the canonical lines may have
abbrev pub most_tokens : ℕ
most_tokens = 20000

-- the bytes that a name may have
abbrev pub longest_name : ℕ
longest_name = 32

-- ---- rule 25, on the text as it is written
module _ (is_declared : ℕ → Bool) where
  -- a range around binds the name
  abbrev pub is_bound : List Range → ℕ → Bool
  is_bound above k = list_any (λ (r : Range). r.name == k) above

  -- the atom is a name that no range around binds
  abbrev pub is_unbound_atom : List Range → Atom → Bool
  is_unbound_atom above (digits n) = false
  is_unbound_atom above (bound k) = not (is_bound above k)

  -- a name in the index isn't bound there
  abbrev pub has_unbound : List Range → Index → Bool
  has_unbound above x = is_unbound_atom above x.first || list_any (λ (s : Step). is_unbound_atom above s.atom) x.more

  -- an index has such a name; a range has one, or its own name is bound already or declared on an earlier line
  abbrev pub is_unknown : Inside → Bool
  is_unknown i = elim i.place [
    | of_ref x ↦ has_unbound i.around x
    | of_range r ↦ (has_unbound i.around r.from || has_unbound i.around r.upto)
        || (is_bound i.around r.name || is_declared r.name)
  ]

-- ---- rules 26 and 27, in the settings that are reached
-- the range has more than 100 values in this setting
abbrev pub is_long_at : Range → Setting → Bool
is_long_at r setting = nat_lt most_values (count (index_value setting r.from) (index_value setting r.upto))

-- the index is below 0 or over 999 in this setting
abbrev pub is_out_at : Index → Setting → Bool
is_out_at x setting = int_lt (index_value setting x) (pos 0) || int_lt (pos greatest_index) (index_value setting x)

-- a range is too long in some setting of the ranges around it
abbrev pub is_long : Inside → Bool
is_long i = elim i.place [ of_ref x ↦ false | of_range r ↦ list_any (is_long_at r) (settings i.around []) ]

-- an index of a ref is out of bounds in some setting of the ranges around it
abbrev pub is_out : Inside → Bool
is_out i = elim i.place [ of_ref x ↦ list_any (is_out_at x) (settings i.around []) | of_range r ↦ false ]

-- the atom is digits over the greatest index
abbrev pub is_great_atom : Atom → Bool
is_great_atom (digits n) = nat_lt greatest_index n
is_great_atom (bound k) = false

-- some atom of the index is such digits
abbrev pub has_great : Index → Bool
has_great x = is_great_atom x.first || list_any (λ (s : Step). is_great_atom s.atom) x.more

-- digits in an index have a value over 999
abbrev pub has_great_digits : Inside → Bool
has_great_digits i = elim i.place [ of_ref x ↦ has_great x | of_range r ↦ has_great r.from || has_great r.upto ]

-- ---- the late part of rule 11, on plain statements
abbrev pub is_long_name : Name → Bool
is_long_name n = nat_lt longest_name (length n)

abbrev mutual
  pub plain_has_long : Plain → Bool
  plain_has_long (stated.number n) = false
  plain_has_long (stated.name n) = is_long_name n
  plain_has_long (stated.sum ps) = parts_have_long ps
  plain_has_long (stated.product ps) = factors_have_long ps

  pub parts_have_long : Parts → Bool
  parts_have_long stated.no_parts = false
  parts_have_long (stated.part minus p ps) = plain_has_long p || parts_have_long ps

  pub factors_have_long : Factors → Bool
  factors_have_long stated.no_factors = false
  factors_have_long (stated.factor p ps) = plain_has_long p || factors_have_long ps

-- the name behind `over` is too long
abbrev pub optional_has_long : Option Name → Bool
optional_has_long None = false
optional_has_long (Some n) = is_long_name n

-- a list without items
abbrev pub has_no_member : List Member → Bool
has_no_member [] = true
has_no_member (m ∷ ms) = false

-- a name is too long, or a budget has no member
abbrev pub is_no_statement : Statement → Bool
is_no_statement (stated.uncertain n b) = is_long_name n
is_no_statement (stated.over n) = is_long_name n
is_no_statement (stated.set l r p o) = plain_has_long l || (plain_has_long p || optional_has_long o)
is_no_statement (stated.budget n ms o) =
    has_no_member ms || (list_any (λ (m : Member). is_long_name m.name) ms || optional_has_long o)
is_no_statement (stated.variable n b) = is_long_name n
is_no_statement (stated.adaptive n on b) = is_long_name n || list_any is_long_name on
is_no_statement (stated.goal s e o) = plain_has_long e || optional_has_long o
is_no_statement (stated.row n l r p o) =
    is_long_name n || (plain_has_long l || (plain_has_long p || optional_has_long o))

-- ---- the order
-- what may be wrong with a line that is a statement, before its plain statements are looked at
pub data IndexFault : Type 0 where
  index_unknown : IndexFault
  range_too_long : IndexFault
  index_out : IndexFault
  too_much : IndexFault
  no_statement : IndexFault

-- the numbers of the rules
abbrev pub rule_of : IndexFault → ℕ
rule_of index_unknown = 25
rule_of range_too_long = 26
rule_of index_out = 27
rule_of too_much = 28
rule_of no_statement = 11

-- the order in which they are judged
abbrev pub in_order : List IndexFault
in_order = index_unknown ∷ range_too_long ∷ index_out ∷ too_much ∷ no_statement ∷ []

module _ (limit : ℕ) (words : List Name) (is_declared : ℕ → Bool) (total : ℕ) (s : Indexed Tree) where
  -- what each fault is, where the lines before have this many canonical tokens
  abbrev pub has_fault : IndexFault → Bool
  has_fault index_unknown = list_any (is_unknown is_declared) (places s)
  has_fault range_too_long = list_any is_long (places s)
  has_fault index_out = list_any has_great_digits (places s) || list_any is_out (places s)
  has_fault too_much = nat_lt most_tokens (total + lines_tokens limit (expand words s))
  has_fault no_statement = list_any is_no_statement (expand words s)
