-- The ranges around a place as they are when a statement is gone through: their names, and their ends as forms.
use Rattle.std.specs.Prelude.{ℕ, ◌==◌, ◌||◌, not, Bool, false, List, [], ◌∷◌, ◌++◌, drop}
use Rattle.std.specs.List.{list_any}
use Rattle.rob_index.specs.Statements.{Atom, digits, bound, Step, Index, Range}
use Rattle.rob_index.specs.Forms.{Ends}
use Rattle.rob_index.specs.Fast.{ends_of, nest_of, names_in}
use Rattle.rob_ranges.specs.Nests.{all_but_last}

-- names, the innermost range's first, and ends, the outermost's first
pub record Around : Type 0 where
  pub names : List ℕ
  pub nest : List Ends

-- no range is around
abbrev pub nothing_around : Around
nothing_around = record { names = []; nest = [] }

-- one range more
abbrev pub inside : Around → Range → Around
inside a r = record { names = r.name ∷ a.names; nest = a.nest ++ ends_of a.names r ∷ [] }

-- one range fewer
abbrev pub outside : Around → Around
outside a = record { names = drop 1 a.names; nest = all_but_last a.nest }

-- these ranges
abbrev pub around_of : List Range → Around
around_of rs = record { names = names_in [] rs; nest = nest_of [] rs }

-- a range around has the name
abbrev pub binds : Around → ℕ → Bool
binds a k = list_any (λ (n : ℕ). n == k) a.names

-- the atom is a name that no range around has
abbrev pub is_loose : Around → Atom → Bool
is_loose a (digits n) = false
is_loose a (bound k) = not (binds a k)

-- such a name is in the index
abbrev pub has_loose : Around → Index → Bool
has_loose a x = is_loose a x.first || list_any (λ (s : Step). is_loose a s.atom) x.more
