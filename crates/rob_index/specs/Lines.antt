-- The lines of version 2: how each is spelled, and the statement with its trees that a line is.
use Rattle.std.specs.Prelude.{◌≡◌, ◌≤◌, true, List, [], ◌∷◌, ◌++◌, length}
use Rattle.rob_index.specs.Symbols.{Symbol}
use Rattle.rob_index.specs.Symbols as is
use Rattle.rob_index.specs.Statements.{Rel, Sense, minimise, maximise, Range, Ranged, Share, Sides, Indexed, uncertain, over, set, budget, variable, adaptive, goal, row, Tree}
use Rattle.rob_index.specs.Statements as stated
use Rattle.rob_index.specs.Grammar.{Expr, spell_list, spell_ref, spell_ranges, spell_over, spell_number, spell_signed, spell_bounds, spell_expr, tree_expr}
use Rattle.rob_index.specs.FewIndices.{has_few_indices}

-- "<=" | ">=" | "="
abbrev pub spell_rel : Rel → Symbol
spell_rel stated.at_most = is.sign is.at_most
spell_rel stated.at_least = is.sign is.at_least
spell_rel stated.equal = is.sign is.equal

-- both spellings of a goal are one symbol
abbrev pub spell_sense : Sense → Symbol
spell_sense minimise = is.word is.minimise
spell_sense maximise = is.word is.maximise

-- expr rel expr [ "over" ref ]
abbrev pub spell_sides : Sides Expr → List Symbol
spell_sides s = spell_expr s.left ++ spell_rel s.rel ∷ (spell_expr s.right ++ spell_over s.over)

-- item [ ranges ]
abbrev pub spell_ranged : {A : Type 0} → (A → List Symbol) → Ranged A → List Symbol
spell_ranged spell x = spell x.item ++ spell_ranges x.ranges

-- ref "at" signed "by" number
abbrev pub spell_share : Share → List Symbol
spell_share m = spell_ref m.name ++ is.word is.at ∷ (spell_signed m.centre ++ is.word is.by ∷ spell_number m.deviation)

-- the grammar's table of statements
abbrev pub spell_line : Indexed Expr → List Symbol
spell_line (uncertain r b rs) = is.word is.uncertain ∷ (spell_ref r ++ (spell_bounds b ++ spell_ranges rs))
spell_line (over r rs) = is.word is.over ∷ (spell_ref r ++ spell_ranges rs)
spell_line (set s rs) = is.word is.set ∷ (spell_sides s ++ spell_ranges rs)
spell_line (budget n ms o) =
    is.word is.budget ∷ (spell_number n
    ++ is.sign is.colon ∷ (spell_list (spell_ranged spell_share) ms ++ spell_over o))
spell_line (variable r b rs) = is.word is.var ∷ (spell_ref r ++ (spell_bounds b ++ spell_ranges rs))
spell_line (adaptive r on b rs) =
    is.word is.adaptive
    ∷ (spell_ref r ++ is.sign is.opening
    ∷ (spell_list (spell_ranged spell_ref) on ++ is.sign is.closing ∷ (spell_bounds b ++ spell_ranges rs)))
spell_line (goal s e o rs) = spell_sense s ∷ (spell_expr e ++ (spell_over o ++ spell_ranges rs))
spell_line (row r s rs) = is.word is.row ∷ (spell_ref r ++ is.sign is.colon ∷ (spell_sides s ++ spell_ranges rs))

-- there are at most two ranges
abbrev pub AreRanges : List Range → Type 0
AreRanges rs = length rs ≤ 2

-- each item has at most two ranges
abbrev pub AreAllRanged : {A : Type 0} → List (Ranged A) → Type 0
AreAllRanged [] = Unit {0}
AreAllRanged (x ∷ xs) = AreRanges x.ranges × AreAllRanged xs

-- there is an item
abbrev pub HasMembers : {A : Type 0} → List A → Type 0
HasMembers [] = ⊥
HasMembers (x ∷ xs) = Unit {0}

-- no more than two ranges stand together, and a budget has a member
abbrev pub IsLine : {E : Type 0} → Indexed E → Type 0
IsLine (uncertain r b rs) = AreRanges rs
IsLine (over r rs) = AreRanges rs
IsLine (set s rs) = AreRanges rs
IsLine (budget n ms o) = AreAllRanged ms × HasMembers ms
IsLine (variable r b rs) = AreRanges rs
IsLine (adaptive r on b rs) = AreAllRanged on × AreRanges rs
IsLine (goal s e o rs) = AreRanges rs
IsLine (row r s rs) = AreRanges rs

-- both sides with their trees
abbrev pub trees_of : Sides Expr → Sides Tree
trees_of s = record { left = tree_expr s.left; rel = s.rel; right = tree_expr s.right; over = s.over }

-- the statement with its trees
abbrev pub statement_of : Indexed Expr → Indexed Tree
statement_of (uncertain r b rs) = uncertain r b rs
statement_of (over r rs) = over r rs
statement_of (set s rs) = set (trees_of s) rs
statement_of (budget n ms o) = budget n ms o
statement_of (variable r b rs) = variable r b rs
statement_of (adaptive r on b rs) = adaptive r on b rs
statement_of (goal s e o rs) = goal s (tree_expr e) o rs
statement_of (row r s rs) = row r (trees_of s) rs

-- the symbols of a line are this statement
pub record IsStatement (symbols : List Symbol) (s : Indexed Tree) : Type 0 where
  pub line : Indexed Expr
  pub is_line : IsLine line
  pub spelled : symbols ≡ spell_line line
  pub statement_is : statement_of line ≡ s
  -- no name has more indices than it may
  pub few : has_few_indices s ≡ true
