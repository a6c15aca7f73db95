-- Parts of rob_index' lines that have a reader of their own, how they are spelled, and what is seen of them.
use Rattle.std.specs.Prelude.{List, [], ◌∷◌, ◌++◌, Option}
use Rattle.rob_index.specs.Symbols.{Symbol, sign}
use Rattle.rob_index.specs.Symbols as is
use Rattle.rob_index.specs.Statements.{Numeral, Signed, Bounds, Ref, Range, Ranged, Share, Sides, Tree}
use Rattle.rob_index.specs.Statements as stated
use Rattle.rob_index.specs.Grammar.{Factors, no_factors, times, Terms, no_terms, signed, Expr, spell_list, spell_ref, spell_range, spell_ranges, spell_over, spell_number, spell_signed, spell_bounds, spell_expr, tree_factor, tree_term, tree_expr}
use Rattle.rob_index.specs.Lines.{spell_sides, spell_ranged, spell_share, trees_of}
use Rattle.rob_syntax.specs.Seen.{SeenPart}

-- "[" signed "," signed "]"
abbrev pub spell_interval : Signed × Signed → List Symbol
spell_interval p =
    sign is.open_bracket ∷ (spell_signed p.0 ++ sign is.comma ∷ (spell_signed p.1 ++ sign is.close_bracket ∷ []))

-- expr ")"
abbrev pub spell_closed : Expr → List Symbol
spell_closed e = spell_expr e ++ sign is.closing ∷ []

-- "(" range ":" expr ")"
abbrev pub spell_summed : Range × Expr → List Symbol
spell_summed p = sign is.opening ∷ (spell_range p.0 ++ sign is.colon ∷ spell_closed p.1)

-- the tree of a sum over a range
abbrev pub tree_summed : Range × Expr → Tree
tree_summed p = stated.ranged p.0 (tree_expr p.1)

-- the trees of factors
abbrev pub factor_trees : Factors → List Tree
factor_trees no_factors = []
factor_trees (times f fs) = tree_factor f ∷ factor_trees fs

-- the trees of terms with their signs
abbrev pub term_parts : Terms → List SeenPart
term_parts no_terms = []
term_parts (signed minus t ts) = record { minus = minus; inner = tree_term t } ∷ term_parts ts

-- ---- what stands behind the keyword of a line
-- ref [ ranges ]
abbrev pub spell_named : Ref × List Range → List Symbol
spell_named p = spell_ref p.0 ++ spell_ranges p.1

-- [ bounds ] [ ranges ]
abbrev pub spell_bounded : Option Bounds × List Range → List Symbol
spell_bounded p = spell_bounds p.0 ++ spell_ranges p.1

-- ref [ bounds ] [ ranges ]
abbrev pub spell_declared : Ref × (Option Bounds × List Range) → List Symbol
spell_declared p = spell_ref p.0 ++ spell_bounded p.1

-- expr rel expr [ "over" ref ] [ ranges ]
abbrev pub spell_related : Sides Expr × List Range → List Symbol
spell_related p = spell_sides p.0 ++ spell_ranges p.1

-- the same with its trees
abbrev pub tree_related : Sides Expr × List Range → Sides Tree × List Range
tree_related p = (trees_of p.0, p.1)

-- ref ":" expr rel expr [ "over" ref ] [ ranges ]
abbrev pub spell_row : Ref × (Sides Expr × List Range) → List Symbol
spell_row p = spell_ref p.0 ++ sign is.colon ∷ spell_related p.1

-- the same with its trees
abbrev pub tree_row : Ref × (Sides Expr × List Range) → Ref × (Sides Tree × List Range)
tree_row p = (p.0, tree_related p.1)

-- expr [ "over" ref ]
abbrev pub spell_ending : Expr × Option Ref → List Symbol
spell_ending p = spell_expr p.0 ++ spell_over p.1

-- the same with its tree
abbrev pub tree_ending : Expr × Option Ref → Tree × Option Ref
tree_ending p = (tree_expr p.0, p.1)

-- [ "over" ref ] [ ranges ]
abbrev pub spell_last : Option Ref × List Range → List Symbol
spell_last p = spell_over p.0 ++ spell_ranges p.1

-- expr [ "over" ref ] [ ranges ]
abbrev pub spell_goal : Expr × (Option Ref × List Range) → List Symbol
spell_goal p = spell_expr p.0 ++ spell_last p.1

-- the same with its tree
abbrev pub tree_goal : Expr × (Option Ref × List Range) → Tree × (Option Ref × List Range)
tree_goal p = (tree_expr p.0, p.1)

-- number ":" [ member [ ranges ] { "," member [ ranges ] } ] [ "over" ref ]
abbrev pub spell_budget : Numeral × (List (Ranged Share) × Option Ref) → List Symbol
spell_budget p =
    spell_number p.0 ++ sign is.colon ∷ (spell_list (spell_ranged spell_share) p.1.0 ++ spell_over p.1.1)

-- ref "(" [ ref [ ranges ] { "," ref [ ranges ] } ] ")" [ bounds ] [ ranges ]
abbrev pub spell_adaptive : Ref × (List (Ranged Ref) × (Option Bounds × List Range)) → List Symbol
spell_adaptive p =
    spell_ref p.0 ++ sign is.opening
    ∷ (spell_list (spell_ranged spell_ref) p.1.0 ++ sign is.closing ∷ spell_bounded p.1.1)
