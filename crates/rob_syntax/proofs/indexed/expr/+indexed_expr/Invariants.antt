use Rattle.std.proofs.Common.{◌+◌, ◌*◌, [], ◌∷◌, length, map}
use Rattle.rob_index.specs.Grammar.{spell_factors, spell_terms}
use Rattle.rob_syntax.specs.Fronts.{EndsTerm, EndsExpr}
use Rattle.rob_syntax.specs.Parts.{factor_trees, term_parts}
use Rattle.rob_syntax.specs.SeenSymbols.{seen_line}
use Rattle.rob_syntax.specs.Seen.{seen_tree, seen_part}
use Rattle.rob_syntax.proofs.Fronts.ChainLemmas.{Front}
use Rattle.rob_syntax.proofs.indexed.expr.+indexed_expr.Given as goal

-- each call takes a shorter list of symbols, or the same list and a function further down
abbrev pub decreases-closed : goal.decreases-closed
decreases-closed l = 8 * length (seen_line l.symbols.now) + 5

abbrev pub decreases-expr : goal.decreases-expr
decreases-expr l = 8 * length (seen_line l.symbols.now) + 4

abbrev pub decreases-term : goal.decreases-term
decreases-term l = 8 * length (seen_line l.symbols.now) + 3

abbrev pub decreases-factor : goal.decreases-factor
decreases-factor l = 8 * length (seen_line l.symbols.now) + 2

abbrev pub decreases-parts : goal.decreases-parts
decreases-parts l = 8 * length (seen_line l.symbols.now) + 1

abbrev pub decreases-factors : goal.decreases-factors
decreases-factors l = 8 * length (seen_line l.symbols.now)

abbrev pub decreases-summed : goal.decreases-summed
decreases-summed l = 8 * length (seen_line l.symbols.now)

abbrev pub invariant-factors-loop-behind : goal.invariant-factors-loop-behind
invariant-factors-loop-behind l =
    Front spell_factors EndsTerm factor_trees (seen_line l.symbols) (seen_line l.rest) (seen_tree l.fn.first ∷ [])
    (map seen_tree l.list)

abbrev pub decreases-factors-loop-behind : goal.decreases-factors-loop-behind
decreases-factors-loop-behind l = length (seen_line l.rest)

abbrev pub invariant-parts-loop-minus : goal.invariant-parts-loop-minus
invariant-parts-loop-minus l =
    Front spell_terms EndsExpr term_parts (seen_line l.symbols) (seen_line l.rest) (seen_part l.fn.first ∷ [])
    (map seen_part l.list)

abbrev pub decreases-parts-loop-minus : goal.decreases-parts-loop-minus
decreases-parts-loop-minus l = length (seen_line l.rest)
