-- The code's trees as they are seen, one level at a time; lists of trees as the parts of a tree.
use Rattle.std.proofs.Common.{◌≡◌, List, map, rules, refl, ap}
use Rattle.std.specs.declared.boxed.Box.{Box}
use Rattle.std.specs.declared.alloc.Global.{Global}
use Rattle.rob_index.specs.Statements as stated
use Rattle.rob_index.specs.Grammar.{Factors, no_factors, times, Terms, no_terms, signed, tree_factor, tree_factors, tree_term, tree_terms}
use Rattle.rob_syntax.specs.declared.syntax.Numeral.{Numeral}
use Rattle.rob_syntax.specs.declared.syntax.Ref.{Ref}
use Rattle.rob_syntax.specs.declared.syntax.Range.{Range}
use Rattle.rob_syntax.specs.declared.syntax.Part.{Part, fold_out-Part}
use Rattle.rob_syntax.specs.declared.syntax.Tree.{Tree, the_lemmas}
use Rattle.rob_syntax.specs.declared.syntax.Tree.TheVariants as tree
use Rattle.rob_syntax.specs.Seen.{seen_numeral, seen_ref, seen_range, seen_tree, seen_part, SeenPart, tree_step, part_step, parts_of, factors_of}
use Rattle.rob_syntax.specs.Parts.{factor_trees, term_parts}

pub number_is : (n : Numeral) → seen_tree (tree.Number n) ≡ stated.number (seen_numeral n)
number_is n = search (rules, the_lemmas)

pub ref_is : (r : Ref) → seen_tree (tree.Ref r) ≡ stated.ref (seen_ref r)
ref_is r = search (rules, the_lemmas)

pub sum_is : (ps : List Part) → seen_tree (tree.Sum ps) ≡ stated.sum (parts_of (map seen_part ps))
sum_is ps = search (rules, the_lemmas)

pub product_is : (fs : List Tree) → seen_tree (tree.Product fs) ≡ stated.product (factors_of (map seen_tree fs))
product_is fs = search (rules, the_lemmas)

pub ranged_is : (r : Range) (b : Box Tree Global)
    → seen_tree (tree.Ranged r b) ≡ stated.ranged (seen_range r) (seen_tree b.value)
ranged_is r b = search (rules, the_lemmas)

pub part_is : (p : Part) → seen_part p ≡ record { minus = p.minus; inner = seen_tree p.inner }
part_is p = fold_out-Part stated.Tree SeenPart tree_step part_step p

-- ---- lists of trees
pub factors_are : (fs : Factors) → factors_of (factor_trees fs) ≡ tree_factors fs
factors_are no_factors = refl
factors_are (times f fs) = ap (λ (l : stated.TreeFactors). stated.factor (tree_factor f) l) (factors_are fs)

pub parts_are : (ts : Terms) → parts_of (term_parts ts) ≡ tree_terms ts
parts_are no_terms = refl
parts_are (signed m t ts) = ap (λ (l : stated.TreeParts). stated.part m (tree_term t) l) (parts_are ts)
