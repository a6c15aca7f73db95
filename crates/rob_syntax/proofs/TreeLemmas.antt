-- The parser's trees, one level at a time.
use Rattle.std.proofs.Common.{◌≡◌, ℕ, List, map, rules}
use Rattle.rob_syntax.specs.declared.syntax.Numeral.{Numeral}
use Rattle.rob_syntax.specs.declared.syntax.Summand.{Summand}
use Rattle.rob_syntax.specs.declared.syntax.Syntax.{Syntax, the_lemmas}
use Rattle.rob_syntax.specs.declared.syntax.Syntax.TheVariants as syntax
use Rattle.rob_syntax.specs.Trees.{number, name, sum, product, tree_of, part_of, summands_of, operands_of}

pub number_is : (n : Numeral) → tree_of (syntax.Number n) ≡ number n
number_is n = search (rules, the_lemmas)

pub name_is : (k : ℕ) → tree_of (syntax.Name k) ≡ name k
name_is k = search (rules, the_lemmas)

pub sum_is : (ps : List Summand) → tree_of (syntax.Sum ps) ≡ sum (summands_of (map part_of ps))
sum_is ps = search (rules, the_lemmas)

pub product_is : (fs : List Syntax) → tree_of (syntax.Product fs) ≡ product (operands_of (map tree_of fs))
product_is fs = search (rules, the_lemmas)
