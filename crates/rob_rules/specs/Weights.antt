-- What the walk over an expression keeps of its degrees: no more than 2 of each, and which products are refused.
use Rattle.std.specs.Prelude.{◌+◌, min, max, nat_lt, not, ◌&&◌, ◌||◌, List, [], Option, Some, None}
use Rattle.std.specs.List.{list_any}
use Rattle.rob_rules.specs.declared.sort.Sort.{Sort}
use Rattle.rob_rules.specs.declared.degree.Weight.{Weight}
use Rattle.rob_syntax.specs.declared.syntax.Statement.{Statement}
use Rattle.rob_syntax.specs.declared.syntax.Statement.TheVariants.{Set, Row, Goal}
use Rattle.rob_rules.specs.Degrees.{Degree, constant, degree, products}
use Rattle.rob_rules.specs.Faults.{has_two_decisions, has_two_uncertain, has_random_recourse}
use Rattle.rob_syntax.specs.Trees.{Tree, tree_of}

-- the degree and the products of an expression, as far as they are kept
abbrev pub weight : Degree → List Degree → Weight
weight d ds = record {
  decision = min d.decision 2;
  uncertain = min d.uncertain 2;
  recourse = d.recourse;
  two_decisions = list_any has_two_decisions ds;
  two_uncertain = list_any has_two_uncertain ds;
  random_recourse = list_any has_random_recourse ds;
}

-- the weight of an expression
abbrev pub weight_of : List (Option Sort) → Tree → Weight
weight_of sorts t = weight (degree sorts t) (products sorts t)

-- the weight of a sum with one part more
abbrev pub joined : Weight → Weight → Weight
joined a b = record {
  decision = max a.decision b.decision;
  uncertain = max a.uncertain b.uncertain;
  recourse = a.recourse || b.recourse;
  two_decisions = a.two_decisions || b.two_decisions;
  two_uncertain = a.two_uncertain || b.two_uncertain;
  random_recourse = a.random_recourse || b.random_recourse;
}

-- the weight of a product with one factor more, which may be its first
abbrev pub multiplied : Option Weight → Weight → Weight
multiplied None b = b
multiplied (Some a) b =
    let decision = min (a.decision + b.decision) 2 in
    let uncertain = min (a.uncertain + b.uncertain) 2 in
    let recourse = a.recourse || b.recourse in
    record {
      decision = decision;
      uncertain = uncertain;
      recourse = recourse;
      two_decisions = (a.two_decisions || b.two_decisions) || nat_lt 1 decision;
      two_uncertain = (a.two_uncertain || b.two_uncertain) || (not recourse && nat_lt 1 uncertain);
      random_recourse = (a.random_recourse || b.random_recourse) || (recourse && nat_lt 1 uncertain);
    }

-- the weight of all expressions of a statement together
abbrev pub statement_weight : List (Option Sort) → Statement → Weight
statement_weight sorts (Set r) = joined (weight_of sorts (tree_of r.left)) (weight_of sorts (tree_of r.right))
statement_weight sorts (Row r) =
    joined (weight_of sorts (tree_of r.relation.left)) (weight_of sorts (tree_of r.relation.right))
statement_weight sorts (Goal g) = weight_of sorts (tree_of g.objective)
statement_weight sorts _ = weight constant []
