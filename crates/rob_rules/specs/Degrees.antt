-- What names stand for, and the degrees of expressions in the decisions and in the parameters, judged on the tree as it
-- is written. Fixed recourse (an adaptive variable is multiplied by no parameter): Ben-Tal, El Ghaoui, Nemirovski,
-- Robust Optimization (2009), chapter 14.
use Rattle.std.specs.Prelude.{ℕ, ◌+◌, max, Bool, true, false, ◌||◌, List, [], ◌∷◌, ◌++◌, Option, Some, None, get_or}
use Rattle.rob_rules.specs.declared.sort.Sort.{Sort}
use Rattle.rob_rules.specs.declared.sort.Sort.TheVariants.{Parameter, Decision, Policy, RowName, Set}
use Rattle.rob_syntax.specs.Trees.{Tree, number, name, sum, product, Summands, no_summands, summand, Operands, no_operands, operand}

-- what the word of this number stands for, if it is declared
abbrev pub sort_at : List (Option Sort) → ℕ → Option Sort
sort_at sorts k = get_or sorts k None

-- the degrees, and whether an adaptive variable that depends on a parameter is inside
pub record Degree : Type 0 where
  pub decision : ℕ
  pub uncertain : ℕ
  pub recourse : Bool

-- the degrees of a number
abbrev pub constant : Degree
constant = record { decision = 0; uncertain = 0; recourse = false }

-- what a name counts
abbrev pub degree_of_sort : Option Sort → Degree
degree_of_sort (Some (Parameter k)) = record { decision = 0; uncertain = 1; recourse = false }
degree_of_sort (Some (Decision k)) = record { decision = 1; uncertain = 0; recourse = false }
degree_of_sort (Some (Policy k false)) = record { decision = 1; uncertain = 0; recourse = false }
degree_of_sort (Some (Policy k true)) = record { decision = 1; uncertain = 1; recourse = true }
degree_of_sort (Some RowName) = constant
degree_of_sort (Some (Set S)) = constant
degree_of_sort None = constant

-- a product has the sum of each degree
abbrev pub times : Degree → Degree → Degree
times a b = record {
  decision = a.decision + b.decision;
  uncertain = a.uncertain + b.uncertain;
  recourse = a.recourse || b.recourse;
}

-- a sum has the greatest of each degree
abbrev pub plus : Degree → Degree → Degree
plus a b = record {
  decision = max a.decision b.decision;
  uncertain = max a.uncertain b.uncertain;
  recourse = a.recourse || b.recourse;
}

module _ (sorts : List (Option Sort)) where
  abbrev mutual
    -- the degree of an expression
    pub degree : Tree → Degree
    degree (number n) = constant
    degree (name k) = degree_of_sort (sort_at sorts k)
    degree (sum ts) = sum_degree ts
    degree (product fs) = product_degree fs

    pub sum_degree : Summands → Degree
    sum_degree no_summands = constant
    sum_degree (summand minus t ts) = plus (degree t) (sum_degree ts)

    pub product_degree : Operands → Degree
    product_degree no_operands = constant
    product_degree (operand f fs) = times (degree f) (product_degree fs)

  abbrev mutual
    -- the degrees of all products inside an expression: each prefix of two or more factors of a product is one
    pub products : Tree → List Degree
    products (number n) = []
    products (name k) = []
    products (sum ts) = sum_products ts
    products (product fs) = first_products fs

    pub sum_products : Summands → List Degree
    sum_products no_summands = []
    sum_products (summand minus t ts) = products t ++ sum_products ts

    pub first_products : Operands → List Degree
    first_products no_operands = []
    first_products (operand f fs) = products f ++ more_products (degree f) fs

    -- those of the prefixes that go on one of this degree, and those inside the further factors
    pub more_products : Degree → Operands → List Degree
    more_products so_far no_operands = []
    more_products so_far (operand f fs) =
        times so_far (degree f) ∷ (products f ++ more_products (times so_far (degree f)) fs)
