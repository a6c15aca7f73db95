-- Faults are judged on what names stand for, and not on how long the list of that is.
use Rattle.std.proofs.Common.{◌≡◌, ℕ, Bool, List, ◌∷◌, ◌++◌, Option, Some, None, refl, ap, ◌∙◌}
use Rattle.std.specs.Prelude.{◌&&◌, ◌||◌, not, is_some}
use Rattle.std.specs.List.{list_any, flat_map}
use Rattle.rob_syntax.specs.declared.syntax.Statement.{Statement}
use Rattle.rob_syntax.specs.Trees.{Tree, number, name, sum, product, Summands, no_summands, summand, Operands, no_operands, operand}
use Rattle.rob_rules.specs.declared.fault.Fault.{Fault}
use Rattle.rob_rules.specs.declared.fault.Fault.TheVariants.{NameTwice, NameUnknown, NumberTooLong, DeviationNotPositive, TwoDecisions, TwoUncertain, RandomRecourse, DecisionInSet, NoObjective, ObjectiveTwice, Limit, ZeroDivisor}
use Rattle.rob_rules.specs.declared.leaf.Leaf.{Leaf}
use Rattle.rob_rules.specs.declared.leaf.Leaf.TheVariants as leaf
use Rattle.rob_rules.specs.declared.sort.Sort.{Sort}
use Rattle.rob_rules.specs.Degrees.{Degree, sort_at, degree_of_sort, plus, times, degree, sum_degree, product_degree, products, sum_products, first_products, more_products}
use Rattle.rob_rules.specs.Faults.{expressions, is_usable, is_decision, is_set, is_over_none, is_unknown, names_decision, is_declared, is_listing, is_of_set, has_twice, over_of, has_two_decisions, has_two_uncertain, has_random_recourse, has_fault}
use Rattle.rob_rules.specs.Leaves.{statement_leaves}
use Rattle.rob_rules.specs.Scopes.{Earlier, declared_by, is_goal}
use Rattle.rob_rules.specs.Sizes.{counted, is_within}

-- two lists by which each name stands for the same
module _ (a b : List (Option Sort)) (same : (k : ℕ) → sort_at a k ≡ sort_at b k) where
  mutual
    degree_same : (t : Tree) → degree a t ≡ degree b t
    degree_same (number n) = refl
    degree_same (name k) = ap degree_of_sort (same k)
    degree_same (sum ts) = sum_same ts
    degree_same (product fs) = product_same fs

    sum_same : (ts : Summands) → sum_degree a ts ≡ sum_degree b ts
    sum_same no_summands = refl
    sum_same (summand m t ts) = let e = degree_same t in let f = sum_same ts in (λ i. plus (e i) (f i))

    product_same : (fs : Operands) → product_degree a fs ≡ product_degree b fs
    product_same no_operands = refl
    product_same (operand f fs) = let e = degree_same f in let g = product_same fs in (λ i. times (e i) (g i))

  mutual
    products_same : (t : Tree) → products a t ≡ products b t
    products_same (number n) = refl
    products_same (name k) = refl
    products_same (sum ts) = sums_same ts
    products_same (product fs) = first_same fs

    sums_same : (ts : Summands) → sum_products a ts ≡ sum_products b ts
    sums_same no_summands = refl
    sums_same (summand m t ts) = let e = products_same t in let f = sums_same ts in (λ i. e i ++ f i)

    first_same : (fs : Operands) → first_products a fs ≡ first_products b fs
    first_same no_operands = refl
    first_same (operand f fs) =
        let e = products_same f in
        let d = degree_same f in
        let g = more_same (degree a f) fs in
        (λ i. e i ++ more_products a (degree a f) fs) ∙ (λ i. products b f ++ g i)
        ∙ (λ i. products b f ++ more_products b (d i) fs)

    more_same : (d : Degree) (fs : Operands) → more_products a d fs ≡ more_products b d fs
    more_same d no_operands = refl
    more_same d (operand f fs) =
        let e = degree_same f in
        let p = products_same f in
        let g = more_same (times d (degree a f)) fs in
        (λ i. times d (degree a f) ∷ (p i ++ g i))
        ∙ (λ i. times d (e i) ∷ (products b f ++ more_products b (times d (e i)) fs))

  unknown_same : (l : Leaf) → is_unknown a l ≡ is_unknown b l
  unknown_same (leaf.Name k) = ap (λ (o : Option Sort). not (is_usable o)) (same k)
  unknown_same (leaf.Number n) = refl

  decision_same : (l : Leaf) → names_decision a l ≡ names_decision b l
  decision_same (leaf.Name k) = ap is_decision (same k)
  decision_same (leaf.Number n) = refl

  over_same : (o : Option ℕ) → is_over_none a o ≡ is_over_none b o
  over_same None = refl
  over_same (Some k) = ap (λ (o : Option Sort). not (is_set o)) (same k)

  declared_same : (d : Option (ℕ × Sort)) → is_declared a d ≡ is_declared b d
  declared_same None = refl
  declared_same (Some d) = ap (λ (o : Option Sort). is_some o) (same d.0)

  some_same : (test : Degree → Bool) (s : Statement)
      → list_any test (flat_map (products a) (expressions s)) ≡ list_any test (flat_map (products b) (expressions s))
  some_same test s = λ i. list_any test (flat_map (λ (t : Tree). products_same t i) (expressions s))

-- faults where each name stands for the same
module _ (limit : ℕ) (before before' now now' : Earlier)
    (old : (k : ℕ) → sort_at before.sorts k ≡ sort_at before'.sorts k)
    (new : (k : ℕ) → sort_at now.sorts k ≡ sort_at now'.sorts k) (sizes : now.sizes ≡ now'.sizes)
    (goal : now.goal ≡ now'.goal) (s : Statement) where
  product_fault : (test : Degree → Bool) → list_any test (flat_map (products before.sorts) (expressions s))
      ≡ list_any test (flat_map (products before'.sorts) (expressions s))
  product_fault test = some_same before.sorts before'.sorts old test s

  pub fault_same : (f : Fault) → has_fault limit before now s f ≡ has_fault limit before' now' s f
  fault_same NameTwice =
      let rest = is_listing s && has_twice (statement_leaves s) in
      (λ i. is_declared now.sorts (declared_by (sizes i) s) || rest)
      ∙ ap (λ (x : Bool). x || rest) (declared_same now.sorts now'.sorts new (declared_by now'.sizes s))
  fault_same NameUnknown =
      let u = unknown_same before.sorts before'.sorts old in
      let o = over_same before.sorts before'.sorts old (over_of s) in
      λ i. list_any (λ (l : Leaf). u l i) (statement_leaves s) || o i
  fault_same NumberTooLong = refl
  fault_same DeviationNotPositive = refl
  fault_same TwoDecisions = product_fault has_two_decisions
  fault_same TwoUncertain = product_fault has_two_uncertain
  fault_same RandomRecourse = product_fault has_random_recourse
  fault_same DecisionInSet =
      let d = decision_same before.sorts before'.sorts old in
      λ i. is_of_set s && list_any (λ (l : Leaf). d l i) (statement_leaves s)
  fault_same ObjectiveTwice = λ i. is_goal s && goal i
  fault_same Limit = λ i. not (is_within (counted (sizes i) s))
  fault_same ZeroDivisor = refl
  fault_same NoObjective = refl
