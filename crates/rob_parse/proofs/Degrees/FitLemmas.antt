-- In statements without a fault all numbers fit, and a goal is there.
use Rattle.std.proofs.Common.{◌≡◌, ℕ, ◌<◌, ◌≤◌, true, false, List, [], ◌∷◌, ◌++◌, map, zero, suc, refl, ap, arith}
use Rattle.std.specs.Prelude.{nat_lt, ◌==◌, Option, Some, None, IsSome}
use Rattle.std.specs.List.{list_any, flat_map}
use Rattle.std.proofs.lemmas.Bool.Decides.{nat_tests}
use Rattle.rob_meaning.specs.Places.{Each}
use Rattle.rob_rules.specs.declared.fault.Fault.TheVariants.{NoObjective}
use Rattle.rob_rules.specs.declared.leaf.Leaf.{Leaf}
use Rattle.rob_rules.specs.declared.leaf.Leaf.TheVariants.{Name, Number}
use Rattle.rob_syntax.specs.declared.syntax.Numeral.{Numeral}
use Rattle.rob_syntax.specs.declared.syntax.Bounds.{Bounds}
use Rattle.rob_syntax.specs.declared.syntax.Bounds.TheVariants.{Between, AtLeast, AtMost}
use Rattle.rob_syntax.specs.declared.syntax.Member.{Member}
use Rattle.rob_syntax.specs.declared.syntax.Relation.{Relation}
use Rattle.rob_syntax.specs.declared.syntax.Statement.TheVariants as parsed
use Rattle.rob_syntax.specs.declared.syntax.Statement.{Statement}
use Rattle.rob_parse.specs.Building.{FitsNumber, FitsBounds, FitsTree, FitsSummands, FitsOperands, FitsMember, FitsRelation, FitsStatement}
use Rattle.rob_rules.specs.Faults.{is_over, has_divisor_over, has_zero_divisor, is_zero_divisor, has_fault, in_order, first_fault}
use Rattle.rob_rules.specs.Leaves.{leaves, part_leaves, factor_leaves, bound_leaves, member_leaves, relation_leaves, statement_leaves}
use Rattle.rob_parse.specs.Written.{goal_in}
use Rattle.rob_rules.specs.Scopes.{Earlier, behind}
use Rattle.rob_rules.specs.Chains.{Chain}
use Rattle.rob_syntax.specs.Trees.{Tree, number, name, sum, product, Summands, no_summands, summand, Operands, no_operands, operand, tree_of}
use Rattle.rob_rules.proofs.Judging.ReadingLemmas.{none_found}
use Rattle.std.proofs.lemmas.Bool.{or_parts}
use Rattle.rob_index.proofs.Names.NamingLemmas.{none_both}

-- no number has digits over the limit, and none a divisor of 0
record Fine (limit : ℕ) (ls : List Leaf) : Type 0 where
  within : list_any (is_over limit) ls ≡ false
  divisors : list_any has_zero_divisor ls ≡ false

module _ (limit : ℕ) (low : 1 ≤ limit) where
  apart : (xs ys : List Leaf) → Fine limit (xs ++ ys) → Fine limit xs × Fine limit ys
  apart xs ys fine =
      let w = none_both (is_over limit) xs ys fine.within in
      let d = none_both has_zero_divisor xs ys fine.divisors in
      (record { within = w.0; divisors = d.0 }, record { within = w.1; divisors = d.1 })

  first : (x : Leaf) (xs : List Leaf) → Fine limit (x ∷ xs) → Fine limit (x ∷ [])
  first x xs fine = (apart (x ∷ []) xs fine).0

  rest : (x : Leaf) (xs : List Leaf) → Fine limit (x ∷ xs) → Fine limit xs
  rest x xs fine = (apart (x ∷ []) xs fine).1

  not_over : (n : ℕ) → nat_lt limit n ≡ false → n ≤ limit
  not_over n h = grind (arith, nat_tests)

  not_zero : (n : ℕ) → (n == 0) ≡ false → 0 < n
  not_zero zero h = cc
  not_zero (suc n) h = omega arith

  number_fits : (a : ℕ) (d : Option ℕ) → nat_lt limit a ≡ false → has_divisor_over limit d ≡ false
      → is_zero_divisor d ≡ false → FitsNumber limit (record { numerator = a; divisor = d })
  number_fits a None low_enough divisor some =
      record { numerator = not_over a low_enough; divisor = low; positive = omega arith }
  number_fits a (Some d) low_enough divisor some =
      record { numerator = not_over a low_enough; divisor = not_over d divisor; positive = not_zero d some }

  fits_number : (n : Numeral) → Fine limit (Number n ∷ []) → FitsNumber limit n
  fits_number n fine =
      let w =
      or_parts (nat_lt limit n.numerator) (has_divisor_over limit n.divisor)
      (or_parts (is_over limit (Number n)) false fine.within).0 in
      number_fits n.numerator n.divisor w.0 w.1 (or_parts (is_zero_divisor n.divisor) false fine.divisors).0

  fits_bounds : (b : Option Bounds) → Fine limit (bound_leaves b) → FitsBounds limit b
  fits_bounds None fine = tt
  fits_bounds (Some (Between both)) fine =
      (fits_number both.lower.number (first _ _ fine), fits_number both.upper.number (rest _ _ fine))
  fits_bounds (Some (AtLeast a)) fine = fits_number a.number fine
  fits_bounds (Some (AtMost b)) fine = fits_number b.number fine

  fits_members : (ms : List Member) → Fine limit (flat_map member_leaves ms) → Each (FitsMember limit) ms
  fits_members [] fine = tt
  fits_members (m ∷ ms) fine =
      let both = apart (member_leaves m) (flat_map member_leaves ms) fine in
      let numbers = rest (Name m.name) (Number m.spread.centre.number ∷ Number m.spread.deviation ∷ []) both.0 in (
        (fits_number m.spread.centre.number (first _ _ numbers), fits_number m.spread.deviation (rest _ _ numbers)),
        fits_members ms both.1,
      )

  mutual
    fits_tree : (t : Tree) → Fine limit (leaves t) → FitsTree limit t
    fits_tree (number n) fine = fits_number n fine
    fits_tree (name k) fine = tt
    fits_tree (sum ts) fine = fits_parts ts fine
    fits_tree (product fs) fine = fits_factors fs fine

    fits_parts : (ts : Summands) → Fine limit (part_leaves ts) → FitsSummands limit ts
    fits_parts no_summands fine = tt
    fits_parts (summand minus t ts) fine =
        let both = apart (leaves t) (part_leaves ts) fine in
        (fits_tree t both.0, fits_parts ts both.1)

    fits_factors : (fs : Operands) → Fine limit (factor_leaves fs) → FitsOperands limit fs
    fits_factors no_operands fine = tt
    fits_factors (operand f fs) fine =
        let both = apart (leaves f) (factor_leaves fs) fine in
        (fits_tree f both.0, fits_factors fs both.1)

  fits_relation : (r : Relation) → Fine limit (relation_leaves r) → FitsRelation limit r
  fits_relation r fine =
      let both = apart (leaves (tree_of r.left)) (leaves (tree_of r.right)) fine in
      (fits_tree (tree_of r.left) both.0, fits_tree (tree_of r.right) both.1)

  fits_statement : (s : Statement) → Fine limit (statement_leaves s) → FitsStatement limit s
  fits_statement (parsed.Uncertain d) fine = fits_bounds d.bounds fine
  fits_statement (parsed.Over k) fine = tt
  fits_statement (parsed.Set r) fine = fits_relation r fine
  fits_statement (parsed.Budget b) fine = (
    fits_number b.limit (first _ _ fine),
    fits_members b.members
        (rest (Number b.limit) (flat_map member_leaves b.members) fine),
  )
  fits_statement (parsed.Var d) fine = fits_bounds d.bounds fine
  fits_statement (parsed.Adaptive p) fine = fits_bounds p.bounds (apart (map Name p.on) (bound_leaves p.bounds) fine).1
  fits_statement (parsed.Goal g) fine = fits_tree (tree_of g.objective) fine
  fits_statement (parsed.Row r) fine = fits_relation r.relation fine

  pub statement_fits : (before now : Earlier) (s : Statement) → first_fault limit before now s ≡ None
      → FitsStatement limit s
  statement_fits before now s clean =
      fits_statement s (record {
        within = none_found (has_fault limit before now s) in_order 2 NoObjective clean (omega arith);
        divisors = none_found (has_fault limit before now s) in_order 10 NoObjective clean (omega arith);
      })

  -- all numbers of the statements of a text fit
  pub all_fit : (words : List (List ℕ)) (e : Earlier) (list : List Statement) (f : Earlier) → Chain limit words e list f
      → Each (FitsStatement limit) list
  all_fit words e [] f chain = tt
  all_fit words e (s ∷ list) f chain =
      (statement_fits chain.0.before e s chain.0.faultless, all_fit words (behind e s) list f chain.1)

-- a text with a goal has it among its statements
pub goal_there : (limit : ℕ) (words : List (List ℕ)) (e : Earlier) (list : List Statement) (f : Earlier)
    → Chain limit words e list f → f.goal ≡ true → e.goal ≡ false → IsSome (goal_in list)
goal_there limit words e [] f chain there none =
    let same : e.goal ≡ f.goal = ap (λ (x : Earlier). x.goal) chain in
    cc
goal_there limit words e (parsed.Goal g ∷ list) f chain there none = refl
goal_there limit words e (parsed.Uncertain d ∷ list) f chain there none =
    goal_there limit words (behind e (parsed.Uncertain d)) list f chain.1 there none
goal_there limit words e (parsed.Set r ∷ list) f chain there none =
    goal_there limit words (behind e (parsed.Set r)) list f chain.1 there none
goal_there limit words e (parsed.Over k ∷ list) f chain there none =
    goal_there limit words (behind e (parsed.Over k)) list f chain.1 there none
goal_there limit words e (parsed.Budget b ∷ list) f chain there none =
    goal_there limit words (behind e (parsed.Budget b)) list f chain.1 there none
goal_there limit words e (parsed.Var d ∷ list) f chain there none =
    goal_there limit words (behind e (parsed.Var d)) list f chain.1 there none
goal_there limit words e (parsed.Adaptive p ∷ list) f chain there none =
    goal_there limit words (behind e (parsed.Adaptive p)) list f chain.1 there none
goal_there limit words e (parsed.Row r ∷ list) f chain there none =
    goal_there limit words (behind e (parsed.Row r)) list f chain.1 there none
