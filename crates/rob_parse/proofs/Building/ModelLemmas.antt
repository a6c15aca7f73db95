-- A model that a text reads as is well formed.
use Rattle.std.proofs.Common.{Bool, ◌≡◌, ℕ, ◌<◌, ◌≤◌, true, false, get_or, List, [], ◌∷◌, ◌++◌, length, map, refl, sym, ap, ◌∙◌, subst, arith}
use Rattle.std.specs.Prelude.{◌&&◌, Option, Some, None}
use Rattle.std.specs.List.{list_any, flat_map}
use Rattle.rob_algebra.specs.Fraction.{◌<ℚ◌}
use Rattle.std.proofs.lemmas.Bool.{or_parts}
use Rattle.rob_meaning.specs.Places.{0ℚ, Each}
use Rattle.rob_meaning.specs.RobustModel as model
use Rattle.rob_meaning.specs.RobustModel.{RobustModel, AdaptiveVariable}
use Rattle.rob_meaning.proofs.Scenarios.AloneLemmas.{model_alone}
use Rattle.rob_meaning.proofs.Naming.NamedLemmas.{each_flat}
use Rattle.rob_meaning.specs.WellFormed.{IsModel, IsExpression, IsSetSide, IsSetLine, IsMember}
use Rattle.rob_rules.specs.declared.sort.Sort.{Sort}
use Rattle.rob_rules.specs.declared.sort.Sort.TheVariants as sort
use Rattle.rob_rules.specs.declared.sort.Sort.TheVariants.{Parameter, Decision, Policy, RowName}
use Rattle.rob_rules.specs.declared.fault.Fault.TheVariants.{NoObjective}
use Rattle.rob_rules.specs.declared.leaf.Leaf.TheVariants.{Name, Number}
use Rattle.rob_rules.specs.Leaves.{leaves, bound_leaves, member_leaves, relation_leaves, statement_leaves}
use Rattle.rob_syntax.specs.declared.syntax.Relation.{Relation}
use Rattle.rob_syntax.specs.declared.syntax.Member.{Member}
use Rattle.rob_syntax.specs.declared.syntax.Statement.{Statement}
use Rattle.rob_syntax.specs.declared.syntax.Statement.TheVariants as parsed
use Rattle.rob_rules.specs.Degrees.{sort_at, products}
use Rattle.rob_rules.specs.Faults.{is_of_set, is_unknown, names_decision, is_usable, is_decision, has_fault, in_order, first_fault, expressions}
use Rattle.rob_parse.specs.Modelled.{ReadsModel}
use Rattle.rob_parse.specs.Written.{fraction, expression, member, parameter_number, parameter_at, adaptives, set_lines, rows, goal_in, objective_of, written_of}
use Rattle.rob_rules.specs.Chains.{Chain}
use Rattle.rob_rules.specs.Links.{Keeps}
use Rattle.rob_rules.specs.Scopes.{Earlier, behind, start}
use Rattle.rob_syntax.specs.Trees.{Tree, number, name, sum, product, Summands, no_summands, summand, Operands, no_operands, operand, tree_of}
use Rattle.rob_parse.proofs.Sizes.CountLemmas.{counts}
use Rattle.rob_parse.proofs.Degrees.DegreeLemmas.{EachName, EachSummand, EachOperand, Clean, clean_apart, Stands, inside_and_linear, no_decision}
use Rattle.rob_parse.proofs.Degrees.DeviationLemmas.{deviations_positive}
use Rattle.rob_parse.proofs.Degrees.FitLemmas.{statement_fits}
use Rattle.rob_rules.proofs.Judging.ReadingLemmas.{none_found, true_of_not}
use Rattle.rob_parse.proofs.Names.ChainLemmas.{model_chain}
use Rattle.rob_parse.proofs.Names.SortLemmas.{Names, all_named, none_named, kept_behind}
use Rattle.rob_parse.proofs.Degrees.UsedLemmas.{Free, IsFreeName, left, right, tail, free_tree, free_list, free_members}

module _ {P Q : ℕ → Type 0} (to : (k : ℕ) → P k → Q k) where
  mutual
    pub each_name : (t : Tree) → EachName P t → EachName Q t
    each_name (number n) h = tt
    each_name (name k) h = to k h
    each_name (sum ts) h = each_summand ts h
    each_name (product fs) h = each_operand fs h

    each_summand : (ts : Summands) → EachSummand P ts → EachSummand Q ts
    each_summand no_summands h = tt
    each_summand (summand minus t ts) h = (each_name t h.0, each_summand ts h.1)

    each_operand : (fs : Operands) → EachOperand P fs → EachOperand Q fs
    each_operand no_operands h = tt
    each_operand (operand f fs) h = (each_name f h.0, each_operand fs h.1)

module _ (limit : ℕ) (low : 1 ≤ limit) (m : RobustModel) (f : Earlier)
    (names : (k : ℕ) → Names (length m.parameters) (length m.variables) m.adaptives (sort_at f.sorts k)) where
  -- what a statement says is well formed
  abbrev Good : Statement → Type 0
  Good (parsed.Set r) =
      IsSetSide m (expression f.sorts (tree_of r.left)) × IsSetSide m (expression f.sorts (tree_of r.right))
  Good (parsed.Budget b) = Each (IsMember m) (map (member f.sorts) b.members)
  Good (parsed.Adaptive p) = Each (λ k. k < length m.parameters) (map (parameter_at f.sorts) p.on)
  Good (parsed.Goal g) = IsExpression m (expression f.sorts (tree_of g.objective))
  Good (parsed.Row r) =
      IsExpression m (expression f.sorts (tree_of r.relation.left))
      × IsExpression m (expression f.sorts (tree_of r.relation.right))
  Good _ = Unit {0}

  module _ (e : Earlier) (kept : Keeps e f) where
    pub stand : (k : ℕ) → IsFreeName (is_unknown e.sorts) k → Stands m f.sorts e.sorts k
    stand k known = go (sort_at e.sorts k) refl (true_of_not _ known)
      where
        go : (o : Option Sort) → sort_at e.sorts k ≡ o → is_usable (sort_at e.sorts k) ≡ true
            → Stands m f.sorts e.sorts k
        go (Some x) is usable =
            let same : sort_at f.sorts k ≡ sort_at e.sorts k = kept k x is ∙ sym is in
            (same, usable, subst (Names (length m.parameters) (length m.variables) m.adaptives) same (names k))
        go None is usable = let no : is_usable (sort_at e.sorts k) ≡ false = ap is_usable is in cc

    pub is_parameter : (k : ℕ) → IsFreeName (is_unknown e.sorts) k → IsFreeName (names_decision e.sorts) k
        → parameter_at f.sorts k < length m.parameters
    is_parameter k known other = go (sort_at f.sorts k) (ap is_usable s.0 ∙ s.1) (ap is_decision s.0 ∙ other) (names k)
      where
        s : Stands m f.sorts e.sorts k
        s = stand k known

        go : (o : Option Sort) → is_usable o ≡ true → is_decision o ≡ false
            → Names (length m.parameters) (length m.variables) m.adaptives o → parameter_number o < length m.parameters
        go (Some (Parameter j)) u d n = n
        go (Some (Decision j)) u d n = cc
        go (Some (Policy j b)) u d n = cc
        go (Some RowName) u d n = cc
        go (Some (sort.Set S)) u d n = cc
        go None u d n = cc

    side : (t : Tree) → Free (is_unknown e.sorts) (leaves t) → Clean (products e.sorts t)
        → IsExpression m (expression f.sorts t)
    side t known clean =
        inside_and_linear m f.sorts e.sorts t (each_name stand t (free_tree (is_unknown e.sorts) t known)) clean

    set_side : (t : Tree) → Free (is_unknown e.sorts) (leaves t) → Free (names_decision e.sorts) (leaves t)
        → Clean (products e.sorts t) → IsSetSide m (expression f.sorts t)
    set_side t known other clean = (
      side t known clean,
      no_decision m f.sorts e.sorts t
          (each_name stand t (free_tree (is_unknown e.sorts) t known)) clean
          (free_tree (names_decision e.sorts) t other),
    )

    pub are_parameters : (on : List ℕ) → Each (IsFreeName (is_unknown e.sorts)) on
        → Each (IsFreeName (names_decision e.sorts)) on
        → Each (λ k. k < length m.parameters) (map (parameter_at f.sorts) on)
    are_parameters [] known other = tt
    are_parameters (k ∷ on) known other = (is_parameter k known.0 other.0, are_parameters on known.1 other.1)

    are_members : (ms : List Member) → Each (λ (h : Member). IsFreeName (is_unknown e.sorts) h.name) ms
        → Each (λ (h : Member). IsFreeName (names_decision e.sorts) h.name) ms
        → Each (λ (h : Member). 0ℚ <ℚ fraction h.spread.deviation) ms → Each (IsMember m) (map (member f.sorts) ms)
    are_members [] known other positive = tt
    are_members (h ∷ ms) known other positive =
        ((is_parameter h.name known.0 other.0, positive.0), are_members ms known.1 other.1 positive.1)

    module _ (r : Relation) (known : Free (is_unknown e.sorts) (relation_leaves r))
        (clean : Clean (products e.sorts (tree_of r.left) ++ (products e.sorts (tree_of r.right) ++ []))) where
      of_left : Clean (products e.sorts (tree_of r.left))
      of_left = (clean_apart (products e.sorts (tree_of r.left)) (products e.sorts (tree_of r.right) ++ []) clean).0

      of_right : Clean (products e.sorts (tree_of r.right))
      of_right =
          (clean_apart (products e.sorts (tree_of r.right)) []
          (clean_apart (products e.sorts (tree_of r.left)) (products e.sorts (tree_of r.right) ++ []) clean).1).0

      known_left : Free (is_unknown e.sorts) (leaves (tree_of r.left))
      known_left = left (is_unknown e.sorts) (leaves (tree_of r.left)) (leaves (tree_of r.right)) known

      known_right : Free (is_unknown e.sorts) (leaves (tree_of r.right))
      known_right = right (is_unknown e.sorts) (leaves (tree_of r.left)) (leaves (tree_of r.right)) known

      both_sides : IsExpression m (expression f.sorts (tree_of r.left))
          × IsExpression m (expression f.sorts (tree_of r.right))
      both_sides = (side (tree_of r.left) known_left of_left, side (tree_of r.right) known_right of_right)

      set_sides : Free (names_decision e.sorts) (relation_leaves r) → IsSetSide m (expression f.sorts (tree_of r.left))
          × IsSetSide m (expression f.sorts (tree_of r.right))
      set_sides other =
          let decided = names_decision e.sorts in (
            set_side (tree_of r.left) known_left
                (left decided (leaves (tree_of r.left)) (leaves (tree_of r.right)) other) of_left,
            set_side (tree_of r.right) known_right
                (right decided (leaves (tree_of r.left)) (leaves (tree_of r.right)) other) of_right,
          )

    module _ (now : Earlier) (s : Statement) (none : first_fault limit e now s ≡ None) where
      fault_free : (i : ℕ) → i < 11 → has_fault limit e now s (get_or in_order i NoObjective) ≡ false
      fault_free i inside = none_found (has_fault limit e now s) in_order i NoObjective none inside

      -- no name of a statement is unknown, and where it is of the set, none is a decision
      pub known_names : Free (is_unknown e.sorts) (statement_leaves s)
      known_names = (or_parts (list_any (is_unknown e.sorts) (statement_leaves s)) _ (fault_free 1 (omega arith))).0

      pub other_names : is_of_set s ≡ true → Free (names_decision e.sorts) (statement_leaves s)
      other_names of_set =
          ap (λ (b : Bool). b && list_any (names_decision e.sorts) (statement_leaves s)) (sym of_set)
          ∙ fault_free 7 (omega arith)

      clean_products : Clean (flat_map (products e.sorts) (expressions s))
      clean_products = record {
        decisions = fault_free 4 (omega arith);
        uncertain = fault_free 5 (omega arith);
        recourse = fault_free 6 (omega arith);
      }

    good_statement : (now : Earlier) (s : Statement) → first_fault limit e now s ≡ None → Good s
    good_statement now (parsed.Uncertain d) none = tt
    good_statement now (parsed.Over k) none = tt
    good_statement now (parsed.Var d) none = tt
    good_statement now (parsed.Set r) none =
        let s = parsed.Set r in
        set_sides r (known_names now s none) (clean_products now s none) (other_names now s none refl)
    good_statement now (parsed.Budget b) none =
        let s = parsed.Budget b in
        let names = flat_map member_leaves b.members in
        let known = tail (is_unknown e.sorts) (Number b.limit) names (known_names now s none) in
        let other = tail (names_decision e.sorts) (Number b.limit) names (other_names now s none refl) in
        are_members b.members (free_members (is_unknown e.sorts) b.members known)
        (free_members (names_decision e.sorts) b.members other)
        (deviations_positive limit b.members (fault_free now s none 3 (omega arith))
        (statement_fits limit low e now s none).1)
    good_statement now (parsed.Adaptive p) none =
        let s = parsed.Adaptive p in
        let rest = bound_leaves p.bounds in
        are_parameters p.on (free_list (is_unknown e.sorts) p.on
        (left (is_unknown e.sorts) (map Name p.on) rest (known_names now s none)))
        (free_list (names_decision e.sorts) p.on
        (left (names_decision e.sorts) (map Name p.on) rest (other_names now s none refl)))
    good_statement now (parsed.Goal g) none =
        let s = parsed.Goal g in
        side (tree_of g.objective) (known_names now s none)
        (clean_apart (products e.sorts (tree_of g.objective)) [] (clean_products now s none)).0
    good_statement now (parsed.Row r) none =
        let s = parsed.Row r in
        both_sides r.relation (known_names now s none) (clean_products now s none)

  all_good : (words : List (List ℕ)) (e : Earlier) (list : List Statement) → Chain limit words e list f → Each Good list
  all_good words e [] chain = tt
  all_good words e (s ∷ list) chain = (
    good_statement chain.0.before (kept_behind limit words e s list f chain) e s chain.0.faultless,
    all_good words (behind e s) list chain.1,
  )

  good_set_lines : (s : Statement) → Good s → Each (IsSetLine m) (set_lines f.sorts s)
  good_set_lines (parsed.Set r) good = (good, tt)
  good_set_lines (parsed.Budget b) good = (good, tt)
  good_set_lines (parsed.Uncertain d) good = tt
  good_set_lines (parsed.Over k) good = tt
  good_set_lines (parsed.Var d) good = tt
  good_set_lines (parsed.Adaptive p) good = tt
  good_set_lines (parsed.Goal g) good = tt
  good_set_lines (parsed.Row r) good = tt

  good_lists : (words : List (List ℕ)) (s : Statement) → Good s
      → Each (λ (y : AdaptiveVariable). Each (λ k. k < length m.parameters) y.on) (adaptives words f.sorts s)
  good_lists words (parsed.Adaptive p) good = (good, tt)
  good_lists words (parsed.Set r) good = tt
  good_lists words (parsed.Budget b) good = tt
  good_lists words (parsed.Uncertain d) good = tt
  good_lists words (parsed.Over k) good = tt
  good_lists words (parsed.Var d) good = tt
  good_lists words (parsed.Goal g) good = tt
  good_lists words (parsed.Row r) good = tt

  good_rows : (words : List (List ℕ)) (s : Statement) → Good s
      → Each (λ (r : model.Row). IsExpression m r.left × IsExpression m r.right) (rows words f.sorts s)
  good_rows words (parsed.Row r) good = (good, tt)
  good_rows words (parsed.Set r) good = tt
  good_rows words (parsed.Budget b) good = tt
  good_rows words (parsed.Uncertain d) good = tt
  good_rows words (parsed.Over k) good = tt
  good_rows words (parsed.Var d) good = tt
  good_rows words (parsed.Adaptive p) good = tt
  good_rows words (parsed.Goal g) good = tt

  good_goal : (list : List Statement) → Each Good list → IsExpression m (objective_of f.sorts (goal_in list))
  good_goal [] good = (tt, tt)
  good_goal (parsed.Goal g ∷ list) good = good.0
  good_goal (parsed.Set r ∷ list) good = good_goal list good.1
  good_goal (parsed.Budget b ∷ list) good = good_goal list good.1
  good_goal (parsed.Uncertain d ∷ list) good = good_goal list good.1
  good_goal (parsed.Over k ∷ list) good = good_goal list good.1
  good_goal (parsed.Var d ∷ list) good = good_goal list good.1
  good_goal (parsed.Adaptive p ∷ list) good = good_goal list good.1
  good_goal (parsed.Row r ∷ list) good = good_goal list good.1

  pub model_parts : (words : List (List ℕ)) (list : List Statement) (e : Earlier) → Chain limit words e list f
      → m ≡ written_of words f.sorts list → IsModel m
  model_parts words list e chain is =
      let good = all_good words e list chain in
      model_alone m (ap (λ (x : RobustModel). x.sets) is)
      (λ i. ap (λ (x : RobustModel). get_or x.line_sets i 0) is)
      (λ i. ap (λ (x : RobustModel). get_or x.row_sets i 0) is) (ap (λ (x : RobustModel). x.objective_set) is)
      (subst (Each (IsSetLine m)) (ap (λ (x : RobustModel). x.set_lines) (sym is))
      (each_flat (IsSetLine m) Good (set_lines f.sorts) good_set_lines list good))
      (subst (Each (λ (y : AdaptiveVariable). Each (λ k. k < length m.parameters) y.on))
      (ap (λ (x : RobustModel). x.adaptives) (sym is))
      (each_flat _ Good (adaptives words f.sorts) (good_lists words) list good))
      (subst (IsExpression m) (ap (λ (x : RobustModel). x.objective) (sym is)) (good_goal list good))
      (subst (Each (λ (r : model.Row). IsExpression m r.left × IsExpression m r.right))
      (ap (λ (x : RobustModel). x.rows) (sym is)) (each_flat _ Good (rows words f.sorts) (good_rows words) list good))

-- what the statements of a text write
abbrev pub written_by : (limit : ℕ) (text : List ℕ) (m : RobustModel) → ReadsModel limit text m → RobustModel
written_by limit text m read = written_of read.words read.known.sorts read.list

-- what the names of a text stand for names what is written
pub model_names : (limit : ℕ) (text : List ℕ) (m : RobustModel) (read : ReadsModel limit text m) (k : ℕ)
    → Names (length (written_by limit text m read).parameters) (length (written_by limit text m read).variables)
    (written_by limit text m read).adaptives (sort_at read.known.sorts k)
model_names limit text m read k =
    let begin = start (length read.words) in
    let chain = model_chain limit text m read in
    let w = written_by limit text m read in
    let c = counts read.words read.known.sorts limit begin read.list read.known chain in
    let all =
    all_named read.words read.known.sorts limit begin read.list read.known [] chain (none_named (length read.words)) in
    let p : read.known.sizes.parameters ≡ length w.parameters = omega (arith, c.parameters_are) in
    let v : read.known.sizes.variables ≡ length w.variables = omega (arith, c.variables_are) in
    subst (λ (n : ℕ). Names n (length w.variables) w.adaptives (sort_at read.known.sorts k)) p
    (subst (λ (n : ℕ). Names read.known.sizes.parameters n w.adaptives (sort_at read.known.sorts k)) v (all.1 k))

-- what a text writes is a well formed model without sets
pub well_formed_written : (limit : ℕ) (text : List ℕ) (m : RobustModel) → 1 ≤ limit → (read : ReadsModel limit text m)
    → IsModel (written_by limit text m read)
well_formed_written limit text m low read =
    model_parts limit low (written_by limit text m read) read.known (model_names limit text m read) read.words read.list
    (start (length read.words))
    (model_chain limit text m read) refl
