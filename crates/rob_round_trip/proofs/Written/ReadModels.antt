-- A model that a text reads as is readable.
use Rattle.std.proofs.Common.{◌≡◌, ◌≢◌, ℕ, ◌<◌, ◌≤◌, true, false, List, [], ◌∷◌, length, map, refl, sym, ap, ◌∙◌, subst, arith}
use Rattle.std.proofs.lemmas.List.{length-map}
use Rattle.std.specs.Prelude.{None, IsSome}
use Rattle.std.specs.List.{flat_map}
use Rattle.rob_meaning.proofs.Naming.NamedLemmas.{each_flat}
use Rattle.rob_meaning.specs.Places.{Each}
use Rattle.rob_meaning.specs.RobustModel as model
use Rattle.rob_meaning.specs.RobustModel.{RobustModel}
use Rattle.rob_rules.specs.Leaves.{bound_leaves, leaves, member_leaves, relation_leaves, statement_leaves}
use Rattle.rob_rules.specs.declared.leaf.Leaf.TheVariants.{Name, Number}
use Rattle.rob_syntax.specs.declared.syntax.Member.{Member}
use Rattle.rob_syntax.specs.declared.syntax.Numeral.{Numeral}
use Rattle.rob_syntax.specs.declared.syntax.Relation.{Relation}
use Rattle.rob_syntax.specs.declared.syntax.Statement.{Statement}
use Rattle.rob_syntax.specs.declared.syntax.Statement.TheVariants as parsed
use Rattle.rob_syntax.specs.declared.syntax.Syntax.{Syntax}
use Rattle.rob_parse.specs.Building.{FitsNumber, FitsTree, FitsMember, FitsStatement}
use Rattle.rob_write.specs.WrittenModel.{written_model}
use Rattle.rob_write.specs.ExpressionWords.{Naming, naming_of}
use Rattle.rob_rules.specs.Degrees.{sort_at}
use Rattle.rob_rules.specs.Faults.{is_of_set, is_unknown, names_decision, first_fault}
use Rattle.rob_parse.specs.Modelled.{ReadsModel}
use Rattle.rob_parse.specs.Written.{fraction, expression, member, parameter_at, lower_bound, upper_bound, parameters, variables, adaptives, set_lines, rows, goal_in, objective_of, written_of}
use Rattle.rob_round_trip.specs.Readable.{IsBound, IsReadable, IsReadableMember, IsReadableSetLine, IsReadableModel, HasReadableParts}
use Rattle.rob_rules.specs.Chains.{Chain, IsFormed}
use Rattle.rob_rules.specs.Links.{Keeps}
use Rattle.rob_rules.specs.RealTrees.{IsReal}
use Rattle.rob_rules.specs.Scopes.{Earlier, behind, start}
use Rattle.rob_syntax.specs.Trees.{tree_of}
use Rattle.rob_parse.proofs.Degrees.FitLemmas.{statement_fits, goal_there}
use Rattle.rob_parse.proofs.Building.ModelLemmas.{each_name, stand, is_parameter, are_parameters, known_names, other_names, model_names, written_by}
use Rattle.rob_round_trip.proofs.Written.PlacedModels.{is_placed, is_written}
use Rattle.rob_round_trip.proofs.Written.ReadableLemmas.{plain_number, signed_number, lower_fits, upper_fits, readable_tree}
use Rattle.rob_parse.proofs.Names.ChainLemmas.{model_chain}
use Rattle.rob_parse.proofs.Names.SortLemmas.{Names, kept_behind}
use Rattle.rob_parse.proofs.Degrees.UsedLemmas.{Free, IsFreeName, left, right, tail, free_tree, free_list, free_members}

module _ (limit : ℕ) (low : 1 ≤ limit) (m : RobustModel) (names : Naming)
    (ps : length names.parameters ≡ length m.parameters) (vs : length names.variables ≡ length m.variables)
    (ys : length names.adaptives ≡ length m.adaptives) (f : Earlier)
    (there : (k : ℕ) → Names (length m.parameters) (length m.variables) m.adaptives (sort_at f.sorts k)) where
  abbrev R : Syntax → Type 0
  R t = IsReadable limit names (expression f.sorts (tree_of t))

  -- what a statement says is readable
  abbrev pub Good : Statement → Type 0
  Good (parsed.Uncertain d) = IsBound limit (lower_bound d.bounds) × IsBound limit (upper_bound d.bounds)
  Good (parsed.Over k) = Unit {0}
  Good (parsed.Var d) = IsBound limit (lower_bound d.bounds) × IsBound limit (upper_bound d.bounds)
  Good (parsed.Set r) = R r.left × R r.right
  Good (parsed.Budget b) =
      IsReadableSetLine limit names (model.budget (fraction b.limit) (map (member f.sorts) b.members))
  Good (parsed.Adaptive p) =
      Each (λ k. k < length names.parameters) (map (parameter_at f.sorts) p.on)
      × (IsBound limit (lower_bound p.bounds) × IsBound limit (upper_bound p.bounds))
  Good (parsed.Goal g) = R g.objective
  Good (parsed.Row r) = R r.relation.left × R r.relation.right

  named_too : (ks : List ℕ) → Each (λ k. k < length m.parameters) ks → Each (λ k. k < length names.parameters) ks
  named_too [] h = tt
  named_too (k ∷ ks) h = (omega (arith, h.0, ps), named_too ks h.1)

  module _ (e : Earlier) (kept : Keeps e f) where
    side : (t : Syntax) → IsReal (tree_of t) → Free (is_unknown e.sorts) (leaves (tree_of t))
        → FitsTree limit (tree_of t)
        → R t
    side t real known fits =
        readable_tree limit m names ps vs ys f.sorts e.sorts (tree_of t) fits real
        (each_name (stand limit low m f there e kept) (tree_of t) (free_tree (is_unknown e.sorts) (tree_of t) known))

    both_sides : (r : Relation) → IsReal (tree_of r.left) → IsReal (tree_of r.right)
        → Free (is_unknown e.sorts) (relation_leaves r)
        → FitsTree limit (tree_of r.left) → FitsTree limit (tree_of r.right) → R r.left × R r.right
    both_sides r real real' known a b =
        let test = is_unknown e.sorts in
        let first = leaves (tree_of r.left) in
        let second = leaves (tree_of r.right) in
        (side r.left real (left test first second known) a, side r.right real' (right test first second known) b)

    some_members : (ms : List Member) → Each (λ (h : Member). IsFreeName (is_unknown e.sorts) h.name) ms
        → Each (λ (h : Member). IsFreeName (names_decision e.sorts) h.name) ms → Each (FitsMember limit) ms
        → Each (IsReadableMember limit names) (map (member f.sorts) ms)
    some_members [] known other fits = tt
    some_members (h ∷ ms) known other fits = (
      record {
        parameter = omega (arith, is_parameter limit low m f there e kept h.name known.0 other.0, ps);
        centre = signed_number limit h.spread.centre fits.0.0;
        deviation = plain_number limit h.spread.deviation fits.0.1;
      },
      some_members ms known.1 other.1 fits.1,
    )

    some_budget : (bound : Numeral) (ms : List Member) → ms ≢ [] → FitsNumber limit bound
        → Each (IsReadableMember limit names) (map (member f.sorts) ms)
        → IsReadableSetLine limit names (model.budget (fraction bound) (map (member f.sorts) ms))
    some_budget bound [] some fits all = absurd (some refl)
    some_budget bound (h ∷ ms) some fits all = (plain_number limit bound fits, all)

    module _ (now : Earlier) (s : Statement) (none : first_fault limit e now s ≡ None) where
      known_in : Free (is_unknown e.sorts) (statement_leaves s)
      known_in = known_names limit low m f there e kept now s none

      other_in : is_of_set s ≡ true → Free (names_decision e.sorts) (statement_leaves s)
      other_in of_set = other_names limit low m f there e kept now s none of_set

    good_statement : (words : List (List ℕ)) (now : Earlier) (s : Statement) → IsFormed words s
        → first_fault limit e now s ≡ None → FitsStatement limit s → Good s
    good_statement words now (parsed.Uncertain d) formed none fits =
        (lower_fits limit d.bounds fits, upper_fits limit d.bounds fits)
    good_statement words now (parsed.Over k) formed none fits = tt
    good_statement words now (parsed.Var d) formed none fits =
        (lower_fits limit d.bounds fits, upper_fits limit d.bounds fits)
    good_statement words now (parsed.Set r) formed none fits =
        both_sides r formed.trees.0 formed.trees.1.0 (known_in now (parsed.Set r) none) fits.0 fits.1
    good_statement words now (parsed.Budget b) formed none fits =
        let s = parsed.Budget b in
        let names = flat_map member_leaves b.members in
        let known = tail (is_unknown e.sorts) (Number b.limit) names (known_in now s none) in
        let other = tail (names_decision e.sorts) (Number b.limit) names (other_in now s none refl) in
        some_budget b.limit b.members formed.members fits.0
        (some_members b.members (free_members (is_unknown e.sorts) b.members known)
        (free_members (names_decision e.sorts) b.members other) fits.1)
    good_statement words now (parsed.Adaptive p) formed none fits =
        let s = parsed.Adaptive p in
        let names = map Name p.on in
        let rest = bound_leaves p.bounds in
        let known = left (is_unknown e.sorts) names rest (known_in now s none) in
        let other = left (names_decision e.sorts) names rest (other_in now s none refl) in (
          named_too (map (parameter_at f.sorts) p.on)
              (are_parameters limit low m f there e kept p.on (free_list (is_unknown e.sorts) p.on known)
              (free_list (names_decision e.sorts) p.on other)),
          (lower_fits limit p.bounds fits, upper_fits limit p.bounds fits),
        )
    good_statement words now (parsed.Goal g) formed none fits =
        side g.objective formed.trees.0 (known_in now (parsed.Goal g) none) fits
    good_statement words now (parsed.Row r) formed none fits =
        both_sides r.relation formed.trees.0 formed.trees.1.0 (known_in now (parsed.Row r) none) fits.0 fits.1

  pub all_good : (words : List (List ℕ)) (e : Earlier) (list : List Statement)
      → Chain limit words e list f → Each Good list
  all_good words e [] chain = tt
  all_good words e (s ∷ list) chain = (
    good_statement chain.0.before (kept_behind limit words e s list f chain) words e s chain.0.formed chain.0.faultless
        (statement_fits limit low chain.0.before e s chain.0.faultless),
    all_good words (behind e s) list chain.1,
  )

  module _ (words : List (List ℕ)) where
    of_parameters : (s : Statement) → Good s
        → Each (λ (p : model.Parameter). IsBound limit p.lower × IsBound limit p.upper) (parameters words s)
    of_parameters (parsed.Uncertain d) good = (good, tt)
    of_parameters (parsed.Over k) good = tt
    of_parameters (parsed.Set r) good = tt
    of_parameters (parsed.Budget b) good = tt
    of_parameters (parsed.Var d) good = tt
    of_parameters (parsed.Adaptive p) good = tt
    of_parameters (parsed.Goal g) good = tt
    of_parameters (parsed.Row r) good = tt

    of_variables : (s : Statement) → Good s
        → Each (λ (x : model.Variable). IsBound limit x.lower × IsBound limit x.upper) (variables words s)
    of_variables (parsed.Var d) good = (good, tt)
    of_variables (parsed.Set r) good = tt
    of_variables (parsed.Budget b) good = tt
    of_variables (parsed.Uncertain d) good = tt
    of_variables (parsed.Over k) good = tt
    of_variables (parsed.Adaptive p) good = tt
    of_variables (parsed.Goal g) good = tt
    of_variables (parsed.Row r) good = tt

    of_adaptives : (s : Statement) → Good s
        → Each (λ (y : model.AdaptiveVariable). Each (λ k. k < length names.parameters) y.on
        × (IsBound limit y.lower × IsBound limit y.upper)) (adaptives words f.sorts s)
    of_adaptives (parsed.Adaptive p) good = (good, tt)
    of_adaptives (parsed.Set r) good = tt
    of_adaptives (parsed.Budget b) good = tt
    of_adaptives (parsed.Uncertain d) good = tt
    of_adaptives (parsed.Over k) good = tt
    of_adaptives (parsed.Var d) good = tt
    of_adaptives (parsed.Goal g) good = tt
    of_adaptives (parsed.Row r) good = tt

    of_rows : (s : Statement) → Good s
        → Each (λ (r : model.Row). IsReadable limit names r.left
        × IsReadable limit names r.right) (rows words f.sorts s)
    of_rows (parsed.Row r) good = (good, tt)
    of_rows (parsed.Set r) good = tt
    of_rows (parsed.Budget b) good = tt
    of_rows (parsed.Uncertain d) good = tt
    of_rows (parsed.Over k) good = tt
    of_rows (parsed.Var d) good = tt
    of_rows (parsed.Adaptive p) good = tt
    of_rows (parsed.Goal g) good = tt

  of_set_lines : (s : Statement) → Good s → Each (IsReadableSetLine limit names) (set_lines f.sorts s)
  of_set_lines (parsed.Set r) good = (good, tt)
  of_set_lines (parsed.Budget b) good = (good, tt)
  of_set_lines (parsed.Uncertain d) good = tt
  of_set_lines (parsed.Over k) good = tt
  of_set_lines (parsed.Var d) good = tt
  of_set_lines (parsed.Adaptive p) good = tt
  of_set_lines (parsed.Goal g) good = tt
  of_set_lines (parsed.Row r) good = tt

  of_goal : (list : List Statement) → Each Good list → IsSome (goal_in list)
      → IsReadable limit names (objective_of f.sorts (goal_in list))
  of_goal [] good some = cc
  of_goal (parsed.Goal g ∷ list) good some = good.0
  of_goal (parsed.Set r ∷ list) good some = of_goal list good.1 some
  of_goal (parsed.Budget b ∷ list) good some = of_goal list good.1 some
  of_goal (parsed.Uncertain d ∷ list) good some = of_goal list good.1 some
  of_goal (parsed.Over k ∷ list) good some = of_goal list good.1 some
  of_goal (parsed.Var d ∷ list) good some = of_goal list good.1 some
  of_goal (parsed.Adaptive p ∷ list) good some = of_goal list good.1 some
  of_goal (parsed.Row r ∷ list) good some = of_goal list good.1 some

  -- what the statements say of a model over written parameters
  pub parts_readable : (words : List (List ℕ)) (list : List Statement) (e : Earlier) → Chain limit words e list f
      → f.goal ≡ true → e.goal ≡ false → HasReadableParts limit names (written_of words f.sorts list)
  parts_readable words list e chain goal none =
      let good = all_good words e list chain in
      record {
        parameters = each_flat _ Good (parameters words) (of_parameters words) list good;
        set_lines = each_flat _ Good (set_lines f.sorts) of_set_lines list good;
        variables = each_flat _ Good (variables words) (of_variables words) list good;
        adaptives = each_flat _ Good (adaptives words f.sorts) (of_adaptives words) list good;
        objective = of_goal list good (goal_there limit words e list f chain goal none);
        rows = each_flat _ Good (rows words f.sorts) (of_rows words) list good;
      }

-- a model that a text reads as is readable
pub readable : (limit : ℕ) (text : List ℕ) (m : RobustModel) → 1 ≤ limit → ReadsModel limit text m
    → IsReadableModel limit (naming_of m) m
readable limit text m low read =
    let w = written_by limit text m read in
    let is = is_written limit text m read low in
    let ps = length-map (written_model m).parameters (λ (p : model.Parameter). p.name)
    ∙ ap (λ (x : RobustModel). length x.parameters) is in
    let vs = length-map (written_model m).variables (λ (x : model.Variable). x.name)
    ∙ ap (λ (x : RobustModel). length x.variables) is in
    let ys = length-map (written_model m).adaptives (λ (y : model.AdaptiveVariable). y.name)
    ∙ ap (λ (x : RobustModel). length x.adaptives) is in
    let parts =
    parts_readable limit low w (naming_of m) ps vs ys read.known (model_names limit text m read) read.words read.list
    (start (length read.words)) (model_chain limit text m read) read.reads.lines.goal refl
    in
    record {
      placed = is_placed limit text m read low;
      parts = subst (HasReadableParts limit (naming_of m)) (sym is) parts;
    }
