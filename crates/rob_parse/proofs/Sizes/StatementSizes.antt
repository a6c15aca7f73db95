-- The sizes behind some statements are those of what they write, whatever their order is.
use Rattle.std.proofs.Common.{◌≡◌, ℕ, ◌+◌, ◌≤◌, true, List, [], ◌∷◌, length, fold, refl, sym, ap, ◌∙◌, arith}
use Rattle.std.specs.Prelude.{◌&&◌, nat_le, Option, Some, None}
use Rattle.std.proofs.lemmas.Bool.Decides.{nat_tests}
use Rattle.std.proofs.lemmas.List.{length-map}
use Rattle.std.specs.List.{flat_map}
use Rattle.rob_meaning.specs.RobustModel.{RobustModel}
use Rattle.rob_meaning.specs.SetRows.{lift_count}
use Rattle.rob_meaning.specs.Sizes.{adaptive_bounds, declared_count, variable_bounds}
use Rattle.rob_meaning.proofs.Tables.SizeLemmas.{inequalities, parameter_bounds, row_inequalities, rows_of}
use Rattle.rob_rules.specs.declared.size.Sizes.{Sizes}
use Rattle.rob_rules.specs.declared.sort.Sort.{Sort}
use Rattle.rob_syntax.specs.declared.syntax.Bounds.{Bounds}
use Rattle.rob_syntax.specs.declared.syntax.Bounds.TheVariants.{Between, AtLeast, AtMost}
use Rattle.rob_syntax.specs.declared.syntax.Rel.{Rel}
use Rattle.rob_syntax.specs.declared.syntax.Rel.TheVariants as rel
use Rattle.rob_syntax.specs.declared.syntax.Statement.{Statement}
use Rattle.rob_syntax.specs.declared.syntax.Statement.TheVariants.{Uncertain, Over, Set, Budget, Var, Adaptive, Goal, Row}
use Rattle.rob_parse.specs.Written.{lower_bound, upper_bound, relation_of, parameter_at, member, sets, written_of}
use Rattle.rob_rules.specs.Chains.{Chain}
use Rattle.rob_rules.specs.Scopes.{Earlier, behind}
use Rattle.rob_model.specs.Limits.{most_sets, most_parameters, most_columns, most_rows, most_set_lines, most_members, most_size}
use Rattle.rob_rules.specs.Sizes.{bound_count, rel_count, start_sizes, counted, joint_count, size, is_within}
use Rattle.rob_parse.proofs.Sizes.CountLemmas.{rule_columns}
use Rattle.rob_rules.proofs.Counts.SizeLemmas.{Within}

-- the sizes behind the statements of a model over written parameters, where so many sets are named
abbrev pub added : Sizes → ℕ → RobustModel → Sizes
added s n m = record {
  parameters = s.parameters + length m.parameters;
  bounds = s.bounds + parameter_bounds m.parameters;
  sets = s.sets + n;
  variables = s.variables + length m.variables;
  adaptives = s.adaptives + length m.adaptives;
  columns = s.columns + (length m.variables + rule_columns m.adaptives);
  rows = s.rows + length m.rows;
  set_lines = s.set_lines + length m.set_lines;
  members = s.members + lift_count m.set_lines;
  forms = s.forms + (variable_bounds m.variables + adaptive_bounds m.adaptives + row_inequalities m.rows);
  set_rows = s.set_rows + rows_of m.set_lines;
}

bounds_are : (b : Option Bounds) → declared_count (lower_bound b) (upper_bound b) ≡ bound_count b
bounds_are None = refl
bounds_are (Some (Between both)) = refl
bounds_are (Some (AtLeast a)) = refl
bounds_are (Some (AtMost a)) = refl

inequalities_are : (r : Rel) → inequalities (relation_of r) ≡ rel_count r
inequalities_are rel.AtMost = refl
inequalities_are rel.AtLeast = refl
inequalities_are rel.Equal = refl

-- ---- the sizes of statements are those of their model
-- the counts one by one, in their order
same_sizes : (s t : Sizes) → s.parameters ≡ t.parameters → s.bounds ≡ t.bounds → s.sets ≡ t.sets
    → s.variables ≡ t.variables → s.adaptives ≡ t.adaptives → s.columns ≡ t.columns → s.rows ≡ t.rows
    → s.set_lines ≡ t.set_lines → s.members ≡ t.members → s.forms ≡ t.forms → s.set_rows ≡ t.set_rows → s ≡ t
same_sizes s t parameters bounds sets variables adaptives columns rows set_lines members forms set_rows = λ i. record {
  parameters = parameters i;
  bounds = bounds i;
  sets = sets i;
  variables = variables i;
  adaptives = adaptives i;
  columns = columns i;
  rows = rows i;
  set_lines = set_lines i;
  members = members i;
  forms = forms i;
  set_rows = set_rows i;
}

module _ (words : List (List ℕ)) (sorts : List (Option Sort)) where
  added_none : (s : Sizes) → s ≡ added s 0 (written_of words sorts [])
  unfolding rule_columns
  added_none s =
      same_sizes _ _ (omega arith) (omega arith) (omega arith) (omega arith) (omega arith) (omega arith) (omega arith)
      (omega arith) (omega arith) (omega arith) (omega arith)

  -- how many sets a statement and those behind it declare
  abbrev named : List Statement → ℕ
  named list = length (flat_map (sets words) list)

  -- to count a statement first is to count it with the model
  added_more : (s : Sizes) (st : Statement) (list : List Statement)
      → added (counted s st) (named list) (written_of words sorts list) ≡ added s (named (st ∷ list))
      (written_of words sorts (st ∷ list))
  unfolding rule_columns
  added_more s (Uncertain d) list =
      same_sizes _ _ (omega arith) (omega (arith, bounds_are d.bounds)) refl refl refl refl refl refl refl refl
      refl
  added_more s (Over k) list = same_sizes _ _ refl refl (omega arith) refl refl refl refl refl refl refl refl
  added_more s (Var d) list =
      same_sizes _ _ refl refl refl (omega arith) refl (omega arith) refl refl refl
      (omega (arith, bounds_are d.bounds)) refl
  added_more s (Adaptive p) list =
      same_sizes _ _ refl refl refl refl (omega arith) (omega (arith, length-map p.on (parameter_at sorts))) refl refl
      refl (omega (arith, bounds_are p.bounds)) refl
  added_more s (Set r) list =
      same_sizes _ _ refl refl refl refl refl refl refl (omega arith) refl refl (omega (arith, inequalities_are r.rel))
  added_more s (Budget b) list =
      let members = length-map b.members (member sorts) in
      same_sizes _ _ refl refl refl refl refl refl refl (omega arith) (omega (arith, members)) refl
      (omega (arith, members))
  added_more s (Row r) list =
      same_sizes _ _ refl refl refl refl refl refl (omega arith) refl refl
      (omega (arith, inequalities_are r.relation.rel)) refl
  added_more s (Goal g) list = refl

  sizes_from : (s : Sizes) (list : List Statement)
      → fold counted s list ≡ added s (named list) (written_of words sorts list)
  sizes_from s [] = added_none s
  sizes_from s (st ∷ list) = sizes_from (counted s st) list ∙ added_more s st list

  -- the sizes behind some statements are those of what they write
  pub sizes_are : (list : List Statement)
      → fold counted start_sizes list ≡ added start_sizes (length (flat_map (sets words) list))
      (written_of words sorts list)
  sizes_are list = sizes_from start_sizes list

passes : (a b : ℕ) → a ≤ b → nat_le a b ≡ true
passes a b h = grind (arith, nat_tests)

pub within_again : (s : Sizes) → Within s → is_within s ≡ true
within_again s w = λ i.
    passes s.sets most_sets w.sets i && passes (joint_count s) most_parameters w.parameters i && passes s.columns
    most_columns w.columns i && passes s.rows most_rows w.rows i
    && passes s.set_lines most_set_lines w.set_lines i && passes s.members most_members w.members i && passes (size s)
    most_size w.whole i

-- ---- the sizes that are known behind some statements
pub sizes_behind : (limit : ℕ) (words : List (List ℕ)) (e : Earlier) (list : List Statement) (f : Earlier)
    → Chain limit words e list f → f.sizes ≡ fold counted e.sizes list
sizes_behind limit words e [] f chain = ap (λ (x : Earlier). x.sizes) (sym chain)
sizes_behind limit words e (s ∷ list) f chain = sizes_behind limit words (behind e s) list f chain.1
