-- The sizes of canonical lines: those of the model that has written them, and within the limits in front of each line.
use Rattle.std.proofs.Common.{◌≡◌, ℕ, ◌+◌, ◌*◌, ◌≤◌, true, List, [], ◌∷◌, ◌++◌, length, fold, sym, subst, arith}
use Rattle.std.proofs.lemmas.List.Sums.{fold-append}
use Rattle.rob_meaning.specs.RobustModel.{RobustModel}
use Rattle.rob_model.specs.Limits.{IsWithinLimits, most_columns, most_members, most_parameters, most_rows, most_set_lines, most_sets, most_size}
use Rattle.rob_syntax.specs.declared.syntax.Statement.{Statement}
use Rattle.rob_syntax.specs.declared.syntax.Statement.TheVariants.{Uncertain, Over, Set, Budget, Var, Adaptive, Goal, Row}
use Rattle.rob_rules.specs.declared.size.Sizes.{Sizes}
use Rattle.rob_rules.specs.Sizes.{AreSizesOf, counted, is_within, joint_count, start_sizes}
use Rattle.rob_rules.proofs.Counts.SizeLemmas.{within}
use Rattle.rob_parse.specs.Models.{in_sets}
use Rattle.rob_parse.proofs.Sizes.LimitLemmas.{in_sets_sizes}
use Rattle.rob_parse.proofs.Sizes.StatementSizes.{added, within_again}
use Rattle.rob_write.specs.WrittenModel.{written_model}

-- the sizes of a model's statements, from what it has written and how many sets it names
abbrev pub written_sizes : RobustModel → Sizes
written_sizes m = added start_sizes (length m.sets) (written_model m)

-- the counts of what a model has written are its sizes, where each part is taken in its set
pub written_counts : (m : RobustModel) → in_sets (written_model m) m.sets m.line_sets m.objective_set m.row_sets ≡ m
    → AreSizesOf m (written_sizes m)
written_counts m is =
    subst (λ (x : RobustModel). AreSizesOf x (written_sizes m)) is
    (in_sets_sizes (written_model m) m.sets m.line_sets m.objective_set m.row_sets)

-- the counts of a model within the limits are within them
pub counts_within : (m : RobustModel) (s : Sizes) → AreSizesOf m s → IsWithinLimits m → is_within s ≡ true
counts_within m s are fits =
    within_again s
    (record {
      sets = subst (λ (n : ℕ). n ≤ most_sets) (sym are.sets) fits.sets;
      parameters = subst (λ (n : ℕ). n ≤ most_parameters) (sym are.parameters) fits.parameters;
      columns = subst (λ (n : ℕ). n ≤ most_columns) (sym are.columns) fits.columns;
      rows = subst (λ (n : ℕ). n ≤ most_rows) (sym are.rows) fits.rows;
      set_lines = subst (λ (n : ℕ). n ≤ most_set_lines) (sym are.set_lines) fits.set_lines;
      members = subst (λ (n : ℕ). n ≤ most_members) (sym are.members) fits.members;
      whole = subst (λ (n : ℕ). n ≤ most_size) (sym are.size) fits.size;
    })

-- ---- the sizes grow from line to line
record IsBelow (s t : Sizes) : Type 0 where
  parameters : s.parameters ≤ t.parameters
  bounds : s.bounds ≤ t.bounds
  sets : s.sets ≤ t.sets
  columns : s.columns ≤ t.columns
  rows : s.rows ≤ t.rows
  set_lines : s.set_lines ≤ t.set_lines
  members : s.members ≤ t.members
  forms : s.forms ≤ t.forms
  set_rows : s.set_rows ≤ t.set_rows

-- the counts one by one, in their order
below_each : (s t : Sizes) → s.parameters ≤ t.parameters → s.bounds ≤ t.bounds → s.sets ≤ t.sets → s.columns ≤ t.columns
    → s.rows ≤ t.rows → s.set_lines ≤ t.set_lines → s.members ≤ t.members
    → s.forms ≤ t.forms → s.set_rows ≤ t.set_rows → IsBelow s t
below_each s t parameters bounds sets columns rows set_lines members forms set_rows = record {
  parameters = parameters;
  bounds = bounds;
  sets = sets;
  columns = columns;
  rows = rows;
  set_lines = set_lines;
  members = members;
  forms = forms;
  set_rows = set_rows;
}

below_itself : (s : Sizes) → IsBelow s s
below_itself s =
    below_each s s (omega arith) (omega arith) (omega arith) (omega arith) (omega arith) (omega arith) (omega arith)
    (omega arith) (omega arith)

below_counted : (s : Sizes) (st : Statement) → IsBelow s (counted s st)
below_counted s (Uncertain d) =
    below_each s _ (omega arith) (omega arith) (omega arith) (omega arith) (omega arith) (omega arith) (omega arith)
    (omega arith) (omega arith)
below_counted s (Var d) =
    below_each s _ (omega arith) (omega arith) (omega arith) (omega arith) (omega arith) (omega arith) (omega arith)
    (omega arith) (omega arith)
below_counted s (Adaptive p) =
    below_each s _ (omega arith) (omega arith) (omega arith) (omega arith) (omega arith) (omega arith) (omega arith)
    (omega arith) (omega arith)
below_counted s (Over k) =
    below_each s _ (omega arith) (omega arith) (omega arith) (omega arith) (omega arith) (omega arith) (omega arith)
    (omega arith) (omega arith)
below_counted s (Set r) =
    below_each s _ (omega arith) (omega arith) (omega arith) (omega arith) (omega arith) (omega arith) (omega arith)
    (omega arith) (omega arith)
below_counted s (Budget b) =
    below_each s _ (omega arith) (omega arith) (omega arith) (omega arith) (omega arith) (omega arith) (omega arith)
    (omega arith) (omega arith)
below_counted s (Row r) =
    below_each s _ (omega arith) (omega arith) (omega arith) (omega arith) (omega arith) (omega arith) (omega arith)
    (omega arith) (omega arith)
below_counted s (Goal g) = below_itself s

below_through : (s t u : Sizes) → IsBelow s t → IsBelow t u → IsBelow s u
below_through s t u a b = record {
  parameters = omega (arith, a.parameters, b.parameters);
  bounds = omega (arith, a.bounds, b.bounds);
  sets = omega (arith, a.sets, b.sets);
  columns = omega (arith, a.columns, b.columns);
  rows = omega (arith, a.rows, b.rows);
  set_lines = omega (arith, a.set_lines, b.set_lines);
  members = omega (arith, a.members, b.members);
  forms = omega (arith, a.forms, b.forms);
  set_rows = omega (arith, a.set_rows, b.set_rows);
}

below_all : (s : Sizes) (list : List Statement) → IsBelow s (fold counted s list)
below_all s [] = below_itself s
below_all s (st ∷ list) =
    below_through s (counted s st) (fold counted (counted s st) list) (below_counted s st)
    (below_all (counted s st) list)

product_below : (a b c d : ℕ) → a ≤ b → c ≤ d → a * c ≤ b * d
product_below a b c d h k = grind arith

-- smaller sizes are within the limits
within_below : (s t : Sizes) → IsBelow s t → is_within t ≡ true → is_within s ≡ true
within_below s t below h =
    let w = within t h in
    let more : s.sets + 1 ≤ t.sets + 1 = omega (arith, below.sets) in
    let joint = product_below s.parameters t.parameters (s.sets + 1) (t.sets + 1) below.parameters more in
    let bounds = product_below s.bounds t.bounds (s.sets + 1) (t.sets + 1) below.bounds more in
    let p = product_below s.forms t.forms
    (((s.bounds * (s.sets + 1) + s.set_rows) + 2 * (joint_count s + s.members)) + 1)
    (((t.bounds * (t.sets + 1) + t.set_rows) + 2 * (joint_count t + t.members)) + 1)
    below.forms (omega (arith, bounds, joint, below.set_rows, below.members)) in
    within_again s
    (record {
      sets = omega (arith, below.sets, w.sets);
      parameters = omega (arith, joint, w.parameters);
      columns = omega (arith, below.columns, w.columns);
      rows = omega (arith, below.rows, w.rows);
      set_lines = omega (arith, below.set_lines, w.set_lines);
      members = omega (arith, below.members, w.members);
      whole = omega (arith, p, w.whole);
    })

-- what is within the limits at the end is so in front of each line
pub within_front : (before after : List Statement) → is_within (fold counted start_sizes (before ++ after)) ≡ true
    → is_within (fold counted start_sizes before) ≡ true
within_front before after h =
    within_below (fold counted start_sizes before) (fold counted (fold counted start_sizes before) after)
    (below_all (fold counted start_sizes before) after)
    (subst (λ (x : Sizes). is_within x ≡ true) (fold-append counted start_sizes before after) h)
