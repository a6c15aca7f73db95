-- What rule 22 counts are the sizes of a model, and a model that a text reads as is within the limits.
use Rattle.std.proofs.Common.{◌≡◌, ℕ, suc, ◌+◌, ◌*◌, ◌≤◌, List, [], ◌∷◌, ◌++◌, length, fold, sym, ap, ◌∙◌, subst, arith}
use Rattle.std.specs.List.{flat_map}
use Rattle.std.specs.Prelude.{Option}
use Rattle.std.proofs.Math.Nat.{mul_comm}
use Rattle.std.proofs.lemmas.List.Sums.{fold-append}
use Rattle.rob_meaning.specs.Forms.{forms}
use Rattle.rob_meaning.specs.RobustModel.{RobustModel}
use Rattle.rob_meaning.specs.SetRows.{lift_count, set_rows}
use Rattle.rob_meaning.specs.Sizes.{adaptive_bounds, variable_bounds}
use Rattle.rob_meaning.proofs.Tables.SizeLemmas.{bounds-joint, length-forms, length-set_rows, parameter_bounds, rows_of}
use Rattle.rob_model.specs.Limits.{IsWithinLimits, most_columns, most_members, most_parameters, most_rows, most_set_lines, most_sets, most_size}
use Rattle.rob_rules.specs.declared.size.Sizes.{Sizes}
use Rattle.rob_rules.specs.declared.sort.Sort.{Sort}
use Rattle.rob_syntax.specs.declared.syntax.Statement.{Statement}
use Rattle.rob_parse.specs.Modelled.{ReadsModel}
use Rattle.rob_parse.specs.Written.{goal_in, sets, written_of}
use Rattle.rob_parse.specs.Models.{in_sets, line_sets, line_taken, model_of, objective_set, row_sets, row_taken}
use Rattle.rob_rules.specs.Chains.{Chain}
use Rattle.rob_rules.specs.Scopes.{Earlier, start}
use Rattle.rob_rules.specs.Sizes.{AreSizesOf, counted, joint_count, start_sizes}
use Rattle.rob_parse.proofs.Sizes.StatementSizes.{added, sizes_are, sizes_behind}
use Rattle.rob_parse.proofs.Sizes.CountLemmas.{columns_are, kept_all}
use Rattle.rob_parse.proofs.Names.ChainLemmas.{model_chain}
use Rattle.rob_parse.proofs.Sets.InSets.{length-each_taken, length_joint, lifts_taken}
use Rattle.rob_parse.proofs.Sizes.ModelSizes.{lines_taken, rows_taken}
use Rattle.rob_rules.proofs.Counts.SizeLemmas.{Within, kept_start, within}

-- ---- counts of what is written, and of the model that it is in sets
module _ (w : RobustModel) (names : List (List ℕ)) (of_lines : List ℕ) (of_objective : ℕ) (of_rows : List ℕ) where
  abbrev m : RobustModel
  m = in_sets w names of_lines of_objective of_rows

  abbrev p : ℕ
  p = length w.parameters

  abbrev s : Sizes
  s = added start_sizes (length names) w

  -- each set has each written parameter, and each bound of one
  each_set : (a n : ℕ) → (0 + a) * ((0 + n) + 1) ≡ suc n * a
  each_set a n =
      mul_comm (0 + a) ((0 + n) + 1)
      ∙ (λ i. (let e : (0 + n) + 1 ≡ suc n = omega arith in e) i * (let e : 0 + a ≡ a = omega arith in e) i)

  joint_are : joint_count s ≡ length m.parameters
  joint_are = each_set (length w.parameters) (length names) ∙ sym (length_joint w.parameters names)

  members_are : s.members ≡ lift_count m.set_lines
  members_are = omega (arith, lifts_taken p w.set_lines of_lines)

  forms_are : s.forms ≡ length (forms m)
  forms_are =
      ap (λ (n : ℕ). 1 + ((variable_bounds w.variables + adaptive_bounds w.adaptives) + n))
      (sym (rows_taken p w.rows of_rows))
      ∙ sym (length-forms m)

  set_rows_are : s.bounds * (s.sets + 1) + s.set_rows ≡ length (set_rows m)
  set_rows_are =
      (λ i. (each_set (parameter_bounds w.parameters) (length names) ∙ sym (bounds-joint w.parameters names)) i
      + (let e : 0 + rows_of w.set_lines ≡ rows_of m.set_lines =
      omega (arith, lines_taken p w.set_lines of_lines) in e) i)
      ∙ sym (length-set_rows m)

  pub in_sets_sizes : AreSizesOf m s
  in_sets_sizes = record {
    parameters = joint_are;
    sets = omega arith;
    variables = omega arith;
    adaptives = omega arith;
    columns = omega (arith, columns_are w.adaptives (length w.variables));
    rows = omega (arith, length-each_taken (row_taken p) w.rows of_rows);
    set_lines = omega (arith, length-each_taken (line_taken p) w.set_lines of_lines);
    members = members_are;
    forms = forms_are;
    set_rows = set_rows_are;
    size = λ i. forms_are i * ((set_rows_are i + 2 * (joint_are i + members_are i)) + 1);
  }

-- what is counted behind some statements are the sizes of their model
counts_are : (words : List (List ℕ)) (sorts : List (Option Sort)) (list : List Statement)
    → AreSizesOf (model_of words sorts list) (fold counted start_sizes list)
counts_are words sorts list =
    subst (AreSizesOf (model_of words sorts list)) (sym (sizes_are words sorts list))
    (in_sets_sizes (written_of words sorts list) (flat_map (sets words) list) (flat_map (line_sets sorts) list)
    (objective_set sorts (goal_in list)) (flat_map (row_sets sorts) list))

-- a model whose counts are within the limits is within them
within_counts : (m : RobustModel) (s : Sizes) → AreSizesOf m s → Within s → IsWithinLimits m
within_counts m s are w = record {
  parameters = subst (λ (n : ℕ). n ≤ most_parameters) are.parameters w.parameters;
  sets = subst (λ (n : ℕ). n ≤ most_sets) are.sets w.sets;
  columns = subst (λ (n : ℕ). n ≤ most_columns) are.columns w.columns;
  rows = subst (λ (n : ℕ). n ≤ most_rows) are.rows w.rows;
  set_lines = subst (λ (n : ℕ). n ≤ most_set_lines) are.set_lines w.set_lines;
  members = subst (λ (n : ℕ). n ≤ most_members) are.members w.members;
  size = subst (λ (n : ℕ). n ≤ most_size) are.size w.whole;
}

-- a model that a text reads as is within the limits
pub within_limits : (limit : ℕ) (text : List ℕ) (m : RobustModel) → ReadsModel limit text m → IsWithinLimits m
within_limits limit text m read =
    subst IsWithinLimits (sym read.model_is)
    (within_counts (model_of read.words read.known.sorts read.list) read.known.sizes
    (subst (AreSizesOf (model_of read.words read.known.sorts read.list))
    (sym (sizes_behind limit read.words begin read.list read.known chain))
    (counts_are read.words read.known.sorts read.list))
    (within read.known.sizes (kept_all limit read.words begin read.list read.known chain kept_start).within))
  where
    begin : Earlier
    begin = start (length read.words)

    chain : Chain limit read.words begin read.list read.known
    chain = model_chain limit text m read

-- what is counted behind a statement are the sizes of the model of all statements up to it
pub counted_is : (limit : ℕ) (words : List (List ℕ)) (list : List Statement) (known : Earlier) (s : Statement)
    → Chain limit words (start (length words)) list known → (sorts : List (Option Sort))
    → AreSizesOf (model_of words sorts (list ++ s ∷ [])) (counted known.sizes s)
counted_is limit words list known s chain sorts =
    subst (AreSizesOf (model_of words sorts (list ++ s ∷ [])))
    (fold-append counted start_sizes list (s ∷ [])
    ∙ ap (λ sizes. counted sizes s) (sym (sizes_behind limit words (start (length words)) list known chain)))
    (counts_are words sorts (list ++ s ∷ []))
