-- What is counted while a text is read is what its model has.
use Rattle.std.proofs.Common.{◌≡◌, ℕ, suc, ◌+◌, List, [], ◌∷◌, length, ◌∙◌, subst, arith}
use Rattle.std.specs.Prelude.{Option}
use Rattle.std.specs.List.{flat_map}
use Rattle.std.proofs.lemmas.List.{length-map}
use Rattle.rob_meaning.specs.RobustModel.{AdaptiveVariable, column_from}
use Rattle.rob_meaning.specs.SetRows.{lift_count}
use Rattle.rob_rules.specs.declared.sort.Sort.{Sort}
use Rattle.rob_rules.specs.declared.size.Sizes.{Sizes}
use Rattle.rob_syntax.specs.declared.syntax.Statement.{Statement}
use Rattle.rob_syntax.specs.declared.syntax.Statement.TheVariants.{Uncertain, Over, Set, Budget, Var, Adaptive, Goal, Row}
use Rattle.rob_parse.specs.Written.{parameters, sets, variables, adaptives, set_lines, rows, member, parameter_at}
use Rattle.rob_rules.specs.Chains.{Chain}
use Rattle.rob_rules.specs.Scopes.{Earlier, behind}
use Rattle.rob_rules.specs.Sizes.{counted, IsKept}
use Rattle.rob_rules.proofs.Judging.ReadingLemmas.{kept_note}

-- the columns of some adaptive variables
unfoldable pub rule_columns : List AdaptiveVariable → ℕ
rule_columns [] = 0
rule_columns (y ∷ ys) = 1 + length y.on + rule_columns ys

pub columns_are : (ys : List AdaptiveVariable) (c : ℕ) → column_from c ys (length ys) ≡ c + rule_columns ys
unfolding rule_columns
columns_are [] c = omega arith
columns_are (y ∷ ys) c = columns_are ys (suc c + length y.on) ∙ omega arith

module _ (words : List (List ℕ)) (sorts : List (Option Sort)) where
  -- the counts behind some statements
  pub record Counts (list : List Statement) (before after : Sizes) : Type 0 where
    pub parameters_are : after.parameters ≡ length (flat_map (parameters words) list) + before.parameters
    pub sets_are : after.sets ≡ length (flat_map (sets words) list) + before.sets
    pub variables_are : after.variables ≡ length (flat_map (variables words) list) + before.variables
    pub adaptives_are : after.adaptives ≡ length (flat_map (adaptives words sorts) list) + before.adaptives
    pub columns_are : after.columns + before.variables
        ≡ (after.variables + rule_columns (flat_map (adaptives words sorts) list)) + before.columns
    pub rows_are : after.rows ≡ length (flat_map (rows words sorts) list) + before.rows
    pub set_lines_are : after.set_lines ≡ length (flat_map (set_lines sorts) list) + before.set_lines
    pub members_are : after.members ≡ lift_count (flat_map (set_lines sorts) list) + before.members

  pub counts_none : (s : Sizes) → Counts [] s s
  unfolding rule_columns
  counts_none s =
      record {
        parameters_are = omega arith;
        sets_are = omega arith;
        variables_are = omega arith;
        adaptives_are =
            omega arith;
        columns_are = omega arith;
        rows_are = omega arith;
        set_lines_are = omega arith;
        members_are =
            omega arith;
      }

  pub counts_more : (st : Statement) (list : List Statement) (s t : Sizes) → Counts list (counted s st) t
      → Counts (st ∷ list) s t
  unfolding rule_columns
  counts_more (Uncertain d) list s t c =
      record {
        parameters_are = omega (arith, c.parameters_are);
        sets_are = c.sets_are;
        variables_are =
            c.variables_are;
        adaptives_are = c.adaptives_are;
        columns_are = c.columns_are;
        rows_are =
            c.rows_are;
        set_lines_are = c.set_lines_are;
        members_are = c.members_are;
      }
  counts_more (Var d) list s t c =
      record {
        parameters_are = c.parameters_are;
        sets_are = c.sets_are;
        variables_are =
            omega (arith, c.variables_are);
        adaptives_are = c.adaptives_are;
        columns_are =
            omega (arith, c.columns_are);
        rows_are = c.rows_are;
        set_lines_are = c.set_lines_are;
        members_are =
            c.members_are;
      }
  counts_more (Adaptive p) list s t c =
      record {
        parameters_are = c.parameters_are;
        sets_are = c.sets_are;
        variables_are =
            c.variables_are;
        adaptives_are = omega (arith, c.adaptives_are);
        columns_are =
            omega (arith, c.columns_are, length-map p.on (parameter_at sorts));
        rows_are = c.rows_are;
        set_lines_are =
            c.set_lines_are;
        members_are = c.members_are;
      }
  counts_more (Set r) list s t c =
      record {
        parameters_are = c.parameters_are;
        sets_are = c.sets_are;
        variables_are =
            c.variables_are;
        adaptives_are = c.adaptives_are;
        columns_are = c.columns_are;
        rows_are =
            c.rows_are;
        set_lines_are = omega (arith, c.set_lines_are);
        members_are = c.members_are;
      }
  counts_more (Budget b) list s t c =
      record {
        parameters_are = c.parameters_are;
        sets_are = c.sets_are;
        variables_are =
            c.variables_are;
        adaptives_are = c.adaptives_are;
        columns_are = c.columns_are;
        rows_are =
            c.rows_are;
        set_lines_are = omega (arith, c.set_lines_are);
        members_are =
            omega (arith, c.members_are, length-map b.members (member sorts));
      }
  counts_more (Row r) list s t c =
      record {
        parameters_are = c.parameters_are;
        sets_are = c.sets_are;
        variables_are =
            c.variables_are;
        adaptives_are = c.adaptives_are;
        columns_are = c.columns_are;
        rows_are =
            omega (arith, c.rows_are);
        set_lines_are = c.set_lines_are;
        members_are = c.members_are;
      }
  counts_more (Over k) list s t c =
      record {
        parameters_are = c.parameters_are;
        sets_are = omega (arith, c.sets_are);
        variables_are =
            c.variables_are;
        adaptives_are = c.adaptives_are;
        columns_are = c.columns_are;
        rows_are =
            c.rows_are;
        set_lines_are = c.set_lines_are;
        members_are = c.members_are;
      }
  counts_more (Goal g) list s t c =
      record {
        parameters_are = c.parameters_are;
        sets_are = c.sets_are;
        variables_are =
            c.variables_are;
        adaptives_are = c.adaptives_are;
        columns_are = c.columns_are;
        rows_are =
            c.rows_are;
        set_lines_are = c.set_lines_are;
        members_are = c.members_are;
      }

  pub counts : (limit : ℕ) (e : Earlier) (list : List Statement) (f : Earlier) → Chain limit words e list f
      → Counts list e.sizes f.sizes
  counts limit e [] f chain = subst (λ (x : Earlier). Counts [] e.sizes x.sizes) chain (counts_none e.sizes)
  counts limit e (s ∷ list) f chain = counts_more s list e.sizes f.sizes (counts limit (behind e s) list f chain.1)

pub kept_all : (limit : ℕ) (words : List (List ℕ)) (e : Earlier) (list : List Statement) (f : Earlier)
    → Chain limit words e list f → IsKept e.sizes → IsKept f.sizes
kept_all limit words e [] f chain kept = subst (λ (x : Earlier). IsKept x.sizes) chain kept
kept_all limit words e (s ∷ list) f chain kept =
    kept_all limit words (behind e s) list f chain.1 (kept_note limit chain.0.before e s kept chain.0.faultless)
