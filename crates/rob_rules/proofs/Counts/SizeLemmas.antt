-- What the counts of a model keep.
use Rattle.std.proofs.Common.{◌≡◌, ℕ, ◌+◌, ◌*◌, ◌<◌, ◌≤◌, true, refl, arith}
use Rattle.std.specs.Prelude.{nat_le}
use Rattle.std.proofs.lemmas.Bool.Decides.{nat_tests}
use Rattle.rob_rules.specs.declared.size.Sizes.{Sizes}
use Rattle.rob_syntax.specs.declared.syntax.Statement.{Statement}
use Rattle.rob_syntax.specs.declared.syntax.Statement.TheVariants.{Uncertain, Over, Set, Budget, Var, Adaptive, Goal, Row}
use Rattle.rob_model.specs.Limits.{most_sets, most_parameters, most_columns, most_rows, most_set_lines, most_members, most_size}
use Rattle.rob_rules.specs.Sizes.{start_sizes, counted, is_within, joint_count, size, IsKept}
use Rattle.rob_index.proofs.LinesRead.ListLemmas.{both_true}

pub at_most : (a b : ℕ) → nat_le a b ≡ true → a ≤ b
at_most a b h = grind (arith, nat_tests)

-- the limits, one by one
pub record Within (s : Sizes) : Type 0 where
  pub sets : s.sets ≤ most_sets
  pub parameters : joint_count s ≤ most_parameters
  pub columns : s.columns ≤ most_columns
  pub rows : s.rows ≤ most_rows
  pub set_lines : s.set_lines ≤ most_set_lines
  pub members : s.members ≤ most_members
  pub whole : size s ≤ most_size

pub within : (s : Sizes) → is_within s ≡ true → Within s
within s h =
    let six = both_true _ _ h in
    let five = both_true _ _ six.0 in
    let four = both_true _ _ five.0 in
    let three = both_true _ _ four.0 in
    let two = both_true _ _ three.0 in
    let one = both_true _ _ two.0 in
    record {
      sets = at_most s.sets most_sets one.0;
      parameters = at_most (joint_count s) most_parameters one.1;
      columns = at_most s.columns most_columns two.1;
      rows = at_most s.rows most_rows three.1;
      set_lines = at_most s.set_lines most_set_lines four.1;
      members = at_most s.members most_members five.1;
      whole = at_most (size s) most_size six.1;
    }

-- the factors of a product that is at most this
pub factors_at_most : (a b c : ℕ) → 0 < a → a * (b + 1) ≤ c → (a ≤ c) × (b ≤ c)
factors_at_most a b c some h = (grind arith, grind arith)

-- each set has the written ones
pub times_more : (a n : ℕ) → a ≤ a * (n + 1)
times_more a n = grind arith

pub kept_start : IsKept start_sizes
kept_start = record { within = refl; variables = omega arith; adaptives = omega arith; forms = omega arith }

pub kept_behind : (s : Sizes) (st : Statement) → IsKept s → is_within (counted s st) ≡ true → IsKept (counted s st)
kept_behind s (Uncertain d) kept h =
    record { within = h; variables = kept.variables; adaptives = kept.adaptives; forms = kept.forms }
kept_behind s (Var d) kept h =
    record {
      within = h;
      variables = omega (arith, kept.variables);
      adaptives = omega (arith, kept.adaptives);
      forms =
          omega (arith, kept.forms);
    }
kept_behind s (Adaptive p) kept h =
    record {
      within = h;
      variables = omega (arith, kept.variables);
      adaptives = omega (arith, kept.adaptives);
      forms =
          omega (arith, kept.forms);
    }
kept_behind s (Over k) kept h =
    record { within = h; variables = kept.variables; adaptives = kept.adaptives; forms = kept.forms }
kept_behind s (Set r) kept h =
    record { within = h; variables = kept.variables; adaptives = kept.adaptives; forms = kept.forms }
kept_behind s (Budget b) kept h =
    record { within = h; variables = kept.variables; adaptives = kept.adaptives; forms = kept.forms }
kept_behind s (Row r) kept h =
    record { within = h; variables = kept.variables; adaptives = kept.adaptives; forms = omega (arith, kept.forms) }
kept_behind s (Goal g) kept h = kept
