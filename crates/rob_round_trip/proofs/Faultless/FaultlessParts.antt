-- What a statement must keep to have no fault, part by part.
use Rattle.std.proofs.Common.{◌≡◌, ℕ, false, List, []}
use Rattle.std.specs.Prelude.{◌&&◌, Option}
use Rattle.std.specs.List.{list_any}
use Rattle.rob_rules.specs.declared.sort.Sort.{Sort}
use Rattle.rob_syntax.specs.declared.syntax.Statement.{Statement}
use Rattle.rob_write.specs.ExpressionWords.{Naming}
use Rattle.rob_rules.specs.Faults.{has_twice, has_zero_divisor, is_certain, is_listing, is_of_set, is_over, is_over_none, is_unknown, names_decision, over_of}
use Rattle.rob_rules.specs.Leaves.{members_of, statement_leaves}
use Rattle.rob_rules.specs.Scopes.{Earlier}
use Rattle.rob_syntax.specs.declared.symbol.Symbol.{Symbol}

-- the parameters' names alone
abbrev pub parameters_only : Naming → Naming
parameters_only names = record { parameters = names.parameters; sets = []; variables = []; adaptives = [] }

-- no name and no number of a statement is at fault: each used name is there, digits
-- are within the limit, no deviation and no divisor is 0, a list has no name twice,
-- no decision is in the set, and the set that the line answers to is there
pub record HasNoFault (limit : ℕ) (sorts : List (Option Sort)) (s : Statement) : Type 0 where
  pub unknown : list_any (is_unknown sorts) (statement_leaves s) ≡ false
  pub set_known : is_over_none sorts (over_of s) ≡ false
  pub over : list_any (is_over limit) (statement_leaves s) ≡ false
  pub deviation : list_any is_certain (members_of s) ≡ false
  pub divisor : list_any has_zero_divisor (statement_leaves s) ≡ false
  pub listed : (is_listing s && has_twice (statement_leaves s)) ≡ false
  pub decision : (is_of_set s && list_any (names_decision sorts) (statement_leaves s)) ≡ false

-- the same of a line's statement, where the lines in front of it declare the sorts
module _ (limit : ℕ) where
  abbrev pub HasNoFaultBehind : Earlier → List Symbol → Statement → Type 0
  HasNoFaultBehind e symbols s = HasNoFault limit e.sorts s
