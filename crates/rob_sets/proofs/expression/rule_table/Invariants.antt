use Rattle.std.specs.Prelude.{◌≡◌, ◌+◌}
use Rattle.rob_number.specs.Counts.{NeverFell}
use Rattle.rob_meaning.specs.RobustModel.{column_of, list_of}
use Rattle.rob_model.specs.View.{robust}
use Rattle.rob_sets.specs.Tables.{numbers_of}
use Rattle.rob_sets.proofs.Expressions.RuleSteps.{RuleSoFar}
use Rattle.rob_sets.proofs.expression.rule_table.Given as goal

-- the numbers so far, with those of the parameters that are left, are the adaptive variable's
abbrev pub invariant-loop-parameter : goal.invariant-loop-parameter
invariant-loop-parameter g l =
    let value = g.N.Exact.value in
    let m = robust value l.model in
    record {
      list : l.parameter-items ≡ list_of m l.adaptive;
      column : l.column ≡ column_of m l.adaptive + 1 + l.parameter-index;
      so_far : RuleSoFar m l.set l.adaptive l.parameter-items l.parameter-index l.column (numbers_of value l.table);
      counted : NeverFell g.L.Ledger.ops g.L.Ledger.wides l.fn.ledger l.ledger;
    }
