use Rattle.std.proofs.Common.{◌≡◌, ◌+◌, map, drop}
use Rattle.rob_number.specs.Counts.{NeverFell}
use Rattle.rob_meaning.specs.Places.{Each}
use Rattle.rob_meaning.specs.WellFormed.{IsSetLine}
use Rattle.rob_model.specs.View.{robust, set_line_of}
use Rattle.rob_model.proofs.ConditionLemmas.{statements_left}
use Rattle.rob_model.proofs.statements.broken_statement.Given as goal

-- the statements so far hold, so the first that fails is the first among those that are left
abbrev pub invariant-loop-line : goal.invariant-loop-line
invariant-loop-line g l =
    let value = g.N.Exact.value in
    let m = robust value l.model in
    let left = statements_left g.N.Exact.limit m (value l.base) (map value l.vector) value l.model.set_lines in
    record {
      rest : left l.line-index l.index ≡ left 0 l.first;
      lines : Each (IsSetLine m) (map (set_line_of value) (drop l.line-index l.model.set_lines));
      number : l.index ≡ l.first + l.line-index;
      counted : NeverFell g.L.Ledger.ops g.L.Ledger.wides l.fn.ledger l.ledger;
    }
