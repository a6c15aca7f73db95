use Rattle.std.specs.Prelude.{◌≡◌, ℕ}
use Rattle.rob_sets.specs.Tables.{numbers_of}
use Rattle.rob_sets.proofs.WholeRows.BudgetLemmas.{lifts_from}
use Rattle.rob_sets.proofs.budget.budget_table.Given as goal

-- 1 in the columns of the members so far
abbrev pub invariant-loop-i : goal.invariant-loop-i
invariant-loop-i g l = (k j : ℕ) → numbers_of g.N.Exact.value l.table k j ≡ lifts_from l.lift l.i k j
