use Rattle.std.proofs.Common.{[], sym, subst, ◌<◌}
use Rattle.rob_rows.proofs.laws.program_law.Goals as goal

pub returns : goal.returns
returns c = record { rows_are_whole = λ lp i shaped l. shaped.columns i [] (subst (λ n. i < n) (sym shaped.rows) l) }
