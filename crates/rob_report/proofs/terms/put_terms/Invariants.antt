use Rattle.std.proofs.Common.{◌≡◌, ◌++◌, drop, length}
use Rattle.rob_report.specs.Rows.{terms_text}
use Rattle.rob_report.proofs.terms.put_terms.Given as goal

abbrev pub invariant-loop-number : goal.invariant-loop-number
invariant-loop-number l =
    l.out ++ terms_text l.front (drop (length l.yielded) l.numbers) (drop (length l.yielded) l.columns)
    ≡ l.fn.out ++ terms_text l.front l.numbers l.columns
