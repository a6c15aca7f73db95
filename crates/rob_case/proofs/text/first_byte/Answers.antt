use Rattle.std.proofs.Common.{arith, refl}
use Rattle.rob_case.proofs.SpellingLemmas.{high_unspelled, line_told, low_unspelled, mark_unspelled, pair_spelled}
use Rattle.rob_case.proofs.text.first_byte.Goals as goal

pub returns-in_ok-hex-in-92-2-clause-spelled : goal.returns-in_ok-hex-in-92-2-clause-spelled
returns-in_ok-hex-in-92-2-clause-spelled c =
    pair_spelled c.args.text.now _ _ c.in-92.len_at_least (omega arith) c.in_ok-hex-in-92.ensures.value
    c.in_ok-hex-in-92-2.ensures.value

pub returns-in_err-hex-in-92-clause-spelled : goal.returns-in_err-hex-in-92-clause-spelled
returns-in_err-hex-in-92-clause-spelled c =
    line_told _ _ _ c.from_residual.ensures.1 c.in_err-hex-in-92.ensures.value.0
    (high_unspelled c.args.text.now c.in-92.len_at_least (omega arith) c.in_err-hex-in-92.ensures.value.1)

pub returns-in_err-hex-in-92-2-clause-spelled : goal.returns-in_err-hex-in-92-2-clause-spelled
returns-in_err-hex-in-92-2-clause-spelled c =
    line_told _ _ _ c.from_residual-in_err-hex-in-92-2.ensures.1 c.in_err-hex-in-92-2.ensures.value.0
    (low_unspelled c.args.text.now _ c.in-92.len_at_least (omega arith) c.in_ok-hex-in-92.ensures.value
    c.in_err-hex-in-92-2.ensures.value.1)

pub returns-in-92-2-clause-spelled : goal.returns-in-92-2-clause-spelled
returns-in-92-2-clause-spelled c =
    (refl, mark_unspelled c.args.text.now c.in-92-2.len_at_least c.in-92-2.len_below (omega arith))
