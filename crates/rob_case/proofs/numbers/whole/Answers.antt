use Rattle.std.proofs.Common.{ap, sym, ◌∙◌, subst, Some, w64, FitsSigned}
use Rattle.std.proofs.Math.Facts.{to_z-of_z}
use Rattle.rob_case.proofs.NumberLemmas.{whole_read, whole_unread}
use Rattle.rob_case.proofs.numbers.whole.Goals as goal

pub returns-in-Ok : goal.returns-in-Ok
returns-in-Ok c =
    let read = c.in-Ok.ensures.value.0 in
    let fits : FitsSigned w64 c.in-Ok.number = subst (λ z. FitsSigned w64 z) (sym read.1) read.0.1 in
    record { whole = whole_read c.args.word.now _ read.0 read.1 ∙ ap Some (sym (to_z-of_z fits)) }

pub returns-in-Err : goal.returns-in-Err
returns-in-Err c = record { whole = (λ _. whole_unread c.args.word.now c.in-Err.ensures.value.0, λ e. cc) }
