use Rattle.rob_case.proofs.NumberLemmas.{small_read, small_unread}
use Rattle.rob_case.proofs.numbers.small.Goals as goal

pub returns-in-Ok : goal.returns-in-Ok
returns-in-Ok c = record { small = small_read c.args.word.now _ c.in-Ok.ensures.value.0.0 c.in-Ok.ensures.value.0.1 }

pub returns-in-Err : goal.returns-in-Err
returns-in-Err c = record { small = (λ _. small_unread c.args.word.now c.in-Err.ensures.value.0, λ e. cc) }
