use Rattle.std.proofs.Common.{◌≡◌, ◌-◌, ◌^◌, ◌≤◌, IfOk, subst, sym, arith}
use Rattle.rob_meaning.specs.RobustModel.{RobustModel}
use Rattle.rob_number.specs.Lowest.{limit_of}
use Rattle.rob_top.proofs.Meaning.WorkLemmas.{limit_is}
use Rattle.rob_top.proofs.generating.print_model.Goals as goal
use Rattle.rob_commands.specs.Replies.{Replies}
use Rattle.rob_commands.specs.declared.ended.Ended.TheVariants.{Printed}
use Rattle.rob_words.specs.declared.width.Width.TheVariants.{SixtyTwo}
use Rattle.rob_write.specs.Canonical.{model_text}

pub generate-requires : goal.generate-requires
generate-requires g c =
    let e : limit_of 62 ≡ 2 ^ 62 - 1 = limit_is SixtyTwo in
    record { limit = subst (λ n. 14 ≤ n) (sym e) (omega arith) }

pub returns-clause-printed : goal.returns-clause-printed
returns-clause-printed g c =
    subst (λ (m : RobustModel). IfOk c.printed_model.result (Replies Printed (model_text m)))
    c.in_ok-model.ensures.model c.printed_model.ensures.printed
