use Rattle.std.proofs.Common.{sym, ◌∙◌, rules}
use Rattle.rob_case.proofs.AnswerLemmas.{explains_whole, raised}
use Rattle.rob_case.proofs.WordLemmas.{wholes_more, wholes_stop}
use Rattle.rob_case.proofs.numbers.wholes.Goals as goal

pub returns-in_err-put_whole : goal.returns-in_err-put_whole
returns-in_err-put_whole c = record {
  wholes = raised _ _ _ _ c.from_residual.ensures.1
      (explains_whole _ _ _ (λ none. sym c.loop-left.invariant.1
      ∙ wholes_stop c.loop-left.left.now _ _ c.keyword.ensures.keyword c.keyword.ensures.rest _ none)
      c.in_err-put_whole.ensures.appended);
}

pub loop-left-preserved : goal.loop-left-preserved
loop-left-preserved c = (
  search rules,
  wholes_more c.loop-left.left.now _ _ c.keyword.ensures.keyword c.keyword.ensures.rest c.loop-left.numbers.items _
      c.in_ok-put_whole.ensures.appended ∙ c.loop-left.invariant.1,
)
