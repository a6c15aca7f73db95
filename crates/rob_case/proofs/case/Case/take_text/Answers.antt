use Rattle.std.proofs.Common.{subst, List, ℕ}
use Rattle.rob_case.specs.Answers.{Appends}
use Rattle.rob_case.specs.Texts.{spelled}
use Rattle.rob_case.proofs.CaseLemmas.{with_more}
use Rattle.rob_case.proofs.case.Case.take_text.Goals as goal

pub returns : goal.returns
returns c = record {
  given = with_more _ _ c.self.view_is (spelled c.args.rest.now) c.unescape.new.bytes.items c.unescape.result
      (subst (λ (text : List ℕ).
      Appends c.self.inside.bytes.items (spelled text) c.unescape.new.bytes.items c.unescape.result)
      c.as_bytes.ensures.value c.unescape.ensures.appended);
}
