use Rattle.std.proofs.Common.{◌++◌, ◌∷◌, [], ap, sym, ◌∙◌, Some, List, ℕ}
use Rattle.std.specs.Prelude.{option_map}
use Rattle.rob_case.specs.Cases.{line_bytes}
use Rattle.rob_case.specs.Texts.{spelled}
use Rattle.rob_case.proofs.AnswerLemmas.{explains_whole, raised}
use Rattle.rob_case.proofs.StepLemmas.{none_from, one_line}
use Rattle.rob_case.proofs.bytes.append_line.Goals as goal

pub returns-in_err-unescape : goal.returns-in_err-unescape
returns-in_err-unescape c =
    let on : List ℕ → List ℕ = λ more. c.args.bytes.now.items ++ more in
    let text = c.as_bytes.result.now in
    record {
      appended = raised _ _ _ _ c.from_residual.ensures.1
          (explains_whole (option_map on (spelled text)) (option_map on (line_bytes c.args.text.now)) _
          (λ none. ap (λ t. option_map on (line_bytes t)) (sym c.as_bytes.ensures.value)
          ∙ ap (λ bytes. option_map on (option_map (λ more. more ++ 10 ∷ []) bytes)) (none_from on (spelled text) none))
          c.in_err-unescape.ensures.appended);
    }

pub returns : goal.returns
returns c =
    let on : List ℕ → List ℕ = λ more. c.args.bytes.now.items ++ more in
    record {
      appended = ap (λ t. option_map on (line_bytes t)) (sym c.as_bytes.ensures.value)
          ∙ one_line c.args.bytes.now.items _ (spelled c.as_bytes.result.now) c.in_ok-unescape.ensures.appended
          ∙ ap Some (sym c.in_ok-push.ensures.items);
    }
