use Rattle.std.proofs.Common.{◌++◌, List, ℕ, sym, ap, ◌∙◌}
use Rattle.std.specs.Prelude.{option_map}
use Rattle.rob_case.specs.Texts.{spelled}
use Rattle.rob_case.proofs.StepLemmas.{grows}
use Rattle.rob_case.proofs.text.unescape.Goals as goal

pub loop-rest-preserved : goal.loop-rest-preserved
loop-rest-preserved c =
    let behind = spelled c.in_ok-byte.behind.now in
    ap (λ (done : List ℕ). option_map (λ more. done ++ more) behind) c.in_ok-push.ensures.items
    ∙ grows c.loop-rest.bytes.items c.in_ok-byte.byte behind
    ∙ ap (option_map (λ more. c.loop-rest.bytes.items ++ more)) (sym c.in_ok-byte.ensures.spelled)
    ∙ c.loop-rest.invariant
