use Rattle.std.proofs.Common.{rules}
use Rattle.std.proofs.lemmas.Int.{to_z-of_z}
use mir.Syntax.{w64}
use mir.Val.{SFits, to_z, of_z}
use Rattle.rob_settings.proofs.LiveLemmas.{behind_enough, behind_least}
use Rattle.rob_settings.proofs.live.small_behind.Goals as goal

pub returns-clause-enough : goal.returns-clause-enough
returns-clause-enough c =
    let ff : SFits w64 c.args.from = search rules in
    let fs : SFits w64 c.in_ok-steps.steps = search rules in
    let fl : SFits w64 c.args.lack = search rules in
    let fd : SFits w64 c.args.step = search rules in
    behind_enough c.args.from c.in_ok-steps.steps (to_z w64 (of_z w64 c.args.from))
    (to_z w64 (of_z w64 c.in_ok-steps.steps)) (to_z-of_z w64 c.args.from ff) (to_z-of_z w64 c.in_ok-steps.steps fs)
    c.checked_add.result _ c.args.lack c.args.step (to_z w64 (of_z w64 c.args.lack)) (to_z w64 (of_z w64 c.args.step))
    c.checked_add.ensures (to_z-of_z w64 c.args.lack fl) (to_z-of_z w64 c.args.step fd) c.in_ok-steps.ensures.enough

pub returns-clause-least : goal.returns-clause-least
returns-clause-least c =
    let ff : SFits w64 c.args.from = search rules in
    let fs : SFits w64 c.in_ok-steps.steps = search rules in
    let fl : SFits w64 c.args.lack = search rules in
    let fd : SFits w64 c.args.step = search rules in
    behind_least c.args.from c.in_ok-steps.steps (to_z w64 (of_z w64 c.args.from))
    (to_z w64 (of_z w64 c.in_ok-steps.steps)) (to_z-of_z w64 c.args.from ff) (to_z-of_z w64 c.in_ok-steps.steps fs)
    c.checked_add.result _ c.args.lack c.args.step (to_z w64 (of_z w64 c.args.lack)) (to_z w64 (of_z w64 c.args.step))
    c.checked_add.ensures (to_z-of_z w64 c.args.lack fl) (to_z-of_z w64 c.args.step fd) c.in_ok-steps.ensures.least
