use Rattle.std.proofs.Common.{◌∷◌, ◌∙◌, ap, sym}
use Rattle.std.specs.Prelude.{ℤ, pos, ◌+ℤ◌}
use Rattle.rob_index.specs.Settings.{count, upwards}
use Rattle.rob_ranges.proofs.NestLemmas.{run_next}
use Rattle.rob_ranges.proofs.run.Run.next.Goals as goal

pub returns-in_ok-self-inside-clause-next : goal.returns-in_ok-self-inside-clause-next
returns-in_ok-self-inside-clause-next c =
    let after = c.in_ok-self-inside.field-0 in
    let last = c.self.inside.last in
    sym c.self.view_is
    ∙ run_next c.self.inside.next last after (sym c.in_ok-is_at_most.ensures.at_most ∙ c.if-branch.true)
    (c.in_ok-self-inside.ensures.next ∙ ap (λ (z : ℤ). z +ℤ pos 1) c.in_ok-value.ensures.same)
    ∙ ap (λ (z : ℤ). z ∷ upwards after (count after last)) (sym c.in_ok-value.ensures.same)
