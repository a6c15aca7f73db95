use Rattle.std.proofs.Common.{rules, ◌≡◌, ◌<◌, ◌+◌, ◌/◌, ◌^◌, suc, ap, ◌∙◌, arith, w64, to_z, of_z}
use lib.IntN.{pos, ◌-ℤ◌, neg_ℤ}
use Rattle.rob_number.proofs.CastLemmas.{negated_seen}
use Rattle.rob_counterpart.specs.RobustProgram.{RobustProgram, entry}
use Rattle.rob_counterpart.specs.Reform.{plan_entry}
use Rattle.rob_dualize.specs.Wholes.{wholes}
use Rattle.rob_dualize.proofs.EntryLemmas.{seen_same, plan_row}
use Rattle.rob_dualize.proofs.entries.plan_number.Goals as goal

pub overflow_add-j : goal.overflow_add-j
overflow_add-j c = let l : c.args.j + 1 < 2 ^ 32 = omega (arith, c.requires.few, c.requires.column_in) in search rules

pub overflow_add-j-else-p-model : goal.overflow_add-j-else-p-model
overflow_add-j-else-p-model c = let l : c.args.j + 1 < 2 ^ 32 = omega (arith, c.requires.few, c.requires.column_in) in
    search rules

pub returns-then-p-model-clause-number : goal.returns-then-p-model-clause-number
returns-then-p-model-clause-number c =
    let n : c.args.j + 1 ≡ suc c.args.j = omega arith in
    let d : RobustProgram = wholes c.args.model.forms.now c.args.model.set.now in
    seen_same c.signed_entry.result (plan_entry d c.args.i c.args.p c.args.j)
    (c.signed_entry.ensures.number
    ∙ plan_row d c.args.i c.args.p c.args.j (to_z w64 (of_z w64 (pos 0 -ℤ to_z w64 (of_z w64 c.entry.result))))
    (omega (arith, c.if-p-model.true))
    (negated_seen c.entry.result (omega (arith, c.entry.ensures.small))
    ∙ ap neg_ℤ (c.entry.ensures.number ∙ ap (entry d c.args.i (c.args.p / 2)) n)))
    c.signed_entry.ensures.small
