use Rattle.std.proofs.Common.{◌≡◌, ◌+◌, ◌*◌, ap, ◌∙◌, arith, length, inl, inr}
use Rattle.rob_counterpart.specs.RobustProgram.{RobustProgram}
use Rattle.rob_counterpart.specs.Reform.{pairs, row_entry}
use Rattle.rob_dualize.specs.Wholes.{wholes}
use Rattle.rob_dualize.proofs.EntryLemmas.{seen_same, inside_row, outside_row}
use Rattle.rob_dualize.proofs.entries.row_number.Goals as goal
use Rattle.rob_dualize.proofs.entries.row_number.Goals.{then-k-first-via-then-k-first, then-k-first-via-else-k-first+then-first-rows}

pub returns-then-k-first-clause-number : goal.returns-then-k-first-clause-number
returns-then-k-first-clause-number c =
    let d : RobustProgram = wholes c.args.model.forms.now c.args.model.set.now in
    let plan : 2 * (c.args.model.forms.now.columns + 1) ≡ pairs (wholes c.args.model.forms.now c.args.model.set.now) =
    omega arith in
    let count : length c.items-rows.result.now ≡ length c.args.model.set.now.rows =
    ap length c.items-rows.ensures.list in
    outside_row d c.args.i c.args.p c.args.k (2 * (c.args.model.forms.now.columns + 1))
    (length c.items-rows.result.now) plan count c.if-k-plan.false c.requires.column_in
    (elim c.then-k-first.branch [
      | then-k-first-via-then-k-first w ↦ inl w.if-k-first.true
      | then-k-first-via-else-k-first+then-first-rows w ↦ inr w.if-first-rows.true
    ])

pub returns-clause-number : goal.returns-clause-number
returns-clause-number c =
    let d : RobustProgram = wholes c.args.model.forms.now c.args.model.set.now in
    let plan : 2 * (c.args.model.forms.now.columns + 1) ≡ pairs (wholes c.args.model.forms.now c.args.model.set.now) =
    omega arith in
    let count : length c.items-rows.result.now ≡ length c.args.model.set.now.rows =
    ap length c.items-rows.ensures.list in
    seen_same c.multiplier_number.result (row_entry d c.args.i c.args.p c.args.k)
    (c.multiplier_number.ensures.number
    ∙ inside_row d c.args.i c.args.p c.args.k (2 * (c.args.model.forms.now.columns + 1))
    (length c.items-rows.result.now) plan count c.if-k-first.false c.if-first-rows.false)
    c.multiplier_number.ensures.small
