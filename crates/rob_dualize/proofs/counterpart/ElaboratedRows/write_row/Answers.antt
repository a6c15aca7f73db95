use Rattle.std.proofs.Common.{◌∙◌, ◌+◌, ◌*◌, ◌/◌, ◌%◌, sym, arith, to_z, of_z, w64}
use Rattle.rob_counterpart.specs.Reform.{right_entry}
use Rattle.rob_dualize.specs.Wholes.{wholes, counterpart_of}
use Rattle.rob_dualize.proofs.EntryLemmas.{seen_same}
use Rattle.rob_dualize.proofs.ToldLemmas.{told_columns, form_in, told_row, told_right}
use Rattle.rob_dualize.proofs.counterpart.ElaboratedRows.write_row.Goals as goal

pub write_form_row-requires-clause-form_in : goal.write_form_row-requires-clause-form_in
write_form_row-requires-clause-form_in c =
    form_in (wholes c.args.self.now.forms.now c.args.self.now.set.now) c.args.i
    (2 * c.args.self.now.set.now.columns + 1) (omega arith) c.requires.inside

pub write_form_row-requires-clause-size : goal.write_form_row-requires-clause-size
write_form_row-requires-clause-size c = c.requires.size ∙ sym
    (told_columns (counterpart_of c.args.self.now.forms.now c.args.self.now.set.now))

pub right_number-requires-clause-form_in : goal.right_number-requires-clause-form_in
right_number-requires-clause-form_in c =
    form_in (wholes c.args.self.now.forms.now c.args.self.now.set.now) c.args.i
    (2 * c.args.self.now.set.now.columns + 1) (omega arith) c.requires.inside

pub returns-clause-numbers : goal.returns-clause-numbers
returns-clause-numbers c =
    told_row (wholes c.args.self.now.forms.now c.args.self.now.set.now) c.args.i
    (2 * c.args.self.now.set.now.columns + 1) (omega arith) c.requires.inside
    c.write_form_row.new.numbers c.write_form_row.ensures.row

pub returns-clause-right : goal.returns-clause-right
returns-clause-right c =
    told_right (wholes c.args.self.now.forms.now c.args.self.now.set.now) c.args.i
    (2 * c.args.self.now.set.now.columns + 1) (omega arith) c.requires.inside
    (to_z w64 (of_z w64 c.right_number.result))
    (seen_same c.right_number.result
    (right_entry (wholes c.args.self.now.forms.now c.args.self.now.set.now)
    (c.args.i / (2 * c.args.self.now.set.now.columns + 1)) (c.args.i % (2 * c.args.self.now.set.now.columns + 1)))
    c.right_number.ensures.number c.right_number.ensures.small)
