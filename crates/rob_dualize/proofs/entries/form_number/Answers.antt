use Rattle.std.proofs.Common.{rules, ◌≡◌, ◌<◌, suc, length, arith}
use lib.IntN.{pos}
use Rattle.std.proofs.Common.{[]}
use Rattle.std.proofs.Common.{get_or}
use Rattle.rob_meaning.specs.Forms.{matrix_at}
use Rattle.rob_counterpart.specs.Counterpart.{cell}
use Rattle.rob_dualize.proofs.EntryLemmas.{seen_as, small_as, rows_count, numbers_count, form_number_is}
use Rattle.rob_dualize.proofs.entries.form_number.Goals as goal

pub bounds-items-k : goal.bounds-items-k
bounds-items-k c =
    let n : length c.items-2.result.now ≡ suc c.args.forms.now.params =
    rows_count c.args.forms.now c.requires.sound c.args.i c.args.k c.requires.form_in c.requires.row_in
    c.items.result.now c.index-items-i.result c.items-2.result.now [] [] c.items.ensures.list c.index-items-i.is
    c.items-2.ensures.list in
    omega (arith, c.requires.row_in)

pub bounds-items-j : goal.bounds-items-j
bounds-items-j c =
    let n : length c.items-3.result.now ≡ suc (suc c.args.forms.now.columns) =
    numbers_count c.args.forms.now c.requires.sound c.args.i c.args.k c.requires.form_in c.requires.row_in
    c.items.result.now c.index-items-i.result c.items-2.result.now c.index-items-k.result c.items-3.result.now
    c.items.ensures.list c.index-items-i.is c.items-2.ensures.list c.index-items-k.is c.items-3.ensures.list in
    omega (arith, c.requires.column_in)

pub returns-clause-number : goal.returns-clause-number
returns-clause-number c =
    seen_as (get_or c.items-3.result.now c.args.j (pos 0)) (cell (matrix_at c.args.forms.now.matrices c.args.i)
    c.args.k c.args.j)
    (form_number_is c.args.forms.now c.requires.sound c.args.i c.args.k c.requires.form_in c.requires.row_in
    c.items.result.now c.index-items-i.result c.items-2.result.now c.index-items-k.result c.items-3.result.now
    c.items.ensures.list c.index-items-i.is c.items-2.ensures.list c.index-items-k.is c.items-3.ensures.list c.args.j)
    (c.requires.sound.small c.args.i c.args.k c.args.j)

pub returns-clause-small : goal.returns-clause-small
returns-clause-small c =
    small_as (get_or c.items-3.result.now c.args.j (pos 0)) (cell (matrix_at c.args.forms.now.matrices c.args.i)
    c.args.k c.args.j)
    (form_number_is c.args.forms.now c.requires.sound c.args.i c.args.k c.requires.form_in c.requires.row_in
    c.items.result.now c.index-items-i.result c.items-2.result.now c.index-items-k.result c.items-3.result.now
    c.items.ensures.list c.index-items-i.is c.items-2.ensures.list c.index-items-k.is c.items-3.ensures.list c.args.j)
    (c.requires.sound.small c.args.i c.args.k c.args.j)

pub offset_bounds-items-k : goal.offset_bounds-items-k
offset_bounds-items-k c =
    let n : length c.items-2.result.now ≡ suc c.args.forms.now.params =
    rows_count c.args.forms.now c.requires.sound c.args.i c.args.k c.requires.form_in c.requires.row_in
    c.items.result.now c.index-items-i.result c.items-2.result.now [] [] c.items.ensures.list c.index-items-i.is
    c.items-2.ensures.list in
    let k : c.args.k < length c.items-2.result.now = omega (arith, c.requires.row_in) in
    search rules

pub offset_bounds-items-j : goal.offset_bounds-items-j
offset_bounds-items-j c =
    let n : length c.items-3.result.now ≡ suc (suc c.args.forms.now.columns) =
    numbers_count c.args.forms.now c.requires.sound c.args.i c.args.k c.requires.form_in c.requires.row_in
    c.items.result.now c.index-items-i.result c.items-2.result.now c.index-items-k.result c.items-3.result.now
    c.items.ensures.list c.index-items-i.is c.items-2.ensures.list c.index-items-k.is c.items-3.ensures.list in
    let j : c.args.j < length c.items-3.result.now = omega (arith, c.requires.column_in) in
    search rules
