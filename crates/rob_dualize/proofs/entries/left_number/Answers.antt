use Rattle.std.proofs.Common.{rules, ◌≡◌, ◌<◌, length, arith, get_or}
use lib.IntN.{pos}
use Rattle.rob_counterpart.specs.Counterpart.{cell}
use Rattle.rob_dualize.specs.SetProgram.{left_sides}
use Rattle.rob_dualize.proofs.EntryLemmas.{seen_as, small_as, left_count, left_number_is}
use Rattle.rob_dualize.proofs.entries.left_number.Goals as goal

pub bounds-items-c : goal.bounds-items-c
bounds-items-c c =
    let n : length c.items-2.result.now ≡ c.args.set.now.columns =
    left_count c.args.set.now c.requires.sound c.args.r c.requires.row_in c.items.result.now c.index-items-r.result
    c.items-2.result.now c.items.ensures.list c.index-items-r.is c.items-2.ensures.list in
    omega (arith, c.requires.column_in)

pub returns-clause-number : goal.returns-clause-number
returns-clause-number c =
    seen_as (get_or c.items-2.result.now c.args.c (pos 0)) (cell (left_sides c.args.set.now.rows) c.args.r c.args.c)
    (left_number_is c.args.set.now c.requires.sound c.args.r c.requires.row_in c.items.result.now
    c.index-items-r.result c.items-2.result.now c.items.ensures.list c.index-items-r.is c.items-2.ensures.list c.args.c)
    (c.requires.sound.small_left c.args.r c.args.c)

pub returns-clause-small : goal.returns-clause-small
returns-clause-small c =
    small_as (get_or c.items-2.result.now c.args.c (pos 0)) (cell (left_sides c.args.set.now.rows) c.args.r c.args.c)
    (left_number_is c.args.set.now c.requires.sound c.args.r c.requires.row_in c.items.result.now
    c.index-items-r.result c.items-2.result.now c.items.ensures.list c.index-items-r.is c.items-2.ensures.list c.args.c)
    (c.requires.sound.small_left c.args.r c.args.c)

pub offset_bounds-items-c : goal.offset_bounds-items-c
offset_bounds-items-c c =
    let n : length c.items-2.result.now ≡ c.args.set.now.columns =
    left_count c.args.set.now c.requires.sound c.args.r c.requires.row_in c.items.result.now c.index-items-r.result
    c.items-2.result.now c.items.ensures.list c.index-items-r.is c.items-2.ensures.list in
    let k : c.args.c < length c.items-2.result.now = omega (arith, c.requires.column_in) in
    search rules
