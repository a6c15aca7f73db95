use Rattle.std.proofs.Common.{[], get_or}
use Rattle.rob_linear.specs.Vectors.{at}
use Rattle.rob_dualize.specs.SetProgram.{right_sides}
use Rattle.rob_dualize.proofs.EntryLemmas.{seen_as, small_as, right_number_is}
use Rattle.rob_dualize.proofs.entries.right_side_number.Goals as goal

pub returns-clause-number : goal.returns-clause-number
returns-clause-number c =
    seen_as (get_or c.items.result.now c.args.r c.index-items-r.result).h
    (at (right_sides c.args.set.now.rows) c.args.r)
    (right_number_is c.args.set.now c.requires.sound c.args.r c.requires.row_in c.items.result.now
    c.index-items-r.result [] c.items.ensures.list c.index-items-r.is)
    (c.requires.sound.small_right c.args.r)

pub returns-clause-small : goal.returns-clause-small
returns-clause-small c =
    small_as (get_or c.items.result.now c.args.r c.index-items-r.result).h
    (at (right_sides c.args.set.now.rows) c.args.r)
    (right_number_is c.args.set.now c.requires.sound c.args.r c.requires.row_in c.items.result.now
    c.index-items-r.result [] c.items.ensures.list c.index-items-r.is)
    (c.requires.sound.small_right c.args.r)
