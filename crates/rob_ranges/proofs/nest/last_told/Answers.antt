use Rattle.std.proofs.Common.{false}
use Rattle.rob_ranges.specs.declared.nest.Told.{Told}
use Rattle.rob_ranges.proofs.NestLists.{last_at}
use Rattle.rob_ranges.proofs.nest.last_told.Goals as goal

pub returns-in-len1-up : goal.returns-in-len1-up
returns-in-len1-up c =
    let d : Told = record { runs = false; dead = false } in
    record { last = last_at c.args.told.now d c.in-len1-up.len_at_least }
