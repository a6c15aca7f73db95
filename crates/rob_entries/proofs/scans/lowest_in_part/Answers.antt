use Rattle.rob_entries.proofs.MarkScans.{off_in_part}
use Rattle.rob_entries.proofs.scans.lowest_in_part.Goals as goal

pub returns-else-has_some-clause-floor : goal.returns-else-has_some-clause-floor
returns-else-has_some-clause-floor c k low high nl nr =
    off_in_part c.args.marks.now c.args.from 16 c.requires.marks_in (c.has_some.ensures.none c.if-has_some.false) k low
    high
