use Rattle.std.proofs.Common.{◌∙◌, ◌-◌, sym, take, length}
use Rattle.rob_ranges.proofs.NestLemmas.{as_well, last_apart, dead_none, dead_here, dead_outer}
use Rattle.rob_ranges.proofs.reach.+is_dead.Goals as goal

pub returns-in-empty : goal.returns-in-empty
returns-in-empty t c = record { dead = dead_none c.args.values.now c.args.ranges.now c.in-empty.len_below }

pub returns-then-branch : goal.returns-then-branch
returns-then-branch t c =
    let around = take (length c.args.ranges.now - 1) c.args.ranges.now in
    let apart =
    last_apart c.args.ranges.now c.innermost-item.result c.in-len1-up.len_at_least c.innermost-item.is in
    record {
      dead =
          dead_here c.args.values.now c.args.ranges.now around c.innermost-item.result apart
          (sym c.in_ok-never_runs-in-len1-up.ensures.dead ∙ c.if-branch.true);
    }

pub returns-else-branch : goal.returns-else-branch
returns-else-branch t c =
    let around = take (length c.args.ranges.now - 1) c.args.ranges.now in
    let apart =
    last_apart c.args.ranges.now c.innermost-item.result c.in-len1-up.len_at_least c.innermost-item.is in
    record {
      dead =
          as_well c.is_dead.result
          (dead_outer c.args.values.now c.args.ranges.now around c.innermost-item.result apart
          (sym c.in_ok-never_runs-in-len1-up.ensures.dead ∙ c.if-branch.false))
          c.is_dead.ensures.dead;
    }
