use Rattle.std.proofs.Common.{◌∙◌, ◌-◌, sym, take, length}
use Rattle.rob_ranges.proofs.NestLemmas.{as_well, last_apart, runs_none, runs_outer, runs_not}
use Rattle.rob_ranges.proofs.reach.+all_run.Goals as goal

pub returns-in-empty : goal.returns-in-empty
returns-in-empty t c = record { runs = runs_none c.args.values.now c.args.ranges.now c.in-empty.len_below }

pub returns-then-branch : goal.returns-then-branch
returns-then-branch t c =
    let around = take (length c.args.ranges.now - 1) c.args.ranges.now in
    let apart =
    last_apart c.args.ranges.now c.innermost-item.result c.in-len1-up.len_at_least c.innermost-item.is in
    record {
      runs =
          as_well c.all_run.result
          (runs_outer c.args.values.now c.args.ranges.now around c.innermost-item.result apart
          (sym c.in_ok-always_runs-in-len1-up.ensures.runs ∙ c.if-branch.true))
          c.all_run.ensures.runs;
    }

pub returns-else-branch : goal.returns-else-branch
returns-else-branch t c =
    let around = take (length c.args.ranges.now - 1) c.args.ranges.now in
    let apart =
    last_apart c.args.ranges.now c.innermost-item.result c.in-len1-up.len_at_least c.innermost-item.is in
    record {
      runs =
          runs_not c.args.values.now c.args.ranges.now around c.innermost-item.result apart
          (sym c.in_ok-always_runs-in-len1-up.ensures.runs ∙ c.if-branch.false);
    }
