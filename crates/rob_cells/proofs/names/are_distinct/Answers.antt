use Rattle.std.proofs.Common.{◌∙◌}
use Rattle.rob_cells.proofs.DistinctLemmas.{found, none_left, noted, was_new, was_seen}
use Rattle.rob_cells.proofs.names.are_distinct.Goals as goal

pub returns-then-not-branch : goal.returns-then-not-branch
returns-then-not-branch c = record {
  test = found c.args.names.now c.loop-name.name-index c.loop-name.seen.keys c.loop-name.invariant
      c.name-item.result c.in_ok-key.key
      c.loop-name-test.true c.name-item.is (c.in_ok-key.ensures.items ∙ c.bytes.ensures.list)
      (was_seen _ c.in_ok-insert.field-0 c.in_ok-insert.ensures.added c.if-not-branch.true);
}

pub loop-name-preserved : goal.loop-name-preserved
loop-name-preserved c =
    noted c.args.names.now c.loop-name.name-index c.loop-name.seen.keys c.loop-name.invariant
    c.name-item.result c.in_ok-key.key
    c.loop-name-test.true c.name-item.is (c.in_ok-key.ensures.items ∙ c.bytes.ensures.list) c.insert.new.self.keys
    (was_new _ c.in_ok-insert.field-0 c.in_ok-insert.ensures.added c.if-not-branch.false) c.in_ok-insert.ensures.keys

pub returns : goal.returns
returns c = record {
  test = none_left c.args.names.now c.loop-name.name-index c.loop-name.seen.keys
      c.loop-name.invariant c.loop-name-test.false;
}
