use Rattle.std.proofs.Common.{length, ap, arith}
use Rattle.rob_rules.proofs.Steps.TakenLemmas.{fault_found, room_behind, room_in_front, taken}
use Rattle.rob_rules.proofs.lines.Reader.judge_behind.Goals as goal

pub slice_bounds-more-start : goal.slice_bounds-more-start
slice_bounds-more-start c = omega (arith, c.requires.count, ap length c.items.ensures.list)

pub judge_all-requires : goal.judge_all-requires
judge_all-requires c = record {
  small = room_behind c.args.limit c.args.count c.args.self.now c.items.result.now c.items.ensures.list
      c.requires.small;
}

pub returns-in-Some : goal.returns-in-Some
returns-in-Some c = record {
  taken = fault_found c.args.limit c.args.count c.args.self.now c.items.result.now c.items.ensures.list
      c.in_ok-fault.fault c.in_ok-fault.ensures.fault c.in-Some.fault c.rule.result c.in-Some.is c.rule.ensures.rule;
}

pub catch_up-requires : goal.catch_up-requires
catch_up-requires c = record {
  small = room_in_front c.args.limit c.args.count c.args.self.now c.items.result.now c.items.ensures.list
      c.requires.small c.requires.front;
}

pub returns : goal.returns
returns c = record {
  taken = taken c.args.limit c.args.count c.args.self.now c.items.result.now c.items.ensures.list
      c.in_ok-fault.fault c.in_ok-fault.ensures.fault c.in_default.is c.judge_all.new.scope c.catch_up.new.front
      c.deref_mut.result.now c.catch_up.new.declared c.in_ok-fault.ensures.noted c.catch_up.ensures.front
      c.deref_mut.ensures.value c.catch_up.ensures.declared;
}
