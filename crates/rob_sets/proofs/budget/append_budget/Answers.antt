use Rattle.std.proofs.Common.{arith, map}
use Rattle.std.proofs.lemmas.List.{length-map}
use Rattle.rob_model.specs.View.{member_of, robust}
use Rattle.rob_number.proofs.CountLemmas.{later}
use Rattle.rob_sets.proofs.WholeRows.BudgetSteps.{down_done, down_few, down_stops, member_few, members_begin, sum_ends, sum_few, up_few, up_stops}
use Rattle.rob_sets.proofs.budget.append_budget.Goals as goal

pub loop-member-init : goal.loop-member-init
loop-member-init g c = record {
  column = omega arith;
  so_far = members_begin;
  counted = record { ops = omega arith; wides = omega arith };
}

pub append_member-requires-clause-few : goal.append_member-requires-clause-few
append_member-requires-clause-few g c =
    up_few c.loop-member.invariant.so_far c.loop-member-test.true c.member-item.is c.requires.few

pub append_member-requires-clause-few_parameters : goal.append_member-requires-clause-few_parameters
append_member-requires-clause-few_parameters g c =
    member_few g.N.Exact.value (robust g.N.Exact.value c.args.model.now) c.args.budget.members.now
    c.loop-member.member-index c.member-item.result c.loop-member-test.true c.member-item.is c.requires.members
    c.requires.valid.limits.parameters

pub append_member-requires-in-loop-member-clause-few : goal.append_member-requires-in-loop-member-clause-few
append_member-requires-in-loop-member-clause-few g c =
    down_few c.loop-member.invariant.so_far c.loop-member-test.true c.member-item.is
    c.in_ok-append_member.ensures.row c.requires.few

pub append_member-requires-in-loop-member-clause-few_parameters :
    goal.append_member-requires-in-loop-member-clause-few_parameters
append_member-requires-in-loop-member-clause-few_parameters g c =
    member_few g.N.Exact.value (robust g.N.Exact.value c.args.model.now) c.args.budget.members.now
    c.loop-member.member-index c.member-item.result c.loop-member-test.true c.member-item.is c.requires.members
    c.requires.valid.limits.parameters

pub returns-in_err-append_member-clause-rows : goal.returns-in_err-append_member-clause-rows
returns-in_err-append_member-clause-rows g c =
    up_stops c.loop-member.invariant.so_far c.loop-member-test.true c.member-item.is c.append_member.new.rows
    (g.L.Ledger.wides c.args.ledger.now) c.from_residual.result c.loop-member.invariant.counted.wides
    c.in_err-append_member.ensures.row c.from_residual.ensures.1

pub returns-in_err-append_member-2-clause-rows : goal.returns-in_err-append_member-2-clause-rows
returns-in_err-append_member-2-clause-rows g c =
    down_stops c.loop-member.invariant.so_far c.loop-member-test.true c.member-item.is
    c.in_ok-append_member.ensures.row c.append_member-in-loop-member.new.rows (g.L.Ledger.wides c.args.ledger.now)
    c.from_residual-in_err-append_member-2.result
    (omega (arith, c.loop-member.invariant.counted.wides, c.append_member.ensures.counted.wides))
    c.in_err-append_member-2.ensures.row c.from_residual-in_err-append_member-2.ensures.1

pub loop-member-preserved : goal.loop-member-preserved
loop-member-preserved g c = record {
  column = omega (arith, c.loop-member.invariant.column);
  so_far = down_done c.loop-member.invariant.so_far c.loop-member-test.true c.member-item.is
      c.in_ok-append_member.ensures.row c.in_ok-append_member-2.ensures.row;
  counted = later (later c.loop-member.invariant.counted c.append_member.ensures.counted)
      c.append_member-in-loop-member.ensures.counted;
}

pub append_row-requires-clause-few : goal.append_row-requires-clause-few
append_row-requires-clause-few g c =
    sum_few c.loop-member.invariant.so_far c.loop-member-test.false c.requires.few

pub returns-clause-rows : goal.returns-clause-rows
returns-clause-rows g c =
    sum_ends c.loop-member.invariant.so_far c.loop-member-test.false _ c.append_row.new.rows
    (g.L.Ledger.wides c.args.ledger.now) (g.L.Ledger.wides c.budget_table.new.ledger)
    (g.L.Ledger.wides c.append_row.new.ledger) c.append_row.result
    (c.in_ok-table.ensures.row (map (member_of g.N.Exact.value) c.args.budget.members.now)
    (length-map c.args.budget.members.now (member_of g.N.Exact.value)))
    (omega (arith, c.loop-member.invariant.counted.wides, c.budget_table.ensures.counted.wides))
    c.append_row.ensures.row
