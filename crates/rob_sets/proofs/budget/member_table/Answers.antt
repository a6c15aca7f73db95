use Rattle.std.proofs.Common.{ap, ◌∙◌, ◌+◌}
use Rattle.rob_algebra.specs.Fraction.{◌+ℚ◌, ◌*ℚ◌}
use Rattle.rob_meaning.specs.Coefficients.{single}
use Rattle.rob_model.specs.View.{member_of}
use Rattle.rob_sets.specs.Tables.{numbers_of}
use Rattle.rob_sets.proofs.WholeRows.BoundLemmas.{member_row, first_number, second_number, no_lift, still_no_constant}
use Rattle.rob_sets.proofs.budget.member_table.Goals as goal

pub put-requires-2 : goal.put-requires-2
put-requires-2 g c =
    record {
      absent = first_number c.args.side.member.now.param (g.N.Exact.value c.signed.result)
          (numbers_of g.N.Exact.value c.new-table.result) (numbers_of g.N.Exact.value c.put.new.self)
          c.new-table.ensures.zero c.in_ok-put.ensures.put 0 (c.args.side.lift + 1)
          ∙ no_lift c.args.side.member.now.param c.args.side.lift (g.N.Exact.value c.signed.result);
    }

pub put-requires-3 : goal.put-requires-3
put-requires-3 g c =
    let value = g.N.Exact.value in
    record {
      absent = second_number c.args.side.member.now.param c.args.side.lift (value c.signed.result) (value c.neg.result)
          (numbers_of value c.put.new.self) (numbers_of value c.put-2.new.self)
          (first_number c.args.side.member.now.param (value c.signed.result) (numbers_of value c.new-table.result)
          (numbers_of value c.put.new.self)
          c.new-table.ensures.zero c.in_ok-put.ensures.put) c.in_ok-put-2.ensures.put 0 0
          ∙ still_no_constant c.args.side.member.now.param c.args.side.lift (value c.signed.result)
          (value c.neg.result);
    }

pub returns-clause-row : goal.returns-clause-row
returns-clause-row g c =
    let value = g.N.Exact.value in
    member_row c.args.side.up c.args.side.lift (member_of value c.args.side.member.now) (value c.one-unit.result)
    (value c.signed.result) (value c.neg.result) (value c.signed-2.result)
    (numbers_of value c.put-3.new.self) c.one-unit.ensures.value c.signed.ensures.value c.neg.ensures.negation
    c.signed-2.ensures.value
    (λ k j. c.in_ok-put-3.ensures.put k j
    ∙ ap (λ u. u +ℚ value c.signed-2.result *ℚ single 0 0 k j)
    (second_number c.args.side.member.now.param c.args.side.lift (value c.signed.result) (value c.neg.result)
    (numbers_of value c.put.new.self) (numbers_of value c.put-2.new.self)
    (first_number c.args.side.member.now.param (value c.signed.result) (numbers_of value c.new-table.result)
    (numbers_of value c.put.new.self)
    c.new-table.ensures.zero c.in_ok-put.ensures.put) c.in_ok-put-2.ensures.put k j))
