use Rattle.std.proofs.Common.{ap, ◌∙◌}
use Rattle.rob_algebra.specs.Fraction.{◌+ℚ◌, ◌*ℚ◌}
use Rattle.rob_meaning.specs.Coefficients.{single}
use Rattle.rob_sets.specs.Tables.{numbers_of}
use Rattle.rob_sets.proofs.WholeRows.BoundLemmas.{bound_row, first_number, no_constant}
use Rattle.rob_sets.proofs.bound.bound_table.Goals as goal

pub put-requires-2 : goal.put-requires-2
put-requires-2 g c =
    record {
      absent = first_number c.args.parameter (g.N.Exact.value c.signed.result)
          (numbers_of g.N.Exact.value c.new-table.result) (numbers_of g.N.Exact.value c.put.new.self)
          c.new-table.ensures.zero c.in_ok-put.ensures.put 0 0
          ∙ no_constant c.args.parameter (g.N.Exact.value c.signed.result);
    }

pub returns-clause-row : goal.returns-clause-row
returns-clause-row g c =
    let value = g.N.Exact.value in
    bound_row c.args.lower c.args.parameter (value c.args.bound) (value c.one-unit.result) (value c.signed.result)
    (value c.signed-2.result)
    (numbers_of value c.put-2.new.self) c.one-unit.ensures.value c.signed.ensures.value c.signed-2.ensures.value
    (λ k j. c.in_ok-put-2.ensures.put k j
    ∙ ap (λ u. u +ℚ value c.signed-2.result *ℚ single 0 0 k j)
    (first_number c.args.parameter (value c.signed.result) (numbers_of value c.new-table.result)
    (numbers_of value c.put.new.self)
    c.new-table.ensures.zero c.in_ok-put.ensures.put k j))
