use Rattle.std.proofs.Common.{arith, ap, ap₂, sym, ◌∙◌, add-one}
use Rattle.std.specs.Prelude.{◌≡◌, ◌+◌, suc, length}
use Rattle.rob_algebra.specs.Fraction.{◌+ℚ◌, ◌*ℚ◌}
use Rattle.rob_algebra.specs.FractionLaws.{ℚ-one-mul}
use Rattle.rob_meaning.specs.Coefficients.{single}
use Rattle.rob_sets.specs.Tables.{numbers_of}
use Rattle.rob_sets.proofs.WholeRows.BudgetLemmas.{lifts_from, lifts-more, lifts-later, lifts-constant, sum_row}
use Rattle.rob_sets.proofs.budget.budget_table.Goals as goal

pub put-requires : goal.put-requires
put-requires g c =
    record {
      absent = c.loop-i.invariant 0 (c.args.lift + c.loop-i.i + 1)
          ∙ ap (lifts_from c.args.lift c.loop-i.i 0) (add-one (c.args.lift + c.loop-i.i))
          ∙ lifts-later c.args.lift c.loop-i.i (c.args.lift + c.loop-i.i) (omega arith);
    }

pub loop-i-preserved : goal.loop-i-preserved
loop-i-preserved g c k j =
    let value = g.N.Exact.value in
    c.in_ok-put.ensures.put k j
    ∙ ap₂ ◌+ℚ◌ (c.loop-i.invariant k j)
    (ap₂ (λ u n. u *ℚ single 0 n k j) c.one-unit.ensures.value (add-one (c.args.lift + c.loop-i.i))
    ∙ ℚ-one-mul (single 0 (suc (c.args.lift + c.loop-i.i)) k j))
    ∙ sym (lifts-more c.args.lift c.loop-i.i k j)

pub put-requires-2 : goal.put-requires-2
put-requires-2 g c = record { absent = c.loop-i.invariant 0 0 ∙ lifts-constant c.args.lift c.loop-i.i 0 }

pub returns-clause-row : goal.returns-clause-row
returns-clause-row g c hs many =
    let value = g.N.Exact.value in
    let all : c.loop-i.i ≡ length hs = omega (arith, c.loop-i-test.false, c.loop-i.auto.i-end, many) in
    sum_row c.args.lift (value c.args.limit) (value c.neg.result) hs
    (numbers_of value c.put-2.new.self) c.neg.ensures.negation
    (λ k j. c.in_ok-put-2.ensures.put k j
    ∙ ap (λ u. u +ℚ value c.neg.result *ℚ single 0 0 k j)
    (c.loop-i.invariant k j ∙ ap (λ n. lifts_from c.args.lift n k j) all))
