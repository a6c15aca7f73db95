use Rattle.std.proofs.Common.{◌≡◌, ◌≤◌, ◌-◌, ◌^◌, suc, ap, ◌∙◌, subst, sym, arith, to_z, of_z, w64, get_or}
use lib.IntN.{pos, nat_abs}
use Rattle.rob_linear.specs.Vectors.{sum_to}
use Rattle.rob_worst.specs.Costs.{product_at}
use Rattle.rob_worst.proofs.CostLemmas.{held, held_small, sum_next, prefix_wide}
use Rattle.rob_worst.proofs.cost.part.Goals as goal

pub bounds-whole-j : goal.bounds-whole-j
bounds-whole-j g c = omega (arith, c.requires.size, c.loop-j-test.true)

pub added-requires-clause-sum : goal.added-requires-clause-sum
added-requires-clause-sum g c = omega (arith, c.loop-j.invariant.within, g.met.N.Exact.limit_high)

pub added-requires-clause-right : goal.added-requires-clause-right
added-requires-clause-right g c =
    let h : nat_abs (get_or c.args.whole.now c.loop-j.j (pos 0)) ≤ 2 ^ 62 - 1 =
    held_small g.N.Exact.limit c.args.whole.now c.loop-j.j g.met.N.Exact.limit_high c.requires.fits
    (omega (arith, c.requires.size, c.loop-j-test.true)) in
    subst (λ v. nat_abs v ≤ 2 ^ 62 - 1) (sym (held (get_or c.args.whole.now c.loop-j.j (pos 0)) h)) h

pub returns-in-None : goal.returns-in-None
returns-in-None g c =
    let h : nat_abs (get_or c.args.whole.now c.loop-j.j (pos 0)) ≤ 2 ^ 62 - 1 =
    held_small g.N.Exact.limit c.args.whole.now c.loop-j.j g.met.N.Exact.limit_high c.requires.fits
    (omega (arith, c.requires.size, c.loop-j-test.true)) in
    record {
      number = prefix_wide c.args.forms.now c.args.i c.args.whole.now g.N.Exact.limit c.args.k c.loop-j.j
          (to_z w64 c.loop-j.sum-bits) (to_z w64 (of_z w64 c.form_number.result))
          (to_z w64 (of_z w64 (get_or c.args.whole.now c.loop-j.j (pos 0))))
          (omega (arith, c.loop-j-test.true)) c.loop-j.invariant.sum
          (held c.form_number.result c.form_number.ensures.small ∙ c.form_number.ensures.number)
          (held (get_or c.args.whole.now c.loop-j.j (pos 0)) h) c.in-None.ensures.sum;
    }

pub loop-j-preserved : goal.loop-j-preserved
loop-j-preserved g c =
    let h : nat_abs (get_or c.args.whole.now c.loop-j.j (pos 0)) ≤ 2 ^ 62 - 1 =
    held_small g.N.Exact.limit c.args.whole.now c.loop-j.j g.met.N.Exact.limit_high c.requires.fits
    (omega (arith, c.requires.size, c.loop-j-test.true)) in
    let n : nat_abs c.in-Some.next ≤ 2 ^ 62 - 1 = omega (arith, c.in-Some.ensures.sum.1, g.met.N.Exact.limit_high) in
    record {
      sum = held c.in-Some.next n ∙ sum_next c.args.forms.now c.args.i c.args.whole.now c.args.k c.loop-j.j
          (to_z w64 c.loop-j.sum-bits) (to_z w64 (of_z w64 c.form_number.result))
          (to_z w64 (of_z w64 (get_or c.args.whole.now c.loop-j.j (pos 0)))) c.in-Some.next
          c.loop-j.invariant.sum (held c.form_number.result c.form_number.ensures.small
          ∙ c.form_number.ensures.number) (held (get_or c.args.whole.now c.loop-j.j (pos 0)) h) c.in-Some.ensures.sum.0;
      within = subst (λ v. nat_abs v ≤ g.N.Exact.limit) (sym (held c.in-Some.next n)) c.in-Some.ensures.sum.1;
    }

pub returns : goal.returns
returns g c =
    let e : c.loop-j.j ≡ suc (suc c.args.forms.now.columns) = omega (arith, c.loop-j-test.false, c.loop-j.auto.j-end) in
    record {
      number = (
        c.loop-j.invariant.sum ∙ ap (λ n. sum_to n
            (product_at c.args.forms.now c.args.i c.args.k c.args.whole.now)) e,
        c.loop-j.invariant.within,
      );
    }
