use Rattle.std.proofs.Common.{ap, ◌∙◌, subst, sym, refl, arith, ◌≤◌}
use lib.IntN.{ℤ, nat_abs}
use Rattle.rob_algebra.specs.Fraction.{of_int}
use Rattle.rob_simplex.specs.Solutions.{weights_of}
use Rattle.rob_dualize.proofs.EntryLemmas.{seen_same}
use Rattle.rob_dualize.proofs.TabulateLemmas.{row_more}
use Rattle.rob_dualize.proofs.numbers.exact_weights.Goals as goal

pub whole-requires : goal.whole-requires
whole-requires g c = record {
  within = subst (λ (v : ℤ). nat_abs v ≤ g.N.Exact.limit) (sym
      (seen_same c.farkas.result c.farkas.result refl
      (omega (arith, c.farkas.ensures.within, g.met.N.Exact.limit_high)))) c.farkas.ensures.within;
}

pub loop-i-preserved : goal.loop-i-preserved
loop-i-preserved g c =
    row_more g.N.Exact.value c.loop-i.numbers c.push.new.self c.whole.result c.loop-i.i
    (λ i. of_int (weights_of c.args.solver.now i)) c.loop-i.invariant c.in_ok-push.ensures.appended
    (c.whole.ensures.value
    ∙ ap of_int (seen_same c.farkas.result (weights_of c.args.solver.now c.loop-i.i) c.farkas.ensures.weight
    (omega (arith, c.farkas.ensures.within, g.met.N.Exact.limit_high))))
