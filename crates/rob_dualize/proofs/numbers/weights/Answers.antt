use Rattle.std.proofs.Common.{◌≤◌, ℤ, nat_abs, refl, subst, sym, ◌∙◌, arith}
use Rattle.rob_meaning.proofs.Lists.TabulateLemmas.{item_more}
use Rattle.rob_simplex.specs.Solutions.{weights_of}
use Rattle.rob_dualize.proofs.EntryLemmas.{seen_same}
use Rattle.rob_dualize.proofs.TabulateLemmas.{within_more}
use Rattle.rob_dualize.proofs.numbers.weights.Goals as goal

pub loop-i-preserved : goal.loop-i-preserved
loop-i-preserved g c =
    let seen = seen_same c.farkas.result c.farkas.result refl
    (omega (arith, c.farkas.ensures.within, g.met.N.Exact.limit_high)) in
    record {
      told = item_more (weights_of c.args.solver.now) c.loop-i.numbers _ c.loop-i.i c.in_ok-push.ensures.appended
          (seen ∙ c.farkas.ensures.weight) c.loop-i.invariant.told;
      within = within_more g.N.Exact.limit c.loop-i.numbers c.push.new.self _ c.loop-i.invariant.within
          c.in_ok-push.ensures.appended
          (subst (λ (v : ℤ). nat_abs v ≤ g.N.Exact.limit) (sym seen) c.farkas.ensures.within);
    }
