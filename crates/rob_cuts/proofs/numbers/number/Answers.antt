use Rattle.std.proofs.Common.{◌≡◌, ◌≤◌, suc, refl, sym, subst, ap, ap₂, ◌∙◌, arith, nat_abs, ℤ, w64, to_z, of_z}
use lib.IntN.{◌*ℤ◌}
use Rattle.rob_linear.specs.Vectors.{sum_to}
use Rattle.rob_dualize.proofs.EntryLemmas.{seen_as, seen_same}
use Rattle.rob_cuts.specs.Master.{cut_product}
use Rattle.rob_cuts.specs.Rounds.{cut_of}
use Rattle.rob_cuts.proofs.NumberLemmas.{sum_more, prefix_wide, multiplier_small}
use Rattle.rob_cuts.proofs.numbers.number.Goals as goal

pub returns-in-None : goal.returns-in-None
returns-in-None g c =
    let f = cut_product c.args.forms.now (cut_of c.args.round.now) c.args.j in
    record {
      number = prefix_wide g.N.Exact.limit (suc c.args.forms.now.params) f c.loop-k.k _
          (to_z w64 (of_z w64 c.form_number-entry.result)) (to_z w64 (of_z w64 c.multiplier.result))
          (omega (arith, c.loop-k-test.true)) c.loop-k.invariant.sum
          (ap₂ (λ a b. a *ℤ b)
          (seen_as c.form_number-entry.result _ c.form_number-entry.ensures.number
          (c.requires.sound.small c.args.round.now.form c.loop-k.k c.args.j))
          (seen_as c.multiplier.result _ c.multiplier.ensures.number
          (omega (
            arith,
            g.met.N.Exact.limit_high,
            multiplier_small g.N.Exact.limit c.args.forms.now.params
                (cut_of c.args.round.now) c.requires.fits c.loop-k.k,
          ))))
          c.in-None.ensures.sum;
    }

pub loop-k-preserved : goal.loop-k-preserved
loop-k-preserved g c =
    let f = cut_product c.args.forms.now (cut_of c.args.round.now) c.args.j in
    let seen = seen_same c.in-Some.next c.in-Some.next refl
    (omega (arith, c.in-Some.ensures.sum.1, g.met.N.Exact.limit_high)) in
    record {
      sum = seen ∙ sum_more f c.loop-k.k _ (to_z w64 (of_z w64 c.form_number-entry.result))
          (to_z w64 (of_z w64 c.multiplier.result)) c.in-Some.next c.loop-k.invariant.sum
          (ap₂ (λ a b. a *ℤ b)
          (seen_as c.form_number-entry.result _ c.form_number-entry.ensures.number
          (c.requires.sound.small c.args.round.now.form c.loop-k.k c.args.j))
          (seen_as c.multiplier.result _ c.multiplier.ensures.number
          (omega (
            arith,
            g.met.N.Exact.limit_high,
            multiplier_small g.N.Exact.limit c.args.forms.now.params
                (cut_of c.args.round.now) c.requires.fits c.loop-k.k,
          ))))
          c.in-Some.ensures.sum.0;
      within = subst (λ (v : ℤ). nat_abs v ≤ g.N.Exact.limit) (sym seen) c.in-Some.ensures.sum.1;
    }

pub returns : goal.returns
returns g c =
    let e : c.loop-k.k ≡ suc c.args.forms.now.params = omega (arith, c.loop-k-test.false, c.loop-k.auto.k-end) in
    record {
      number = (
        c.loop-k.invariant.sum ∙ ap (λ n. sum_to n (cut_product c.args.forms.now (cut_of c.args.round.now) c.args.j)) e,
        c.loop-k.invariant.within,
      );
    }
