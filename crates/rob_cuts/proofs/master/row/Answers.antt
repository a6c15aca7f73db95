use Rattle.std.proofs.Common.{◌≤◌, refl, sym, subst, ◌∙◌, arith, nat_abs, ℤ}
use Rattle.rob_dualize.proofs.EntryLemmas.{seen_same}
use Rattle.rob_cuts.specs.Rounds.{cut_of}
use Rattle.rob_cuts.proofs.NumberLemmas.{pair_more, within_pair}
use Rattle.rob_cuts.proofs.master.row.Goals as goal

pub loop-j-preserved : goal.loop-j-preserved
loop-j-preserved g c =
    let seen = seen_same c.in-Some.number c.in-Some.number refl
    (omega (arith, c.in-Some.ensures.number.1, g.met.N.Exact.limit_high)) in
    record {
      row = pair_more c.args.forms.now (cut_of c.args.round.now) c.loop-j.j c.loop-j.row c.push_pair.new.list _
          c.loop-j.invariant.row
          (seen ∙ c.in-Some.ensures.number.0) c.in_ok-push_pair.ensures.pair;
      within = within_pair g.N.Exact.limit c.loop-j.row c.push_pair.new.list _ c.loop-j.invariant.within
          (subst (λ (v : ℤ). nat_abs v ≤ g.N.Exact.limit) (sym seen) c.in-Some.ensures.number.1)
          c.in_ok-push_pair.ensures.pair;
    }
