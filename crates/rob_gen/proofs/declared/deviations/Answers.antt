use Rattle.std.proofs.Common.{◌≡◌, ap, ◌∙◌, arith}
use Rattle.rob_number.proofs.CountLemmas.{only_later}
use Rattle.rob_meaning.specs.Places.{tabulate}
use Rattle.rob_model.specs.View.{member_of}
use Rattle.rob_gen.specs.Generated.{centre, deviation}
use Rattle.rob_gen.proofs.ListLemmas.{more}
use Rattle.rob_gen.proofs.declared.deviations.Goals as goal

pub loop-place-preserved : goal.loop-place-preserved
loop-place-preserved g c = record {
  made = more (member_of g.N.Exact.value) (deviation (centre c.args.n)) c.loop-place.list c.deviation-item.result
      c.loop-place.place c.in_ok-push.ensures.appended c.deviation-item.ensures.made c.loop-place.invariant.made;
  counted = only_later c.loop-place.invariant.counted c.deviation-item.ensures.counted;
}

pub returns-clause-made : goal.returns-clause-made
returns-clause-made g c =
    c.loop-place.invariant.made ∙ ap (λ k. tabulate k (deviation (centre c.args.n)))
    (let e : c.loop-place.place ≡ c.args.count = omega arith in e)
