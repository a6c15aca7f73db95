use Rattle.std.proofs.Common.{◌≡◌, ap, ◌∙◌, arith}
use Rattle.rob_number.proofs.CountLemmas.{only_later}
use Rattle.rob_meaning.specs.Places.{tabulate}
use Rattle.rob_model.specs.View.{parameter_of}
use Rattle.rob_gen.specs.Generated.{centre, demand}
use Rattle.rob_gen.proofs.ListLemmas.{more}
use Rattle.rob_gen.proofs.declared.demands.Goals as goal

pub loop-place-preserved : goal.loop-place-preserved
loop-place-preserved g c = record {
  made = more (parameter_of g.N.Exact.value) (demand (centre c.args.n)) c.loop-place.list c.in_ok-item.item
      c.loop-place.place c.in_ok-push.ensures.appended c.in_ok-item.ensures.made c.loop-place.invariant.made;
  counted = only_later c.loop-place.invariant.counted c.demand.ensures.counted;
}

pub returns-clause-made : goal.returns-clause-made
returns-clause-made g c =
    c.loop-place.invariant.made ∙ ap (λ k. tabulate k (demand (centre c.args.n)))
    (let e : c.loop-place.place ≡ c.args.count = omega arith in e)
