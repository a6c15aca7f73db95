use Rattle.std.proofs.Common.{◌≡◌, ap, ◌∙◌, arith}
use Rattle.rob_meaning.specs.Places.{tabulate}
use Rattle.rob_model.specs.View.{row_of}
use Rattle.rob_gen.specs.Generated.{need}
use Rattle.rob_gen.proofs.ListLemmas.{more}
use Rattle.rob_gen.proofs.needs.needs.Goals as goal

pub loop-place-preserved : goal.loop-place-preserved
loop-place-preserved g c =
    more (row_of g.N.Exact.value) need c.loop-place.list c.in_ok-item.item c.loop-place.place
    c.in_ok-push.ensures.appended c.in_ok-item.ensures.made c.loop-place.invariant

pub returns : goal.returns
returns g c = record {
  made = c.loop-place.invariant ∙ ap (λ k. tabulate k need)
      (let e : c.loop-place.place ≡ c.args.count = omega arith in e);
}
