use Rattle.std.proofs.Common.{get_or, refl, List, sym, ap, ◌∙◌}
use Rattle.rob_algebra.proofs.ListLemmas.{drop_all}
use Rattle.rob_settings.specs.declared.item.Item.{Item}
use Rattle.rob_settings.specs.Spots.{busy}
use Rattle.rob_settings.proofs.SpotLemmas.{kept_more, kept_all}
use Rattle.rob_settings.proofs.spot.busy_places.Goals as goal

pub loop-k-preserved : goal.loop-k-preserved
loop-k-preserved c vs within =
    let here = c.loop-k in
    kept_more c.args.short c.args.items.now here.places _ c.args.kept.now here.k-index
    (get_or c.args.kept.now c.loop-k.k-index 0) c.are_idle-idle.result vs
    c.loop-k-test.true refl
    (λ idle. ap (λ (l : List Item). busy c.args.short l vs) (sym c.one_at.ensures.one)
    ∙ c.are_idle-idle.ensures.idle idle vs within)
    c.in_ok-push_unless.ensures.pushed (here.invariant vs within)

pub returns : goal.returns
returns c =
    let here = c.loop-k in
    record {
      busy = λ vs within.
          kept_all c.args.short c.args.items.now here.places c.args.kept.now here.k-index vs
          (drop_all here.k-index c.args.kept.now c.loop-k-test.false) (here.invariant vs within);
    }
