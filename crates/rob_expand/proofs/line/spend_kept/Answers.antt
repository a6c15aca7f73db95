use Rattle.std.proofs.Common.{◌+◌, Bool, drop, get_or, refl, true, ap, sym, ◌∙◌}
use Rattle.std.proofs.lemmas.Result.{err_from_is_err_and}
use Rattle.rob_algebra.proofs.ListLemmas.{drop_all}
use Rattle.rob_expand.specs.Lines.{items_left}
use Rattle.rob_settings.specs.Spots.{picks}
use Rattle.rob_settings.proofs.AnswerLemmas.{refused}
use Rattle.rob_expand.proofs.Counting.ThinLemmas.{place_more, place_stop, place_end}
use Rattle.rob_expand.proofs.line.spend_kept.Goals as goal

pub loop-k-preserved : goal.loop-k-preserved
loop-k-preserved c =
    ap (λ (b : Bool). items_left b (picks c.args.items.now (drop (c.loop-k.k-index + 1) c.args.kept.now))
    c.args.values.now c.in_ok-behind.behind) c.both-first.ensures.both
    ∙ place_more c.args.items.now c.args.kept.now c.loop-k.k-index (get_or c.args.kept.now c.loop-k.k-index 0)
    c.args.values.now c.loop-k.first
    c.loop-k.left c.loop-k-test.true refl c.one_at.result.now c.one_at.ensures.one c.in_ok-behind.behind
    c.in_ok-behind.ensures.left c.loop-k.invariant

pub returns-in_err-behind : goal.returns-in_err-behind
returns-in_err-behind c = record {
  left =
      let p = err_from_is_err_and c.from_residual.result c.from_residual.ensures.1 in
      refused c.from_residual.result _
      (items_left c.loop-k.first c.one_at.result.now c.args.values.now c.loop-k.left)
      (items_left true (picks c.args.items.now c.args.kept.now) c.args.values.now c.args.room)
      c.in_err-behind.field-0.0 p.0 p.1 p.2
      (λ none. place_stop c.args.items.now c.args.kept.now c.loop-k.k-index (get_or c.args.kept.now c.loop-k.k-index 0)
      c.args.values.now
      c.loop-k.first c.loop-k.left c.loop-k-test.true refl c.one_at.result.now c.one_at.ensures.one
      c.loop-k.invariant none)
      c.in_err-behind.ensures.left;
}

pub returns : goal.returns
returns c = record {
  left =
      sym c.loop-k.invariant
      ∙ place_end c.args.items.now c.args.kept.now c.loop-k.k-index c.args.values.now c.loop-k.first c.loop-k.left
      (drop_all c.loop-k.k-index c.args.kept.now c.loop-k-test.false);
}
