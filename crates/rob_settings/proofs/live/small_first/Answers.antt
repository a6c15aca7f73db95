use Rattle.std.proofs.Common.{rules, sym, ◌∙◌, arith}
use Rattle.std.proofs.lemmas.Int.{ints, to_z-of_z}
use mir.Syntax.{w64}
use mir.Val.{SFits, to_z, of_z}
use Rattle.rob_settings.proofs.LiveLemmas.{small_here, small_none, small_some}
use Rattle.rob_settings.proofs.live.small_first.Goals as goal

pub returns-then-here-le0 : goal.returns-then-here-le0
returns-then-here-le0 c =
    let f : SFits w64 c.in_ok-begin.begin = search rules in
    let told = small_here c.args.range.now c.args.values.now c.args.from.now c.in_ok-here.here c.in_ok-here.ensures.lack
    (to_z w64 (of_z w64 c.in_ok-begin.begin))
    (to_z-of_z w64 c.in_ok-begin.begin f ∙ sym c.in_ok-begin.ensures.single)
    (omega (arith, ints, c.if-here-le0.true)) in
    record { live = told.0; alive = told.1 }

pub returns-then-step-le0 : goal.returns-then-step-le0
returns-then-step-le0 c = record {
  live =
      small_none c.args.range.now c.args.values.now c.args.from.now c.in_ok-here.here c.in_ok-here.ensures.lack
      c.in_ok-step.step (omega (arith, ints, c.if-here-le0.false)) c.in_ok-step.ensures.growth
      (omega (arith, ints, c.if-step-le0.true));
  alive = tt;
}

pub returns : goal.returns
returns c =
    let fb : SFits w64 c.in_ok-begin.begin = search rules in
    let fh : SFits w64 c.in_ok-here.here = search rules in
    let fs : SFits w64 c.in_ok-step.step = search rules in
    let fl : SFits w64 c.in_ok-live.live = search rules in
    let told = small_some c.args.range.now c.args.values.now c.args.from.now c.in_ok-here.here
    c.in_ok-here.ensures.lack c.in_ok-step.step (omega (arith, ints, c.if-here-le0.false)) c.in_ok-step.ensures.growth
    (to_z w64 (of_z w64 c.in_ok-here.here)) (to_z w64 (of_z w64 c.in_ok-begin.begin))
    (to_z w64 (of_z w64 c.in_ok-step.step)) c.in_ok-live.live (to_z w64 (of_z w64 c.in_ok-live.live))
    (to_z-of_z w64 c.in_ok-here.here fh) (to_z-of_z w64 c.in_ok-begin.begin fb ∙ sym c.in_ok-begin.ensures.single)
    (to_z-of_z w64 c.in_ok-step.step fs) (sym (to_z-of_z w64 c.in_ok-live.live fl))
    (omega (arith, ints, c.if-step-le0.false)) c.in_ok-live.ensures.enough c.in_ok-live.ensures.least in
    record { live = told.0; alive = told.1 }
