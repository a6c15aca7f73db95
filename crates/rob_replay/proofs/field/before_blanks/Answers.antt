use Rattle.std.proofs.Common.{sym, refl, ◌∙◌, arith}
use Rattle.rob_replay.proofs.FieldLemmas.{before_goes, before_stops}
use Rattle.rob_replay.proofs.field.before_blanks.Goals as goal

pub returns-then-not-is_blank : goal.returns-then-not-is_blank
returns-then-not-is_blank c = record {
  bytes = sym
      (before_stops c.args.field.now c.loop-end.end _ _ c.loop-end-test.true c.loop-end.invariant.within refl
      (sym c.is_blank.ensures.blank ∙ c.if-not-is_blank.true))
      ∙ c.loop-end.invariant.rest;
}

pub loop-end-preserved : goal.loop-end-preserved
loop-end-preserved c = record {
  rest = sym (before_goes c.args.field.now c.loop-end.end _ _ c.loop-end-test.true c.loop-end.invariant.within refl
      (sym c.is_blank.ensures.blank ∙ c.if-not-is_blank.false))
      ∙ c.loop-end.invariant.rest;
  within = omega (arith, c.loop-end.invariant.within);
}
