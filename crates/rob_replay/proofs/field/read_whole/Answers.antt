use Rattle.std.proofs.Common.{◌≡◌, None, sym, subst, ◌∙◌, get_or}
use Rattle.rob_replay.proofs.FieldLemmas.{next_digit, whole_stops}
use Rattle.rob_replay.proofs.field.read_whole.Goals as goal

pub returns-in-None : goal.returns-in-None
returns-in-None g c = record {
  whole = sym (whole_stops g.N.Exact.limit c.loop-b.value c.args.digits.now c.loop-b.b-index 0 c.loop-b-test.true
      (subst (λ n. None ≡ next_digit n c.loop-b.value (get_or c.args.digits.now c.loop-b.b-index 0))
      c.loop-b.invariant.limit c.in-None.ensures.value))
      ∙ c.loop-b.invariant.rest;
}
