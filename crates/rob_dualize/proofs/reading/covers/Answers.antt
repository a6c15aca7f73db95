use Rattle.std.proofs.Common.{List, ◌++◌, sym, ap, ◌∙◌}
use Rattle.rob_meaning.specs.Certificates.{Cover}
use Rattle.rob_dualize.specs.Numbers.{told}
use Rattle.rob_counterpart.specs.ReadNumbers.{covers_at, covers_kept}
use Rattle.rob_dualize.specs.Wholes.{wholes}
use Rattle.rob_dualize.proofs.ReadingLemmas.{covers_next}
use Rattle.rob_dualize.proofs.reading.covers.Goals as goal

pub loop-i-preserved : goal.loop-i-preserved
loop-i-preserved g c =
    let d = wholes c.args.model.forms.now c.args.model.set.now in
    let x = told g.N.Exact.value c.args.numbers.now in
    c.in_ok-append_covers.ensures.covers ∙ ap (λ (xs : List Cover). xs ++ covers_kept (covers_at d x c.loop-i.i))
    c.loop-i.invariant ∙ sym (covers_next d c.loop-i.i x)
