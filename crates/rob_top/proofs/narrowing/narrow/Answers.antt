use Rattle.std.proofs.Common.{refl}
use Rattle.rob_top.proofs.Coming.NarrowAnswerLemmas.{told_narrow}
use Rattle.rob_top.proofs.narrowing.narrow.Goals as goal

pub returns : goal.returns
returns g c = record {
  narrow = λ m f st. (
    refl,
    told_narrow g.N.Exact.limit m c.in_ok-bounds.bounds c.in_ok-text.text (c.in_ok-bounds.ensures.bounds m f st)
        (c.in_ok-bounds.ensures.narrow m f st) c.in_ok-text.ensures.text,
  );
}
