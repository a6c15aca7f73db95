use Rattle.std.proofs.Common.{◌≡◌, ◌∙◌, sym, ap, map, pos, ◌*ℤ◌}
use Rattle.rob_algebra.specs.Integer.{one-mul}
use Rattle.rob_linear.specs.Vectors.{at}
use Rattle.rob_entries.proofs.MappedRows.{unit_of}
use Rattle.rob_entries.proofs.updates.scale.Goals as goal

pub returns-then-size-eq1 : goal.returns-then-size-eq1
returns-then-size-eq1 g c =
    let value = g.E.Entry.value in
    let one : g.E.Entry.value c.args.p ≡ pos 1 =
    unit_of (value c.args.p) c.requires.positive (sym c.size.ensures.size ∙ c.if-size-eq1.true) in
    record {
      entries = λ k l.
          sym (ap (λ t. t *ℤ at (map value c.args.row.now) k) one ∙ one-mul (at (map value c.args.row.now) k));
    }
