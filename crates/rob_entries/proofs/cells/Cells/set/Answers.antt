use Rattle.std.proofs.Common.{◌<◌, ◌∙◌, ap, sym, subst, List, length, map, set}
use Rattle.std.proofs.lemmas.List.{map-set}
use lib.IntN.{ℤ}
use Rattle.rob_entries.specs.Maps.{IsMapped}
use Rattle.rob_entries.proofs.MapLemmas.{marked_write}
use Rattle.rob_entries.proofs.cells.Cells.set.Goals as goal

pub invariant_of-self : goal.invariant_of-self
invariant_of-self g c =
    let value = g.E.Entry.value in
    let items = c.self.inside.items.items in
    let marks = c.self.inside.marks.items in
    subst (λ (t : List ℤ). IsMapped t (set marks c.args.k c.mark_of.result))
    (sym (map-set value items c.args.k c.args.entry))
    (marked_write (map value items) marks c.self.invariant c.args.k (value c.args.entry) c.mark_of.result
    (subst (λ (t : List ℤ). c.args.k < length t) (sym c.self.view_is) c.requires.inside) c.mark_of.ensures.off.0)

pub returns : goal.returns
returns g c =
    record {
      written = map-set g.E.Entry.value c.self.inside.items.items c.args.k c.args.entry
          ∙ ap (λ (t : List ℤ). set t c.args.k (g.E.Entry.value c.args.entry)) c.self.view_is;
    }
