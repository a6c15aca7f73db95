use Rattle.std.proofs.Common.{◌<◌, ◌∙◌, ap, sym, subst, List, length, set}
use Rattle.std.proofs.lemmas.List.{length-map}
use lib.IntN.{ℤ}
use Rattle.rob_linear.specs.Vectors.{at}
use Rattle.rob_entries.proofs.MapLemmas.{swapped, marked_swap}
use Rattle.rob_entries.proofs.cells.Cells.swap.Goals as goal

pub invariant_of-self : goal.invariant_of-self
invariant_of-self g c =
    let value = g.E.Entry.value in
    let items = c.self.inside.items.items in
    let al : c.args.a < length c.self.inside.items.items =
    subst (λ n. c.args.a < n) (length-map items value)
    (subst (λ (t : List ℤ). c.args.a < length t) (sym c.self.view_is) c.requires.a_in) in
    let bl : c.args.b < length c.self.inside.items.items =
    subst (λ n. c.args.b < n) (length-map items value)
    (subst (λ (t : List ℤ). c.args.b < length t) (sym c.self.view_is) c.requires.b_in) in
    marked_swap value items c.self.inside.marks.items c.self.invariant c.args.a c.args.b c.index-first.result.now
    c.index-second.result.now c.index-first_mark.result.now c.index-second_mark.result.now al bl c.index-first.ensures
    c.index-second.ensures c.index-first_mark.ensures c.index-second_mark.ensures

pub returns : goal.returns
returns g c =
    let value = g.E.Entry.value in
    let items = c.self.inside.items.items in
    let al : c.args.a < length c.self.inside.items.items =
    subst (λ n. c.args.a < n) (length-map items value)
    (subst (λ (t : List ℤ). c.args.a < length t) (sym c.self.view_is) c.requires.a_in) in
    let bl : c.args.b < length c.self.inside.items.items =
    subst (λ n. c.args.b < n) (length-map items value)
    (subst (λ (t : List ℤ). c.args.b < length t) (sym c.self.view_is) c.requires.b_in) in
    record {
      swapped =
          swapped value items c.args.a c.args.b c.index-first.result.now c.index-second.result.now al bl
          c.index-first.ensures c.index-second.ensures
          ∙ ap (λ (t : List ℤ). set (set t c.args.a (at t c.args.b)) c.args.b (at t c.args.a)) c.self.view_is;
    }
