use Rattle.std.proofs.Common.{◌+◌, ◌∙◌, refl, ap, arith, length}
use Rattle.rob_simplex.specs.Dictionaries.{with_limit}
use Rattle.rob_simplex.proofs.Rows.CopiedTables.{same_table, raised_sound, place_within}
use Rattle.rob_simplex.proofs.Turns.WrittenStarts.{sound_carry}
use Rattle.rob_simplex.proofs.dictionary.Dictionary.deepened.Goals as goal

pub deepened-requires : goal.deepened-requires
deepened-requires g c = record {
  short = λ k l.
      let b =
      place_within g.F.Entry.top (c.other.inside.columns + 4) c.other.inside.rows c.other.inside.bounds.items
      c.other.invariant.bounded k l in
      omega (arith, b, c.requires.short);
}

pub invariant_of-result : goal.invariant_of-result
invariant_of-result g c =
    let eb = c.in_ok-basis.ensures.items ∙ c.as_slice.ensures.value in
    let ep = c.in_ok-places.ensures.items ∙ c.as_slice-2.ensures.value in
    let er = c.in_ok-near.ensures.items ∙ c.as_slice-3.ensures.value in
    let es = c.in_ok-bounds.ensures.items ∙ c.as_slice-4.ensures.value in
    sound_carry eb ep er c.in_ok-rows.ensures.same es
    (raised_sound g.F.Entry.top g.E.Entry.top c.other.inside.columns c.other.inside.basis.items
    c.other.inside.places.items c.other.inside.near.items c.other.inside.rows c.other.inside.bounds.items
    (length c.other.inside.pivot_row.entries) (length c.in_ok-pivot_row.pivot_row.entries)
    (omega (arith, c.requires.short, g.met.E.Entry.top_low)) c.in_ok-pivot_row.ensures.width c.other.invariant)

pub returns : goal.returns
returns g c =
    let eb = c.in_ok-basis.ensures.items ∙ c.as_slice.ensures.value in
    let ep = c.in_ok-places.ensures.items ∙ c.as_slice-2.ensures.value in
    record {
      same =
          same_table g.E.Entry.top g.E.Entry.top c.other.inside.columns c.other.inside.columns c.in_ok-basis.basis.items
          c.other.inside.basis.items
          c.in_ok-places.places.items c.other.inside.places.items c.in_ok-rows.rows c.other.inside.rows refl refl eb ep
          c.in_ok-rows.ensures.same
          ∙ ap (with_limit g.E.Entry.top) c.other.view_is;
    }
