use Rattle.std.proofs.Common.{◌≡◌, ◌∙◌, [], get_or, ℕ, ◌≤◌, ◌+◌, refl, sym, subst, arith, length, replicate}
use Rattle.rob_linear.specs.Vectors.{at}
use Rattle.rob_entries.proofs.WrittenRows.{back_whole, lent_length}
use Rattle.rob_table.specs.Tables.{HasBounds}
use Rattle.rob_simplex.proofs.Turns.StartLemmas.{IsNumbered, start_is_sound, zero_bounds}
use Rattle.rob_simplex.proofs.Turns.WrittenStarts.{numbered_told, starting_told, sound_carry, starting_carry}
use Rattle.rob_simplex.proofs.dictionary.Dictionary.new.Given.{Over}
use Rattle.rob_simplex.proofs.dictionary.Dictionary.new.Goals.{After-write_program}
use Rattle.rob_simplex.proofs.dictionary.Dictionary.new.Goals as goal

pub write_program-requires-clause-program : goal.write_program-requires-clause-program
write_program-requires-clause-program g c =
    let en = lent_length c.in_ok-numbers.numbers.ok.0 c.as_mut_slice-5.ensures.value c.in_ok-numbers.ensures.len in
    record {
      few = omega (arith, en, c.columns-n.ensures.count, c.requires.few);
      columns = en ∙ c.columns-n.ensures.count;
      numbers = c.requires.numbers;
    }

pub write_program-requires-clause-bounded : goal.write_program-requires-clause-bounded
write_program-requires-clause-bounded g c =
    let en = lent_length c.in_ok-numbers.numbers.ok.0 c.as_mut_slice-5.ensures.value c.in_ok-numbers.ensures.len in
    let zeros : c.as_mut_slice-4.result.now ≡ replicate (c.rows-m.result + 2) 0 =
    c.as_mut_slice-4.ensures.value ∙ c.in_ok-bounds.ensures.items_if_clones_equal (λ y h. h) in
    subst (λ (x : ℕ). HasBounds g.E.Entry.top (x + 4) c.in_ok-rows.rows c.as_mut_slice-4.result.now) (sym en)
    (zero_bounds g.E.Entry.top (c.columns-n.result + 4) (c.rows-m.result + 2) c.in_ok-rows.rows
    c.as_mut_slice-4.result.now c.in_ok-rows.ensures.size c.in_ok-rows.ensures.zeros zeros)

-- ---- the lists, as they were numbered
positions_here : (g : Over) (c : After-write_program g) → length c.number_slacks.new.basis ≡ c.rows-m.result
positions_here g c =
    c.number_slacks.auto.basis
    ∙ lent_length c.in_ok-basis.basis.ok.0 c.as_mut_slice.ensures.value c.in_ok-basis.ensures.len

numbered_here : (g : Over) (c : After-write_program g)
    → IsNumbered c.columns-n.result c.number_slacks.new.basis c.number_places.new.places c.number_near.new.near
numbered_here g c =
    numbered_told c.number_slacks.auto.basis
    (lent_length c.in_ok-basis.basis.ok.0 c.as_mut_slice.ensures.value c.in_ok-basis.ensures.len)
    (lent_length c.in_ok-places.places.ok.0 c.as_mut_slice-2.ensures.value c.in_ok-places.ensures.len)
    (lent_length c.in_ok-near.near.ok.0 c.as_mut_slice-3.ensures.value c.in_ok-near.ensures.len)
    c.number_slacks.ensures.slacks c.number_places.ensures.places c.number_near.ensures.near

pub invariant_of-result : goal.invariant_of-result
invariant_of-result g c =
    let here = (goal.at.invariant_of-result g c).After-write_program in
    let em = positions_here g here in
    let lp = lent_length c.in_ok-places.places.ok.0 c.as_mut_slice-2.ensures.value c.in_ok-places.ensures.len in
    let ln = lent_length c.in_ok-near.near.ok.0 c.as_mut_slice-3.ensures.value c.in_ok-near.ensures.len in
    let ls = lent_length c.in_ok-bounds.bounds.ok.0 c.as_mut_slice-4.ensures.value c.in_ok-bounds.ensures.len in
    let en = lent_length c.in_ok-numbers.numbers.ok.0 c.as_mut_slice-5.ensures.value c.in_ok-numbers.ensures.len in
    let one : 1 ≤ g.E.Entry.top = omega (arith, g.met.E.Entry.top_low) in
    sound_carry (back_whole c.in_ok-basis.basis.ok.0 c.as_mut_slice.ensures.value c.number_slacks.auto.basis)
    (back_whole c.in_ok-places.places.ok.0 c.as_mut_slice-2.ensures.value c.number_places.auto.places)
    (back_whole c.in_ok-near.near.ok.0 c.as_mut_slice-3.ensures.value c.number_near.auto.near) refl
    (back_whole c.in_ok-bounds.bounds.ok.0 c.as_mut_slice-4.ensures.value c.write_program.auto.bounds)
    (start_is_sound (numbered_here g here)
    (omega (arith, em, c.columns-n.ensures.count, c.rows-m.ensures.count, c.requires.few)) one
    (omega (arith, em, ls, c.write_program.auto.bounds))
    (subst (λ (x : ℕ). HasBounds g.E.Entry.top (x + 4) c.write_program.new.rows c.write_program.new.bounds) en
    c.write_program.ensures.bounded) (omega (arith, em, lp, c.number_places.auto.places))
    (c.number_near.auto.near ∙ ln) c.in_ok-pivot_row.ensures.width)

pub returns-clause-starts : goal.returns-clause-starts
returns-clause-starts g c =
    let P = g.R.Rows.lp c.args.source.now in
    let here = (goal.at.returns-clause-starts g c).After-write_program in
    let em = positions_here g here in
    let en = lent_length c.in_ok-numbers.numbers.ok.0 c.as_mut_slice-5.ensures.value c.in_ok-numbers.ensures.len in
    starting_carry g.E.Entry.top c.columns-n.result c.number_slacks.new.basis _ c.number_places.new.places _
    c.write_program.new.rows (length P.b) (length P.c) (λ i j. at (get_or P.a i []) j) (at P.b) (at P.c)
    (back_whole c.in_ok-basis.basis.ok.0 c.as_mut_slice.ensures.value c.number_slacks.auto.basis)
    (back_whole c.in_ok-places.places.ok.0 c.as_mut_slice-2.ensures.value c.number_places.auto.places)
    (em ∙ c.rows-m.ensures.count) c.columns-n.ensures.count
    (starting_told (numbered_here g here) en em (λ i j. at (get_or P.a i []) j) (at P.b) (at P.c)
    c.write_program.ensures.constraints c.write_program.ensures.objective g.E.Entry.top)
