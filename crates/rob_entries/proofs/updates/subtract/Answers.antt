use Rattle.std.proofs.Common.{◌≡◌, ◌<◌, ◌≤◌, ◌∙◌, sym, subst, arith, map, length, nat_abs, ◌+◌, ◌*◌, ◌*ℤ◌, ◌-ℤ◌, get_or, set}
use lib.IntN.{ℤ}
use Rattle.rob_linear.specs.Vectors.{at}
use Rattle.rob_entries.specs.Maps.{AreMarked}
use Rattle.rob_entries.proofs.MappedRows.{number_read, number_here, number_other, sizes_read, once}
use Rattle.rob_entries.proofs.MapLemmas.{MarkedTo, mark_more, all_marked}
use Rattle.rob_entries.proofs.SubtractedRows.{place_other, placed_more, subtracted}
use Rattle.rob_entries.proofs.updates.subtract.Goals as goal

pub fused-entry-requires : goal.fused-entry-requires
fused-entry-requires g c =
    let i = c.loop-k.k-index in
    let k = get_or c.args.places.now i 0 in
    let value = g.E.Entry.value in
    let il : c.loop-k.k-index < length c.args.places.now = omega arith in
    let there : get_or c.args.places.now c.loop-k.k-index 0 < length c.args.other.now = c.requires.listed.inside i il in
    let inside : get_or c.args.places.now c.loop-k.k-index 0 < length c.args.row.now =
    (let n = c.requires.lengths in omega arith) in
    let a : g.E.Entry.value c.index-row-k.result
    ≡ at (map g.E.Entry.value c.loop-k.row) (get_or c.args.places.now c.loop-k.k-index 0) =
    number_read value c.loop-k.row k c.index-row-k.result (omega arith) c.index-row-k.is in
    let b : g.E.Entry.value c.index-other-k.result
    ≡ at (map g.E.Entry.value c.args.other.now) (get_or c.args.places.now c.loop-k.k-index 0) =
    number_read value c.args.other.now k c.index-other-k.result (omega arith) c.index-other-k.is in
    let same = c.loop-k.invariant.same k
    (λ j l e. place_other c.args.places.now i j c.requires.listed.rising l il (sym e)) in
    record {
      narrow = sizes_read g.E.Entry.top (value c.of-once.result) (value c.index-row-k.result) (value c.args.q)
          (value c.index-other-k.result) _ _ (a ∙ same) b
          (subst (λ (t : ℤ). nat_abs t * nat_abs (at (map value c.args.row.now) k)
          + nat_abs (value c.args.q) * nat_abs (at (map value c.args.other.now) k) ≤ g.E.Entry.top)
          (sym c.of-once.ensures.value) (c.requires.narrow k inside));
    }

pub loop-k-preserved : goal.loop-k-preserved
loop-k-preserved g c =
    let i = c.loop-k.k-index in
    let k = get_or c.args.places.now i 0 in
    let value = g.E.Entry.value in
    let q = value c.args.q in
    let il : c.loop-k.k-index < length c.args.places.now = omega arith in
    let there : get_or c.args.places.now c.loop-k.k-index 0 < length c.args.other.now = c.requires.listed.inside i il in
    let inside : get_or c.args.places.now c.loop-k.k-index 0 < length c.args.row.now =
    (let n = c.requires.lengths in omega arith) in
    let a : g.E.Entry.value c.index-row-k.result
    ≡ at (map g.E.Entry.value c.loop-k.row) (get_or c.args.places.now c.loop-k.k-index 0) =
    number_read value c.loop-k.row k c.index-row-k.result (omega arith) c.index-row-k.is in
    let b : g.E.Entry.value c.index-other-k.result
    ≡ at (map g.E.Entry.value c.args.other.now) (get_or c.args.places.now c.loop-k.k-index 0) =
    number_read value c.args.other.now k c.index-other-k.result (omega arith) c.index-other-k.is in
    let same = c.loop-k.invariant.same k
    (λ j l e. place_other c.args.places.now i j c.requires.listed.rising l il (sym e)) in
    record {
      done =
          placed_more value c.loop-k.row
          (λ x. at (map value c.args.row.now) x -ℤ (q *ℤ at (map value c.args.other.now) x)) c.args.places.now i
          c.fused-entry.result c.requires.listed.rising il (omega arith) c.loop-k.invariant.done
          (once (value c.fused-entry.result) (value c.of-once.result) (value c.index-row-k.result) q
          (value c.index-other-k.result) (at (map value c.args.row.now) k) (at (map value c.args.other.now) k)
          c.fused-entry.ensures.value
          c.of-once.ensures.value (a ∙ same) b);
      same = λ x apart. number_other value c.loop-k.row k x c.fused-entry.result (apart i (omega arith))
          ∙ c.loop-k.invariant.same x (λ j jl. apart j (omega arith));
      marked =
          mark_more c.args.start c.args.places.now i (at (map value c.loop-k.row))
          (at (map value (set c.loop-k.row k c.fused-entry.result))) c.args.marks.now c.loop-k.marks
          c.mark_of.result (omega arith) c.loop-k.invariant.marked
          (λ n l. number_other value c.loop-k.row k (get_or c.args.places.now n 0) c.fused-entry.result
          (place_other c.args.places.now i n c.requires.listed.rising l il))
          (λ off. number_here value c.loop-k.row k c.fused-entry.result (omega arith) ∙ c.mark_of.ensures.off.0 off);
    }

pub returns-clause-entries : goal.returns-clause-entries
returns-clause-entries g c k l =
    let value = g.E.Entry.value in
    let there : k < length c.args.other.now = (let n = c.requires.lengths in omega arith) in
    subtracted (at (map value c.loop-k.row)) (at (map value c.args.row.now)) (at (map value c.args.other.now))
    c.args.places.now (value c.args.q) (length c.args.other.now) c.requires.listed k there
    (λ j jl. c.loop-k.invariant.done j (omega arith))
    (λ x apart. c.loop-k.invariant.same x (λ j jl. apart j (omega arith)))

pub returns-clause-marked : goal.returns-clause-marked
returns-clause-marked g c =
    let row = at (map g.E.Entry.value c.loop-k.row) in
    let other = at (map g.E.Entry.value c.args.other.now) in
    let end : c.loop-k.k-index ≡ length c.args.places.now = omega arith in
    subst (λ n. AreMarked c.args.start n row other c.args.marks.now c.loop-k.marks) c.requires.lengths
    (all_marked c.args.start (length c.args.other.now) c.args.places.now row other c.args.marks.now
    c.loop-k.marks c.requires.listed
    (subst (λ n. MarkedTo c.args.start c.args.places.now n row c.args.marks.now c.loop-k.marks) end
    c.loop-k.invariant.marked))
