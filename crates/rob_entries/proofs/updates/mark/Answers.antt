use Rattle.std.proofs.Common.{◌≡◌, ◌<◌, ◌∙◌, sym, refl, subst, arith, length, map, get_or}
use Rattle.rob_linear.specs.Vectors.{at}
use Rattle.rob_entries.specs.Maps.{AreMarked}
use Rattle.rob_entries.proofs.MappedRows.{number_read}
use Rattle.rob_entries.proofs.MapLemmas.{MarkedTo, mark_more, all_marked}
use Rattle.rob_entries.proofs.updates.mark.Goals as goal

pub loop-k-preserved : goal.loop-k-preserved
loop-k-preserved g c =
    let value = g.E.Entry.value in
    let i = c.loop-k.k-index in
    let p = get_or c.args.places.now i 0 in
    let il : c.loop-k.k-index < length c.args.places.now = omega arith in
    let there : get_or c.args.places.now c.loop-k.k-index 0 < length c.args.other.now = c.requires.listed.inside i il in
    let inside : get_or c.args.places.now c.loop-k.k-index 0 < length c.args.row.now =
    (let n = c.requires.lengths in omega arith) in
    let read : g.E.Entry.value c.index-row-k.result
    ≡ at (map g.E.Entry.value c.args.row.now) (get_or c.args.places.now c.loop-k.k-index 0) =
    number_read value c.args.row.now p c.index-row-k.result inside c.index-row-k.is in
    mark_more c.args.start c.args.places.now i (at (map value c.args.row.now)) (at (map value c.args.row.now))
    c.args.marks.now c.loop-k.marks c.mark_of.result (omega arith) c.loop-k.invariant (λ n l. refl)
    (λ off. sym read ∙ c.mark_of.ensures.off.0 off)

pub returns : goal.returns
returns g c =
    let row = at (map g.E.Entry.value c.args.row.now) in
    let other = at (map g.E.Entry.value c.args.other.now) in
    let end : c.loop-k.k-index ≡ length c.args.places.now = omega arith in
    record {
      marked = subst (λ n. AreMarked c.args.start n row other c.args.marks.now c.loop-k.marks) c.requires.lengths
          (all_marked c.args.start (length c.args.other.now) c.args.places.now row other c.args.marks.now
          c.loop-k.marks c.requires.listed
          (subst (λ n. MarkedTo c.args.start c.args.places.now n row c.args.marks.now c.loop-k.marks)
          end c.loop-k.invariant));
    }
