use Rattle.std.proofs.Common.{◌≡◌, ◌<◌, ◌≤◌, ◌∙◌, ap, sym, subst, arith, inl, refl, length, map, max, get_or, nat_abs, below_more}
use Rattle.std.proofs.lemmas.List.{length-map}
use Rattle.rob_linear.specs.Vectors.{at}
use Rattle.rob_entries.proofs.MappedRows.{number_read}
use Rattle.rob_entries.proofs.Listing.{IsSizeOf, listed_within, size_more, size_told}
use Rattle.rob_entries.proofs.clearing.largest_listed.Goals as goal

pub loop-k-init : goal.loop-k-init
loop-k-init g c = record { bound = λ j l. absurd (omega arith); reached = inl refl }

pub loop-k-preserved : goal.loop-k-preserved
loop-k-preserved g c =
    let value = g.E.Entry.value in
    let i = c.loop-k.k-index in
    let k = get_or c.args.places.now i 0 in
    let il : c.loop-k.k-index < length c.args.places.now = omega arith in
    let inside : get_or c.args.places.now c.loop-k.k-index 0 < length c.args.row.now = c.requires.listed.inside i il in
    let wide : length (map g.E.Entry.value c.args.row.now) ≡ length c.args.row.now = length-map c.args.row.now value in
    let read : g.E.Entry.value c.index-row-k.result
    ≡ at (map g.E.Entry.value c.args.row.now) (get_or c.args.places.now c.loop-k.k-index 0) =
    number_read value c.args.row.now k c.index-row-k.result inside c.index-row-k.is in
    let size : c.size.result
    ≡ nat_abs (at (map g.E.Entry.value c.args.row.now) (get_or c.args.places.now c.loop-k.k-index 0)) =
    c.size.ensures.size ∙ ap nat_abs read in
    let greater : c.max-largest.result ≡ max c.size.result c.loop-k.largest = c.max-largest.ensures in
    record {
      bound =
          below_more _ _
          (λ j l. let before : nat_abs (at (map g.E.Entry.value c.args.row.now) (get_or c.args.places.now j 0))
          ≤ c.loop-k.largest = c.loop-k.invariant.bound j l in omega arith)
          (omega arith);
      reached =
          subst (IsSizeOf (map value c.args.row.now)) (sym greater)
          (size_more (map value c.args.row.now) c.loop-k.largest k c.size.result (omega arith) size
          c.loop-k.invariant.reached);
    }

pub returns-clause-bound : goal.returns-clause-bound
returns-clause-bound g c =
    let end : c.loop-k.k-index ≡ length c.args.places.now = omega arith in
    listed_within (length c.args.row.now) c.loop-k.largest (map g.E.Entry.value c.args.row.now) c.args.places.now
    c.requires.listed (length-map c.args.row.now g.E.Entry.value) (λ j l. c.loop-k.invariant.bound j (omega arith))

pub returns-clause-reached : goal.returns-clause-reached
returns-clause-reached g c =
    size_told (map g.E.Entry.value c.args.row.now) c.loop-k.largest c.loop-k.invariant.reached
