use Rattle.std.proofs.Common.{◌≡◌, ◌+◌, ◌<◌, ◌≤◌, ◌∙◌, ap, sym, subst, arith, List, map, length}
use Rattle.std.proofs.lemmas.List.{length-map}
use lib.IntN.{ℤ}
use Rattle.rob_linear.specs.Vectors.{at}
use Rattle.rob_rows.specs.PrimitiveParts.{content, IsWithin}
use Rattle.rob_entries.specs.Maps.{AreMarked}
use Rattle.rob_entries.specs.Updates.{Clearing}
use Rattle.rob_entries.proofs.ClearingLemmas.{largest_low, content_one}
use Rattle.rob_entries.proofs.WrittenRows.{written_back}
use Rattle.rob_entries.proofs.clearing.PivotRow.apply_lowest.Goals as goal

pub combine-requires-clause-primitive : goal.combine-requires-clause-primitive
combine-requires-clause-primitive g c =
    let value = g.E.Entry.value in
    let same : map g.E.Entry.value c.as_slice.result.now ≡ c.args.self.now.entries =
    ap (map value) c.as_slice.ensures.value ∙ ap (λ (v : Clearing). v.entries) c.self.view_is in
    let some = c.requires.ready.some in
    let inside : some.0 < length c.args.self.now.entries =
    (let l : some.0 < length c.args.row.now = some.1 in let n = c.requires.ready.same_width in omega arith) in
    subst (λ (t : List ℤ). content t ≡ 1) (sym same)
    (content_one c.args.self.now.entries some.0 inside some.2
    (subst (λ (v : Clearing). content v.entries ≤ 1) c.self.view_is c.self.invariant.lowest))

pub returns-clause-bounded : goal.returns-clause-bounded
returns-clause-bounded g c =
    let value = g.E.Entry.value in
    let room = c.self.inside.room in
    let whole : c.copy_from_slice.new.self ≡ c.combine.new.out =
    c.copy_from_slice.ensures.after ∙ c.as_slice-2.ensures.value
    ∙ written_back c.combine.new.out room.items room.len
    (c.combine.auto.out ∙ ap length c.as_mut_slice.ensures.value ∙ sym room.ok.0) in
    record {
      within = c.largest.ensures.bound;
      low = largest_low (map value c.copy_from_slice.new.self) c.largest.result c.args.limit
          (subst (λ t. IsWithin c.args.limit (map value t)) (sym whole) c.in_ok-combine.ensures.bounded)
          c.largest.ensures.reached;
    }

pub mark-requires-clause-lengths : goal.mark-requires-clause-lengths
mark-requires-clause-lengths g c =
    let value = g.E.Entry.value in
    let same : map g.E.Entry.value c.as_slice-3.result.now ≡ c.args.self.now.entries =
    ap (map value) c.as_slice-3.ensures.value ∙ ap (λ (v : Clearing). v.entries) c.self.view_is in
    sym (length-map c.as_slice-3.result.now value) ∙ ap length same ∙ sym c.requires.ready.same_width
    ∙ sym c.copy_from_slice.auto.self

pub mark-requires-clause-marks_in : goal.mark-requires-clause-marks_in
mark-requires-clause-marks_in g c =
    let n : length c.copy_from_slice.new.self ≡ length c.args.row.now = c.copy_from_slice.auto.self in
    let h : c.args.start + length c.args.row.now ≤ length c.args.marks.now = c.requires.ready.marks_in in
    omega arith

pub returns-clause-marked : goal.returns-clause-marked
returns-clause-marked g c =
    let value = g.E.Entry.value in
    let same : map g.E.Entry.value c.as_slice-3.result.now ≡ c.args.self.now.entries =
    ap (map value) c.as_slice-3.ensures.value ∙ ap (λ (v : Clearing). v.entries) c.self.view_is in
    subst (λ (t : List ℤ). AreMarked c.args.start (length c.args.row.now) (at (map value c.copy_from_slice.new.self))
    (at t) c.args.marks.now c.mark.new.marks) same
    (subst (λ n. AreMarked c.args.start n (at (map value c.copy_from_slice.new.self))
    (at (map value c.as_slice-3.result.now)) c.args.marks.now c.mark.new.marks)
    c.copy_from_slice.auto.self c.mark.ensures.marked)
