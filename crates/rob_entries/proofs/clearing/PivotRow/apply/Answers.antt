use Rattle.std.proofs.Common.{◌≡◌, ◌+◌, ◌*◌, ◌<◌, ◌≤◌, ◌∙◌, ap, sym, subst, arith, List, map, length, pos, nat_abs, ◌*ℤ◌, ◌-ℤ◌}
use Rattle.std.proofs.lemmas.List.{length-map}
use lib.IntN.{ℤ}
use Rattle.rob_linear.specs.Vectors.{at}
use Rattle.rob_entries.specs.Maps.{AreMarked}
use Rattle.rob_entries.specs.Updates.{Clearing}
use Rattle.rob_entries.proofs.MappedRows.{scaled_narrow}
use Rattle.rob_entries.proofs.clearing.PivotRow.apply.Goals as goal

pub scale-requires-clause-narrow : goal.scale-requires-clause-narrow
scale-requires-clause-narrow g c k l =
    let value = g.E.Entry.value in
    let h : nat_abs (g.E.Entry.value c.args.factors.p) * nat_abs (at (map g.E.Entry.value c.args.row.now) k)
    + nat_abs (g.E.Entry.value c.args.factors.q) * nat_abs (at c.args.self.now.entries k) ≤ g.E.Entry.top =
    c.requires.narrow k l in
    omega arith

pub subtract-requires-clause-lengths : goal.subtract-requires-clause-lengths
subtract-requires-clause-lengths g c =
    let value = g.E.Entry.value in
    let same : map g.E.Entry.value c.as_slice.result.now ≡ c.args.self.now.entries =
    ap (map value) c.as_slice.ensures.value ∙ ap (λ (v : Clearing). v.entries) c.self.view_is in
    sym (length-map c.as_slice.result.now value) ∙ ap length same ∙ sym c.requires.length ∙ sym c.scale.auto.row

pub subtract-requires-clause-marks_in : goal.subtract-requires-clause-marks_in
subtract-requires-clause-marks_in g c =
    let n : length c.scale.new.row ≡ length c.args.row.now = c.scale.auto.row in
    let h : c.args.start + length c.args.row.now ≤ length c.args.marks.now = c.requires.marks_in in
    omega arith

pub subtract-requires-clause-narrow : goal.subtract-requires-clause-narrow
subtract-requires-clause-narrow g c k l =
    let value = g.E.Entry.value in
    let same : map g.E.Entry.value c.as_slice.result.now ≡ c.args.self.now.entries =
    ap (map value) c.as_slice.ensures.value ∙ ap (λ (v : Clearing). v.entries) c.self.view_is in
    let n : length c.scale.new.row ≡ length c.args.row.now = c.scale.auto.row in
    let inside : k < length c.args.row.now = omega arith in
    subst (λ (t : List ℤ). nat_abs (pos 1) * nat_abs (at (map value c.scale.new.row) k)
    + nat_abs (value c.args.factors.q) * nat_abs (at t k) ≤ g.E.Entry.top) (sym same)
    (scaled_narrow g.E.Entry.top (value c.args.factors.p) (value c.args.factors.q) (at (map value c.args.row.now) k)
    (at c.args.self.now.entries k) (at (map value c.scale.new.row) k) (c.scale.ensures.entries k inside)
    (c.requires.narrow k inside))

pub returns-clause-entries : goal.returns-clause-entries
returns-clause-entries g c k l =
    let value = g.E.Entry.value in
    let same : map g.E.Entry.value c.as_slice.result.now ≡ c.args.self.now.entries =
    ap (map value) c.as_slice.ensures.value ∙ ap (λ (v : Clearing). v.entries) c.self.view_is in
    let n : length c.scale.new.row ≡ length c.args.row.now = c.scale.auto.row in
    c.subtract.ensures.entries k (omega arith)
    ∙ ap (λ t. t -ℤ (value c.args.factors.q *ℤ at (map value c.as_slice.result.now) k)) (c.scale.ensures.entries k l)
    ∙ ap
    (λ (t : List ℤ). (value c.args.factors.p *ℤ at (map value c.args.row.now) k) -ℤ (value c.args.factors.q *ℤ at t k))
    same

pub returns-clause-marked : goal.returns-clause-marked
returns-clause-marked g c =
    let value = g.E.Entry.value in
    let same : map g.E.Entry.value c.as_slice.result.now ≡ c.args.self.now.entries =
    ap (map value) c.as_slice.ensures.value ∙ ap (λ (v : Clearing). v.entries) c.self.view_is in
    subst (λ (t : List ℤ). AreMarked c.args.start (length c.args.row.now) (at (map value c.subtract.new.row)) (at t)
    c.args.marks.now c.subtract.new.marks) same
    (subst (λ n. AreMarked c.args.start n (at (map value c.subtract.new.row)) (at (map value c.as_slice.result.now))
    c.args.marks.now c.subtract.new.marks) c.scale.auto.row c.subtract.ensures.marked)
