use Rattle.std.proofs.Common.{ℕ, ◌+◌, ◌<◌, ◌≤◌, ◌∙◌, ap, subst, arith}
use Rattle.rob_simplex.specs.Dictionaries.{Table, positions, width_of, basic_columns, kept_row_of}
use Rattle.rob_simplex.specs.Pivots.{RefusesPivot}
use Rattle.rob_simplex.proofs.Places.OwnEntries.{clears_opened}
use Rattle.rob_simplex.proofs.Pivoting.PivotLemmas.{IsOpening, opening, closed_free, free_after, next_basis, pivoted, closed4, begun, refused, kept_cleared}
use Rattle.rob_simplex.proofs.Places.Views.{positions_told, spare_told, free_as}
use Rattle.rob_simplex.proofs.Places.Sizes.{sized_after}
use Rattle.rob_simplex.proofs.dictionary.Dictionary.pivot_or_open.Given.{Over}
use Rattle.rob_simplex.proofs.dictionary.Dictionary.pivot_or_open.Goals.{After-replace}
use Rattle.rob_simplex.proofs.dictionary.Dictionary.pivot_or_open.Goals as goal

-- the row was reduced, and its position opened by the spare column
opened_here : (g : Over) (c : After-replace g)
    → IsOpening c.args.self.now c.make_primitive.new.self c.replace.new.self c.args.row
    (c.self.inside.columns + c.len.result + 3)
opened_here g c =
    let m = c.make_primitive.ensures in
    let r = c.replace.ensures in
    opening c.args.self.now c.make_primitive.new.self c.replace.new.self c.self.inside.columns c.len.result
    (ap (λ (t : Table). t.columns) c.self.view_is)
    (positions_told c.self.view_is c.len.ensures c.self.inside.basis.ok.0) c.requires.ready m.basis m.sized m.row
    m.others r.basis r.sized r.rows

pub replace-requires-clause-free : goal.replace-requires-clause-free
replace-requires-clause-free g c =
    let m = c.make_primitive.ensures in
    free_as m.sized.columns m.basis
    (closed_free c.args.self.now (c.self.inside.columns + c.len.result + 3)
    (spare_told c.args.self.now (ap (λ (t : Table). t.columns) c.self.view_is ∙ m.sized.columns)
    (positions_told c.self.view_is c.len.ensures c.self.inside.basis.ok.0 ∙ m.sized.positions))
    c.requires.ready.closed)

-- the position is open, and its row is the same up to a factor
pub clear_others-requires : goal.clear_others-requires
clear_others-requires g c = record {
  ready =
      clears_opened (opened_here g (goal.at.clear_others-requires g c).After-replace) c.requires.ready
      (subst (λ (t : Table). (i : ℕ) → i ≤ positions t → basic_columns t.columns t.basis i < width_of t)
      c.self.view_is c.self.invariant.placed.basic_in) c.make_primitive.ensures.kept c.replace.ensures.kept;
}

pub replace-requires-in-Ok-clause-free : goal.replace-requires-in-Ok-clause-free
replace-requires-in-Ok-clause-free g c =
    let a = c.requires.ready in
    let o = opened_here g (goal.at.replace-requires-in-Ok-clause-free g c).After-replace in
    free_after o c.args.column c.clear_others.new.self a.free a.apart c.clear_others.ensures.basis
    c.clear_others.ensures.sized.columns

pub returns-in-Ok-clause-pivoted : goal.returns-in-Ok-clause-pivoted
returns-in-Ok-clause-pivoted g c =
    let a = c.requires.ready in
    let m = c.make_primitive.ensures in
    let r = c.replace.ensures in
    let o = opened_here g (goal.at.returns-in-Ok-clause-pivoted g c).After-replace in
    let t3 = c.clear_others.new.self in
    let b3 = c.clear_others.ensures.basis in
    let n3 = c.clear_others.ensures.sized.columns in
    let t4 = c.replace-in-Ok.new.self in
    let r4 = c.replace-in-Ok.ensures in
    let cl = c.in-Ok.ensures.cleared in
    record {
      pivoted =
          pivoted o c.args.column t3 a.free a.apart b3 n3 t4 r4.basis r4.sized.columns r4.rows c.args.count a.all cl;
      closed =
          closed4 o c.args.column t3 a.free a.apart b3 n3 t4 r4.basis r4.sized.columns r4.rows c.args.count a.all cl;
      basis = next_basis o c.args.column t3 a.free a.apart b3 n3 t4 r4.basis r4.sized.columns r4.rows;
      small = r4.small;
      kept = λ z l.
          let h = cl.kept (omega (arith, l, r.sized.positions, m.sized.positions)) in
          kept_cleared o c.args.column a.free.inside m.kept r.kept z (kept_row_of t3) (kept_row_of t4)
          (r4.kept h.cleared) h;
    }

pub returns-in-Err-clause-refused : goal.returns-in-Err-clause-refused
returns-in-Err-clause-refused g c =
    let a = c.requires.ready in
    let m = c.make_primitive.ensures in
    let r = c.replace.ensures in
    let o = opened_here g (goal.at.returns-in-Err-clause-refused g c).After-replace in
    subst (λ (l : ℕ). RefusesPivot l c.args.count c.args.self.now c.args.row c.args.column c.in-Err.i)
    (r.sized.limit ∙ m.sized.limit)
    (refused o c.args.column c.clear_others.new.self a.free a.apart c.clear_others.ensures.basis
    c.clear_others.ensures.sized.columns c.replace.new.self.limit c.args.count c.in-Err.i c.in-Err.ensures.stopped
    m.kept r.kept)

pub returns-in-Err-clause-begun : goal.returns-in-Err-clause-begun
returns-in-Err-clause-begun g c =
    let a = c.requires.ready in
    let o = opened_here g (goal.at.returns-in-Err-clause-begun g c).After-replace in
    begun o c.args.column c.clear_others.new.self a.free a.apart c.clear_others.ensures.basis
    c.clear_others.ensures.sized.columns c.replace.new.self.limit c.args.count c.in-Err.i c.in-Err.ensures.stopped

pub returns-in-Ok-clause-sized : goal.returns-in-Ok-clause-sized
returns-in-Ok-clause-sized g c =
    sized_after c.make_primitive.ensures.sized
    (sized_after c.replace.ensures.sized (sized_after c.clear_others.ensures.sized c.replace-in-Ok.ensures.sized))

pub returns-in-Err-clause-sized : goal.returns-in-Err-clause-sized
returns-in-Err-clause-sized g c =
    sized_after c.make_primitive.ensures.sized (sized_after c.replace.ensures.sized c.clear_others.ensures.sized)
