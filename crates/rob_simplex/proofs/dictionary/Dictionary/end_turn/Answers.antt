use Rattle.std.proofs.Common.{ℕ, ◌+◌, ◌<◌, ◌≤◌, subst, arith}
use Rattle.std.proofs.lemmas.Result.{on_ok_weaker, IfErr-weaker}
use Rattle.rob_linear.specs.WideRows.{HasWideRow}
use Rattle.rob_simplex.specs.Dictionaries.{positions, columns_of, StopsTable}
use Rattle.rob_simplex.proofs.Pivoting.BrokenPivots.{spare_free, clears_again, cleared_free}
use Rattle.rob_simplex.proofs.Pivoting.BegunTurns.{pivotable_turn, ended_again, refused_again}
use Rattle.rob_simplex.proofs.Places.Views.{spare_told}
use Rattle.rob_simplex.proofs.Places.Sizes.{sized_after}
use Rattle.rob_simplex.proofs.dictionary.Dictionary.end_turn.Goals as goal

pub replace-requires-clause-free : goal.replace-requires-clause-free
replace-requires-clause-free g c =
    let h = c.requires.begun.1 in
    spare_free (pivotable_turn c.requires.begun.0 h) h.broken (c.columns-n.result + c.positions-m.result + 3)
    (spare_told c.args.self.now c.columns-n.ensures.columns c.positions-m.ensures.positions)

-- the position is open again
pub clear_others-cleared-requires : goal.clear_others-cleared-requires
clear_others-cleared-requires g c =
    let em = c.positions-m.ensures.positions in
    let h = c.requires.begun.1 in
    record {
      ready =
          clears_again (pivotable_turn c.requires.begun.0 h) h.broken c.basic-column.ensures.column
          (spare_told c.args.self.now c.columns-n.ensures.columns em) c.replace.ensures.exchanged
          (c.positions-m.result + 1) (omega (arith, em, c.replace.ensures.sized.positions));
    }

pub replace-requires-2 : goal.replace-requires-2
replace-requires-2 g c =
    let h = c.requires.begun.1 in
    let e2 = c.clear_others-cleared.ensures in
    record {
      row_in = omega (arith, e2.sized.positions, c.replace.ensures.sized.positions, c.requires.row_in);
      free =
          cleared_free (pivotable_turn c.requires.begun.0 h) h.broken c.basic-column.ensures.column
          (spare_told c.args.self.now c.columns-n.ensures.columns c.positions-m.ensures.positions)
          c.replace.ensures.exchanged c.clear_others-cleared.new.self e2.basis e2.sized.columns;
    }

pub returns-clause-turned : goal.returns-clause-turned
returns-clause-turned g c P h =
    let em = c.positions-m.ensures.positions in
    let ez = spare_told c.args.self.now c.columns-n.ensures.columns em in
    let e2 = c.clear_others-cleared.ensures in
    let e4 = c.replace-2.ensures in
    on_ok_weaker c.clear_others-cleared.result
    (ended_again P h c.basic-column.ensures.column ez c.replace.ensures.exchanged c.clear_others-cleared.new.self
    e2.basis e2.sized.columns c.replace-2.new.self e4.basis e4.sized.columns e4.rows (c.positions-m.result + 1)
    (omega (arith, em)))
    e2.cleared

pub returns-clause-wide : goal.returns-clause-wide
returns-clause-wide g c P h =
    let em = c.positions-m.ensures.positions in
    let ez = spare_told c.args.self.now c.columns-n.ensures.columns em in
    let t1 = c.replace.new.self in
    let r2 = c.clear_others-cleared.new.self in
    let e2 = c.clear_others-cleared.ensures in
    let t4 = c.replace-2.new.self in
    let e4 = c.replace-2.ensures in
    IfErr-weaker c.clear_others-cleared.result
    (λ (i : ℕ). StopsTable t1.limit (c.positions-m.result + 1) t1 r2 c.args.row c.basic-column.result i)
    (λ (i : ℕ). HasWideRow c.args.self.now.limit P (columns_of t4.basis) i)
    (λ i sp.
    let inside : i < c.positions-m.result + 1 = sp.inside in
    subst (λ l. HasWideRow l P (columns_of t4.basis) i) c.replace.ensures.sized.limit
    (refused_again P h c.basic-column.ensures.column ez c.replace.ensures.exchanged r2 e2.basis e2.sized.columns t4
    e4.basis e4.sized.columns t1.limit (c.positions-m.result + 1) i sp (omega (arith, em))))
    e2.stopped

pub returns-clause-position : goal.returns-clause-position
returns-clause-position g c =
    let t1 = c.replace.new.self in
    let r2 = c.clear_others-cleared.new.self in
    IfErr-weaker c.clear_others-cleared.result
    (λ (i : ℕ). StopsTable t1.limit (c.positions-m.result + 1) t1 r2 c.args.row c.basic-column.result i)
    (λ (i : ℕ). i ≤ positions c.args.self.now)
    (λ i sp.
    let inside : i < c.positions-m.result + 1 = sp.inside in
    omega (arith, c.positions-m.ensures.positions))
    c.clear_others-cleared.ensures.stopped

pub returns-clause-sized : goal.returns-clause-sized
returns-clause-sized g c =
    sized_after c.replace.ensures.sized (sized_after c.clear_others-cleared.ensures.sized c.replace-2.ensures.sized)
