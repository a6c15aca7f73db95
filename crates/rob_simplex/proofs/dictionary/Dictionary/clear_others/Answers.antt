use Rattle.std.proofs.Common.{◌≡◌, ℕ, ◌<◌, ◌≤◌, ◌+◌, ◌∙◌, ap, sym, subst, arith, length, nat_abs, OnOk}
use Rattle.std.specs.Prelude.{IfErr}
use Rattle.std.proofs.lemmas.Result.{on_ok_weaker, IfErr-weaker}
use Rattle.rob_linear.specs.Vectors.{at}
use Rattle.rob_table.specs.Tables.{row_at, bound_at, IsStopped}
use Rattle.rob_table.proofs.Places.{read_at}
use Rattle.rob_table.proofs.ClearingTops.{multiple_in}
use Rattle.rob_simplex.specs.Dictionaries.{Table, ClearsTable, StopsTable}
use Rattle.rob_simplex.proofs.Rows.RowEdits.{lent_bounds}
use Rattle.rob_simplex.proofs.Rows.EditLemmas.{column_in}
use Rattle.rob_simplex.proofs.Pivoting.TableClearing.{free_place, row_there, positive_entry, own_there, table_cleared, table_stopped, before, after}
use Rattle.rob_simplex.proofs.Places.Views.{can_clear}
use Rattle.rob_simplex.proofs.Places.Sizes.{sized_view}
use Rattle.rob_simplex.proofs.dictionary.Dictionary.clear_others.Goals as goal

pub load-requires : goal.load-requires
load-requires g c =
    let a = can_clear c.self.view_is c.requires.ready in
    let bl : c.args.row < length c.self.inside.bounds.items = omega (arith, a.row_in, c.self.invariant.count) in
    let b : c.index.result.now ≡ bound_at c.self.inside.bounds.items c.args.row =
    read_at c.self.inside.bounds.items c.args.row c.index.result.now bl c.index.ensures in
    let there = row_there c.self.invariant a in
    record {
      inside = omega (arith, there, c.self.invariant.workspace_is);
      within = λ k l.
          let kl : k < c.self.inside.columns + 4 = omega (arith, c.self.invariant.workspace_is) in
          subst (λ (x : ℕ). nat_abs (row_at c.self.inside.rows (c.self.inside.columns + 4) c.args.row k) ≤ x) (sym b)
          (c.self.invariant.bounded.within c.args.row k bl kl);
      bound = subst (λ (x : ℕ). x ≤ g.E.Entry.top) (sym b) (c.self.invariant.bounded.low c.args.row bl);
    }

pub clear_rows-requires : goal.clear_rows-requires
clear_rows-requires g c =
    let a = can_clear c.self.view_is c.requires.ready in
    let bl : c.args.row < length c.self.inside.bounds.items = omega (arith, a.row_in, c.self.invariant.count) in
    let b : c.index.result.now ≡ bound_at c.self.inside.bounds.items c.args.row =
    read_at c.self.inside.bounds.items c.args.row c.index.result.now bl c.index.ensures in
    let low : bound_at c.self.inside.bounds.items c.args.row ≤ g.E.Entry.top =
    c.self.invariant.bounded.low c.args.row bl in
    let ex =
    read_at c.self.inside.places.items c.args.column c.index-2.result.now
    (column_in c.self.invariant c.args.column a.free) c.index-2.ensures in
    let m = multiple_in c.self.invariant.workspace_is c.load.ensures.entries in
    let fp = free_place c.self.invariant a in
    let lent = ap length c.as_mut_slice.ensures.value in
    record {
      ready = record {
        bounded = lent_bounds c.self.invariant c.as_mut_slice.ensures.value;
        inside = omega (arith, a.below, lent, c.self.invariant.count);
        width = c.load.ensures.size ∙ c.self.invariant.workspace_is;
        place_in = omega (arith, ex, fp);
        low = omega (arith, b, low, c.load.ensures.bound);
        positive = positive_entry c.self.invariant a c.load.new.row.entries m c.index-2.result.now ex;
      };
      own = own_there c.self.invariant a c.load.new.row.entries m c.index-2.result.now ex;
    }

pub returns-clause-cleared : goal.returns-clause-cleared
returns-clause-cleared g c =
    let a = can_clear c.self.view_is c.requires.ready in
    let ex =
    read_at c.self.inside.places.items c.args.column c.index-2.result.now
    (column_in c.self.invariant c.args.column a.free) c.index-2.ensures in
    let m = multiple_in c.self.invariant.workspace_is c.load.ensures.entries in
    subst (λ (v : Table). OnOk c.clear_rows.result
    (ClearsTable c.args.count v (after c.self.invariant a c.clear_rows.new.rows) c.args.row c.args.column))
    c.self.view_is
    (on_ok_weaker c.clear_rows.result
    (table_cleared c.self.invariant a c.load.new.row.entries m c.index-2.result.now ex c.clear_rows.new.rows)
    c.clear_rows.ensures.cleared)

pub returns-clause-stopped : goal.returns-clause-stopped
returns-clause-stopped g c =
    let w = c.self.inside.columns + 4 in
    let a = can_clear c.self.view_is c.requires.ready in
    let ex =
    read_at c.self.inside.places.items c.args.column c.index-2.result.now
    (column_in c.self.invariant c.args.column a.free) c.index-2.ensures in
    let m = multiple_in c.self.invariant.workspace_is c.load.ensures.entries in
    let new = c.clear_rows.new.rows in
    subst (λ (v : Table). IfErr c.clear_rows.result
    (λ (i : ℕ). StopsTable v.limit c.args.count v (after c.self.invariant a new) c.args.row c.args.column i))
    c.self.view_is
    (IfErr-weaker c.clear_rows.result
    (λ (i : ℕ). IsStopped g.E.Entry.top c.args.count w c.args.row c.index-2.result.now
    (at c.load.new.row.entries) (row_at c.self.inside.rows w) (row_at new w) i)
    (λ (i : ℕ). StopsTable g.E.Entry.top c.args.count (before c.self.invariant a) (after c.self.invariant a new)
    c.args.row c.args.column i)
    (λ i. table_stopped c.self.invariant a c.load.new.row.entries m c.index-2.result.now ex new i)
    c.clear_rows.ensures.stopped)

pub returns-clause-sized : goal.returns-clause-sized
returns-clause-sized g c =
    let s = sized_view c.self.view_is in record { columns = s.columns; positions = s.positions; limit = s.limit }
