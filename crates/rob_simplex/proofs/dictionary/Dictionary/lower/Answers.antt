use Rattle.std.proofs.Common.{◌≡◌, ◌≢◌, ℕ, suc, ◌+◌, ◌<◌, ◌∙◌, ap, sym, subst, arith, length, pos, OnOk, OnErr, to_z, of_z, w64}
use Rattle.std.proofs.lemmas.Result.{on_ok_weaker, on_err_weaker}
use Rattle.std.proofs.lemmas.Int.{to_z-of_z}
use Rattle.rob_table.specs.Tables.{row_at}
use Rattle.rob_table.specs.Lowering.{IsLowered, IsWideLowered}
use Rattle.rob_table.proofs.Places.{read_at}
use Rattle.rob_simplex.specs.Dictionaries.{Table, positions, rows_of, width_of, columns_of}
use Rattle.rob_simplex.specs.Lowering.{HasWay, amount_of}
use Rattle.rob_simplex.proofs.Rows.RowEdits.{lent_bounds, sound_back, sound_loaded}
use Rattle.rob_simplex.proofs.Rows.EditLemmas.{table_with, column_in}
use Rattle.rob_simplex.proofs.Rows.ReadRows.{read_same}
use Rattle.rob_simplex.proofs.CostChange.LoweredTables.{own_entry, way_there, lowered_table, wide_table}
use Rattle.rob_simplex.proofs.Places.Sizes.{sized_view}
use Rattle.rob_simplex.proofs.Places.Views.{column_free}
use Rattle.rob_simplex.proofs.dictionary.Dictionary.lower.Goals as goal

pub lower_row-requires-clause-ready : goal.lower_row-requires-clause-ready
lower_row-requires-clause-ready g c =
    let n = c.self.inside.columns in
    let basis = c.self.inside.basis.items in
    let table = c.self.inside.rows in
    let em : c.len-m.result ≡ length c.self.inside.basis.items = c.len-m.ensures ∙ c.self.inside.basis.ok.0 in
    let w = subst (λ (v : Table). HasWay v c.args.column) (sym c.self.view_is) c.requires.ready.way in
    let ex =
    read_at c.self.inside.places.items c.args.column c.index-place.result.now
    (column_in c.self.invariant c.args.column w.free) c.index-place.ensures in
    let wi = column_in c.self.invariant (n + length basis) w.way in
    let ew =
    read_at c.self.inside.places.items (n + c.len-m.result) c.index-way.result.now (omega (arith, em, wi))
    c.index-way.ensures ∙ ap (λ (m : ℕ). columns_of c.self.inside.places.items (n + m)) em in
    let there = way_there c.self.invariant w ex ew in
    let lent = ap length c.as_mut_slice.ensures.value in
    let some =
    subst (λ (v : Table). rows_of v (positions v) (suc (v.columns + positions v)) ≢ pos 0) (sym c.self.view_is)
    c.requires.ready.own in
    record {
      few = omega (arith, c.self.invariant.few);
      bounded = lent_bounds c.self.invariant c.as_mut_slice.ensures.value;
      inside = omega (arith, em, lent, c.self.invariant.count);
      workspace_is = c.self.invariant.workspace_is;
      way_in = there.way_in;
      place_in = there.place_in;
      apart = there.apart;
      zero = ap (λ (m : ℕ). row_at table (n + 4) m c.index-way.result.now) em ∙ there.zero;
      own = λ z. some (own_entry c.self.invariant ∙ ap (λ (m : ℕ). row_at table (n + 4) m (n + 3)) (sym em) ∙ z);
    }

pub invariant_of-self : goal.invariant_of-self
invariant_of-self g c =
    sound_loaded (c.lower_row.ensures.size ∙ sym c.self.invariant.workspace_is)
    (sound_back c.self.invariant c.self.inside.bounds.ok.0 c.as_mut_slice.ensures.value c.lower_row.auto.bounds
    c.lower_row.ensures.bounded)

-- what it has lowered
pub returns : goal.returns
returns g c =
    let n = c.self.inside.columns in
    let table = c.self.inside.rows in
    let new = c.lower_row.new.rows in
    let s = sized_view c.self.view_is in
    let em : c.len-m.result ≡ length c.self.inside.basis.items = c.len-m.ensures ∙ c.self.inside.basis.ok.0 in
    let free = column_free c.self.view_is c.requires.ready.way.free in
    let ex =
    read_at c.self.inside.places.items c.args.column c.index-place.result.now
    (column_in c.self.invariant c.args.column free) c.index-place.ensures in
    let seen : to_z w64 (of_z w64 c.args.factor) ≡ c.args.factor = to_z-of_z w64 c.args.factor c.ranges.factor in
    record {
      lowered =
          subst (λ (v : Table). OnOk c.lower_row.result
          (IsLowered (width_of v) c.args.column (amount_of v c.args.factor) (rows_of v (positions v))
          (rows_of (table_with c.self.invariant new) (positions v)))) c.self.view_is
          (on_ok_weaker c.lower_row.result (lowered_table c.self.invariant free c.args.factor ex em seen new)
          c.lower_row.ensures.lowered);
      wide =
          subst (λ (v : Table). OnErr c.lower_row.result
          (IsWideLowered v.limit (width_of v) c.args.column (amount_of v c.args.factor) (rows_of v (positions v))))
          c.self.view_is
          (on_err_weaker c.lower_row.result (wide_table c.self.invariant free c.args.factor ex em seen)
          c.lower_row.ensures.wide);
      rows =
          subst (λ (v : Table). (i k : ℕ) → i < positions v
          → rows_of (table_with c.self.invariant new) i k ≡ rows_of v i k) c.self.view_is
          (λ i k l. read_same (n + 3) (columns_of c.self.inside.places.items) i (row_at table (n + 4) i)
          (row_at new (n + 4) i)
          (λ q ql. c.lower_row.ensures.others i q (λ e. absurd (omega (arith, em))) (λ e. absurd (omega (arith, em)))
          (omega arith)) k);
      basis = ap (λ (v : Table). v.basis) c.self.view_is;
      sized = record { columns = s.columns; positions = s.positions; limit = s.limit };
      counted = c.lower_row.ensures.counted;
    }
