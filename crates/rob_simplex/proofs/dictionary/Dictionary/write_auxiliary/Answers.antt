use Rattle.std.proofs.Common.{◌≡◌, ◌≢◌, ℕ, suc, ◌<◌, ◌+◌, ◌∙◌, ap, sym, subst, arith, length, pos}
use Rattle.rob_table.specs.Tables.{row_at}
use Rattle.rob_table.proofs.Places.{read_at}
use Rattle.rob_simplex.specs.Dictionaries.{Table, positions, columns_of, rows_of, kept_row_of, width_of, IsFree}
use Rattle.rob_simplex.proofs.Rows.RowEdits.{lent_bounds, sound_back}
use Rattle.rob_simplex.proofs.Rows.EditLemmas.{table_with, column_in, unit_auxiliary, unit_objective, unit_else, other_read}
use Rattle.rob_simplex.proofs.dictionary.Dictionary.write_auxiliary.Goals as goal

pub invariant_of-self : goal.invariant_of-self
invariant_of-self g c =
    let value = c.as_mut_slice.ensures.value in
    sound_back c.self.invariant c.self.inside.bounds.ok.0 value c.write_unit.auto.bounds
    (c.write_unit.ensures.bounded g.E.Entry.top c.self.invariant.limit_low (lent_bounds c.self.invariant value))

-- what it has written
pub returns : goal.returns
returns g c =
    let n = c.self.inside.columns in
    let basis = c.self.inside.basis.items in
    let places = c.self.inside.places.items in
    let table = c.self.inside.rows in
    let t = c.write_unit.new.rows in
    let x = c.index-place.result.now in
    let em : c.len-m.result ≡ length c.self.inside.basis.items = c.len-m.ensures ∙ c.self.inside.basis.ok.0 in
    let free : IsFree c.self.inside.columns c.self.inside.basis.items
    (c.self.inside.columns + length c.self.inside.basis.items) =
    subst (λ (v : Table). IsFree v.columns v.basis (v.columns + positions v)) (sym c.self.view_is) c.requires.free in
    let ci : c.self.inside.columns + length c.self.inside.basis.items < length c.self.inside.places.items =
    column_in c.self.invariant (n + length basis) free in
    let ex =
    read_at places (n + c.len-m.result) c.index-place.result.now (omega (arith, em, ci)) c.index-place.ensures
    ∙ ap (λ (m : ℕ). columns_of c.self.inside.places.items (c.self.inside.columns + m)) em in
    let there = subst (λ (m : ℕ). row_at t (n + 4) m x ≡ pos 1) em c.write_unit.ensures.at_place in
    let own = subst (λ (m : ℕ). (w : ℕ) → w + 1 ≡ n + 4 → row_at t (n + 4) m w ≡ pos 1) em c.write_unit.ensures.own in
    let zero =
    subst (λ (m : ℕ). (k : ℕ) → k + 1 < n + 4 → k ≢ x → row_at t (n + 4) m k ≡ pos 0) em c.write_unit.ensures.zero in
    let others =
    subst (λ (m : ℕ). (i k : ℕ) → i ≢ m → k < n + 4 → row_at t (n + 4) i k ≡ row_at table (n + 4) i k) em
    c.write_unit.ensures.others in
    record {
      auxiliary =
          subst (λ (v : Table). rows_of (table_with c.self.invariant t) (positions v) (v.columns + positions v) ≡ pos 1)
          c.self.view_is
          (unit_auxiliary c.self.invariant free x ex t there own zero);
      own =
          subst (λ (v : Table). rows_of (table_with c.self.invariant t) (positions v)
          (suc (v.columns + positions v)) ≡ pos 1) c.self.view_is
          (unit_objective c.self.invariant free x ex t there own zero);
      zero =
          subst (λ (v : Table). (k : ℕ) → k < width_of v → k ≢ v.columns + positions v
          → k ≢ suc (v.columns + positions v) → rows_of (table_with c.self.invariant t) (positions v) k ≡ pos 0)
          c.self.view_is
          (unit_else c.self.invariant free x ex t there own zero);
      rows =
          subst (λ (v : Table). (i k : ℕ) → i < positions v
          → rows_of (table_with c.self.invariant t) i k ≡ rows_of v i k) c.self.view_is
          (λ i k l. other_read c.self.invariant (length basis) t others i i k (λ e. absurd (omega (arith, l, e))));
      kept =
          subst (λ (v : Table). (k : ℕ) → kept_row_of (table_with c.self.invariant t) k ≡ kept_row_of v k)
          c.self.view_is
          (λ k. other_read c.self.invariant (length basis) t others (length basis) (suc (length basis)) k
          (λ e. absurd (omega (arith, e))));
      basis = ap (λ (v : Table). v.basis) c.self.view_is;
      sized = record {
        columns = ap (λ (v : Table). v.columns) c.self.view_is;
        positions = ap (λ (v : Table). positions v) c.self.view_is;
        limit = ap (λ (v : Table). v.limit) c.self.view_is;
      };
    }
