use Rattle.std.proofs.Common.{◌≡◌, ◌≢◌, ◌⊎◌, ℕ, ◌<◌, ◌≤◌, ◌+◌, ◌∙◌, sym, subst, arith, length, pos}
use Rattle.rob_table.proofs.Places.{read_at}
use Rattle.rob_simplex.specs.Dictionaries.{Table, positions, rows_of, width_of}
use Rattle.rob_simplex.proofs.Rows.EditLemmas.{table_with, column_in, emptied_zero, emptied_others}
use Rattle.rob_simplex.proofs.Places.Sizes.{sized_view}
use Rattle.rob_simplex.proofs.Places.Views.{column_free}
use Rattle.rob_simplex.proofs.dictionary.Dictionary.empty.Goals as goal

pub returns-clause-zero : goal.returns-clause-zero
returns-clause-zero g c =
    let n = c.self.inside.columns in
    let places = c.self.inside.places.items in
    let t = c.empty_place.new.rows in
    let em : c.len-count.result ≡ length c.self.inside.basis.items = c.len-count.ensures ∙ c.self.inside.basis.ok.0 in
    let free = column_free c.self.view_is c.requires.free in
    let ex =
    read_at places c.args.column c.index-place.result.now (column_in c.self.invariant c.args.column free)
    c.index-place.ensures in
    let zero =
    (λ (i : ℕ) (l : i < length c.self.inside.basis.items + 1).
    c.empty_place.ensures.zero i (omega (arith, em))) in
    let others =
    (λ (i k : ℕ) (l : k < n + 4) (d : (length c.self.inside.basis.items + 1 ≤ i) ⊎ (k ≢ c.index-place.result.now)).
    c.empty_place.ensures.others i k l
    (subst (λ (m : ℕ). (m + 1 ≤ i) ⊎ (k ≢ c.index-place.result.now)) (sym em) d)) in
    subst (λ (v : Table). (i : ℕ) → i ≤ positions v → rows_of (table_with c.self.invariant t) i c.args.column ≡ pos 0)
    c.self.view_is
    (emptied_zero c.self.invariant c.args.column free c.index-place.result.now ex t zero others)

pub returns-clause-others : goal.returns-clause-others
returns-clause-others g c =
    let n = c.self.inside.columns in
    let places = c.self.inside.places.items in
    let t = c.empty_place.new.rows in
    let em : c.len-count.result ≡ length c.self.inside.basis.items = c.len-count.ensures ∙ c.self.inside.basis.ok.0 in
    let free = column_free c.self.view_is c.requires.free in
    let ex =
    read_at places c.args.column c.index-place.result.now (column_in c.self.invariant c.args.column free)
    c.index-place.ensures in
    let zero =
    (λ (i : ℕ) (l : i < length c.self.inside.basis.items + 1).
    c.empty_place.ensures.zero i (omega (arith, em))) in
    let others =
    (λ (i k : ℕ) (l : k < n + 4) (d : (length c.self.inside.basis.items + 1 ≤ i) ⊎ (k ≢ c.index-place.result.now)).
    c.empty_place.ensures.others i k l
    (subst (λ (m : ℕ). (m + 1 ≤ i) ⊎ (k ≢ c.index-place.result.now)) (sym em) d)) in
    subst (λ (v : Table). (i k : ℕ) → i ≤ positions v → k < width_of v → k ≢ c.args.column
    → rows_of (table_with c.self.invariant t) i k ≡ rows_of v i k) c.self.view_is
    (emptied_others c.self.invariant c.args.column free c.index-place.result.now ex t zero others)

pub returns-clause-sized : goal.returns-clause-sized
returns-clause-sized g c =
    let s = sized_view c.self.view_is in record { columns = s.columns; positions = s.positions; limit = s.limit }
