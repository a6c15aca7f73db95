use Rattle.std.proofs.Common.{◌≡◌, ℕ, ◌<◌, ◌≤◌, ◌∙◌, subst, set}
use Rattle.std.proofs.lemmas.List.{length-set}
use Rattle.rob_linear.specs.Beside.{exchanged}
use Rattle.rob_table.proofs.Places.{read_at}
use Rattle.rob_simplex.specs.Dictionaries.{Table, positions, rows_of, kept_row_of, width_of}
use Rattle.rob_simplex.proofs.Rows.EditLemmas.{exchanged_table, exchanged_sound, exchanged_rows, exchanged_kept}
use Rattle.rob_simplex.proofs.Rows.RowEdits.{lent_bounds, bounds_back, length_back}
use Rattle.rob_simplex.proofs.Places.Sizes.{sized_view}
use Rattle.rob_simplex.proofs.Places.Views.{position_in}
use Rattle.rob_simplex.proofs.dictionary.Dictionary.exchange.Goals as goal

pub invariant_of-self : goal.invariant_of-self
invariant_of-self g c =
    let basis = c.self.inside.basis.items in
    let ok = c.self.inside.bounds.ok.0 in
    let value = c.as_mut_slice.ensures.value in
    let kept = c.exchange_rows.auto.bounds in
    let al = position_in c.self.view_is c.requires.a_in in
    let bl = position_in c.self.view_is c.requires.b_in in
    let ex = read_at basis c.args.a c.index-first.result.now al c.index-first.ensures in
    let ey = read_at basis c.args.b c.index-second.result.now bl c.index-second.ensures in
    exchanged_sound c.self.invariant c.args.a c.args.b al bl c.index-first.result.now c.index-second.result.now ex ey
    c.exchange_rows.new.rows _
    (bounds_back ok value kept (c.exchange_rows.ensures.bounded g.E.Entry.top (lent_bounds c.self.invariant value)))
    (length_back c.exchange_rows.new.bounds ok value kept)

pub returns-clause-rows : goal.returns-clause-rows
returns-clause-rows g c =
    let basis = c.self.inside.basis.items in
    let t = c.exchange_rows.new.rows in
    let al = position_in c.self.view_is c.requires.a_in in
    let bl = position_in c.self.view_is c.requires.b_in in
    let ex = read_at basis c.args.a c.index-first.result.now al c.index-first.ensures in
    let ey = read_at basis c.args.b c.index-second.result.now bl c.index-second.ensures in
    subst (λ (v : Table). (i k : ℕ) → i ≤ positions v → k < width_of v
    → rows_of (exchanged_table c.self.invariant c.args.a c.args.b al bl c.index-first.result.now
    c.index-second.result.now ex ey t) i k ≡ rows_of v (exchanged c.args.a c.args.b i) k) c.self.view_is
    (exchanged_rows c.self.invariant c.args.a c.args.b al bl c.index-first.result.now c.index-second.result.now ex ey t
    c.exchange_rows.ensures.rows)

pub returns-clause-kept : goal.returns-clause-kept
returns-clause-kept g c =
    let basis = c.self.inside.basis.items in
    let t = c.exchange_rows.new.rows in
    let al = position_in c.self.view_is c.requires.a_in in
    let bl = position_in c.self.view_is c.requires.b_in in
    let ex = read_at basis c.args.a c.index-first.result.now al c.index-first.ensures in
    let ey = read_at basis c.args.b c.index-second.result.now bl c.index-second.ensures in
    subst (λ (v : Table). (k : ℕ) → k < width_of v
    → kept_row_of (exchanged_table c.self.invariant c.args.a c.args.b al bl c.index-first.result.now
    c.index-second.result.now ex ey t) k ≡ kept_row_of v k) c.self.view_is
    (exchanged_kept c.self.invariant c.args.a c.args.b al bl c.index-first.result.now c.index-second.result.now ex ey t
    c.exchange_rows.ensures.rows)

pub returns-clause-sized : goal.returns-clause-sized
returns-clause-sized g c =
    let s = sized_view c.self.view_is in
    let basis = c.self.inside.basis.items in
    let first = c.index-first.result.now in
    let second = c.index-second.result.now in
    record {
      columns = s.columns;
      positions =
          length-set (set basis c.args.a second) c.args.b first ∙ length-set basis c.args.a second ∙ s.positions;
      limit = s.limit;
    }
