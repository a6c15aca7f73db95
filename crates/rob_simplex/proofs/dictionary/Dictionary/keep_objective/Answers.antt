use Rattle.std.proofs.Common.{◌≡◌, ℕ, suc, ◌+◌, ◌∙◌, subst, arith, length}
use Rattle.rob_simplex.specs.Dictionaries.{Table, positions, rows_of, kept_row_of}
use Rattle.rob_simplex.proofs.Rows.RowEdits.{lent_bounds, sound_back}
use Rattle.rob_simplex.proofs.Rows.EditLemmas.{table_with, copied_between}
use Rattle.rob_simplex.proofs.Places.Sizes.{sized_view}
use Rattle.rob_simplex.proofs.dictionary.Dictionary.keep_objective.Goals as goal

pub invariant_of-self : goal.invariant_of-self
invariant_of-self g c =
    let value = c.as_mut_slice.ensures.value in
    sound_back c.self.invariant c.self.inside.bounds.ok.0 value c.copy_row.auto.bounds
    (c.copy_row.ensures.bounded g.E.Entry.top (lent_bounds c.self.invariant value))

pub returns-clause-kept : goal.returns-clause-kept
returns-clause-kept g c =
    let t = c.copy_row.new.rows in
    let em : c.len-m.result ≡ length c.self.inside.basis.items = c.len-m.ensures ∙ c.self.inside.basis.ok.0 in
    let ef : c.len-m.result ≡ length c.self.inside.basis.items = omega (arith, em) in
    let et : (c.len-m.result + 1) ≡ suc (length c.self.inside.basis.items) = omega (arith, em) in
    subst (λ (v : Table). (k : ℕ) → kept_row_of (table_with c.self.invariant t) k ≡ rows_of v (positions v) k)
    c.self.view_is
    (copied_between c.self.invariant c.len-m.result (c.len-m.result + 1) (length c.self.inside.basis.items)
    (suc (length c.self.inside.basis.items)) ef et t
    c.copy_row.ensures.row
    (length c.self.inside.basis.items))

pub returns-clause-sized : goal.returns-clause-sized
returns-clause-sized g c =
    let s = sized_view c.self.view_is in record { columns = s.columns; positions = s.positions; limit = s.limit }
