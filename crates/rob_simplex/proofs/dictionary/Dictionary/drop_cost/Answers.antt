use Rattle.std.proofs.Common.{◌≡◌, ◌≢◌, ℕ, suc, ◌<◌, ◌+◌, ◌∙◌, ap, subst, arith, length, pos}
use Rattle.rob_linear.specs.Stages.{unit_row}
use Rattle.rob_table.specs.Tables.{row_at}
use Rattle.rob_table.specs.Lowering.{step_row}
use Rattle.rob_simplex.specs.Dictionaries.{Table, positions, rows_of, width_of}
use Rattle.rob_simplex.proofs.Rows.RowEdits.{sound_back}
use Rattle.rob_simplex.proofs.Rows.EditLemmas.{table_with, other_read}
use Rattle.rob_simplex.proofs.CostChange.LoweredTables.{dropped_objective}
use Rattle.rob_simplex.proofs.Places.Sizes.{sized_view}
use Rattle.rob_simplex.proofs.dictionary.Dictionary.drop_cost.Goals as goal

pub invariant_of-self : goal.invariant_of-self
invariant_of-self g c =
    sound_back c.self.invariant c.self.inside.bounds.ok.0 c.as_mut_slice.ensures.value c.write_step.auto.bounds
    c.write_step.ensures.bounded

pub returns-clause-objective : goal.returns-clause-objective
returns-clause-objective g c =
    let n = c.self.inside.columns in
    let t = c.write_step.new.rows in
    let em : c.len-m.result ≡ length c.self.inside.basis.items = c.len-m.ensures ∙ c.self.inside.basis.ok.0 in
    let here =
    subst (λ (m : ℕ). (k : ℕ) → k < n + 4 → row_at t (n + 4) m k ≡ step_row (n + 3) (n + 3) (pos 1) k) em
    (λ k l. c.write_step.ensures.row k l ∙ ap (λ z. step_row (n + 3) (n + 3) z k) c.of.ensures.value) in
    subst (λ (v : Table). (k : ℕ) → k < width_of v
    → rows_of (table_with c.self.invariant t) (positions v) k ≡ unit_row (suc (v.columns + positions v)) k)
    c.self.view_is
    (dropped_objective c.self.invariant t here)

pub returns-clause-rows : goal.returns-clause-rows
returns-clause-rows g c =
    let n = c.self.inside.columns in
    let table = c.self.inside.rows in
    let t = c.write_step.new.rows in
    let em : c.len-m.result ≡ length c.self.inside.basis.items = c.len-m.ensures ∙ c.self.inside.basis.ok.0 in
    let others =
    subst (λ (m : ℕ). (i k : ℕ) → i ≢ m → k < n + 4 → row_at t (n + 4) i k ≡ row_at table (n + 4) i k) em
    c.write_step.ensures.others in
    subst (λ (v : Table). (i k : ℕ) → i < positions v → rows_of (table_with c.self.invariant t) i k ≡ rows_of v i k)
    c.self.view_is
    (λ i k l. other_read c.self.invariant (length c.self.inside.basis.items) t others i i k (λ e. absurd (omega arith)))

pub returns-clause-sized : goal.returns-clause-sized
returns-clause-sized g c =
    let s = sized_view c.self.view_is in record { columns = s.columns; positions = s.positions; limit = s.limit }
