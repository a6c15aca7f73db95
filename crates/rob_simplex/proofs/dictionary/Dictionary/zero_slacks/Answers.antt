use Rattle.std.proofs.Common.{◌≡◌, ℕ, ◌<◌, ◌≤◌, ◌+◌, sym, subst, arith, pos, length, List}
use Rattle.rob_table.specs.Tables.{row_at}
use Rattle.rob_table.proofs.Places.{read_at}
use Rattle.rob_simplex.specs.Dictionaries.{Table, positions, columns_of, rows_of}
use Rattle.rob_simplex.proofs.Places.EntryLemmas.{zeros_before}
use Rattle.rob_simplex.proofs.dictionary.Dictionary.zero_slacks.Goals as goal

pub returns-clause-few : goal.returns-clause-few
returns-clause-few g c =
    let em : c.len.result ≡ length c.self.inside.basis.items = omega (arith, c.len.ensures, c.self.inside.basis.ok.0) in
    let low : c.lowest_some-column.result ≤ c.own_slack-before.result = c.lowest_some-column.ensures.low in
    let few : c.own_slack-before.result ≤ c.self.inside.columns + c.len.result = c.own_slack-before.ensures.few in
    subst (λ (t : Table). c.saturating_sub.result ≤ positions t) c.self.view_is
    (omega (arith, c.saturating_sub.ensures))

pub returns-clause-zeros : goal.returns-clause-zeros
returns-clause-zeros g c k kl =
    let n = c.self.inside.columns in
    let bl = subst (λ (t : Table). c.args.i < positions t) (sym c.self.view_is) c.requires.row_in in
    let il : c.args.i ≤ length c.self.inside.basis.items = omega arith in
    let em : c.len.result ≡ length c.self.inside.basis.items = omega (arith, c.len.ensures, c.self.inside.basis.ok.0) in
    let own : c.index.result.now ≡ columns_of c.self.inside.basis.items c.args.i =
    read_at c.self.inside.basis.items c.args.i c.index.result.now bl c.index.ensures in
    let zeros =
    subst (λ (s : List ℕ). (k : ℕ) → k < n + 2 → n ≤ columns_of s k → columns_of s k < c.lowest_some-column.result
    → row_at c.self.inside.rows (n + 4) c.args.i k ≡ pos 0) c.as_slice.ensures.value
    c.lowest_some-column.ensures.zeros in
    subst (λ (t : Table). rows_of t c.args.i (t.columns + k) ≡ pos 0) c.self.view_is
    (zeros_before c.self.invariant c.args.i il c.own_slack-before.result c.lowest_some-column.result
    (subst (λ m. c.own_slack-before.result ≤ n + m) em c.own_slack-before.ensures.few) bl
    (subst (λ b. n ≤ b → c.own_slack-before.result ≤ b) own c.own_slack-before.ensures.own)
    c.lowest_some-column.ensures.low zeros k (omega (arith, c.saturating_sub.ensures)))
