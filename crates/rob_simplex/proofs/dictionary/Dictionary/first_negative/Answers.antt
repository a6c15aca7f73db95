use Rattle.std.proofs.Common.{◌≡◌, ℕ, ◌<◌, ◌≤◌, ◌+◌, sym, subst, arith, length, List, pos}
use lib.Signed.{◌≤ℤ◌}
use Rattle.rob_table.specs.Tables.{row_at}
use Rattle.rob_simplex.specs.Dictionaries.{Table, positions, columns_of, basic_columns, rows_of, FirstNegative}
use Rattle.rob_entries.specs.Choices.{IsLowest}
use Rattle.rob_simplex.proofs.Places.EntryLemmas.{row_inside, is_first, is_none}
use Rattle.rob_simplex.proofs.dictionary.Dictionary.first_negative.Goals as goal

pub returns-then-best-auxiliary : goal.returns-then-best-auxiliary
returns-then-best-auxiliary g c =
    let il : c.args.row ≤ length c.self.inside.basis.items =
    subst (λ (t : Table). c.args.row ≤ positions t) (sym c.self.view_is) c.requires.row_in in
    let n = c.self.inside.columns in
    let em : c.len.result ≡ length c.self.inside.basis.items = omega (arith, c.len.ensures, c.self.inside.basis.ok.0) in
    let inside = row_inside c.self.invariant c.args.row il in
    let lowest : IsLowest (row_at c.self.inside.rows (c.self.inside.columns + 4) c.args.row)
    (columns_of c.self.inside.near.items) (c.self.inside.columns + 2)
    (c.self.inside.columns + length c.self.inside.basis.items) c.lowest_negative-best.result =
    subst (λ (m : ℕ). IsLowest (row_at c.self.inside.rows (n + 4) c.args.row) (columns_of c.self.inside.near.items)
    (n + 2) (n + m) c.lowest_negative-best.result) em
    (subst (λ (s : List ℕ). IsLowest (row_at c.self.inside.rows (n + 4) c.args.row) (columns_of s) (n + 2)
    (n + c.len.result) c.lowest_negative-best.result) c.as_slice.ensures.value c.lowest_negative-best.ensures.lowest) in
    let own =
    subst (λ (t : Table). pos 0 ≤ℤ rows_of t c.args.row (basic_columns t.columns t.basis c.args.row))
    (sym c.self.view_is) c.requires.own in
    let less : c.lowest_negative-best.result < c.self.inside.columns + length c.self.inside.basis.items =
    omega (arith, em, c.if-best-auxiliary.true) in
    record {
      first =
          subst (λ (t : Table). FirstNegative (t.columns + positions t) (rows_of t c.args.row)
          c.lowest_negative-best.result) c.self.view_is
          (is_first c.self.invariant c.args.row il own c.lowest_negative-best.result lowest less);
    }

pub returns-else-best-auxiliary : goal.returns-else-best-auxiliary
returns-else-best-auxiliary g c =
    let il : c.args.row ≤ length c.self.inside.basis.items =
    subst (λ (t : Table). c.args.row ≤ positions t) (sym c.self.view_is) c.requires.row_in in
    let n = c.self.inside.columns in
    let em : c.len.result ≡ length c.self.inside.basis.items = omega (arith, c.len.ensures, c.self.inside.basis.ok.0) in
    let inside = row_inside c.self.invariant c.args.row il in
    let lowest : IsLowest (row_at c.self.inside.rows (c.self.inside.columns + 4) c.args.row)
    (columns_of c.self.inside.near.items) (c.self.inside.columns + 2)
    (c.self.inside.columns + length c.self.inside.basis.items) c.lowest_negative-best.result =
    subst (λ (m : ℕ). IsLowest (row_at c.self.inside.rows (n + 4) c.args.row) (columns_of c.self.inside.near.items)
    (n + 2) (n + m) c.lowest_negative-best.result) em
    (subst (λ (s : List ℕ). IsLowest (row_at c.self.inside.rows (n + 4) c.args.row) (columns_of s) (n + 2)
    (n + c.len.result) c.lowest_negative-best.result) c.as_slice.ensures.value c.lowest_negative-best.ensures.lowest) in
    let own =
    subst (λ (t : Table). pos 0 ≤ℤ rows_of t c.args.row (basic_columns t.columns t.basis c.args.row))
    (sym c.self.view_is) c.requires.own in
    let more : c.self.inside.columns + length c.self.inside.basis.items ≤ c.lowest_negative-best.result =
    omega (arith, em, c.if-best-auxiliary.false) in
    record {
      first =
          subst (λ (t : Table). (k : ℕ) → k < t.columns + positions t → pos 0 ≤ℤ rows_of t c.args.row k) c.self.view_is
          (is_none c.self.invariant c.args.row il own c.lowest_negative-best.result lowest more);
    }
