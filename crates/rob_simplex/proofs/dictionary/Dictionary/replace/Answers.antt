use Rattle.std.proofs.Common.{◌≡◌, ℕ, ◌<◌, ◌≤◌, ◌+◌, ◌*◌, ◌∙◌, ap, sym, subst, arith, length, pos, set}
use Rattle.std.proofs.lemmas.List.{length-set}
use Rattle.rob_table.proofs.Places.{read_at}
use Rattle.rob_simplex.specs.Dictionaries.{Table, positions, columns_of, rows_of, kept_row_of, IsAlone, IsExchanged}
use Rattle.rob_simplex.proofs.Places.EntryLemmas.{small_entries}
use Rattle.rob_simplex.proofs.Pivoting.Replacing.{first_in, left_in, place_low, made_sound, made_rows, made_kept, made_exchanged, made}
use Rattle.rob_simplex.proofs.Rows.EditLemmas.{column_in}
use Rattle.rob_simplex.proofs.Places.Sizes.{sized_view}
use Rattle.rob_simplex.proofs.Places.Views.{position_in, column_free}
use Rattle.rob_simplex.proofs.dictionary.Dictionary.replace.Goals as goal

pub swap-requires-clause-a_in : goal.swap-requires-clause-a_in
swap-requires-clause-a_in g c =
    let n = c.self.inside.columns in
    let rl = position_in c.self.view_is c.requires.row_in in
    let free = column_free c.self.view_is c.requires.free in
    let ex =
    read_at c.self.inside.places.items c.args.column c.index-place.result.now
    (column_in c.self.invariant c.args.column free) c.index-place.ensures in
    (subst (λ (x : ℕ). c.args.row * (n + 4) + x < length c.self.inside.rows) (sym ex)
    (first_in c.self.invariant c.args.row c.args.column rl free))

pub index_mut-requires : goal.index_mut-requires
index_mut-requires g c =
    let rl = position_in c.self.view_is c.requires.row_in in
    let free = column_free c.self.view_is c.requires.free in
    let ex =
    read_at c.self.inside.places.items c.args.column c.index-place.result.now
    (column_in c.self.invariant c.args.column free) c.index-place.ensures in
    let low : columns_of c.self.inside.places.items c.args.column < c.self.inside.columns + 2 =
    place_low c.self.invariant c.args.row c.args.column rl free in
    omega (arith, ex, low, c.self.invariant.near_size, c.self.inside.near.ok.0)

pub index_mut-requires-2 : goal.index_mut-requires-2
index_mut-requires-2 g c =
    let rl = position_in c.self.view_is c.requires.row_in in
    let free = column_free c.self.view_is c.requires.free in
    let el = read_at c.self.inside.basis.items c.args.row c.index-left.result.now rl c.index-left.ensures in
    let low : columns_of c.self.inside.basis.items c.args.row < length c.self.inside.places.items =
    left_in c.self.invariant c.args.row c.args.column rl free in
    omega (arith, el, low, c.self.inside.places.ok.0)

pub invariant_of-self : goal.invariant_of-self
invariant_of-self g c =
    let rl = position_in c.self.view_is c.requires.row_in in
    let free = column_free c.self.view_is c.requires.free in
    let ex =
    read_at c.self.inside.places.items c.args.column c.index-place.result.now
    (column_in c.self.invariant c.args.column free) c.index-place.ensures in
    let el = read_at c.self.inside.basis.items c.args.row c.index-left.result.now rl c.index-left.ensures in
    made_sound c.self.invariant c.args.row c.args.column rl free ex el c.swap.ensures.swapped

-- what it has made
pub returns : goal.returns
returns g c =
    let s = sized_view c.self.view_is in
    let rl = position_in c.self.view_is c.requires.row_in in
    let free = column_free c.self.view_is c.requires.free in
    let ex =
    read_at c.self.inside.places.items c.args.column c.index-place.result.now
    (column_in c.self.invariant c.args.column free) c.index-place.ensures in
    let el = read_at c.self.inside.basis.items c.args.row c.index-left.result.now rl c.index-left.ensures in
    let et = c.swap.ensures.swapped in
    let made_now =
    made c.self.invariant c.args.row c.args.column rl free c.index-place.result.now c.index-left.result.now
    c.swap.new.self in
    record {
      basis = ap (λ (t : Table). set t.basis c.args.row c.args.column) c.self.view_is;
      sized = record {
        columns = s.columns;
        positions = length-set c.self.inside.basis.items c.args.row c.args.column ∙ s.positions;
        limit = s.limit;
      };
      rows =
          subst (λ (t : Table). IsAlone t c.args.row c.args.column → (i k : ℕ) → i ≤ positions t
          → k < t.columns + positions t + 4 → rows_of made_now i k ≡ rows_of t i k) c.self.view_is
          (made_rows c.self.invariant c.args.row c.args.column rl free ex el et);
      exchanged =
          subst (λ (t : Table). IsExchanged t made_now c.args.row (columns_of t.basis c.args.row) c.args.column)
          c.self.view_is
          (made_exchanged c.self.invariant c.args.row c.args.column rl free ex el et);
      small = small_entries (made_sound c.self.invariant c.args.row c.args.column rl free ex el et);
      kept =
          subst (λ (t : Table). kept_row_of t c.args.column ≡ pos 0 → (k : ℕ)
          → kept_row_of made_now k ≡ kept_row_of t k) c.self.view_is
          (made_kept c.self.invariant c.args.row c.args.column rl free ex el et);
    }
