use Rattle.std.proofs.Common.{◌≡◌, ◌⊎◌, ◌<◌, ◌≤◌, ◌+◌, ◌-◌, ◌*◌, ◌∙◌, ℕ, subst, sym, refl, arith, length, set}
use Rattle.rob_linear.specs.Vectors.{at}
use Rattle.rob_linear.specs.Multiples.{IsClearedBy}
use Rattle.rob_entries.specs.Updates.{AreOwn, IsWideCleared}
use Rattle.rob_rows.proofs.Reductions.{on_err}
use Rattle.rob_table.specs.Tables.{row_at, bound_at}
use Rattle.rob_table.proofs.Clearing.{row_in, rows_apart}
use Rattle.rob_table.proofs.RowMoves.{written_bounds}
use Rattle.rob_table.proofs.table.clear_row.Goals as goal

pub clear-requires : goal.clear-requires
clear-requires g c =
    let a = c.requires.ready in
    let et : c.TOP.result ≡ g.E.Entry.top = c.TOP.ensures ∙ g.met.E.Entry.top_told in
    let il : c.args.i < length c.args.bounds.now = omega (arith, a.inside) in
    let there : c.args.i * c.args.pivot.width + c.args.pivot.width ≤ length c.args.rows.now =
    row_in g.E.Entry.top c.args.pivot.width c.args.rows.now c.args.bounds.now a.bounded c.args.i il in
    let width : length c.args.pivot_row.now.entries ≡ c.args.pivot.width = a.width in
    let bound : bound_at c.args.bounds.now c.args.i ≤ g.E.Entry.top = a.bounded.low c.args.i il in
    let low : c.args.pivot_row.now.bound ≤ g.E.Entry.top = a.low in
    let place : c.args.pivot.place < c.args.pivot.width = a.place_in in
    record {
      ready = record {
        inside = omega arith;
        limit_low = omega arith;
        within = λ k l. a.bounded.within c.args.i k il (subst (λ (n : ℕ). k < n) a.width l);
        bound_low = subst (λ (n : ℕ). bound_at c.args.bounds.now c.args.i ≤ n) (sym et) bound;
        self_low = subst (λ (n : ℕ). c.args.pivot_row.now.bound ≤ n) (sym et) low;
        place_in = omega arith;
        positive = a.positive;
        own =
            subst (λ (n : ℕ). AreOwn (row_at c.args.rows.now c.args.pivot.width c.args.i)
            (at c.args.pivot_row.now.entries) (n - 1)) (sym a.width) c.requires.own;
      };
    }

pub returns-in_err-bounds-clause-wide : goal.returns-in_err-bounds-clause-wide
returns-in_err-bounds-clause-wide g c =
    let et : c.TOP.result ≡ g.E.Entry.top = c.TOP.ensures ∙ g.met.E.Entry.top_told in
    on_err c.from_residual.result
    (subst (λ (l : ℕ). IsWideCleared l c.args.pivot.width c.args.pivot.place
    (row_at c.args.rows.now c.args.pivot.width c.args.i) (at c.args.pivot_row.now.entries)) et
    (subst (λ (n : ℕ). IsWideCleared c.TOP.result n c.args.pivot.place
    (row_at c.args.rows.now c.args.pivot.width c.args.i) (at c.args.pivot_row.now.entries)) c.requires.ready.width
    c.in_err-bounds.ensures.wide))

pub returns-clause-cleared : goal.returns-clause-cleared
returns-clause-cleared g c =
    subst (λ (n : ℕ). IsClearedBy n c.args.pivot.place (row_at c.args.rows.now c.args.pivot.width c.args.i)
    (at c.args.pivot_row.now.entries) (row_at c.clear.new.self c.args.pivot.width c.args.i)) c.requires.ready.width
    c.in_ok-bounds.ensures.cleared

pub returns-clause-others : goal.returns-clause-others
returns-clause-others g c =
    rows_apart c.args.rows.now c.clear.new.self c.args.pivot.width c.args.i
    (λ k d. c.clear.ensures.others k
    (subst (λ (n : ℕ). (k < c.args.i * c.args.pivot.width) ⊎ (c.args.i * c.args.pivot.width + n ≤ k))
    (sym c.requires.ready.width) d))

pub returns-clause-bounded : goal.returns-clause-bounded
returns-clause-bounded g c =
    let et : c.TOP.result ≡ g.E.Entry.top = c.TOP.ensures ∙ g.met.E.Entry.top_told in
    let apart = rows_apart c.args.rows.now c.clear.new.self c.args.pivot.width c.args.i
    (λ k d. c.clear.ensures.others k
    (subst (λ (n : ℕ). (k < c.args.i * c.args.pivot.width) ⊎ (c.args.i * c.args.pivot.width + n ≤ k))
    (sym c.requires.ready.width) d)) in
    written_bounds g.E.Entry.top c.args.pivot.width c.args.rows.now c.clear.new.self c.args.bounds.now
    (set c.args.bounds.now c.args.i c.in_ok-bounds.field-0) c.args.i c.in_ok-bounds.field-0 c.requires.ready.bounded
    c.clear.ensures.size c.requires.ready.inside refl
    (subst (λ (l : ℕ). c.in_ok-bounds.field-0 ≤ l) et c.in_ok-bounds.ensures.bounded.0)
    (λ k l. c.in_ok-bounds.ensures.bounded.1 k (subst (λ (n : ℕ). k < n) (sym c.requires.ready.width) l)) apart
