use Rattle.std.proofs.Common.{ℕ, ◌<◌, ◌+◌, ◌-◌, ◌∙◌, ap, sym, subst, arith, length, Some}
use Rattle.rob_table.proofs.Places.{read_at}
use Rattle.rob_simplex.specs.Dictionaries.{Table, positions}
use Rattle.rob_simplex.specs.Solutions.{position_of}
use Rattle.rob_simplex.proofs.Places.ColumnLemmas.{nowhere, somewhere}
use Rattle.rob_simplex.proofs.dictionary.Dictionary.position_of.Goals as goal

pub returns-then-place-first-clause-position : goal.returns-then-place-first-clause-position
returns-then-place-first-clause-position g c =
    let cl = subst (λ (t : Table). c.args.column < t.columns + positions t) (sym c.self.view_is) c.requires.column_in in
    let ep =
    read_at c.self.inside.places.items c.args.column c.index-place.result.now
    (omega (arith, c.self.invariant.places_size)) c.index-place.ensures in
    nowhere c.self.invariant c.args.column cl
    (omega (arith, ep, c.if-place-first.true))
    ∙ ap (λ (t : Table). position_of t.basis c.args.column) c.self.view_is

pub returns-else-place-first-clause-position : goal.returns-else-place-first-clause-position
returns-else-place-first-clause-position g c =
    let cl = subst (λ (t : Table). c.args.column < t.columns + positions t) (sym c.self.view_is) c.requires.column_in in
    let ep =
    read_at c.self.inside.places.items c.args.column c.index-place.result.now
    (omega (arith, c.self.invariant.places_size)) c.index-place.ensures in
    let h = somewhere c.self.invariant c.args.column cl
    (omega (arith, ep, c.if-place-first.false)) in
    ap (λ (p : ℕ). Some (p - (c.self.inside.columns + 3))) ep ∙ h.0
    ∙ ap (λ (t : Table). position_of t.basis c.args.column) c.self.view_is

pub returns-else-place-first-clause-inside : goal.returns-else-place-first-clause-inside
returns-else-place-first-clause-inside g c =
    let cl = subst (λ (t : Table). c.args.column < t.columns + positions t) (sym c.self.view_is) c.requires.column_in in
    let ep =
    read_at c.self.inside.places.items c.args.column c.index-place.result.now
    (omega (arith, c.self.invariant.places_size)) c.index-place.ensures in
    let h = somewhere c.self.invariant c.args.column cl
    (omega (arith, ep, c.if-place-first.false)) in
    subst (λ (t : Table). c.index-place.result.now - (c.self.inside.columns + 3) < positions t) c.self.view_is
    (subst (λ (p : ℕ). p - (c.self.inside.columns + 3) < length c.self.inside.basis.items) (sym ep) h.1)
