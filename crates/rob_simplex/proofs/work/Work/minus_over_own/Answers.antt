use Rattle.std.proofs.Common.{◌≡◌, ◌∙◌, ap, ap₂, sym, subst, pos, neg_ℤ, nat_abs}
use lib.Signed.{◌<ℤ◌}
use Rattle.rob_algebra.specs.Fraction.{of_pair}
use Rattle.rob_algebra.specs.Width.{Fits}
use Rattle.rob_simplex.specs.Dictionaries.{columns_of, rows_of}
use Rattle.rob_simplex.specs.Solvers.{Solver, IsSound}
use Rattle.rob_simplex.proofs.Telling.JudgingLemmas.{fits_minus}
use Rattle.rob_simplex.proofs.work.Work.minus_over_own.Goals as goal

pub quotient-requires-clause-positive : goal.quotient-requires-clause-positive
quotient-requires-clause-positive g c =
    let n : g.E.Entry.value c.minus.result ≡ neg_ℤ (rows_of c.args.self.now.dictionary c.args.i c.args.column) =
    c.minus.ensures.value ∙ ap neg_ℤ
    (c.entry.ensures.entry ∙ ap (λ (t : Solver). rows_of t.dictionary c.args.i c.args.column) c.self.view_is) in
    let m : g.E.Entry.value c.entry-2.result ≡ rows_of c.args.self.now.dictionary c.args.i
    (columns_of c.args.self.now.dictionary.basis c.args.i) =
    c.entry-2.ensures.entry ∙ ap (λ k. rows_of c.self.inside.dictionary c.args.i k) c.basic-own.ensures.column
    ∙ ap (λ (t : Solver). rows_of t.dictionary c.args.i (columns_of t.basis c.args.i)) c.self.view_is in
    let sound : IsSound g.E.Entry.top g.N.Exact.limit c.args.self.now =
    subst (λ (t : Solver). IsSound g.E.Entry.top g.N.Exact.limit t) c.self.view_is c.self.invariant in
    subst (λ z. pos 0 <ℤ z) (sym m) (sound.own c.requires.point c.args.i c.requires.inside).1

pub quotient-requires-clause-fits : goal.quotient-requires-clause-fits
quotient-requires-clause-fits g c =
    let n : g.E.Entry.value c.minus.result ≡ neg_ℤ (rows_of c.args.self.now.dictionary c.args.i c.args.column) =
    c.minus.ensures.value ∙ ap neg_ℤ
    (c.entry.ensures.entry ∙ ap (λ (t : Solver). rows_of t.dictionary c.args.i c.args.column) c.self.view_is) in
    let m : g.E.Entry.value c.entry-2.result ≡ rows_of c.args.self.now.dictionary c.args.i
    (columns_of c.args.self.now.dictionary.basis c.args.i) =
    c.entry-2.ensures.entry ∙ ap (λ k. rows_of c.self.inside.dictionary c.args.i k) c.basic-own.ensures.column
    ∙ ap (λ (t : Solver). rows_of t.dictionary c.args.i (columns_of t.basis c.args.i)) c.self.view_is in
    subst (λ x. Fits g.N.Exact.limit x) (sym (ap₂ (λ a b. of_pair a (nat_abs b)) n m))
    (fits_minus g.N.Exact.limit (rows_of c.args.self.now.dictionary c.args.i c.args.column)
    (nat_abs (rows_of c.args.self.now.dictionary c.args.i (columns_of c.args.self.now.dictionary.basis c.args.i)))
    c.requires.fits)

pub returns : goal.returns
returns g c =
    let n : g.E.Entry.value c.minus.result ≡ neg_ℤ (rows_of c.args.self.now.dictionary c.args.i c.args.column) =
    c.minus.ensures.value ∙ ap neg_ℤ
    (c.entry.ensures.entry ∙ ap (λ (t : Solver). rows_of t.dictionary c.args.i c.args.column) c.self.view_is) in
    let m : g.E.Entry.value c.entry-2.result ≡ rows_of c.args.self.now.dictionary c.args.i
    (columns_of c.args.self.now.dictionary.basis c.args.i) =
    c.entry-2.ensures.entry ∙ ap (λ k. rows_of c.self.inside.dictionary c.args.i k) c.basic-own.ensures.column
    ∙ ap (λ (t : Solver). rows_of t.dictionary c.args.i (columns_of t.basis c.args.i)) c.self.view_is in
    record { value = c.quotient.ensures.value ∙ ap₂ (λ a b. of_pair a (nat_abs b)) n m }
