use Rattle.std.proofs.Common.{◌≡◌, suc, ◌+◌, ◌∙◌, ap, sym, subst}
use lib.IntN.{nat_abs}
use Rattle.rob_algebra.specs.Fraction.{of_pair}
use Rattle.rob_simplex.specs.Dictionaries.{rows_of}
use Rattle.rob_simplex.specs.Solvers.{Solver, positions, IsSound, has_point}
use Rattle.rob_simplex.proofs.Telling.Told.{fits_dual, dual_told}
use Rattle.rob_simplex.proofs.work.Work.y.Goals as goal

pub returns : goal.returns
returns g c =
    let s = c.args.self.now in
    let sound : IsSound g.E.Entry.top g.N.Exact.limit c.args.self.now =
    subst (λ (t : Solver). IsSound g.E.Entry.top g.N.Exact.limit t) c.self.view_is c.self.invariant in
    let point = subst has_point (sym c.requires.optimum) tt in
    let e = subst (λ (t : Solver). c.columns.result ≡ t.columns) c.self.view_is c.columns.ensures.columns in
    let k : c.columns.result + c.args.i ≡ c.args.self.now.columns + c.args.i = ap (λ n. n + c.args.i) e in
    record {
      value =
          c.over_objective.ensures.value
          ∙ ap (λ v. of_pair (rows_of s.dictionary (positions s) v)
          (nat_abs (rows_of s.dictionary (positions s) (suc (s.columns + positions s))))) k
          ∙ dual_told c.args.self.now (sound.objective point) c.args.i c.requires.inside;
    }

pub over_objective-requires-clause-fits : goal.over_objective-requires-clause-fits
over_objective-requires-clause-fits g c =
    let sound : IsSound g.E.Entry.top g.N.Exact.limit c.args.self.now =
    subst (λ (t : Solver). IsSound g.E.Entry.top g.N.Exact.limit t) c.self.view_is c.self.invariant in
    let point = subst has_point (sym c.requires.optimum) tt in
    let e = subst (λ (t : Solver). c.columns.result ≡ t.columns) c.self.view_is c.columns.ensures.columns in
    fits_dual g.N.Exact.limit c.args.self.now (sound.told point) c.requires.optimum c.args.i
    (c.columns.result + c.args.i) c.requires.inside (ap (λ n. n + c.args.i) e)
