use Rattle.std.proofs.Common.{◌≡◌, suc, ◌+◌, ◌∙◌, ap, sym, subst, arith}
use lib.IntN.{nat_abs}
use Rattle.rob_algebra.specs.Fraction.{of_pair}
use Rattle.rob_simplex.specs.Dictionaries.{rows_of}
use Rattle.rob_simplex.specs.Solvers.{Solver, positions, IsSound, has_point}
use Rattle.rob_simplex.proofs.Telling.Told.{fits_value, value_told}
use Rattle.rob_simplex.proofs.work.Work.value.Goals as goal

pub returns : goal.returns
returns g c =
    let s = c.args.self.now in
    let sound : IsSound g.E.Entry.top g.N.Exact.limit c.args.self.now =
    subst (λ (t : Solver). IsSound g.E.Entry.top g.N.Exact.limit t) c.self.view_is c.self.invariant in
    let point = subst has_point (sym c.requires.optimum) tt in
    let k =
    subst (λ (t : Solver). c.columns.result + c.positions.result + 2 ≡ t.columns + positions t + 2) c.self.view_is
    (omega (arith, c.columns.ensures.columns, c.positions.ensures.positions)) in
    record {
      value =
          c.over_objective.ensures.value
          ∙ ap (λ v. of_pair (rows_of s.dictionary (positions s) v)
          (nat_abs (rows_of s.dictionary (positions s) (suc (s.columns + positions s))))) k
          ∙ value_told c.args.self.now (sound.objective point);
    }

pub over_objective-requires-clause-fits : goal.over_objective-requires-clause-fits
over_objective-requires-clause-fits g c =
    let sound : IsSound g.E.Entry.top g.N.Exact.limit c.args.self.now =
    subst (λ (t : Solver). IsSound g.E.Entry.top g.N.Exact.limit t) c.self.view_is c.self.invariant in
    let point = subst has_point (sym c.requires.optimum) tt in
    let k =
    subst (λ (t : Solver). c.columns.result + c.positions.result + 2 ≡ t.columns + positions t + 2) c.self.view_is
    (omega (arith, c.columns.ensures.columns, c.positions.ensures.positions)) in
    fits_value g.N.Exact.limit c.args.self.now (sound.told point) c.requires.optimum
    (c.columns.result + c.positions.result + 2) k
