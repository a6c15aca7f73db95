use Rattle.std.proofs.Common.{◌≡◌, ◌+◌, ◌<◌, ◌∙◌, ◌≤◌, ap₂, nat_abs, sym, subst, arith, Some, None}
use Rattle.rob_algebra.specs.Fraction.{of_pair}
use Rattle.rob_simplex.specs.Solvers.{Solver, positions, IsSound}
use Rattle.rob_simplex.specs.Solutions.{position_of}
use Rattle.rob_simplex.proofs.Telling.Quotients.{unit_fits}
use Rattle.rob_simplex.proofs.Telling.Told.{fits_point, point_none, point_some}
use Rattle.rob_simplex.proofs.work.Work.x.Goals as goal

pub returns-in-None : goal.returns-in-None
returns-in-None g c =
    let h = subst (λ (t : Solver). None ≡ position_of t.basis c.args.j) c.self.view_is c.in-None.ensures.position in
    record {
      value =
          c.quotient.ensures.value ∙ ap₂ (λ a b. of_pair a (nat_abs b)) c.of.ensures.value c.of-in-None.ensures.value
          ∙ point_none c.args.self.now c.args.j h;
    }

pub returns-in-Some : goal.returns-in-Some
returns-in-Some g c =
    let h =
    subst (λ (t : Solver). Some c.in-Some.i ≡ position_of t.basis c.args.j) c.self.view_is c.in-Some.ensures.position in
    let sound : IsSound g.E.Entry.top g.N.Exact.limit c.args.self.now =
    subst (λ (t : Solver). IsSound g.E.Entry.top g.N.Exact.limit t) c.self.view_is c.self.invariant in
    let il = subst (λ (t : Solver). c.in-Some.i < positions t) c.self.view_is c.in-Some.ensures.inside in
    let right =
    subst (λ (t : Solver). c.columns.result + c.positions.result + 2 ≡ t.columns + positions t + 2) c.self.view_is
    (omega (arith, c.columns.ensures.columns, c.positions.ensures.positions)) in
    record {
      value =
          c.over_own.ensures.value
          ∙ point_some c.args.self.now c.in-Some.i (sound.own c.requires.point c.in-Some.i il) c.args.j
          (c.columns.result + c.positions.result + 2) right h;
    }

pub over_own-requires-clause-fits : goal.over_own-requires-clause-fits
over_own-requires-clause-fits g c =
    let h =
    subst (λ (t : Solver). Some c.in-Some.i ≡ position_of t.basis c.args.j) c.self.view_is c.in-Some.ensures.position in
    let sound : IsSound g.E.Entry.top g.N.Exact.limit c.args.self.now =
    subst (λ (t : Solver). IsSound g.E.Entry.top g.N.Exact.limit t) c.self.view_is c.self.invariant in
    let right =
    subst (λ (t : Solver). c.columns.result + c.positions.result + 2 ≡ t.columns + positions t + 2) c.self.view_is
    (omega (arith, c.columns.ensures.columns, c.positions.ensures.positions)) in
    fits_point g.N.Exact.limit c.args.self.now (sound.told c.requires.point) c.in-Some.i c.args.j
    (c.columns.result + c.positions.result + 2) right h c.requires.inside

pub quotient-requires-clause-fits : goal.quotient-requires-clause-fits
quotient-requires-clause-fits g c =
    unit_fits g.N.Exact.limit (g.E.Entry.value c.of.result) (g.E.Entry.value c.of-in-None.result)
    g.met.N.Exact.limit_low (subst (λ z. nat_abs z ≤ 1) (sym c.of.ensures.value) (omega arith))
    c.of-in-None.ensures.value
