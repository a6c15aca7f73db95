use Rattle.std.proofs.Common.{◌≡◌, ◌≢◌, ◌<◌, ◌≤◌, sym, ◌∙◌, ap₂, nat_abs, subst, arith, Some, None}
use Rattle.rob_algebra.specs.Fraction.{of_pair}
use Rattle.rob_simplex.specs.Solvers.{Solver, positions, IsSound, column_of, has_point}
use Rattle.rob_simplex.specs.Solutions.{position_of}
use Rattle.rob_simplex.proofs.Telling.Quotients.{unit_fits}
use Rattle.rob_simplex.proofs.Telling.Told.{fits_ray, ray_none, ray_some, ray_here}
use Rattle.rob_simplex.proofs.work.Work.ray.Goals as goal

pub returns-then-j-column : goal.returns-then-j-column
returns-then-j-column g c =
    record {
      value =
          c.quotient.ensures.value
          ∙ ap₂ (λ a b. of_pair a (nat_abs b)) c.of.ensures.value c.of-then-j-column.ensures.value
          ∙ ray_here c.args.self.now c.args.j
          (let e : c.args.j ≡ c.growing-column.result = c.if-j-column.true in e ∙ c.growing-column.ensures.column);
    }

pub returns-in-None : goal.returns-in-None
returns-in-None g c =
    let h = subst (λ (t : Solver). None ≡ position_of t.basis c.args.j) c.self.view_is c.in-None.ensures.position in
    let d : c.args.j ≢ column_of c.args.self.now.state =
    (λ e. c.if-j-column.false (e ∙ sym c.growing-column.ensures.column)) in
    record {
      value =
          c.quotient-in-None.ensures.value
          ∙ ap₂ (λ a b. of_pair a (nat_abs b)) c.of-in-None.ensures.value c.of-in-None-2.ensures.value
          ∙ ray_none c.args.self.now c.args.j d h;
    }

pub returns-in-Some : goal.returns-in-Some
returns-in-Some g c =
    let h =
    subst (λ (t : Solver). Some c.in-Some.i ≡ position_of t.basis c.args.j) c.self.view_is c.in-Some.ensures.position in
    let sound : IsSound g.E.Entry.top g.N.Exact.limit c.args.self.now =
    subst (λ (t : Solver). IsSound g.E.Entry.top g.N.Exact.limit t) c.self.view_is c.self.invariant in
    let il = subst (λ (t : Solver). c.in-Some.i < positions t) c.self.view_is c.in-Some.ensures.inside in
    let point = subst has_point (sym c.requires.ray) tt in
    let d : c.args.j ≢ column_of c.args.self.now.state =
    (λ e. c.if-j-column.false (e ∙ sym c.growing-column.ensures.column)) in
    record {
      value =
          c.minus_over_own.ensures.value
          ∙ ray_some c.args.self.now c.in-Some.i (sound.own point c.in-Some.i il) c.args.j c.growing-column.result d
          c.growing-column.ensures.column (sound.growing c.requires.ray) h;
    }

pub minus_over_own-requires-clause-fits : goal.minus_over_own-requires-clause-fits
minus_over_own-requires-clause-fits g c =
    let h =
    subst (λ (t : Solver). Some c.in-Some.i ≡ position_of t.basis c.args.j) c.self.view_is c.in-Some.ensures.position in
    let sound : IsSound g.E.Entry.top g.N.Exact.limit c.args.self.now =
    subst (λ (t : Solver). IsSound g.E.Entry.top g.N.Exact.limit t) c.self.view_is c.self.invariant in
    let point = subst has_point (sym c.requires.ray) tt in
    fits_ray g.N.Exact.limit c.args.self.now (sound.told point) c.in-Some.i c.args.j c.growing-column.result
    c.requires.ray c.growing-column.ensures.column h c.requires.inside

pub quotient-requires-clause-fits : goal.quotient-requires-clause-fits
quotient-requires-clause-fits g c =
    unit_fits g.N.Exact.limit (g.E.Entry.value c.of.result) (g.E.Entry.value c.of-then-j-column.result)
    g.met.N.Exact.limit_low (subst (λ z. nat_abs z ≤ 1) (sym c.of.ensures.value) (omega arith))
    c.of-then-j-column.ensures.value

pub quotient-requires-in-None-clause-fits : goal.quotient-requires-in-None-clause-fits
quotient-requires-in-None-clause-fits g c =
    unit_fits g.N.Exact.limit (g.E.Entry.value c.of-in-None.result) (g.E.Entry.value c.of-in-None-2.result)
    g.met.N.Exact.limit_low (subst (λ z. nat_abs z ≤ 1) (sym c.of-in-None.ensures.value) (omega arith))
    c.of-in-None-2.ensures.value
