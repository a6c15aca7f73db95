use Rattle.std.proofs.Common.{sym, refl, ap, ◌∙◌, subst, arith}
use Rattle.rob_linear.specs.Vectors.{at}
use Rattle.rob_linear.specs.Programs.{with_cost}
use Rattle.rob_linear.specs.Paths.{LastFrom}
use Rattle.rob_simplex.specs.Endings.{IsOptimumAt, IsRayAt}
use Rattle.rob_linear.specs.WideRows.{HasWideRowFrom}
use Rattle.rob_simplex.specs.declared.state.State.TheVariants.{Optimal, Unbounded}
use Rattle.rob_simplex.specs.declared.state.Cause.TheVariants.{Elsewhere}
use Rattle.rob_simplex.specs.Dictionaries.{columns_of}
use Rattle.rob_simplex.specs.PathEnds.{PathStopsFrom}
use Rattle.rob_simplex.proofs.Telling.JudgingLemmas.{limit_below}
use Rattle.rob_simplex.specs.Solvers.{Solver}
use Rattle.rob_simplex.proofs.Telling.Solved.{optimum_from, ray_from}
use Rattle.rob_simplex.proofs.Telling.Solving.{resumed_stands, ends_as, sound_optimal, sound_unbounded, sound_stopped}
use Rattle.rob_simplex.proofs.Places.Sizes.{sized_view, sized_after}
use Rattle.rob_simplex.proofs.work.Work.resume.Goals as goal

pub go_on-requires : goal.go_on-requires
go_on-requires g c = record {
  stands = (c.requires.stands.0, resumed_stands c.self.view_is c.requires.stands.1);
  cost = record {
    size = c.requires.cost.size ∙ sym (ap (λ (u : Solver). u.columns) c.self.view_is);
    within = c.requires.cost.within;
  };
  limit = limit_below c.self.invariant.limit_is g.met.N.Exact.limit_high g.met.E.Entry.top_low;
}

pub invariant_of-self : goal.invariant_of-self
invariant_of-self g c =
    let stood = resumed_stands c.self.view_is c.requires.stands.1 in
    let told = ends_as c.in-Ok-None.field-0-is (c.in-Ok-None.ensures.told c.requires.stands.0 stood) in
    sound_optimal c.self.invariant c.go_on.ensures.sized c.self.inside.weights c.self.invariant.weights_size
    told.0.own told.1

pub invariant_of-self-in-Ok-Some : goal.invariant_of-self-in-Ok-Some
invariant_of-self-in-Ok-Some g c =
    let stood = resumed_stands c.self.view_is c.requires.stands.1 in
    let told = ends_as c.in-Ok-Some.field-0-is (c.in-Ok-Some.ensures.told c.requires.stands.0 stood) in
    sound_unbounded c.self.invariant c.go_on.ensures.sized c.self.inside.weights c.self.invariant.weights_size
    told.0.own c.in-Ok-Some.column told.0.ends.0.inside told.1

pub invariant_of-self-in-Err : goal.invariant_of-self-in-Err
invariant_of-self-in-Err g c =
    sound_stopped c.self.invariant c.go_on.ensures.sized c.self.inside.weights c.self.invariant.weights_size Elsewhere

pub returns-in-Ok-None-clause-resumed : goal.returns-in-Ok-None-clause-resumed
returns-in-Ok-None-clause-resumed g c P h =
    let told = ends_as c.in-Ok-None.field-0-is (c.in-Ok-None.ensures.told P (resumed_stands c.self.view_is h)) in
    let s : Solver = record { state = Optimal; dictionary = c.go_on.new.self; weights = c.self.inside.weights } in
    subst (λ (u : Solver). IsOptimumAt (LastFrom (with_cost P (at c.args.cost.now)) (columns_of u.basis))
    (with_cost P (at c.args.cost.now)) s) c.self.view_is (optimum_from s refl told.0)

pub returns-in-Ok-Some-clause-resumed : goal.returns-in-Ok-Some-clause-resumed
returns-in-Ok-Some-clause-resumed g c P h =
    let told = ends_as c.in-Ok-Some.field-0-is (c.in-Ok-Some.ensures.told P (resumed_stands c.self.view_is h)) in
    let s : Solver =
    record { state = Unbounded c.in-Ok-Some.column; dictionary = c.go_on.new.self; weights = c.self.inside.weights } in
    subst (λ (u : Solver). IsRayAt (LastFrom (with_cost P (at c.args.cost.now)) (columns_of u.basis))
    (with_cost P (at c.args.cost.now)) s) c.self.view_is (ray_from s refl told.0)

pub returns-in-Err-clause-resumed : goal.returns-in-Err-clause-resumed
returns-in-Err-clause-resumed g c P h = (
  tt,
  subst (λ (u : Solver). HasWideRowFrom g.N.Exact.limit (with_cost P (at c.args.cost.now)) (columns_of u.basis)
      (columns_of c.go_on.new.self.basis) c.in-Err.halt.position) c.self.view_is
      (c.in-Err.ensures.told P (resumed_stands c.self.view_is h)),
)

pub returns-in-Ok-None-clause-resumable : goal.returns-in-Ok-None-clause-resumable
returns-in-Ok-None-clause-resumable g c P h =
    let told = ends_as c.in-Ok-None.field-0-is (c.in-Ok-None.ensures.told P (resumed_stands c.self.view_is h)) in
    record { point = tt; own = told.0.own }

pub returns-in-Ok-Some-clause-resumable : goal.returns-in-Ok-Some-clause-resumable
returns-in-Ok-Some-clause-resumable g c P h =
    let told = ends_as c.in-Ok-Some.field-0-is (c.in-Ok-Some.ensures.told P (resumed_stands c.self.view_is h)) in
    record { point = tt; own = told.0.own }

pub overflow_cast-result : goal.overflow_cast-result
overflow_cast-result g c = omega (arith, c.in-Err.ensures.position, c.self.invariant.few)

pub returns-in-Err-clause-caused : goal.returns-in-Err-clause-caused
returns-in-Err-clause-caused g c P h =
    subst (λ (u : Solver). PathStopsFrom g.N.Exact.limit (with_cost P (at c.args.cost.now)) (columns_of u.basis)
    c.go_on.new.self c.in-Err.halt.position) c.self.view_is
    (c.in-Err.ensures.caused P (resumed_stands c.self.view_is h))

pub returns-in-Ok-None-clause-sized : goal.returns-in-Ok-None-clause-sized
returns-in-Ok-None-clause-sized g c =
    sized_after (sized_view (ap (λ (u : Solver). u.dictionary) c.self.view_is)) c.go_on.ensures.sized

pub returns-in-Ok-Some-clause-sized : goal.returns-in-Ok-Some-clause-sized
returns-in-Ok-Some-clause-sized g c =
    sized_after (sized_view (ap (λ (u : Solver). u.dictionary) c.self.view_is)) c.go_on.ensures.sized

pub returns-in-Err-clause-sized : goal.returns-in-Err-clause-sized
returns-in-Err-clause-sized g c =
    sized_after (sized_view (ap (λ (u : Solver). u.dictionary) c.self.view_is)) c.go_on.ensures.sized
