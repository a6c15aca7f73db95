use Rattle.std.proofs.Common.{◌<◌, ◌≤◌, refl, ap, ◌∙◌, inl, inr, arith}
use Rattle.rob_linear.specs.Programs.{Program}
use Rattle.rob_simplex.specs.declared.state.Cause.TheVariants.{Told}
use Rattle.rob_simplex.specs.Solvers.{Solver}
use Rattle.rob_simplex.proofs.Telling.TellLemmas.{told_as, told_err, caused_err, position_err, optimum_told, ray_told, optimum_sound, ray_sound, halted_told, limit_seen, weight_stops, weights_told, weights_sound}
use Rattle.rob_simplex.proofs.Telling.Solving.{sound_stopped}
use Rattle.rob_simplex.proofs.Places.Sizes.{sized_same, sized_view, sized_after}
use Rattle.rob_simplex.proofs.work.Work.tell.Goals as goal

-- ---- a point
pub invariant_of-self-in-Optimal : goal.invariant_of-self-in-Optimal
invariant_of-self-in-Optimal g c =
    optimum_sound c.self.view_is c.self.invariant c.in-Ok.is c.in-Optimal.is c.requires.told.1

pub returns-in-Optimal : goal.returns-in-Optimal
returns-in-Optimal g c = record {
  solved = λ P h. optimum_told c.self.view_is c.self.inside.weights c.in-Ok.is c.in-Optimal.is h;
  caused = λ P h. tt;
  halted = λ P h w. tt;
  answered = (refl, tt);
  resumable = λ P h p. record { point = p; own = (told_as c.self.view_is c.in-Ok.is c.in-Optimal.is h).0.0.own };
  sized = sized_view (ap (λ (u : Solver). u.dictionary) c.self.view_is);
}

pub invariant_of-self-in-Unbounded : goal.invariant_of-self-in-Unbounded
invariant_of-self-in-Unbounded g c =
    ray_sound c.self.view_is c.self.invariant c.in-Ok.is c.in-Unbounded.is c.requires.told.1

pub returns-in-Unbounded : goal.returns-in-Unbounded
returns-in-Unbounded g c = record {
  solved = λ P h. ray_told c.self.view_is c.self.inside.weights c.in-Ok.is c.in-Unbounded.is h;
  caused = λ P h. tt;
  halted = λ P h w. tt;
  answered = (refl, tt);
  resumable = λ P h p. record { point = p; own = (told_as c.self.view_is c.in-Ok.is c.in-Unbounded.is h).0.0.own };
  sized = sized_view (ap (λ (u : Solver). u.dictionary) c.self.view_is);
}

-- ---- weights
pub show_weights-requires : goal.show_weights-requires
show_weights-requires g c = record {
  ends = (c.requires.told.0, (told_as c.self.view_is c.in-Ok.is c.in-Infeasible.is c.requires.told.1).0);
  size = c.self.invariant.weights_size ∙ refl;
}

-- the greatest of them is over the limit
pub returns-then-largest-LIMIT : goal.returns-then-largest-LIMIT
returns-then-largest-LIMIT g c =
    let e = limit_seen _ _ (c.LIMIT.ensures ∙ g.met.N.Exact.limit_told) g.met.N.Exact.limit_high in
    let over : g.N.Exact.limit < c.largest.result = omega (arith, e, c.if-largest-LIMIT.true) in
    let stops =
    (λ (P : Program). weight_stops c.self.view_is c.in-Ok.is c.in-Infeasible.is c.show_weights.new.self
    c.show_weights.new.weights (c.show_weights.ensures.shown P)
    (c.positions-m.ensures.positions ∙ c.show_weights.ensures.sized.positions) g.N.Exact.limit c.largest.result over
    c.largest.ensures.reached) in
    record {
      solved = λ P h. (tt, (stops P h).0);
      caused = λ P h. inr (stops P h).1;
      halted = λ P h w. (Told, refl, inr (stops P h).1);
      answered = tt;
      resumable = λ P h. tt;
      sized = sized_after (sized_view (ap (λ (u : Solver). u.dictionary) c.self.view_is)) c.show_weights.ensures.sized;
    }

-- none is
pub invariant_of-self-in-Infeasible : goal.invariant_of-self-in-Infeasible
invariant_of-self-in-Infeasible g c =
    let e = limit_seen _ _ (c.LIMIT.ensures ∙ g.met.N.Exact.limit_told) g.met.N.Exact.limit_high in
    let low : c.largest.result ≤ g.N.Exact.limit = omega (arith, e, c.if-largest-LIMIT.false) in
    weights_sound c.self.invariant c.show_weights.ensures.sized c.show_weights.new.weights c.show_weights.ensures.size
    c.positions-m.ensures.positions c.largest.result c.largest.ensures.bound low

pub returns-else-largest-LIMIT-clause-solved : goal.returns-else-largest-LIMIT-clause-solved
returns-else-largest-LIMIT-clause-solved g c P h =
    weights_told c.self.view_is c.in-Ok.is c.in-Infeasible.is c.show_weights.new.self c.show_weights.new.weights
    (c.show_weights.ensures.shown P) h

pub returns-else-largest-LIMIT-clause-sized : goal.returns-else-largest-LIMIT-clause-sized
returns-else-largest-LIMIT-clause-sized g c =
    sized_after (sized_view (ap (λ (u : Solver). u.dictionary) c.self.view_is)) c.show_weights.ensures.sized

-- ---- a stop
pub invariant_of-self : goal.invariant_of-self
invariant_of-self g c =
    sound_stopped c.self.invariant sized_same c.self.inside.weights c.self.invariant.weights_size c.in-Err.halt.cause

pub returns-in-Err : goal.returns-in-Err
returns-in-Err g c = record {
  solved = λ P h. (tt, told_err c.self.view_is c.in-Err.is h);
  caused = λ P h. inl (caused_err c.self.view_is c.in-Err.is h);
  halted = λ P h w. halted_told g.N.Exact.limit P c.self.view_is c.self.inside.weights c.in-Err.is w;
  answered = tt;
  resumable = λ P h. tt;
  sized = sized_view (ap (λ (u : Solver). u.dictionary) c.self.view_is);
}

pub overflow_cast-result : goal.overflow_cast-result
overflow_cast-result g c =
    let l = position_err c.self.view_is c.in-Err.is c.requires.told.1 in omega (arith, l, c.self.invariant.few)
