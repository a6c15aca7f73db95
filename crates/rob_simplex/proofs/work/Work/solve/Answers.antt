use Rattle.std.proofs.Common.{sym, ap, ◌∙◌, subst}
use Rattle.rob_simplex.specs.Solvers.{Solver}
use Rattle.rob_simplex.proofs.Telling.JudgingLemmas.{limit_below}
use Rattle.rob_simplex.proofs.Telling.Solving.{made_start, sound_untold, untold}
use Rattle.rob_simplex.proofs.Telling.TellLemmas.{is_told}
use Rattle.rob_simplex.proofs.Places.Sizes.{sized_view, sized_after}
use Rattle.rob_simplex.proofs.work.Work.solve.Goals as goal

pub follow-ended-requires : goal.follow-ended-requires
follow-ended-requires g c =
    let v : Solver =
    record { state = c.self.inside.state; dictionary = c.self.inside.dictionary; weights = c.self.inside.weights } in
    record {
      starts =
          (c.requires.fresh.0, made_start c.requires.fresh.0 v c.args.self.now c.self.view_is c.requires.fresh.1);
      limit = limit_below c.self.invariant.limit_is g.met.N.Exact.limit_high g.met.E.Entry.top_low;
    }

-- the solver is as it was made, but for its dictionary
pub invariant_of-self : goal.invariant_of-self
invariant_of-self g c =
    sound_untold c.self.invariant c.follow-ended.ensures.sized c.self.inside.weights c.self.invariant.weights_size
    c.self.inside.state (subst untold (sym (ap (λ (u : Solver). u.state) c.self.view_is ∙ c.requires.fresh.1.state)) tt)

pub tell-requires : goal.tell-requires
tell-requires g c =
    let P = c.requires.fresh.0 in
    let h = c.requires.fresh.1 in
    let v : Solver =
    record { state = c.self.inside.state; dictionary = c.self.inside.dictionary; weights = c.self.inside.weights } in
    let s = made_start P v c.args.self.now c.self.view_is h in
    record {
      told = (
        P,
        (is_told g.N.Exact.limit P v c.follow-ended.new.self c.follow-ended.result (sym s.rows_are)
            c.follow-ended.ensures.sized.positions (c.follow-ended.ensures.told P s) (c.follow-ended.ensures.caused P s)
            c.follow-ended.ensures.position),
      );
    }

pub returns-clause-solved : goal.returns-clause-solved
returns-clause-solved g c P h =
    let v : Solver =
    record { state = c.self.inside.state; dictionary = c.self.inside.dictionary; weights = c.self.inside.weights } in
    let s = made_start P v c.args.self.now c.self.view_is h in
    c.tell.ensures.solved P (is_told g.N.Exact.limit P v c.follow-ended.new.self c.follow-ended.result (sym s.rows_are)
    c.follow-ended.ensures.sized.positions (c.follow-ended.ensures.told P s) (c.follow-ended.ensures.caused P s)
    c.follow-ended.ensures.position)

pub returns-clause-caused : goal.returns-clause-caused
returns-clause-caused g c P h =
    let v : Solver =
    record { state = c.self.inside.state; dictionary = c.self.inside.dictionary; weights = c.self.inside.weights } in
    let s = made_start P v c.args.self.now c.self.view_is h in
    c.tell.ensures.caused P (is_told g.N.Exact.limit P v c.follow-ended.new.self c.follow-ended.result (sym s.rows_are)
    c.follow-ended.ensures.sized.positions (c.follow-ended.ensures.told P s) (c.follow-ended.ensures.caused P s)
    c.follow-ended.ensures.position)

pub returns-clause-halted : goal.returns-clause-halted
returns-clause-halted g c P h =
    let v : Solver =
    record { state = c.self.inside.state; dictionary = c.self.inside.dictionary; weights = c.self.inside.weights } in
    let s = made_start P v c.args.self.now c.self.view_is h in
    c.tell.ensures.halted P (is_told g.N.Exact.limit P v c.follow-ended.new.self c.follow-ended.result (sym s.rows_are)
    c.follow-ended.ensures.sized.positions (c.follow-ended.ensures.told P s) (c.follow-ended.ensures.caused P s)
    c.follow-ended.ensures.position) (c.follow-ended.ensures.halted P s)

pub returns-clause-resumable : goal.returns-clause-resumable
returns-clause-resumable g c P h =
    let v : Solver =
    record { state = c.self.inside.state; dictionary = c.self.inside.dictionary; weights = c.self.inside.weights } in
    let s = made_start P v c.args.self.now c.self.view_is h in
    c.tell.ensures.resumable P
    (is_told g.N.Exact.limit P v c.follow-ended.new.self c.follow-ended.result (sym s.rows_are)
    c.follow-ended.ensures.sized.positions (c.follow-ended.ensures.told P s) (c.follow-ended.ensures.caused P s)
    c.follow-ended.ensures.position)

pub returns-clause-sized : goal.returns-clause-sized
returns-clause-sized g c =
    sized_after (sized_view (ap (λ (u : Solver). u.dictionary) c.self.view_is))
    (sized_after c.follow-ended.ensures.sized c.tell.ensures.sized)
