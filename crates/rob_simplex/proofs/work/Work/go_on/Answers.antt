use Rattle.std.proofs.Common.{sym, ap, ◌∙◌, subst}
use Rattle.rob_simplex.specs.Solvers.{Solver}
use Rattle.rob_simplex.proofs.Telling.JudgingLemmas.{limit_below}
use Rattle.rob_simplex.proofs.Telling.Solving.{sound_untold, untold}
use Rattle.rob_simplex.proofs.Telling.TellLemmas.{is_told}
use Rattle.rob_simplex.proofs.Pivoting.BegunWork.{begun_here, begun_rows, begun_stopped}
use Rattle.rob_simplex.proofs.Places.Sizes.{sized_view, sized_after}
use Rattle.rob_simplex.proofs.work.Work.go_on.Goals as goal

pub cause-cause-requires : goal.cause-cause-requires
cause-cause-requires g c = record { stopped = begun_stopped c.requires.begun.0 c.args.self.now c.requires.begun.1 }

pub follow_on-ended-requires : goal.follow_on-ended-requires
follow_on-ended-requires g c =
    let P = c.requires.begun.0 in
    let h = c.requires.begun.1 in
    let v : Solver =
    record { state = c.self.inside.state; dictionary = c.self.inside.dictionary; weights = c.self.inside.weights } in
    let b = begun_here P v c.args.self.now c.self.view_is h c.cause-cause.result c.cause-cause.ensures.cause in
    record {
      begun = (P, b);
      limit = limit_below c.self.invariant.limit_is g.met.N.Exact.limit_high g.met.E.Entry.top_low;
    }

-- the solver is as it stopped, but for its dictionary
pub invariant_of-self : goal.invariant_of-self
invariant_of-self g c =
    sound_untold c.self.invariant c.follow_on-ended.ensures.sized c.self.inside.weights c.self.invariant.weights_size
    c.self.inside.state (subst untold (sym (ap (λ (u : Solver). u.state) c.self.view_is ∙ c.cause-cause.ensures.cause))
    tt)

pub tell-requires : goal.tell-requires
tell-requires g c =
    let P = c.requires.begun.0 in
    let h = c.requires.begun.1 in
    let v : Solver =
    record { state = c.self.inside.state; dictionary = c.self.inside.dictionary; weights = c.self.inside.weights } in
    let b = begun_here P v c.args.self.now c.self.view_is h c.cause-cause.result c.cause-cause.ensures.cause in
    record {
      told = (
        P,
        (is_told g.N.Exact.limit P v c.follow_on-ended.new.self c.follow_on-ended.result
            (begun_rows P v c.cause-cause.result b) c.follow_on-ended.ensures.sized.positions
            (c.follow_on-ended.ensures.told P b) (c.follow_on-ended.ensures.caused P b)
            c.follow_on-ended.ensures.position),
      );
    }

pub returns-clause-solved : goal.returns-clause-solved
returns-clause-solved g c P h =
    let v : Solver =
    record { state = c.self.inside.state; dictionary = c.self.inside.dictionary; weights = c.self.inside.weights } in
    let b = begun_here P v c.args.self.now c.self.view_is h c.cause-cause.result c.cause-cause.ensures.cause in
    c.tell.ensures.solved P (is_told g.N.Exact.limit P v c.follow_on-ended.new.self c.follow_on-ended.result
    (begun_rows P v c.cause-cause.result b) c.follow_on-ended.ensures.sized.positions
    (c.follow_on-ended.ensures.told P b) (c.follow_on-ended.ensures.caused P b) c.follow_on-ended.ensures.position)

pub returns-clause-caused : goal.returns-clause-caused
returns-clause-caused g c P h =
    let v : Solver =
    record { state = c.self.inside.state; dictionary = c.self.inside.dictionary; weights = c.self.inside.weights } in
    let b = begun_here P v c.args.self.now c.self.view_is h c.cause-cause.result c.cause-cause.ensures.cause in
    c.tell.ensures.caused P (is_told g.N.Exact.limit P v c.follow_on-ended.new.self c.follow_on-ended.result
    (begun_rows P v c.cause-cause.result b) c.follow_on-ended.ensures.sized.positions
    (c.follow_on-ended.ensures.told P b) (c.follow_on-ended.ensures.caused P b) c.follow_on-ended.ensures.position)

pub returns-clause-resumable : goal.returns-clause-resumable
returns-clause-resumable g c P h =
    let v : Solver =
    record { state = c.self.inside.state; dictionary = c.self.inside.dictionary; weights = c.self.inside.weights } in
    let b = begun_here P v c.args.self.now c.self.view_is h c.cause-cause.result c.cause-cause.ensures.cause in
    c.tell.ensures.resumable P
    (is_told g.N.Exact.limit P v c.follow_on-ended.new.self c.follow_on-ended.result
    (begun_rows P v c.cause-cause.result b) c.follow_on-ended.ensures.sized.positions
    (c.follow_on-ended.ensures.told P b) (c.follow_on-ended.ensures.caused P b) c.follow_on-ended.ensures.position)

pub returns-clause-sized : goal.returns-clause-sized
returns-clause-sized g c =
    sized_after (sized_view (ap (λ (u : Solver). u.dictionary) c.self.view_is))
    (sized_after c.follow_on-ended.ensures.sized c.tell.ensures.sized)
