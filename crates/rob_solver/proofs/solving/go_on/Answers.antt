use Rattle.std.proofs.Common.{◌∙◌, sym, subst}
use Rattle.rob_simplex.proofs.Pivoting.BegunWork.{begun_as}
use Rattle.rob_solver.specs.Depths.{deep_limit}
use Rattle.rob_solver.specs.Solving.{IsStopped, IsCausedDeep}
use Rattle.rob_solver.proofs.SolvingLemmas.{begun_solution, caused_by, counts_refused, positions_as}
use Rattle.rob_solver.proofs.solving.go_on.Goals as goal

pub go_on-requires : goal.go_on-requires
go_on-requires g c = record {
  begun = (
    c.requires.begun.0,
    begun_as deep_limit c.args.narrow c.in_ok-deep.deep c.in_ok-deep.ensures.stands
        c.requires.begun.0 c.requires.begun.1.begun,
  );
}

pub returns-in-Ok-clause-solved : goal.returns-in-Ok-clause-solved
returns-in-Ok-clause-solved g c P h =
    let b = begun_as deep_limit c.args.narrow c.in_ok-deep.deep c.in_ok-deep.ensures.stands P h.begun in
    begun_solution c.args.narrow c.in_ok-deep.deep c.in_ok-deep.ensures.stands g.row.N.Denot P h c.go_on.new.self
    c.in-Ok.kind c.go_on.ensures.sized.columns c.go_on.ensures.sized.positions
    (c.in-Ok.ensures.solved P b) c.in-Ok.ensures.answered (c.in-Ok.ensures.resumable P b)

pub returns-in-Err-clause-stopped : goal.returns-in-Err-clause-stopped
returns-in-Err-clause-stopped g c P h =
    let b = begun_as deep_limit c.args.narrow c.in_ok-deep.deep c.in_ok-deep.ensures.stands P h.begun in
    subst (IsStopped g.N.Exact.limit P) (sym c.refused.ensures.stop) (
      h.rows ∙ sym (positions_as c.args.narrow c.in_ok-deep.deep c.in_ok-deep.ensures.stands)
          ∙ sym c.go_on.ensures.sized.positions,
      c.in-Err.ensures.solved P b,
    )

pub returns-in-Err-clause-caused : goal.returns-in-Err-clause-caused
returns-in-Err-clause-caused g c P h =
    let b = begun_as deep_limit c.args.narrow c.in_ok-deep.deep c.in_ok-deep.ensures.stands P h.begun in
    subst (IsCausedDeep g.N.Exact.limit P) (sym c.refused.ensures.stop)
    (caused_by g.N.Exact.limit P c.in-Err.stop c.go_on.new.self
    (c.go_on.ensures.sized.limit ∙ c.in_ok-deep.ensures.limit)
    (c.in-Err.ensures.caused P b))

pub returns-in-Err-clause-counted : goal.returns-in-Err-clause-counted
returns-in-Err-clause-counted g c =
    counts_refused g.L.Ledger.ops g.L.Ledger.wides c.args.ledger.now c.go_on.new.ledger c.refused.new.ledger
    c.go_on.ensures.counted c.refused.result c.go_on.new.self c.in-Err.stop
    c.refused.ensures.stop c.refused.ensures.ops c.refused.ensures.wides
