use Rattle.std.proofs.lemmas.Result.{IfOk-weaker}
use Rattle.rob_rows.specs.LinearPrograms.{program_of}
use Rattle.rob_dualize.specs.RowBounds.{TellsBound}
use Rattle.rob_dualize.specs.Told.{listed}
use Rattle.rob_dualize.specs.Wholes.{counterpart_of}
use Rattle.rob_dualize.proofs.CounterpartLists.{listed_same}
use Rattle.rob_dualize.proofs.RowBoundLemmas.{told_same}
use Rattle.rob_dualize.proofs.Soundness.{can_be_told}
use Rattle.rob_dualize.proofs.ToldLemmas.{listed_is}
use Rattle.rob_dualize.proofs.bounds.counterpart_bound.Goals as goal

pub row_bound-requires : goal.row_bound-requires
row_bound-requires g c = record {
  ready = can_be_told g.N.Exact.limit c.args.model.forms.now c.args.model.set.now g.met.N.Exact.limit_high
      c.requires.model.elaborated c.requires.model.few;
}

pub returns : goal.returns
returns g c =
    let Q = counterpart_of c.args.model.forms.now c.args.model.set.now in
    record {
      bound = IfOk-weaker c.row_bound.result (TellsBound g.N.Exact.limit (program_of (listed Q)))
          (TellsBound g.N.Exact.limit Q)
          (λ told. told_same g.N.Exact.limit (program_of (listed Q)) Q told (listed_same Q (listed Q) (listed_is Q)))
          c.row_bound.ensures.bound;
    }
