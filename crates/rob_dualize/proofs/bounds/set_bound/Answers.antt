use Rattle.std.proofs.lemmas.Result.{IfOk-weaker}
use Rattle.rob_rows.specs.LinearPrograms.{program_of}
use Rattle.rob_dualize.specs.RowBounds.{TellsBound}
use Rattle.rob_dualize.specs.SetSolving.{program_of_set}
use Rattle.rob_dualize.proofs.RowBoundLemmas.{told_same}
use Rattle.rob_dualize.proofs.SetLemmas.{fits_weaker, set_made}
use Rattle.rob_dualize.proofs.SetProgramLemmas.{has_whole_rows}
use Rattle.rob_dualize.proofs.bounds.set_bound.Goals as goal

pub set_lp-requires-clause-whole : goal.set_lp-requires-clause-whole
set_lp-requires-clause-whole g c = has_whole_rows c.requires.model.model c.args.set.now c.requires.model.is_set

pub set_lp-requires-clause-fits : goal.set_lp-requires-clause-fits
set_lp-requires-clause-fits g c =
    fits_weaker g.N.Exact.limit 4611686018427387903 c.args.set.now.rows g.met.N.Exact.limit_high
    c.requires.model.fits

pub returns : goal.returns
returns g c =
    let Q = program_of_set c.args.set.now in
    record {
      bound = IfOk-weaker c.row_bound.result (TellsBound g.N.Exact.limit (program_of c.in_ok-lp.lp))
          (TellsBound g.N.Exact.limit Q)
          (λ told. told_same g.N.Exact.limit (program_of c.in_ok-lp.lp) Q told
          (set_made c.args.set.now c.in_ok-lp.lp c.in_ok-lp.ensures.program))
          c.row_bound.ensures.bound;
    }
