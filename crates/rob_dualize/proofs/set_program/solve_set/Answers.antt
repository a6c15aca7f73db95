use Rattle.std.proofs.lemmas.Result.{IfOk-weaker}
use Rattle.rob_rows.specs.LinearPrograms.{program_of}
use Rattle.rob_solver.specs.Solving.{IsSolved}
use Rattle.rob_dualize.specs.Ending.{IsSolvedAs}
use Rattle.rob_dualize.specs.SetSolving.{program_of_set}
use Rattle.rob_dualize.proofs.MakingLemmas.{has_stopped}
use Rattle.rob_dualize.proofs.SetLemmas.{fits_weaker, set_is_few, set_made}
use Rattle.rob_dualize.proofs.SetProgramLemmas.{has_whole_rows}
use Rattle.rob_dualize.proofs.set_program.solve_set.Goals as goal

pub set_lp-requires-clause-whole : goal.set_lp-requires-clause-whole
set_lp-requires-clause-whole g c = has_whole_rows c.requires.model.model c.args.set.now c.requires.model.is_set

pub set_lp-requires-clause-fits : goal.set_lp-requires-clause-fits
set_lp-requires-clause-fits g c = fits_weaker g.N.Exact.limit 4611686018427387903 c.args.set.now.rows
    g.met.N.Exact.limit_high c.requires.model.fits

pub solve-requires-clause-few : goal.solve-requires-clause-few
solve-requires-clause-few g c = set_is_few c.args.set.now c.in_ok-lp.lp c.in_ok-lp.ensures.program c.requires.few

pub solve-requires-clause-numbers : goal.solve-requires-clause-numbers
solve-requires-clause-numbers g c = c.in_ok-lp.ensures.within g.N.Exact.limit c.requires.model.fits

pub returns-clause-solved : goal.returns-clause-solved
returns-clause-solved g c =
    IfOk-weaker c.solve.result (IsSolved (program_of c.in_ok-lp.lp)) (IsSolvedAs (program_of_set c.args.set.now))
    (λ s h. record {
      program = program_of c.in_ok-lp.lp;
      same = set_made c.args.set.now c.in_ok-lp.lp
          c.in_ok-lp.ensures.program;
      answer = h;
    })
    c.solve.ensures.solved

pub returns-clause-stopped : goal.returns-clause-stopped
returns-clause-stopped g c =
    has_stopped g.N.Exact.limit (program_of c.in_ok-lp.lp) (program_of_set c.args.set.now)
    (set_made c.args.set.now c.in_ok-lp.lp c.in_ok-lp.ensures.program) c.solve.result c.solve.ensures.stopped
    c.solve.ensures.caused
