use Rattle.std.proofs.lemmas.Result.{IfOk-weaker}
use Rattle.rob_rows.specs.LinearPrograms.{program_of}
use Rattle.rob_simplex.specs.Solvers.{Solver, IsMadeFor}
use Rattle.rob_dualize.specs.Ending.{IsMadeAs}
use Rattle.rob_dualize.specs.SetSolving.{program_of_set}
use Rattle.rob_dualize.proofs.SetLemmas.{fits_weaker, set_is_few, set_made}
use Rattle.rob_dualize.proofs.SetProgramLemmas.{has_whole_rows}
use Rattle.rob_dualize.proofs.set_program.alike_set.Goals as goal

pub set_lp-requires-clause-whole : goal.set_lp-requires-clause-whole
set_lp-requires-clause-whole g c = has_whole_rows c.requires.model.model c.args.set.now c.requires.model.is_set

pub set_lp-requires-clause-fits : goal.set_lp-requires-clause-fits
set_lp-requires-clause-fits g c = fits_weaker g.N.Exact.limit 4611686018427387903 c.args.set.now.rows
    g.met.N.Exact.limit_high c.requires.model.fits

pub alike-requires-clause-few : goal.alike-requires-clause-few
alike-requires-clause-few g c = set_is_few c.args.set.now c.in_ok-lp.lp c.in_ok-lp.ensures.program c.requires.few

pub alike-requires-clause-numbers : goal.alike-requires-clause-numbers
alike-requires-clause-numbers g c = c.in_ok-lp.ensures.within g.N.Exact.limit c.requires.model.fits

pub returns-clause-made : goal.returns-clause-made
returns-clause-made g c =
    IfOk-weaker c.alike.result (λ (s : Solver). IsMadeFor (program_of c.in_ok-lp.lp) s)
    (λ (s : Solver). IsMadeAs (program_of_set c.args.set.now) s)
    (λ s h. record {
      program = program_of c.in_ok-lp.lp;
      same = set_made c.args.set.now c.in_ok-lp.lp
          c.in_ok-lp.ensures.program;
      made = h;
    })
    c.alike.ensures.made
