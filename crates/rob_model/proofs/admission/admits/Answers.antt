use Rattle.std.proofs.Common.{arith, rules}
use Rattle.std.proofs.lemmas.List.{length-map}
use Rattle.rob_model.specs.View.{robust, parameter_of, scenario_of}
use Rattle.rob_model.proofs.JudgingLemmas.{admitted_is}
use Rattle.rob_model.proofs.admission.admits.Goals as goal

pub returns-clause-admitted : goal.returns-clause-admitted
returns-clause-admitted g c =
    let value = g.N.Exact.value in
    admitted_is (robust value c.args.model.now) c.requires.valid.well_formed
    (scenario_of value c.args.scenario.now) g.N.Exact.limit
    (omega (
      arith,
      c.requires.fits,
      length-map c.args.scenario.now.values value,
      length-map c.args.model.now.params (parameter_of value),
    ))
    c.is_none.result (search rules)
