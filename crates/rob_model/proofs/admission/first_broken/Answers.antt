use Rattle.std.proofs.Common.{arith, map}
use Rattle.std.proofs.lemmas.List.{length-map}
use Rattle.rob_model.specs.View.{robust, parameter_of}
use Rattle.rob_model.proofs.JudgingLemmas.{answer_broken}
use Rattle.rob_model.proofs.admission.first_broken.Goals as goal

pub returns-clause-first : goal.returns-clause-first
returns-clause-first g c =
    let value = g.N.Exact.value in
    answer_broken g.N.Exact.limit (robust value c.args.model.now) (value c.args.base) (map value c.args.vector.now)
    (omega (
      arith,
      c.requires.fits,
      length-map c.args.vector.now value,
      length-map c.args.model.now.params (parameter_of value),
    ))
    c.search.result c.search.ensures.exact
