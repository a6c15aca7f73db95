use Rattle.std.proofs.Common.{◌≡◌, map, ap, ◌∙◌, sym, subst, arith}
use Rattle.rob_meaning.specs.UncertaintySet.{Admits}
use Rattle.rob_simplex.specs.Solutions.{point_of}
use Rattle.rob_counterpart.specs.ReadCertificates.{scenario_read}
use Rattle.rob_counterpart.specs.ReadNumbers.{differences}
use Rattle.rob_dualize.specs.Solving.{IsLastScenario}
use Rattle.rob_dualize.proofs.MakingLemmas.{parameters_low}
use Rattle.rob_dualize.proofs.SetLemmas.{solved_pairs, solved_scenario}
use Rattle.rob_worst.proofs.finder.Finder.inside.Goals as goal

pub parameters-requires-clause-pairs : goal.parameters-requires-clause-pairs
parameters-requires-clause-pairs g c = λ k l.
    solved_pairs c.requires.finder.0 c.args.self.now.solved c.requires.finder.3.solved.last k
    (omega (arith, parameters_low c.args.forms.now c.requires.finder.0 c.requires.finder.1))

pub returns : goal.returns
returns g c = record {
  scenario = λ m set model f s h.
      let e : map g.N.Exact.value c.in_ok-values.values ≡ scenario_read m (point_of c.args.self.now.solved) =
      c.in_ok-values.ensures.parameters ∙ ap (λ k. differences k (point_of c.args.self.now.solved)) f.params in
      let found = solved_scenario m set s model c.args.self.now.solved h.solved in
      (subst (Admits m) (sym e) found.0, subst (IsLastScenario m) (sym e) found.1);
}
