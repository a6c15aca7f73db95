use Rattle.std.proofs.Common.{◌≡◌, map, sym, ap, ◌∙◌, subst, arith}
use Rattle.std.proofs.lemmas.Result.{err_from_is_err_and}
use Rattle.rob_meaning.specs.UncertaintySet.{Admits}
use Rattle.rob_simplex.specs.Solutions.{point_of}
use Rattle.rob_counterpart.specs.ReadCertificates.{scenario_read}
use Rattle.rob_counterpart.specs.ReadNumbers.{differences}
use Rattle.rob_dualize.specs.Solving.{IsLastScenario}
use Rattle.rob_dualize.proofs.MakingLemmas.{parameters_low, set_of_few, set_of_one}
use Rattle.rob_dualize.proofs.SetLemmas.{solved_pairs, solved_scenario}
use Rattle.rob_dualize.proofs.SolvingLemmas.{not_found}
use Rattle.rob_dualize.proofs.scenario.scenario.Goals as goal

pub solved_set-requires : goal.solved_set-requires
solved_set-requires g c = record {
  model = set_of_one c.args.model.forms.now c.args.model.set.now c.requires.model.elaborated;
  few = set_of_few c.args.model.forms.now c.args.model.set.now c.requires.model.elaborated c.requires.model.few;
}

pub returns-in_err-solver-clause-found : goal.returns-in_err-solver-clause-found
returns-in_err-solver-clause-found g c =
    let p = err_from_is_err_and c.from_residual.result c.from_residual.ensures.1 in
    rw (p.1, p.2) (λ m model f st.
    not_found g.N.Exact.value g.N.Exact.limit m (g.L.Ledger.wides c.args.ledger.now)
    (g.L.Ledger.wides c.solved_set.new.ledger) c.in_err-solver.field-0.0
    (c.in_err-solver.ensures.stopped m model st) c.in_err-solver.ensures.wides)

pub parameters-requires-clause-pairs : goal.parameters-requires-clause-pairs
parameters-requires-clause-pairs g c = λ k l.
    let low = parameters_low c.args.model.forms.now c.args.model.set.now c.requires.model.elaborated in
    solved_pairs c.args.model.set.now c.in_ok-solver.solver c.in_ok-solver.ensures.solved.last k (omega (arith, low))

pub returns-clause-found : goal.returns-clause-found
returns-clause-found g c = λ m model f st.
    let s = c.in_ok-solver.solver in
    let e : map g.N.Exact.value c.in_ok-values.values ≡ scenario_read m (point_of s) =
    c.in_ok-values.ensures.parameters ∙ ap (λ k. differences k (point_of s)) f.params in
    let found = solved_scenario m c.args.model.set.now st model s c.in_ok-solver.ensures.solved in
    record {
      found = (subst (Admits m) (sym e) found.0, subst (IsLastScenario m) (sym e) found.1);
      stopped = tt;
      counted = c.in_ok-solver.ensures.wides;
    }

pub returns-in_err-values-clause-found : goal.returns-in_err-values-clause-found
returns-in_err-values-clause-found g c =
    let p = err_from_is_err_and c.from_residual-in_err-values.result c.from_residual-in_err-values.ensures.1 in
    rw (p.1, p.2) (λ m model f st.
    not_found g.N.Exact.value g.N.Exact.limit m (g.L.Ledger.wides c.args.ledger.now)
    (g.L.Ledger.wides c.solved_set.new.ledger) _ tt (omega (arith, c.in_ok-solver.ensures.wides)))
