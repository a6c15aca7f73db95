use Rattle.std.proofs.Common.{◌∙◌, sym, ap, subst}
use Rattle.rob_simplex.specs.Dictionaries.{with_limit}
use Rattle.rob_simplex.specs.Solvers.{Solver, HasWeights}
use Rattle.rob_simplex.proofs.Rows.Deepened.{deepened_sound}
use Rattle.rob_simplex.proofs.work.Work.deepened.Goals as goal

pub invariant_of-result : goal.invariant_of-result
invariant_of-result g c =
    let v : Solver =
    record { state = c.other.inside.state; dictionary = c.other.inside.dictionary; weights = c.other.inside.weights } in
    deepened_sound g.F.Entry.top g.E.Entry.top g.N.Exact.limit v c.other.invariant
    (subst (λ (s : Solver). HasWeights s → ⊥) (sym c.other.view_is) c.requires.weightless)
    c.in_ok-dictionary.dictionary c.in_ok-dictionary.ensures.same c.in_ok-weights.weights
    (c.in_ok-weights.ensures.size ∙ c.positions.ensures.positions)

pub returns : goal.returns
returns g c = record {
  stands = record {
    state = ap (λ (s : Solver). s.state) c.other.view_is;
    dictionary =
        c.in_ok-dictionary.ensures.same ∙ ap (λ (s : Solver). with_limit g.E.Entry.top s.dictionary) c.other.view_is;
  };
}
