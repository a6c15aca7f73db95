use Rattle.std.proofs.Common.{ℕ, List, length, sym, ap, ap₂, ◌∙◌, subst}
use Rattle.rob_algebra.specs.Fraction.{of_int}
use Rattle.rob_meaning.specs.Places.{Each}
use Rattle.rob_model.specs.View.{scenario_of}
use Rattle.rob_cert.specs.declared.trace.Round.{Round as Traced}
use Rattle.rob_simplex.specs.Solutions.{weights_of}
use Rattle.rob_dualize.specs.Ending.{infeasible_with}
use Rattle.rob_cuts.specs.Certificates.{items_told}
use Rattle.rob_cuts.specs.Rounds.{RoundFits}
use Rattle.rob_cuts.proofs.round.without_plan.Goals as goal

pub infeasible-requires : goal.infeasible-requires
infeasible-requires g c = record {
  weights = c.requires.weights;
  rows = ap length c.items-2.ensures.list ∙ c.requires.rows;
  few = c.requires.few_rows;
  fits = subst (λ (rounds : List Traced). Each (RoundFits g.N.Exact.limit) rounds) (sym c.items-2.ensures.list)
      c.requires.fits;
}

pub returns : goal.returns
returns g c =
    let value = g.N.Exact.value in
    record {
      end = (
        scenario_of value c.in_ok-inside.inside,
        λ m set model f st is. c.in_ok-inside.ensures.scenario m set model f st is,
        c.in_ok-cert.ensures.certificate
            ∙ ap₂ (λ (n : ℕ) (rounds : List Traced).
            infeasible_with (scenario_of value c.in_ok-inside.inside)
            (items_told n rounds (λ q. of_int (weights_of c.args.solver.now q))))
            (ap length c.items.ensures.list) c.items-2.ensures.list,
      );
    }
