use Rattle.std.proofs.Common.{ℕ, List, length, sym, ap, ap₂, ◌∙◌, subst}
use Rattle.rob_meaning.specs.Places.{Each}
use Rattle.rob_model.specs.View.{scenario_of}
use Rattle.rob_cert.specs.declared.trace.Round.{Round as Traced}
use Rattle.rob_simplex.specs.Solutions.{dual_of}
use Rattle.rob_cuts.specs.Certificates.{optimal_with, items_told}
use Rattle.rob_cuts.specs.Covered.{covered_plan}
use Rattle.rob_cuts.specs.Rounds.{RoundFits}
use Rattle.rob_cuts.proofs.round.optimum.Goals as goal

pub optimal-requires : goal.optimal-requires
optimal-requires g c = record {
  optimum = c.requires.optimum;
  rows = ap length c.items-2.ensures.list ∙ c.requires.rows;
  few = c.requires.few_rows;
  fits = subst (λ (rounds : List Traced). Each (RoundFits g.N.Exact.limit) rounds) (sym c.items-2.ensures.list)
      c.requires.fits;
}

pub returns : goal.returns
returns g c =
    let value = g.N.Exact.value in
    record {
      end = (
        scenario_of value c.in_ok-inside.inside,
        λ m set model f st is. c.in_ok-inside.ensures.scenario m set model f st is,
        c.in_ok-cert.ensures.certificate
            ∙ ap₂ (λ (n : ℕ) (rounds : List Traced).
            optimal_with (scenario_of value c.in_ok-inside.inside)
            (covered_plan value c.args.best.plan c.args.best.kept)
            (items_told n rounds (dual_of c.args.solver.now)))
            (ap length c.items.ensures.list) c.items-2.ensures.list,
      );
    }
