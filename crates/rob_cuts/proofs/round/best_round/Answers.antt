use Rattle.std.proofs.Common.{ℕ, List, length, ap, ap₂, ◌∙◌, None, false}
use lib.IntN.{ℤ}
use Rattle.rob_number.specs.declared.lp_kind.LpKind.TheVariants.{Optimal}
use Rattle.rob_cuts.specs.declared.round.Outcome.TheVariants as outcome
use Rattle.rob_cuts.proofs.round.best_round.Goals as goal
use Rattle.rob_number.proofs.CastLemmas.{seen_within}

pub basis-requires : goal.basis-requires
basis-requires g c = record { positions = ap length c.items.ensures.list ∙ c.requires.rows }

pub returns : goal.returns
returns g c = record {
  round = ap₂ (λ (b : List ℕ) (base : ℤ). outcome.Cut (record {
    kind = Optimal;
    by_step = false;
    basis = b;
    column = None;
    form = c.args.cut.form;
    base = base;
    vector = c.args.cut.vector;
  }))
      c.in_ok-basis.ensures.basis (seen_within g.N.Exact.limit c.args.cut.base g.met.N.Exact.limit_high
      c.requires.within);
}
