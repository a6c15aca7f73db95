use Rattle.std.proofs.Common.{ℕ, List, length, ap, ap₂, ◌∙◌, Some, to_z, of_z, w64}
use lib.IntN.{ℤ}
use Rattle.rob_number.specs.declared.lp_kind.LpKind.TheVariants.{Unbounded}
use Rattle.rob_cert.specs.declared.trace.Round.{Round as Traced}
use Rattle.rob_simplex.specs.Solvers.{column_of}
use Rattle.rob_cuts.specs.declared.round.Outcome.TheVariants as outcome
use Rattle.rob_cuts.proofs.round.boundless_round.Goals as goal
use Rattle.rob_number.proofs.CastLemmas.{seen_within}

pub basis-requires : goal.basis-requires
basis-requires g c = record { positions = ap length c.items.ensures.list ∙ c.requires.rows }

pub returns : goal.returns
returns g c =
    let told : List ℕ → ℕ → ℤ → Traced = λ basis column base. record {
      kind = Unbounded;
      by_step = c.args.by_step;
      basis = basis;
      column = Some column;
      form = c.args.cut.form;
      base = base;
      vector = c.args.cut.vector;
    } in
    let read = to_z w64 (of_z w64 c.args.cut.base) in
    record {
      round = ap₂ (λ (basis : List ℕ) (column : ℕ). outcome.Cut (told basis column read)) c.in_ok-basis.ensures.basis
          c.column.ensures.column
          ∙ ap (λ (base : ℤ). outcome.Cut (told c.args.solver.now.basis (column_of c.args.solver.now.state) base))
          (seen_within g.N.Exact.limit c.args.cut.base g.met.N.Exact.limit_high c.requires.within);
    }
