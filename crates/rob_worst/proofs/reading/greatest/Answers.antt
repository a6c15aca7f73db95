use Rattle.std.proofs.Common.{◌≤◌, ◌-◌, ◌^◌, length, ap, ◌∙◌, sym, subst, arith, to_z, of_z, w64}
use lib.IntN.{nat_abs}
use Rattle.rob_algebra.specs.Fraction.{of_int}
use Rattle.rob_number.specs.declared.lp_kind.LpKind.TheVariants as kind
use Rattle.rob_worst.proofs.CostLemmas.{held}
use Rattle.rob_worst.proofs.FinderLemmas.{greatest_told}
use Rattle.rob_worst.proofs.ReadingLemmas.{few_parameters, rows_searched, parameters_inside, scenario_pairs}
use Rattle.rob_worst.proofs.reading.greatest.Goals as goal

pub parameters-requires : goal.parameters-requires
parameters-requires g c = record {
  point = c.requires.searched.answered.1;
  few = few_parameters c.args.set.now g.N.Exact.limit c.args.task.now c.requires.task c.args.solver.now c.requires.few;
  inside = parameters_inside c.args.set.now g.N.Exact.limit c.args.task.now c.requires.task c.args.solver.now
      kind.Optimal c.requires.searched;
  pairs = scenario_pairs c.args.set.now g.N.Exact.limit c.args.task.now c.requires.task c.args.solver.now
      c.requires.searched;
}

pub basis-requires : goal.basis-requires
basis-requires g c = record {
  positions = ap length c.items.ensures.list
      ∙ rows_searched c.args.set.now g.N.Exact.limit c.args.task.now c.requires.task c.args.solver.now kind.Optimal
      c.requires.searched;
}

pub dual_values-requires : goal.dual_values-requires
dual_values-requires g c = record {
  optimum = c.requires.searched.answered.0;
  inside = omega (
    arith,
    ap length c.items.ensures.list,
    rows_searched c.args.set.now g.N.Exact.limit c.args.task.now
        c.requires.task c.args.solver.now kind.Optimal c.requires.searched,
  );
}

pub value-requires : goal.value-requires
value-requires g c = record { optimum = c.requires.searched.answered.0 }

pub returns-clause-found : goal.returns-clause-found
returns-clause-found g c =
    let d : nat_abs c.args.task.now.common ≤ 2 ^ 62 - 1 =
    omega (arith, c.requires.task.common_within, g.met.N.Exact.limit_high) in
    let k : nat_abs c.args.task.now.constant ≤ 2 ^ 62 - 1 =
    omega (arith, c.requires.task.constant_within, g.met.N.Exact.limit_high) in
    λ m is step i some z size t. greatest_told g.N.Exact.value m c.args.set.now is step i some z size c.args.task.now
    t c.args.solver.now c.requires.searched c.whole.result c.value.result
    (to_z w64 (of_z w64 c.args.task.now.constant)) c.in_ok-values.values c.in_ok-basis.basis
    c.in_ok-amounts.amounts (length c.items.result.now) (c.whole.ensures.value
    ∙ ap of_int (held c.args.task.now.common d)) c.value.ensures.value (held c.args.task.now.constant k)
    c.in_ok-values.ensures.parameters c.in_ok-basis.ensures.basis (ap length c.items.ensures.list)
    c.in_ok-amounts.ensures.numbers

pub returns-clause-within : goal.returns-clause-within
returns-clause-within g c =
    let k : nat_abs c.args.task.now.constant ≤ 2 ^ 62 - 1 =
    omega (arith, c.requires.task.constant_within, g.met.N.Exact.limit_high) in
    subst (λ v. nat_abs v ≤ g.N.Exact.limit) (sym (held c.args.task.now.constant k)) c.requires.task.constant_within
