use Rattle.std.proofs.Common.{length, ap, ◌∙◌}
use Rattle.rob_number.specs.declared.lp_kind.LpKind.TheVariants as kind
use Rattle.rob_worst.proofs.FinderLemmas.{along_told}
use Rattle.rob_worst.proofs.ReadingLemmas.{few_parameters, rows_searched, parameters_inside, direction_pairs}
use Rattle.rob_worst.proofs.reading.along.Goals as goal

pub direction-requires : goal.direction-requires
direction-requires g c = record {
  ray = c.requires.searched.answered.0;
  few = few_parameters c.args.set.now g.N.Exact.limit c.args.task.now c.requires.task c.args.solver.now c.requires.few;
  inside = parameters_inside c.args.set.now g.N.Exact.limit c.args.task.now c.requires.task c.args.solver.now
      kind.Unbounded c.requires.searched;
  pairs = direction_pairs c.args.set.now g.N.Exact.limit c.args.task.now c.requires.task c.args.solver.now
      c.requires.searched;
}

pub basis-requires : goal.basis-requires
basis-requires g c = record {
  positions = ap length c.items.ensures.list
      ∙ rows_searched c.args.set.now g.N.Exact.limit c.args.task.now c.requires.task c.args.solver.now kind.Unbounded
      c.requires.searched;
}

pub column-requires : goal.column-requires
column-requires g c = record { ray = c.requires.searched.answered.0 }

pub returns : goal.returns
returns g c = record {
  found = λ m is step i some z size t. along_told g.N.Exact.value m c.args.set.now is step i some z size
      c.args.task.now t c.args.solver.now c.requires.searched c.in_ok-ray.ray c.in_ok-basis.basis c.column.result
      c.in_ok-ray.ensures.parameters c.in_ok-basis.ensures.basis c.column.ensures.column;
  within = tt;
}
