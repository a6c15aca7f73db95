use Rattle.std.proofs.Common.{◌+◌, ◌*◌, ◌≤◌, length, sym, ap, ◌∙◌, arith}
use Rattle.std.proofs.lemmas.List.{length-map}
use Rattle.rob_model.specs.View.{parameter_of}
use Rattle.rob_model.proofs.GroupCounts.{few_params}
use Rattle.rob_cells.proofs.SplitSizeLemmas.{few_times}
use Rattle.rob_cells.proofs.cell.param_in.Goals as goal

pub overflow_cast-result : goal.overflow_cast-result
overflow_cast-result g c = omega (arith, few_params c.requires.valid c.items.ensures.list)

pub overflow_mul-result : goal.overflow_mul-result
overflow_mul-result g c =
    let few : length c.items.result.now ≤ 96 = few_params c.requires.valid c.items.ensures.list in
    omega (arith, few_times c.args.c (length c.items.result.now) 96 (omega (arith, c.requires.few)) few)

pub overflow_add-result : goal.overflow_add-result
overflow_add-result g c =
    let few : length c.items.result.now ≤ 96 = few_params c.requires.valid c.items.ensures.list in
    omega (
      arith,
      c.requires.inside,
      few,
      ap length c.items.ensures.list,
      few_times c.args.c (length c.items.result.now) 96 (omega (arith, c.requires.few)) few,
    )

pub returns : goal.returns
returns g c = record {
  number = ap (λ xs. c.args.c * length xs + c.args.k) c.items.ensures.list
      ∙ ap (λ n. c.args.c * n + c.args.k) (sym (length-map c.args.model.now.params (parameter_of g.N.Exact.value)));
}
