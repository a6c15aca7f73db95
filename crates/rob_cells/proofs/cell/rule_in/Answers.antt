use Rattle.std.proofs.Common.{◌+◌, ◌-◌, ◌*◌, ◌≤◌, length, ap, ◌∙◌, arith}
use Rattle.rob_model.specs.View.{adaptive_of}
use Rattle.rob_model.proofs.GroupCounts.{few_adaptives}
use Rattle.rob_cells.proofs.CountLemmas.{rule_number, small_product}
use Rattle.rob_cells.proofs.cell.rule_in.Goals as goal

pub overflow_cast-result : goal.overflow_cast-result
overflow_cast-result g c = omega (arith, few_adaptives c.requires.valid c.items.ensures.list)

pub overflow_mul-result : goal.overflow_mul-result
overflow_mul-result g c =
    let few : length c.items.result.now ≤ 600 = few_adaptives c.requires.valid c.items.ensures.list in
    omega (arith, small_product (c.args.c - 1) (length c.items.result.now) (omega (arith, c.requires.few)) few)

pub overflow_add-result : goal.overflow_add-result
overflow_add-result g c =
    let few : length c.items.result.now ≤ 600 = few_adaptives c.requires.valid c.items.ensures.list in
    omega (
      arith,
      few,
      c.requires.inside,
      ap length c.items.ensures.list,
      small_product (c.args.c - 1) (length c.items.result.now) (omega (arith, c.requires.few)) few,
    )

pub returns : goal.returns
returns g c = record {
  number =
      ap (λ xs. (c.args.c - 1) * length xs + c.args.y) c.items.ensures.list
      ∙ rule_number (adaptive_of g.N.Exact.value) c.args.model.now.adaptives c.args.c c.args.y;
}
