use Rattle.std.proofs.Common.{◌++◌, length, ap, ◌∙◌, arith}
use Rattle.rob_cells.proofs.BuildingLemmas.{started}
use Rattle.rob_model.proofs.GroupCounts.{few_vars}
use Rattle.rob_cells.proofs.split.without_cells.Goals as goal

pub overflow_cast-result : goal.overflow_cast-result
overflow_cast-result g c = omega (arith, few_vars c.requires.valid c.items-3.ensures.list)

pub returns : goal.returns
returns g c =
    record {
      start = λ cuts.
          started g.N.Exact.value c.args.model.now cuts c.append_params.new.list c.new.result
          c.new-2.result c.new-3.result
          c.append_vars.new.list c.push.new.self c.in_ok-word.field-0 c.new-4.result (length c.items-3.result.now)
          c.new-5.result c.new-6.result
          (c.in_ok-append_params.ensures.appended
          ∙ ap (λ ps. ps ++ c.items.result.now) c.new-params.ensures.empty ∙ c.items.ensures.list)
          c.new.ensures.empty c.new-2.ensures.empty c.new-3.ensures.empty
          (c.in_ok-append_vars.ensures.appended ∙ ap (λ xs. xs ++ c.items-2.result.now) c.new-vars.ensures.empty
          ∙ c.items-2.ensures.list)
          c.in_ok-word.ensures.equal c.in_ok-push.ensures.appended c.new-4.ensures.empty
          (ap length c.items-3.ensures.list)
          c.new-5.ensures.empty c.new-6.ensures.empty;
    }
