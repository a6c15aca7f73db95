use Rattle.std.proofs.Common.{◌++◌, map, ap, sym, ◌∙◌}
use Rattle.std.proofs.Common.{append-nil}
use Rattle.rob_cells.proofs.NameLemmas.{bound_names_are, bound_row_names}
use Rattle.rob_model.proofs.PartLemmas.{drop_all}
use Rattle.rob_model.specs.View.{adaptive_of}
use Rattle.rob_cells.proofs.names.append_bound_names.Goals as goal

pub returns : goal.returns
returns g c =
    let value = g.N.Exact.value in
    record {
      appended = λ m k.
          sym (append-nil c.loop-adaptive.names)
          ∙ ap (λ ys. c.loop-adaptive.names ++ bound_row_names c.args.c (map (adaptive_of value) ys))
          (sym (drop_all c.loop-adaptive.adaptive-index c.args.adaptives.now c.loop-adaptive-test.false))
          ∙ c.loop-adaptive.invariant
          ∙ ap (λ ns. c.args.names.now ++ ns)
          (sym (bound_names_are m c.args.c k (map (adaptive_of value) c.args.adaptives.now)));
    }
