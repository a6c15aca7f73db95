use Rattle.std.proofs.Common.{map, take, ◌∙◌}
use Rattle.rob_model.specs.View.{parameter_of}
use Rattle.rob_write.proofs.WriterLemmas.{map_take}
use Rattle.rob_write.proofs.written.written_params.Goals as goal

pub returns-then-count-params : goal.returns-then-count-params
returns-then-count-params g c = record {
  list = map_take (parameter_of g.N.Exact.value) c.written_count-count.result c.items-params.result.now
      ∙ (λ i. take (c.written_count-count.ensures.count i)
      (map (parameter_of g.N.Exact.value) (c.items-params.ensures.list i)));
}
