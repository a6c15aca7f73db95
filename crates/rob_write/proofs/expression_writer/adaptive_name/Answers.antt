use Rattle.std.proofs.Common.{ap, sym, ◌∙◌}
use Rattle.rob_meaning.specs.RobustModel.{AdaptiveVariable}
use Rattle.rob_model.specs.View.{adaptive_of}
use Rattle.rob_model.specs.declared.model.Adaptive.{Adaptive}
use Rattle.rob_write.proofs.WriterLemmas.{name_here, name_past}
use Rattle.rob_write.proofs.expression_writer.adaptive_name.Goals as goal

pub returns-then-k-adaptives : goal.returns-then-k-adaptives
returns-then-k-adaptives g c = record {
  name = c.bytes.ensures.list ∙ ap (λ (q : Adaptive g.row.N.Denot). q.name) (sym c.index-adaptives-k.is)
      ∙ name_here (adaptive_of g.N.Exact.value) (λ (x : AdaptiveVariable). x.name) c.args.adaptives.now c.args.k
      c.index-adaptives-k.result c.if-k-adaptives.true c.index-adaptives-k.is;
}

pub returns-else-k-adaptives : goal.returns-else-k-adaptives
returns-else-k-adaptives g c = record {
  name = name_past (adaptive_of g.N.Exact.value) (λ (x : AdaptiveVariable). x.name) c.args.adaptives.now c.args.k
      c.if-k-adaptives.false;
}
