use Rattle.std.proofs.Common.{ap, sym, ◌∙◌}
use Rattle.rob_meaning.specs.RobustModel.{Parameter}
use Rattle.rob_model.specs.View.{parameter_of}
use Rattle.rob_model.specs.declared.model.Param.{Param}
use Rattle.rob_write.proofs.WriterLemmas.{name_here, name_past}
use Rattle.rob_write.proofs.expression_writer.parameter_name.Goals as goal

pub returns-then-k-params : goal.returns-then-k-params
returns-then-k-params g c = record {
  name = c.bytes.ensures.list ∙ ap (λ (q : Param g.row.N.Denot). q.name) (sym c.index-params-k.is)
      ∙ name_here (parameter_of g.N.Exact.value) (λ (x : Parameter). x.name) c.args.params.now c.args.k
      c.index-params-k.result c.if-k-params.true c.index-params-k.is;
}

pub returns-else-k-params : goal.returns-else-k-params
returns-else-k-params g c = record {
  name = name_past (parameter_of g.N.Exact.value) (λ (x : Parameter). x.name) c.args.params.now c.args.k
      c.if-k-params.false;
}
