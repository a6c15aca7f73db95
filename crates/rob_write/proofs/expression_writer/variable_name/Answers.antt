use Rattle.std.proofs.Common.{ap, sym, ◌∙◌}
use Rattle.rob_meaning.specs.RobustModel.{Variable}
use Rattle.rob_model.specs.View.{variable_of}
use Rattle.rob_model.specs.declared.model.Var.{Var}
use Rattle.rob_write.proofs.WriterLemmas.{name_here, name_past}
use Rattle.rob_write.proofs.expression_writer.variable_name.Goals as goal

pub returns-then-k-vars : goal.returns-then-k-vars
returns-then-k-vars g c = record {
  name = c.bytes.ensures.list ∙ ap (λ (q : Var g.row.N.Denot). q.name) (sym c.index-vars-k.is)
      ∙ name_here (variable_of g.N.Exact.value) (λ (x : Variable). x.name) c.args.vars.now c.args.k
      c.index-vars-k.result c.if-k-vars.true c.index-vars-k.is;
}

pub returns-else-k-vars : goal.returns-else-k-vars
returns-else-k-vars g c = record {
  name = name_past (variable_of g.N.Exact.value) (λ (x : Variable). x.name) c.args.vars.now c.args.k c.if-k-vars.false;
}
