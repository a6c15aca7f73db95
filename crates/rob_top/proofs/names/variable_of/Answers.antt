use Rattle.std.proofs.Common.{ap, arith, length, subst, ◌∙◌}
use Rattle.std.proofs.lemmas.List.{length-map}
use Rattle.std.specs.Prelude.{Some, None}
use Rattle.rob_meaning.specs.Names.{column_names}
use Rattle.rob_model.specs.Naming.{FindsOwn}
use Rattle.rob_model.specs.View.{robust, variable_of}
use Rattle.rob_top.proofs.Telling.NumberingLemmas.{none_found, other_found, variable_found}
use Rattle.rob_top.proofs.names.variable_of.Goals as goal

pub returns-in_err-column : goal.returns-in_err-column
returns-in_err-column g c =
    let m = robust g.N.Exact.value c.args.model.now in
    record {
      number = rw c.from_residual.ensures (none_found m c.args.name.now
          (subst (λ name. FindsOwn (column_names m) name None) c.as_bytes.ensures.value
          (c.in_err-column.ensures.own c.requires.named)));
    }

pub returns-then-column-items : goal.returns-then-column-items
returns-then-column-items g c =
    let m = robust g.N.Exact.value c.args.model.now in
    record {
      number = variable_found m c.args.name.now c.in_ok-column.column
          (subst (λ name. FindsOwn (column_names m) name (Some c.in_ok-column.column)) c.as_bytes.ensures.value
          (c.in_ok-column.ensures.own c.requires.named))
          (c.in_ok-column.ensures.found.0 ∙ ap Some c.as_bytes.ensures.value)
          (omega (
            arith,
            c.if-column-items.true,
            ap length c.items.ensures.list,
            length-map c.args.model.now.vars (variable_of g.N.Exact.value),
          ));
    }

pub returns-else-column-items : goal.returns-else-column-items
returns-else-column-items g c =
    let m = robust g.N.Exact.value c.args.model.now in
    record {
      number = other_found m c.args.name.now c.in_ok-column.column
          (subst (λ name. FindsOwn (column_names m) name (Some c.in_ok-column.column)) c.as_bytes.ensures.value
          (c.in_ok-column.ensures.own c.requires.named))
          (omega (
            arith,
            c.if-column-items.false,
            ap length c.items.ensures.list,
            length-map c.args.model.now.vars (variable_of g.N.Exact.value),
          ));
    }
