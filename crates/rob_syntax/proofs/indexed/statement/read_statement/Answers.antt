use Rattle.std.proofs.Common.{sym, ◌∙◌}
use Rattle.rob_syntax.specs.SeenSymbols.{seen_line}
use Rattle.rob_syntax.proofs.Fronts.PartLemmas.{refused_with}
use Rattle.rob_syntax.proofs.Fronts.StatementLemmas.{statement_read, statement_cause, not_line, not_few}
use Rattle.rob_syntax.proofs.indexed.statement.read_statement.Goals as goal

pub returns-in_err-statement : goal.returns-in_err-statement
returns-in_err-statement c = record {
  read = refused_with _ _ _ _ c.from_residual.ensures.1
      (statement_cause (seen_line c.args.symbols.now) c.in_err-statement.field-0.0 c.in_err-statement.ensures.read);
}

pub returns-else-is_line : goal.returns-else-is_line
returns-else-is_line c = record { read = not_line c.in_ok-statement.ensures.read c.if-is_line.ensures.line }

pub returns-then-has_few_indices : goal.returns-then-has_few_indices
returns-then-has_few_indices c =
    record {
      read =
          statement_read c.in_ok-statement.ensures.read c.if-is_line.ensures.line
          (sym c.has_few_indices.ensures.few ∙ c.if-has_few_indices.true);
    }

pub returns-else-has_few_indices : goal.returns-else-has_few_indices
returns-else-has_few_indices c =
    record {
      read = not_few c.in_ok-statement.ensures.read (sym c.has_few_indices.ensures.few ∙ c.if-has_few_indices.false);
    }
