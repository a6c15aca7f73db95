use Rattle.std.proofs.Common.{ap, refl}
use Rattle.rob_syntax.specs.SeenSymbols.{seen_line}
use Rattle.rob_syntax.specs.Seen.{seen_statement}
use Rattle.rob_syntax.specs.Versions.{seen_version}
use Rattle.rob_rules.proofs.Steps.VersionLines.{none_of, none_plain, of_two, plain_of}
use Rattle.rob_rules.proofs.lines.statement_of.Goals as goal

pub returns-in-Err-NotAStatement : goal.returns-in-Err-NotAStatement
returns-in-Err-NotAStatement c = record {
  read = (
    refl,
    none_of (seen_version c.args.version) (seen_line c.args.symbols.now)
        (rw c.in-Err-NotAStatement.field-0-is at c.in-Err-NotAStatement.ensures.read),
  );
}

pub returns-then-is_plain : goal.returns-then-is_plain
returns-then-is_plain c = record {
  read = plain_of (seen_version c.args.version) (seen_line c.args.symbols.now) (seen_statement c.in-Ok.statement)
      c.in-Ok.ensures.read c.if-is_plain.ensures.plain;
}

pub returns-else-is_plain : goal.returns-else-is_plain
returns-else-is_plain c = record {
  read = (
    refl,
    none_plain (seen_version c.args.version) (seen_line c.args.symbols.now) (seen_statement c.in-Ok.statement)
        (ap seen_version c.in-One.is) c.in-Ok.ensures.read c.if-is_plain.ensures.plain,
  );
}

pub returns-in-Two : goal.returns-in-Two
returns-in-Two c = record {
  read = of_two (seen_version c.args.version) (seen_line c.args.symbols.now) (seen_statement c.in-Ok.statement)
      (ap seen_version c.in-Two.is) c.in-Ok.ensures.read;
}
