use Rattle.std.proofs.lemmas.Result.{err_from_is_err_and}
use Rattle.rob_syntax.specs.Known.{texts}
use Rattle.rob_syntax.specs.SeenSymbols.{seen_line}
use Rattle.rob_syntax.specs.Seen.{seen_statement}
use Rattle.rob_syntax.specs.Versions.{seen_version}
use Rattle.rob_rules.specs.Stages.{stage_of}
use Rattle.rob_rules.proofs.Steps.OneLine.{line_appended, no_statement_stops, seen_some, stopped_by}
use Rattle.rob_rules.proofs.lines.Reader.append_line.Goals as goal

pub returns-in_err-statement : goal.returns-in_err-statement
returns-in_err-statement c =
    let own = texts c.args.self.now.own.keys in
    let v = seen_version c.args.version in
    let symbols = seen_line c.args.symbols.now in
    let e = stage_of c.args.limit own v c.args.self.now in
    let p = err_from_is_err_and c.from_residual.result c.from_residual.ensures.1 in
    record {
      appended = stopped_by c.args.limit own v _ e symbols c.from_residual.result p.0 c.in_err-statement.field-0.0 p.1
          p.2 (no_statement_stops c.args.limit own v symbols e c.in_err-statement.field-0.0
          (seen_some c.args.symbols.now c.requires.some) c.in_err-statement.ensures.read);
    }

pub returns : goal.returns
returns c = record {
  appended = line_appended c.args.limit (texts c.args.self.now.own.keys) (seen_version c.args.version)
      (seen_line c.args.symbols.now) (seen_statement c.in_ok-statement.statement)
      (seen_some c.args.symbols.now c.requires.some) c.in_ok-statement.ensures.read c.args.self.now
      c.expand_line.result c.expand_line.new.self c.expand_line.ensures.expanded;
}
