use Rattle.std.proofs.Common.{length, ap}
use Rattle.std.proofs.lemmas.Result.{err_from_is_err_and}
use Rattle.rob_syntax.specs.Known.{texts}
use Rattle.rob_syntax.specs.SeenSymbols.{seen_line}
use Rattle.rob_syntax.specs.Versions.{seen_version}
use Rattle.rob_rules.specs.Stages.{stage_of}
use Rattle.rob_rules.proofs.Steps.MoreLines.{read_nothing}
use Rattle.rob_rules.proofs.Steps.OneLine.{count_fits, line_judged, room_behind, seen_some, some_symbols, stopped_by}
use Rattle.rob_rules.proofs.lines.Reader.read_line.Goals as goal

pub returns-then-is_empty : goal.returns-then-is_empty
returns-then-is_empty c = record {
  line = read_nothing c.args.limit (texts c.args.self.now.own.keys) (seen_version c.args.version) c.args.symbols.now
      c.if-is_empty.ensures c.args.self.now c.requires.between;
}

pub append_line-requires : goal.append_line-requires
append_line-requires c = record {
  between = c.requires.between;
  some = some_symbols c.args.symbols.now c.if-is_empty.ensures;
}

pub returns-in_err-append_line : goal.returns-in_err-append_line
returns-in_err-append_line c =
    let own = texts c.args.self.now.own.keys in
    let v = seen_version c.args.version in
    let e = stage_of c.args.limit own v c.args.self.now in
    let p = err_from_is_err_and c.from_residual.result c.from_residual.ensures.1 in
    record {
      line = stopped_by c.args.limit own v _ e (seen_line c.args.symbols.now) c.from_residual.result p.0
          c.in_err-append_line.field-0.0 p.1 p.2 c.in_err-append_line.ensures.appended;
    }

pub judge_behind-requires : goal.judge_behind-requires
judge_behind-requires c =
    let own = texts c.args.self.now.own.keys in
    let v = seen_version c.args.version in
    let symbols = seen_line c.args.symbols.now in
    let some = seen_some c.args.symbols.now (some_symbols c.args.symbols.now c.if-is_empty.ensures) in
    let a = c.in_ok-append_line.ensures.appended in
    record {
      count = count_fits c.args.limit own v symbols a.statement some a.is c.args.self.now c.append_line.new.self
          c.requires.between a.expanded (length c.items-count.result.now) (ap length c.items-count.ensures.list);
      small = room_behind c.args.limit own v symbols a.statement some a.is c.args.self.now c.append_line.new.self
          c.requires.between a.expanded (length c.items-count.result.now) (ap length c.items-count.ensures.list);
      front = a.expanded.between.front;
    }

pub returns : goal.returns
returns c =
    let own = texts c.args.self.now.own.keys in
    let v = seen_version c.args.version in
    let symbols = seen_line c.args.symbols.now in
    let some = seen_some c.args.symbols.now (some_symbols c.args.symbols.now c.if-is_empty.ensures) in
    let a = c.in_ok-append_line.ensures.appended in
    record {
      line = line_judged c.args.limit own v symbols a.statement some a.is c.args.self.now c.append_line.new.self
          c.requires.between a.expanded (length c.items-count.result.now) (ap length c.items-count.ensures.list)
          c.judge_behind.result c.judge_behind.new.self c.judge_behind.ensures.taken;
    }
