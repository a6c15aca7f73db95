use Rattle.std.proofs.Common.{refl}
use Rattle.rob_places.specs.Tests.{is_set}
use Rattle.rob_syntax.specs.Known.{texts}
use Rattle.rob_syntax.specs.Seen.{seen_statement}
use Rattle.rob_rules.proofs.Joining.ExpandedLemmas.{stops_early, stops_late, late_only, expanded}
use Rattle.rob_rules.proofs.Judging.IndicesLemmas.{within_named}
use Rattle.rob_rules.proofs.lines.Reader.expand_line.Goals as goal

pub expand-requires : goal.expand-requires
expand-requires c =
    let own = texts c.args.self.now.own.keys in
    let s = seen_statement c.args.statement.now in
    record {
      within = within_named c.args.limit own (is_set c.args.self.now.declared.items) c.args.self.now.total s
          (late_only c.args.limit own s c.args.self.now c.requires.between c.as_slice.result.now
          c.as_slice.ensures.value
          c.in_ok-fault.fault c.in_default.is c.in_ok-fault.ensures.named own);
    }

pub returns-in-Some : goal.returns-in-Some
returns-in-Some c = record {
  expanded =
      stops_early c.args.limit (texts c.args.self.now.own.keys) (seen_statement c.args.statement.now) c.args.self.now
      c.requires.between c.as_slice.result.now c.as_slice.ensures.value c.in_ok-fault.fault c.in-Some.fault
      c.rule.result
      c.in-Some.is c.rule.ensures.rule c.in_ok-fault.ensures.named;
}

pub returns-in-Err-NoStatement : goal.returns-in-Err-NoStatement
returns-in-Err-NoStatement c =
    let own = texts c.args.self.now.own.keys in
    let s = seen_statement c.args.statement.now in
    record {
      expanded = stops_late c.args.limit own s c.args.self.now c.requires.between
          (late_only c.args.limit own s c.args.self.now c.requires.between c.as_slice.result.now
          c.as_slice.ensures.value
          c.in_ok-fault.fault c.in_default.is c.in_ok-fault.ensures.named own)
          c.in-Err-NoStatement.field-0 11 c.in-Err-NoStatement.field-0-is c.in-Err-NoStatement.ensures.refused refl;
    }

pub returns : goal.returns
returns c =
    let own = texts c.args.self.now.own.keys in
    let s = seen_statement c.args.statement.now in
    record {
      expanded = expanded c.args.limit own s c.args.self.now c.requires.between
          (late_only c.args.limit own s c.args.self.now c.requires.between c.as_slice.result.now
          c.as_slice.ensures.value
          c.in_ok-fault.fault c.in_default.is c.in_ok-fault.ensures.named own) _ _ c.in_ok-widen.ensures.widened
          (record {
            list = c.in-Ok.ensures.list;
            own_kept = refl;
            words_are = c.in-Ok.ensures.words;
            scope = refl;
            front = refl;
            declared = refl;
            total = c.in_ok-fault.ensures.behind c.in_default.is own;
            all_are = c.in-Ok.ensures.refused;
          });
    }
