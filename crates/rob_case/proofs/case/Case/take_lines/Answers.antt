use Rattle.std.proofs.Common.{string_bytes}
use Rattle.rob_case.specs.Cases.{CaseState, lines_bytes}
use Rattle.rob_case.proofs.CaseLemmas.{with_more}
use Rattle.rob_case.proofs.case.Case.take_lines.Goals as goal

pub returns : goal.returns
returns c =
    let case : CaseState = record {
      name = string_bytes c.self.inside.name;
      answer = string_bytes c.self.inside.answer;
      bytes = c.self.inside.bytes.items;
      model = c.self.inside.model.items;
      plan = c.self.inside.plan.items;
    } in
    record {
      given = with_more case _ c.self.view_is (lines_bytes c.args.rest.now) c.append_lines.new.bytes.items
          c.append_lines.result c.append_lines.ensures.appended;
    }
