use Rattle.std.proofs.Common.{string_bytes}
use Rattle.rob_case.specs.Cases.{CaseState, times_bytes}
use Rattle.rob_case.proofs.CaseLemmas.{with_more}
use Rattle.rob_case.proofs.case.Case.take_times.Goals as goal

pub returns : goal.returns
returns c =
    let case : CaseState = record {
      name = string_bytes c.self.inside.name;
      answer = string_bytes c.self.inside.answer;
      bytes = c.self.inside.bytes.items;
      model = c.self.inside.model.items;
      plan = c.self.inside.plan.items;
    } in
    record {
      given = with_more case _ c.self.view_is (times_bytes c.args.rest.now) c.append_times.new.bytes.items
          c.append_times.result c.append_times.ensures.appended;
    }
