use Rattle.std.proofs.Common.{List, ap, sym, ◌∙◌}
use Rattle.std.specs.List.{list_any}
use Rattle.rob_index.specs.Places.{places}
use Rattle.rob_index.specs.Rules.{is_long, is_out}
use Rattle.rob_index.specs.Forms.{Ends}
use Rattle.rob_syntax.specs.Seen.{seen_statement}
use Rattle.rob_expand.specs.Judging.{is_too_long, is_out_found, lines_found}
use Rattle.rob_expand.proofs.Walks.FindingLemmas.{long_told, out_told}
use Rattle.rob_judge.proofs.JudgingLemmas.{statement_found}
use Rattle.rob_judge.proofs.judging.judge.Goals as goal

pub returns : goal.returns
returns c =
    let s = seen_statement c.args.statement.now in
    let long = list_any is_long (places s) in
    let out = list_any is_out (places s) in
    let found =
    c.in_ok-found.ensures.found ∙ ap (λ (rs : List Ends). lines_found rs c.in_ok-ranges.line) c.items.ensures.list
    ∙ statement_found c.args.limit s _ _ c.in_ok-ranges.ensures.line in
    let is_long_now = c.is_too_long.ensures.is ∙ ap is_too_long found ∙ long_told long out in
    record {
      long = is_long_now;
      out =
          λ short. c.is_out_found.ensures.is ∙ ap is_out_found found ∙ out_told long out (sym is_long_now ∙ short);
    }
