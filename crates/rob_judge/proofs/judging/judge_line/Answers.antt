use Rattle.std.proofs.Common.{List, ap, ◌∙◌}
use Rattle.rob_settings.specs.declared.item.Item.{Item}
use Rattle.rob_expand.specs.Judging.{worst, item_found}
use Rattle.rob_settings.specs.Spots.{picks}
use Rattle.rob_expand.proofs.Walks.FindingLemmas.{worse_both}
use Rattle.rob_judge.proofs.JudgeLemmas.{factor_found}
use Rattle.rob_judge.proofs.ThinLemmas.{thin_found}
use Rattle.rob_judge.proofs.judging.judge_line.Goals as goal

pub returns : goal.returns
returns c =
    let vs = c.args.values.now in
    record {
      found =
          c.worse-found.ensures.worse
          ∙ worse_both c.in_ok-head.ensures.found
          (c.worse-behind.ensures.worse
          ∙ worse_both (c.in_ok-trees.ensures.found ∙ ap (worst (factor_found vs)) c.items.ensures.list)
          (c.worse-last.ensures.worse
          ∙ worse_both
          (c.in_ok-items.ensures.found
          ∙ ap (λ (xs : List Item). worst (λ (x : Item). item_found x vs) (picks xs c.args.kept.now))
          c.items-2.ensures.list
          ∙ thin_found c.args.line.now.items c.args.kept.now vs c.requires.thin)
          c.in_ok-over.ensures.found));
    }
