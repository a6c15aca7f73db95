use Rattle.rob_reach.proofs.RangeLemmas.{all_inside}
use Rattle.rob_reach.proofs.RuleLemmas as rules
use Rattle.rob_reach.proofs.rules.rule_laws.Goals as goal

pub returns : goal.returns
returns c =
    record {
      kept = rules.rules_kept;
      rule_62 = rules.rule_62;
      rule_63 = rules.rule_63;
      inside = λ m names. all_inside m.variables names;
    }
