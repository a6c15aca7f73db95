use Rattle.std.proofs.Common.{◌≡◌, true}
use Rattle.rob_index.proofs.Names.LineNames.{statement_refs}
use Rattle.rob_index.proofs.Names.NamingLemmas.{all_short, names_of_refs}
use Rattle.rob_index.proofs.naming.names.Goals as goal

pub returns : goal.returns
returns c =
    record {
      refs = λ words test s. names_of_refs words (λ r. test r ≡ true) s;
      of_line = λ test. statement_refs (λ k. test k ≡ true);
      short = all_short;
    }
