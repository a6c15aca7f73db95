use Rattle.std.proofs.Common.{Bor, List, ℕ}
use Rattle.rob_model.proofs.FrontLemmas.{stripped}
use Rattle.rob_model.proofs.spelling.strip.Goals as goal

pub returns : goal.returns
returns c =
    record {
      found = stripped (λ (x : Bor (List ℕ)). x.now) c.strip_prefix.result c.args.text.now c.args.piece.now
          c.strip_prefix.ensures.cases;
    }
