use Rattle.rob_top.proofs.Relations.ProvedWorsts.{shows_kept, unplanned_says}
use Rattle.rob_top.proofs.laws.prove_then_worst.Goals as goal

pub returns : goal.returns
returns c = record {
  kept = λ proving searching status text shown solved is_prove known line width file searched.
      shows_kept proving searching status text solved is_prove known line width file shown searched;
  refused = λ proving searching status text shown solved is_prove known line width file rule number means.
      unplanned_says proving searching status text solved is_prove known line width file rule number shown means;
}
