use Rattle.rob_syntax.proofs.Fronts.IndexLemmas.{brackets_found, no_first, no_more, no_close}
use Rattle.rob_syntax.proofs.Fronts.PartLemmas.{refused_up}
use Rattle.rob_syntax.proofs.indexed.index.brackets.Goals as goal

pub returns-in_err-first : goal.returns-in_err-first
returns-in_err-first c = record {
  read = refused_up _ _ _ c.from_residual.ensures.1 (no_first c.in-Some.ensures.read) c.in_err-first.ensures.read;
}

pub returns-in_err-list : goal.returns-in_err-list
returns-in_err-list c = record {
  read = refused_up _ _ _ c.from_residual-in_err-list.ensures.1
      (no_more c.in-Some.ensures.read c.in_ok-first.ensures.read) c.in_err-list.ensures.read;
}

pub returns-in-Some-behind_mark : goal.returns-in-Some-behind_mark
returns-in-Some-behind_mark c = record {
  read = brackets_found c.in-Some.ensures.read c.in_ok-first.ensures.read c.in_ok-list.ensures.read
      c.in-Some-behind_mark.ensures.read;
}

pub returns-in-None : goal.returns-in-None
returns-in-None c = record {
  read = no_close c.in-Some.ensures.read c.in_ok-first.ensures.read c.in_ok-list.ensures.read c.in-None.ensures.read;
}
