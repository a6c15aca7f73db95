use Rattle.std.proofs.Common.{◌≤◌, sym, subst, inl}
use Rattle.rob_linear.specs.WideRows.{HasWideRow}
use Rattle.rob_simplex.specs.Dictionaries.{columns_of}
use Rattle.rob_simplex.proofs.Telling.JudgingLemmas.{wide_below}
use Rattle.rob_simplex.proofs.dictionary.Dictionary.follow_second.Goals as goal

pub improve_to_end-requires : goal.improve_to_end-requires
improve_to_end-requires g c = record {
  stands = (c.requires.begun.0, c.in-Ok.ensures.turned c.requires.begun.0 c.requires.begun.1);
  limit = subst (λ l. g.N.Exact.limit ≤ l) (sym c.end_turn.ensures.sized.limit) c.requires.limit;
}

pub returns-in-Ok-clause-told : goal.returns-in-Ok-clause-told
returns-in-Ok-clause-told g c P h = c.improve_to_end.ensures.told P (c.in-Ok.ensures.turned P h)

pub returns-in-Ok-clause-caused : goal.returns-in-Ok-clause-caused
returns-in-Ok-clause-caused g c P h = c.improve_to_end.ensures.caused P (c.in-Ok.ensures.turned P h)

pub returns-in-Err-clause-told : goal.returns-in-Err-clause-told
returns-in-Err-clause-told g c P h =
    wide_below g.N.Exact.limit c.args.self.now.limit c.requires.limit P (columns_of c.end_turn.new.self.basis)
    c.in-Err.i (c.in-Err.ensures.wide P h)

pub returns-in-Err-clause-caused : goal.returns-in-Err-clause-caused
returns-in-Err-clause-caused g c P h =
    inl (subst (λ l. HasWideRow l P (columns_of c.end_turn.new.self.basis) c.in-Err.i)
    (sym c.end_turn.ensures.sized.limit) (c.in-Err.ensures.wide P h))
