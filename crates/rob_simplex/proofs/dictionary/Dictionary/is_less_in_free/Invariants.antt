-- The listed columns so far don't decide.
use Rattle.rob_simplex.proofs.Leaving.Ties.{Tied}
use Rattle.rob_simplex.proofs.dictionary.Dictionary.is_less_in_free.Given as goal

abbrev pub invariant-loop-k : goal.invariant-loop-k
invariant-loop-k g l =
    Tied l.fn.self l.fn.rows.i l.fn.rows.e (g.E.Entry.value l.fn.rows.p) (g.E.Entry.value l.fn.rows.q) l.fn.before
    l.fn.free.slacks.now
    l.k-index
