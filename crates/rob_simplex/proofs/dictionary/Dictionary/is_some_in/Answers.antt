use Rattle.std.proofs.Common.{sym, arith, pos}
use Rattle.rob_simplex.proofs.Places.EntryLemmas.{near_read}
use Rattle.rob_simplex.proofs.dictionary.Dictionary.is_some_in.Goals as goal

pub returns-clause-i_zero : goal.returns-clause-i_zero
returns-clause-i_zero g c off =
    sym (near_read c.self.invariant c.self.view_is c.args.i c.args.column (omega (arith, c.requires.i_in))
    c.requires.column_in c.index-place.result.now c.index-place.ensures (omega (arith, c.if-first-place.false)) (pos 0)
    (sym (c.is_marked-marked.ensures.off c.if-marked.false))).0

pub returns-clause-e_zero : goal.returns-clause-e_zero
returns-clause-e_zero g c off =
    sym (near_read c.self.invariant c.self.view_is c.args.e c.args.column (omega (arith, c.requires.e_in))
    c.requires.column_in c.index-place.result.now c.index-place.ensures (omega (arith, c.if-first-place.false)) (pos 0)
    (sym (c.is_marked.ensures.off off))).0
