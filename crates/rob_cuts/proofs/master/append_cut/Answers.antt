use Rattle.std.proofs.Common.{◌≤◌, refl, sym, subst, arith, nat_abs, ℤ, w64, to_z, of_z}
use Rattle.rob_dualize.proofs.SetProgramLemmas.{negated_within}
use lib.IntN.{neg_ℤ}
use Rattle.rob_dualize.proofs.EntryLemmas.{seen_same}
use Rattle.rob_cuts.proofs.MasterLemmas.{append_within}
use Rattle.rob_cuts.proofs.master.append_cut.Goals as goal

pub returns-in-Ok-clause-within : goal.returns-in-Ok-clause-within
returns-in-Ok-clause-within g c =
    let seen = seen_same c.in-Some.constant c.in-Some.constant refl
    (omega (arith, c.in-Some.ensures.number.1, g.met.N.Exact.limit_high)) in
    append_within g.N.Exact.limit c.args.master.now c.push_row.new.master c.in-Ok.row
    (neg_ℤ (to_z w64 (of_z w64 c.in-Some.constant))) c.push_row.result
    c.push_row.ensures.a c.push_row.ensures.b c.push_row.ensures.c c.in-Ok.ensures.within
    (negated_within g.N.Exact.limit (to_z w64 (of_z w64 c.in-Some.constant))
    (subst (λ (v : ℤ). nat_abs v ≤ g.N.Exact.limit) (sym seen) c.in-Some.ensures.number.1))
    c.or_stop.result c.or_stop.ensures.answer
