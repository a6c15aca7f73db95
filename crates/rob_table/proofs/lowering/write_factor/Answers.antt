use Rattle.std.proofs.Common.{◌≡◌, ◌<◌, ◌^◌, ◌∙◌, sym, ap, subst, arith, List, nat_abs, set, to_z, of_z, w64}
use Rattle.std.proofs.lemmas.Int.{to_z-of_z}
use lib.IntN.{ℤ}
use Rattle.rob_table.specs.Tables.{row_at, HasBounds}
use Rattle.rob_table.proofs.Places.{set_elsewhere}
use Rattle.rob_table.proofs.LoweringSteps.{raised_bounds}
use Rattle.rob_table.proofs.lowering.write_factor.Goals as goal

pub returns-clause-others : goal.returns-clause-others
returns-clause-others g c j k l d =
    ap (λ (t : List ℤ). row_at t c.args.width j k) c.set.ensures.written
    ∙ set_elsewhere c.args.rows.now c.args.width c.args.i c.args.place j k (g.E.Entry.value c.of-entry.result)
    c.requires.place_in l d

pub returns-clause-bounded : goal.returns-clause-bounded
returns-clause-bounded g c h =
    let seen : to_z w64 (of_z w64 c.args.factor) ≡ c.args.factor = to_z-of_z w64 c.args.factor c.ranges.factor in
    let small : nat_abs (g.E.Entry.value c.of-entry.result) < 2 ^ 62 =
    subst (λ (z : ℤ). nat_abs z < 2 ^ 62) (sym (c.of-entry.ensures.value ∙ seen)) c.requires.factor in
    subst (λ (t : List ℤ). HasBounds g.E.Entry.top c.args.width t (set c.args.bounds.now c.args.i c.max.result))
    (sym c.set.ensures.written)
    (raised_bounds g.E.Entry.top c.args.width c.args.rows.now c.args.bounds.now c.args.i c.requires.inside c.args.place
    c.requires.place_in (g.E.Entry.value c.of-entry.result) c.max.result (omega (arith, c.max.ensures))
    (omega (arith, c.max.ensures, c.size.ensures.size))
    (λ l. omega (arith, c.max.ensures, c.size.ensures.size, small, g.met.E.Entry.top_low)) h)
