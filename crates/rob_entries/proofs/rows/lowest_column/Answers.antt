use Rattle.std.proofs.Common.{◌≡◌, subst, sym, pos, map, get_or}
use lib.IntN.{ℤ}
use lib.Signed.{◌<ℤ◌, ◌≤ℤ◌}
use Rattle.rob_linear.specs.Vectors.{at}
use Rattle.rob_entries.proofs.Choices.{lowest_more}
use Rattle.rob_entries.proofs.MappedRows.{number_read}
use Rattle.rob_entries.proofs.rows.lowest_column.Goals as goal

pub loop-k-preserved : goal.loop-k-preserved
loop-k-preserved g c =
    let k = c.loop-k.k in
    let e : g.E.Entry.value c.index-row-k.result ≡ at (map g.E.Entry.value c.args.row.now) c.loop-k.k =
    number_read g.E.Entry.value c.args.row.now k c.index-row-k.result c.loop-k-test.true c.index-row-k.is in
    lowest_more (at (map g.E.Entry.value c.args.row.now)) (λ j. get_or c.args.near.now j 0) k c.args.before
    c.loop-k.best c.lower-best.result c.loop-k.invariant
    (λ h. c.lower-best.ensures.stays (subst (λ (z : ℤ). pos 0 ≤ℤ z) (sym e) h))
    (λ h. c.lower-best.ensures.lower (subst (λ (z : ℤ). z <ℤ pos 0) (sym e) h))
