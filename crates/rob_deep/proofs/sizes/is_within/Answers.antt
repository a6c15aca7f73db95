use Rattle.std.proofs.Common.{◌<◌, arith}
use Rattle.std.proofs.lemmas.Bool.{OnFalse_from, leb-false}
use Rattle.rob_rows.specs.PrimitiveParts.{HasWideEntry}
use Rattle.rob_rows.proofs.SizeLemmas.{wide_by}
use Rattle.rob_deep.proofs.sizes.is_within.Goals as goal

pub returns-clause-wide : goal.returns-clause-wide
returns-clause-wide c =
    OnFalse_from _ (HasWideEntry c.args.limit c.args.row.now)
    (λ t.
    let over : c.args.limit < c.largest.result = leb-false _ _ t in
    wide_by c.args.row.now c.largest.result c.args.limit over (c.largest.ensures.reached (omega arith)))
