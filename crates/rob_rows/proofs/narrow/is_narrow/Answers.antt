use Rattle.std.proofs.Common.{◌∙◌, sym, ap, rules, pos, nat_abs, get_or}
use Rattle.std.proofs.lemmas.Bool.{OnTrue_from, ltb-true}
use Rattle.std.proofs.lemmas.Int.{to_z-of_z}
use mir.Syntax.{w64}
use mir.Val.{SFits}
use Rattle.rob_rows.specs.Factors.{IsNarrow}
use Rattle.rob_rows.proofs.Entries.{narrow_from_bounds}
use Rattle.rob_rows.proofs.narrow.is_narrow.Goals as goal

pub returns : goal.returns
returns c =
    let fp : SFits w64 c.args.factors.p = search rules in
    let fq : SFits w64 c.args.factors.q = search rules in
    record {
      narrow =
          OnTrue_from _ (IsNarrow c.args.factors c.args.top.now c.args.low.now)
          (λ t k l m.
          narrow_from_bounds (nat_abs c.args.factors.p) (nat_abs (get_or c.args.top.now k (pos 0)))
          (nat_abs c.args.factors.q) (nat_abs (get_or c.args.low.now k (pos 0)))
          c.unsigned_abs.result c.unsigned_abs-2.result c.largest.result c.largest-2.result
          (sym (c.unsigned_abs.ensures.value ∙ ap nat_abs (to_z-of_z w64 c.args.factors.p fp)))
          (sym (c.unsigned_abs-2.ensures.value ∙ ap nat_abs (to_z-of_z w64 c.args.factors.q fq)))
          (c.largest.ensures.bound k (pos 0) l) (c.largest-2.ensures.bound k (pos 0) m)
          (ltb-true _ _ t));
    }
