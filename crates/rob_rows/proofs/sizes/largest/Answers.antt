use Rattle.std.proofs.Common.{◌≡◌, ◌+◌, ◌≤◌, ◌∙◌, ap, sym, subst, arith, rules, max, pos, nat_abs, get_or, below_more}
use Rattle.std.proofs.lemmas.Int.{to_z-of_z}
use mir.Syntax.{w64}
use mir.Val.{SFits}
use Rattle.rob_rows.proofs.Reductions.{within_all}
use Rattle.rob_rows.proofs.SizeLemmas.{IsReached, reached_more}
use Rattle.rob_rows.proofs.sizes.largest.Goals as goal

pub loop-entry-preserved : goal.loop-entry-preserved
loop-entry-preserved c =
    let row = c.args.row.now in
    let i = c.loop-entry.entry-index in
    let fits : SFits w64 (get_or row i (pos 0)) = search rules in
    let entry : c.unsigned_abs.result ≡ nat_abs (get_or row i (pos 0)) =
    c.unsigned_abs.ensures.value ∙ ap nat_abs (to_z-of_z w64 (get_or row i (pos 0)) fits) in
    let greater : c.max-largest.result ≡ max c.unsigned_abs.result c.loop-entry.largest = c.max-largest.ensures in
    record {
      bound =
          below_more _ _
          (λ k l. let before : nat_abs (get_or row k (pos 0)) ≤ c.loop-entry.largest =
          c.loop-entry.invariant.bound k l in omega arith)
          (omega arith);
      reached = subst (IsReached row (i + 1)) (sym greater)
          (reached_more row i c.loop-entry.largest c.unsigned_abs.result c.loop-entry.invariant.reached entry);
      size = omega arith;
    }

pub returns-clause-bound : goal.returns-clause-bound
returns-clause-bound c =
    within_all c.loop-entry.largest c.args.row.now c.loop-entry.entry-index (omega arith) c.loop-entry.invariant.bound
