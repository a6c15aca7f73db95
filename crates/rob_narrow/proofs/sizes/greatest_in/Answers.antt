use Rattle.std.proofs.Common.{◌≡◌, ◌≤◌, ◌∙◌, ap, arith, rules, max, pos, nat_abs, get_or, below_more}
use Rattle.std.proofs.lemmas.Int.{to_z-of_z}
use mir.Syntax.{w64}
use mir.Val.{SFits}
use Rattle.rob_rows.proofs.Reductions.{within_all}
use Rattle.rob_narrow.proofs.sizes.greatest_in.Goals as goal

pub loop-entry-preserved : goal.loop-entry-preserved
loop-entry-preserved c =
    let row = c.args.row.now in
    let i = c.loop-entry.entry-index in
    let fits : SFits w64 (get_or row i (pos 0)) = search rules in
    let entry : c.unsigned_abs.result ≡ nat_abs (get_or row i (pos 0)) =
    c.unsigned_abs.ensures.value ∙ ap nat_abs (to_z-of_z w64 (get_or row i (pos 0)) fits) in
    let greater : c.max-greatest.result ≡ max c.unsigned_abs.result c.loop-entry.greatest = c.max-greatest.ensures in
    let from : c.args.least ≤ c.loop-entry.greatest = c.loop-entry.invariant.from in
    record {
      within =
          below_more _ _
          (λ k l. let before : nat_abs (get_or row k (pos 0)) ≤ c.loop-entry.greatest =
          c.loop-entry.invariant.within k l in omega arith)
          (omega arith);
      from = omega arith;
      least = λ h l w.
          let before : c.loop-entry.greatest ≤ h = c.loop-entry.invariant.least h l w in
          let here : nat_abs (get_or row i (pos 0)) ≤ h = w i (pos 0) (omega arith) in
          omega arith;
    }

pub returns-clause-within : goal.returns-clause-within
returns-clause-within c =
    within_all c.loop-entry.greatest c.args.row.now c.loop-entry.entry-index (omega arith) c.loop-entry.invariant.within
