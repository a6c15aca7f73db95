use Rattle.std.proofs.Common.{rules, ◌≡◌, ◌≤◌, arith, max, pos, nat_abs, subst, sym}
use Rattle.rob_linear.specs.Vectors.{at}
use Rattle.rob_rows.specs.PrimitiveParts.{IsWithin}
use Rattle.rob_narrow.proofs.Numbers.{row_told}
use Rattle.rob_narrow.proofs.sizes.greatest_of_row.Goals as goal

pub returns-clause-least : goal.returns-clause-least
returns-clause-least g c = λ h l w.
    let lp = g.R.Rows.lp c.args.source.now in
    let row : IsWithin h c.write_row-right.new.numbers =
    subst (λ v. IsWithin h v) (sym c.write_row-right.ensures.numbers)
    (row_told h lp c.args.i (g.met.R.Rows.shaped c.args.source.now c.requires.ready) c.requires.inside w) in
    let size : c.unsigned_abs.result ≡ nat_abs (at lp.b c.args.i) = search rules in
    let right : nat_abs (at lp.b c.args.i) ≤ h = w.b c.args.i (pos 0) c.requires.inside in
    let greater : c.max.result ≡ max c.unsigned_abs.result c.args.least = c.max.ensures in
    c.greatest_in.ensures.least h (omega arith) row
