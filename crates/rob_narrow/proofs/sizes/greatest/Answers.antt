use Rattle.std.proofs.Common.{◌≤◌, ◌<◌, arith, subst, sym}
use Rattle.rob_rows.specs.PrimitiveParts.{IsWithin}
use Rattle.rob_narrow.proofs.Numbers.{within_next, all_within}
use Rattle.rob_narrow.proofs.sizes.greatest.Goals as goal

pub loop-i-preserved : goal.loop-i-preserved
loop-i-preserved g c =
    let lp = g.R.Rows.lp c.args.source.now in
    let from : c.loop-i.greatest ≤ c.greatest_of_row-greatest.result = c.greatest_of_row-greatest.ensures.from in
    let positive : 0 < c.loop-i.greatest = c.loop-i.invariant.positive in
    record {
      positive = omega arith;
      within = within_next c.loop-i.greatest c.greatest_of_row-greatest.result c.loop-i.i lp from
          c.loop-i.invariant.within c.greatest_of_row-greatest.ensures.row c.greatest_of_row-greatest.ensures.right;
      least = λ h p w. c.greatest_of_row-greatest.ensures.least h (c.loop-i.invariant.least h p w) w;
    }

pub returns : goal.returns
returns g c =
    let lp = g.R.Rows.lp c.args.source.now in
    let from : c.loop-i.greatest ≤ c.greatest_in.result = c.greatest_in.ensures.from in
    let positive : 0 < c.loop-i.greatest = c.loop-i.invariant.positive in
    record {
      greatest = record {
        positive = omega arith;
        within = all_within c.loop-i.greatest c.greatest_in.result c.loop-i.i lp
            (g.met.R.Rows.shaped c.args.source.now c.requires.ready) (omega arith) from c.loop-i.invariant.within
            (subst (λ v. IsWithin c.greatest_in.result v) c.write_cost.ensures.cost c.greatest_in.ensures.within);
        least = λ h p w.
            c.greatest_in.ensures.least h (c.loop-i.invariant.least h p w)
            (subst (λ v. IsWithin h v) (sym c.write_cost.ensures.cost) w.c);
      };
    }
