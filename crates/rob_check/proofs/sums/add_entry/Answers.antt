use Rattle.std.proofs.Common.{pos}
use Rattle.rob_check.proofs.SumLemmas.{entry_added, none_added}
use Rattle.rob_check.proofs.sums.add_entry.Goals as goal

pub returns-in-Some-clause-exact : goal.returns-in-Some-clause-exact
returns-in-Some-clause-exact g c =
    let value = g.N.Exact.value in
    entry_added g.N.Exact.limit (value c.args.so_far) (value c.args.number) c.args.row.now
    c.args.column c.in-Some.entry.now _
    c.in-Some.ensures.lookup.3.0 (c.in-Some.ensures.lookup.3.1 (pos 0)) g.met.N.Exact.limit_high c.requires.fits
    c.add_product.ensures.exact

pub returns-in-None-clause-exact : goal.returns-in-None-clause-exact
returns-in-None-clause-exact g c =
    let value = g.N.Exact.value in
    none_added g.N.Exact.limit (value c.args.so_far) (value c.args.number) c.args.row.now c.args.column
    c.in-None.ensures.lookup.3 g.met.N.Exact.limit_low (g.met.N.Exact.fits c.args.so_far)
