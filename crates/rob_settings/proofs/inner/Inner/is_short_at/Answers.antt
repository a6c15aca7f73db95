use Rattle.std.proofs.Common.{◌≤◌, length, ap, arith}
use Rattle.std.proofs.lemmas.Int.{ints}
use Rattle.rob_settings.proofs.InnerLemmas.{both_short}
use Rattle.rob_settings.proofs.inner.Inner.is_short_at.Goals as goal

pub returns-in-Some : goal.returns-in-Some
returns-in-Some c = record {
  short = λ t.
      let few : length c.args.self.now ≤ 2 =
      omega (arith, c.if-items-gt-FEW.false, ap length c.items.ensures.list, ap length c.self.view_is) in
      let first = c.in-Some.ensures.first in
      let second = c.in-Some.ensures.second in
      let k = c.are_short.ensures.first t in
      let h = c.are_short.ensures.second t in
      both_short c.args.self.now c.args.values.now few (omega (arith, ints, first, k)) (omega (arith, ints, second, h));
}
