use Rattle.rob_reach.proofs.GrowingLemmas.{comes_allowed, measure_falls, measure_splits, path_short}
use Rattle.rob_reach.proofs.RangeLemmas.{changes_bounded}
use Rattle.rob_reach.proofs.SplitLemmas.{product_positive}
use Rattle.rob_reach.proofs.growing.measure_laws.Goals as goal

pub returns : goal.returns
returns c = record {
  splits = λ m names c j k model bounded a. measure_splits m model names bounded c j k a;
  falls = λ m names c j k model bounded a. measure_falls m model names bounded c j k a;
  path = λ m names path model bounded h. path_short m model names bounded path h;
  comes = comes_allowed;
  bounded = λ m names b h. changes_bounded b.is_upper b.bound b.variable m.variables names h;
  positive = λ m names. product_positive m.variables names;
}
