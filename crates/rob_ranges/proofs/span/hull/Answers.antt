use Rattle.rob_ranges.proofs.SpanLemmas.{wider}
use Rattle.rob_ranges.proofs.span.hull.Goals as goal

pub returns : goal.returns
returns c = record {
  first = λ vs.
      wider c.args.a _ vs c.lesser-first.ensures.first c.lesser-second.ensures.first c.greater-last.ensures.first
      c.greater-end.ensures.first;
  second = λ vs.
      wider c.args.b _ vs c.lesser-first.ensures.second c.lesser-second.ensures.second c.greater-last.ensures.second
      c.greater-end.ensures.second;
}
