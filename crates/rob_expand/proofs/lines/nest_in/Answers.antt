use Rattle.std.proofs.Common.{ℕ, List, [], ◌∷◌, ◌++◌, ap, ◌∙◌}
use Rattle.rob_index.specs.Forms.{Ends}
use Rattle.rob_index.specs.Fast.{ends_of}
use Rattle.rob_syntax.specs.Seen.{seen_range}
use Rattle.rob_expand.proofs.Walks.ListLemmas.{nest_more, names_more, nest_all, names_all}
use Rattle.rob_expand.proofs.lines.nest_in.Goals as goal

pub loop-range-preserved : goal.loop-range-preserved
loop-range-preserved c =
    let range = c.range-item.result in
    let next =
    c.in_ok-push.ensures.appended
    ∙ ap (λ (e : Ends). c.loop-range.ends ++ e ∷ [])
    (c.in_ok-ends_of.ensures.ends ∙ ap (λ (ns : List ℕ). ends_of ns (seen_range range)) c.items.ensures.list) in
    let inside =
    c.in_ok-inside-2.ensures.names
    ∙ ap (λ (ns : List ℕ). range.name ∷ ns) c.items-in-loop-range.ensures.list in
    record {
      ends =
          nest_more c.loop-range.ends _ c.loop-range.inside _ c.args.ranges.now c.loop-range.range-index range
          c.loop-range-test.true c.range-item.is next inside c.loop-range.invariant.ends;
      names =
          names_more c.loop-range.inside _ c.args.ranges.now c.loop-range.range-index range
          c.loop-range-test.true c.range-item.is inside c.loop-range.invariant.names;
    }

pub returns : goal.returns
returns c = record {
  ends =
      nest_all c.loop-range.ends c.loop-range.inside c.args.ranges.now c.loop-range.range-index c.loop-range-test.false
      c.loop-range.invariant.ends;
  names =
      names_all c.loop-range.inside c.args.ranges.now c.loop-range.range-index c.loop-range-test.false
      c.loop-range.invariant.names;
}
