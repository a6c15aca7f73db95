use Rattle.std.proofs.Common.{ℕ, ◌+◌, List, [], ap, ◌∙◌}
use Rattle.rob_index.specs.Fast.{names_in, nest_of}
use Rattle.rob_syntax.specs.declared.syntax.Range.{Range}
use Rattle.rob_syntax.specs.Seen.{seen_ranged, seen_ranges, seen_ref, seen_share}
use Rattle.rob_expand.specs.Placing.{placed_name}
use Rattle.rob_expand.specs.Statements.{member_item}
use Rattle.rob_expand.proofs.Walks.ListLemmas.{listed_more, listed_all}
use Rattle.rob_expand.proofs.lines.member_items.Goals as goal

pub loop-member-preserved : goal.loop-member-preserved
loop-member-preserved c =
    let x = c.member-item.result in
    let names =
    c.items-in-loop-member.ensures.list ∙ c.in_ok-nest.ensures.names
    ∙ ap (λ (rs : List Range). names_in [] (seen_ranges rs)) c.items.ensures.list in
    let name =
    c.in_ok-name.ensures.named ∙ ap (λ (ns : List ℕ). placed_name ns (seen_ref x.item.name)) names in
    let ends =
    c.in_ok-ranges.ensures.ranges ∙ c.in_ok-nest.ensures.ends
    ∙ ap (λ (rs : List Range). nest_of [] (seen_ranges rs)) c.items.ensures.list in
    let centre = c.signed_tokens-centre.ensures.tokens in
    let deviation = c.number_tokens-deviation.ensures.tokens in
    listed_more (member_item c.args.limit []) (seen_ranged seen_share) c.loop-member.made _ c.args.members.now
    c.loop-member.member-index x _
    c.loop-member-test.true c.member-item.is c.in_ok-push.ensures.appended
    (λ i. record { name = name i; behind = 2 + (centre i + deviation i); ranges = ends i }) c.loop-member.invariant

pub returns : goal.returns
returns c = record {
  items =
      listed_all (member_item c.args.limit []) (seen_ranged seen_share) c.loop-member.made c.args.members.now
      c.loop-member.member-index
      c.loop-member-test.false c.loop-member.invariant;
}
