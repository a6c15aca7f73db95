use Rattle.std.proofs.Common.{ℕ, List, ap, ◌∙◌}
use Rattle.rob_index.specs.Fast.{names_in, nest_of}
use Rattle.rob_syntax.specs.declared.syntax.Range.{Range}
use Rattle.rob_syntax.specs.Seen.{seen_ranged, seen_ranges, seen_ref}
use Rattle.rob_expand.specs.Placing.{placed_name}
use Rattle.rob_expand.specs.Statements.{name_item}
use Rattle.rob_expand.proofs.Walks.ListLemmas.{listed_more, listed_all}
use Rattle.rob_expand.proofs.lines.name_items.Goals as goal

pub loop-entry-preserved : goal.loop-entry-preserved
loop-entry-preserved c =
    let x = c.entry-item.result in
    let names =
    c.items-in-loop-entry.ensures.list ∙ c.in_ok-nest.ensures.names
    ∙ ap (λ (rs : List Range). names_in c.args.names.now (seen_ranges rs)) c.items.ensures.list in
    let name =
    c.in_ok-name.ensures.named ∙ ap (λ (ns : List ℕ). placed_name ns (seen_ref x.item)) names in
    let ends =
    c.in_ok-ranges.ensures.ranges ∙ c.in_ok-nest.ensures.ends
    ∙ ap (λ (rs : List Range). nest_of c.args.names.now (seen_ranges rs)) c.items.ensures.list in
    listed_more (name_item c.args.names.now) (seen_ranged seen_ref) c.loop-entry.made _ c.args.on.now
    c.loop-entry.entry-index x _
    c.loop-entry-test.true c.entry-item.is c.in_ok-push.ensures.appended
    (λ i. record { name = name i; behind = 0; ranges = ends i }) c.loop-entry.invariant

pub returns : goal.returns
returns c = record {
  items =
      listed_all (name_item c.args.names.now) (seen_ranged seen_ref) c.loop-entry.made c.args.on.now
      c.loop-entry.entry-index
      c.loop-entry-test.false c.loop-entry.invariant;
}
