use Rattle.std.proofs.Common.{List, map, ap, sym, ◌∙◌}
use Rattle.rob_syntax.proofs.SeenLemmas.{own-seen_rel}
use Rattle.rob_syntax.specs.Known.{texts}
use Rattle.rob_syntax.specs.Numbered.{numbered_tree}
use Rattle.rob_expand.specs.declared.placed.Placed.{Placed as Code}
use Rattle.rob_expand.specs.Placed.{placed_of}
use Rattle.rob_expand.specs.Making.{first_at, second_at}
use Rattle.rob_expand.proofs.instance.make_relation.Goals as goal

pub returns : goal.returns
returns c = record {
  made =
      let own = texts c.args.names.own.now.keys in
      let words = texts c.args.names.words.now.keys in
      let vs = c.args.values.now in
      let l = c.in_ok-left.ensures.made
      ∙ ap (λ (ts : List Code). numbered_tree words (first_at own (map placed_of ts) vs)) c.items.ensures.list in
      let p = c.in_ok-right.ensures.made
      ∙ ap (λ (ts : List Code). numbered_tree words (second_at own (map placed_of ts) vs)) c.items-2.ensures.list in
      let r = sym (own-seen_rel c.args.rel) in
      let o = c.in_ok-over.ensures.number in
      λ i. record { left = l i; rel = r i; right = p i; over = o i };
}
