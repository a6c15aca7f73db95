use Rattle.std.proofs.Common.{List, map, ap, ◌∙◌}
use Rattle.rob_syntax.specs.Known.{texts}
use Rattle.rob_syntax.specs.declared.syntax.Statement.TheVariants as code
use Rattle.rob_syntax.specs.Symbols.{number_of}
use Rattle.rob_settings.specs.declared.item.Item.{Item}
use Rattle.rob_expand.specs.Making.{numbers_in}
use Rattle.rob_settings.specs.Spots.{picks}
use Rattle.rob_expand.proofs.Counting.ThinLemmas.{thin_names}
use Rattle.rob_expand.proofs.instance.make_policy.Goals as goal

pub returns : goal.returns
returns c = record {
  made =
      let own = texts c.args.names.own.now.keys in
      let words = texts c.args.names.words.now.keys in
      let vs = c.args.values.now in
      let n = c.in_ok-name.ensures.number in
      let o = c.in_ok-on.ensures.numbers
      ∙ ap (λ (xs : List Item). numbers_in own words (picks xs c.args.kept.now) vs) c.items.ensures.list
      ∙ ap (map (number_of words)) (thin_names c.args.line.now.items c.args.kept.now vs c.requires.thin own) in
      λ i. code.Adaptive (record { name = n i; on = o i; bounds = c.args.bounds });
}
