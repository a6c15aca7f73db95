use Rattle.std.proofs.Common.{ℕ, ap, ◌∙◌, sym}
use Rattle.std.specs.Prelude.{unwrap_or, Option}
use Rattle.std.specs.Str.{bytes_eq}
use Rattle.rob_syntax.proofs.WordLemmas.{position-texts}
use Rattle.rob_expand.proofs.name.number_of.Goals as goal

pub returns : goal.returns
returns c = record {
  number =
      c.unwrap_or.ensures
      ∙ ap (λ (o : Option ℕ). unwrap_or o 0)
      (c.get_index_of.ensures.index ∙ sym (position-texts (bytes_eq c.args.word.now) c.args.words.now.keys));
}
