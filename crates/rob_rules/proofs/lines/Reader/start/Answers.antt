use Rattle.std.proofs.Common.{◌≡◌, ℕ, false, length, refl, sym, ap, ◌∙◌, Vec, replicate, Global}
use Rattle.std.proofs.lemmas.List.{length-map}
use Rattle.rob_syntax.specs.Symbols.{words_of}
use Rattle.rob_rules.specs.Scopes.{start}
use Rattle.rob_rules.proofs.Steps.StageLemmas.{starts}
use Rattle.rob_rules.proofs.lines.Reader.start.Goals as goal

pub returns : goal.returns
returns c =
    let own = words_of c.args.text.now c.args.tokens.now in
    let count : length c.in_ok-words.words.keys ≡ length own =
    sym (length-map c.in_ok-words.words.keys (λ (v : Vec ℕ Global). v.items)) ∙ ap length c.in_ok-words.ensures.words in
    record {
      start = starts own _ c.in_ok-own.ensures.words c.in_ok-words.ensures.words
          (c.in_ok-scope.ensures.start ∙ ap start (c.len.ensures.len ∙ count))
          (c.in_ok-front.ensures.start ∙ ap start (c.len-2.ensures.len ∙ count))
          (c.in_ok-declared.ensures.items_if_clones_equal (λ y h. h)
          ∙ ap (λ (n : ℕ). replicate n false) (c.len-3.ensures.len ∙ count)) refl c.new-list.ensures.empty;
    }
