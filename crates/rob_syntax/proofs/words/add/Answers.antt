use Rattle.std.proofs.Common.{ap, ◌∙◌, sym}
use Rattle.rob_lex.specs.declared.token.Kind.{Kind}
use Rattle.rob_syntax.specs.Known.{texts}
use Rattle.rob_syntax.specs.Symbols.{add_word, word_at, bytes_of}
use Rattle.std.specs.Prelude.{fold}
use Rattle.rob_syntax.proofs.WordLemmas.{texts-insert_key}
use Rattle.rob_syntax.proofs.words.add.Goals as goal

pub returns-in_ok-insert : goal.returns-in_ok-insert
returns-in_ok-insert c =
    record {
      words =
          ap texts c.in_ok-insert.ensures.keys
          ∙ texts-insert_key c.args.words.now.keys c.in_ok-word.word
          ∙ ap (add_word (texts c.args.words.now.keys)) (c.in_ok-word.ensures.items ∙ c.bytes_of.ensures.bytes)
          ∙ ap (λ (k : Kind). fold add_word (texts c.args.words.now.keys)
          (word_at k (bytes_of c.args.text.now c.args.token))) (sym c.in-Word.is);
    }
