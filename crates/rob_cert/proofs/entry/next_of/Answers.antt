use Rattle.std.specs.Cmp.Lexicographic.{other_text}
use Rattle.rob_cert.proofs.Readers.EntryLemmas.{no_line, other_first}
use Rattle.rob_cert.proofs.entry.next_of.Goals as goal

pub returns-in-None : goal.returns-in-None
returns-in-None c = record { found = λ line after more b e. no_line c.args.text.now line after c.in-None.ensures.cut b }

pub returns-else-eq : goal.returns-else-eq
returns-else-eq c = record {
  found = λ line after more b e.
      other_first c.args.text.now line after c.in-Some.split.front.now c.in-Some.split.back.now c.args.word.now
      c.first_word.result.now more _
      (record { split = c.in-Some.ensures.cut.0; whole = c.in-Some.ensures.cut.1 }) c.first_word.ensures.word.1
      (λ q. other_text c.first_word.result.now c.args.word.now c.if-eq.ensures q) b e;
}
