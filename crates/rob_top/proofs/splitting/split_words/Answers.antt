use Rattle.std.proofs.Common.{map, string_bytes}
use Rattle.rob_model.specs.View.{robust}
use Rattle.rob_top.proofs.Meaning.SplittingLemmas.{told_words}
use Rattle.rob_top.proofs.splitting.split_words.Goals as goal

pub returns-clause-answers : goal.returns-clause-answers
returns-clause-answers g c =
    told_words g.N.Exact.limit (robust g.N.Exact.value c.args.model.now) c.args.verb c.requires.splits _
    (map string_bytes c.args.words.now) c.own_word-word.result.now c.at_word.result c.own_word-word.ensures.word
    c.at_word.ensures.answers
