use Rattle.rob_cert.proofs.Readers.FirstLinesLemmas.{bound_count, bound_read}
use Rattle.rob_cert.proofs.first_lines.read_single.Goals as goal

pub returns-in-None-two_words-clause-fault : goal.returns-in-None-two_words-clause-fault
returns-in-None-two_words-clause-fault g c =
    bound_count g.N.Exact.limit c.args.which c.args.at.rest.now c.in-Some.split.front.now c.in-Some.split.back.now
    c.in-Some.ensures.found.0 c.in-None-two_words.ensures.words

pub returns-in-Some-read_number-clause-read : goal.returns-in-Some-read_number-clause-read
returns-in-Some-read_number-clause-read g c names =
    bound_read names g.N.Exact.limit c.args.which c.args.at.rest.now c.in-Some.split.front.now c.in-Some.split.back.now
    c.args.at.line _ _ _ _ (g.N.Exact.value c.in-Some-read_number.number)
    c.in-Some.ensures.found.0 c.in-Some.ensures.found.1.1 c.word.ensures.word c.in-Some-two_words.ensures.words
    c.in-Some-read_number.ensures.number
