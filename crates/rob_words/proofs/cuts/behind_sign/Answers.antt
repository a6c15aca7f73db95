use Rattle.std.proofs.Common.{None, arith, sym}
use Rattle.std.proofs.lemmas.Str.Pattern.{strip_prefix_char}
use Rattle.rob_words.proofs.CutLemmas.{no_sign, nothing_stripped}
use Rattle.rob_words.proofs.cuts.behind_sign.Goals as goal

pub returns-in-None-clause-sign : goal.returns-in-None-clause-sign
returns-in-None-clause-sign c =
    sym (no_sign c.args.word.now (strip_prefix_char 45 c.args.word.now None c.in-None.ensures.cases (omega arith)))

pub returns-in-None-clause-number : goal.returns-in-None-clause-number
returns-in-None-clause-number c =
    sym (nothing_stripped c.args.word.now
    (strip_prefix_char 45 c.args.word.now None c.in-None.ensures.cases (omega arith)))
