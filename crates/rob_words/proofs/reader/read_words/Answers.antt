use Rattle.std.proofs.Common.{rules, map, refl, string_bytes, sym}
use Rattle.rob_words.specs.Commands.{words_of}
use Rattle.rob_words.specs.Values.{greatest_of}
use Rattle.rob_words.specs.Verbs.{own_of}
use Rattle.rob_words.proofs.Readings.{line-admitted, line-kinds, line-route, line-width, of_kinds_again, passed-no_line, passed-texts, spelled-line}
use Rattle.rob_words.proofs.reader.read_words.Goals as goal

pub returns-in_err-verb-clause-cause : goal.returns-in_err-verb-clause-cause
returns-in_err-verb-clause-cause c =
    passed-no_line (map string_bytes c.args.words.now) c.from_residual.result
    (λ line. c.in_err-verb.ensures.named line.0.verb (words_of line.1.0) line.1.1.spelled)

pub returns-then-not-are_admitted-clause-cause : goal.returns-then-not-are_admitted-clause-cause
returns-then-not-are_admitted-clause-cause c = λ line.
    let admitted = c.are_admitted.ensures.admitted.1 (line-admitted (map string_bytes c.args.words.now) line) in
    search (admitted, c.if-not-are_admitted.true, rules)

pub returns-in_err-texts-clause-cause : goal.returns-in_err-texts-clause-cause
returns-in_err-texts-clause-cause c =
    passed-texts (map string_bytes c.args.words.now) c.in_ok-verb.verb c.in_ok-verb.ensures.named.0
    c.in_ok-verb.ensures.named.1 c.from_residual-in_err-texts.result c.in_err-texts.field-0.0
    c.from_residual-in_err-texts.ensures.1 c.in_err-texts.ensures.cause

pub returns-then-not-are_of_kinds-clause-cause : goal.returns-then-not-are_of_kinds-clause-cause
returns-then-not-are_of_kinds-clause-cause c = λ line.
    let told =
    c.are_of_kinds.ensures.kinds.1
    (of_kinds_again string_bytes c.greatest.result (greatest_of c.in_ok-width.width) c.own.result.now
    (own_of c.in_ok-verb.verb)
    c.as_slice.result.now c.in_ok-texts.texts.own.items c.greatest.ensures.greatest c.own.ensures.own
    c.as_slice.ensures.value
    (line-kinds c.in_ok-verb.verb (map string_bytes c.args.words.now) c.in_ok-verb.ensures.named.0
    c.in_ok-verb.ensures.named.1 line _ c.in_ok-texts.ensures.texts c.in_ok-width.width c.in_ok-width.ensures.judged))
    in
    search (told, c.if-not-are_of_kinds.true, rules)

pub returns-in_err-width-clause-cause : goal.returns-in_err-width-clause-cause
returns-in_err-width-clause-cause c =
    passed-no_line (map string_bytes c.args.words.now) c.from_residual-in_err-width.result
    (λ line. c.in_err-width.ensures.judged line.0.width
    (line-width c.in_ok-verb.verb (map string_bytes c.args.words.now) c.in_ok-verb.ensures.named.0
    c.in_ok-verb.ensures.named.1 line _ c.in_ok-texts.ensures.texts))

pub returns-in_err-route-clause-cause : goal.returns-in_err-route-clause-cause
returns-in_err-route-clause-cause c =
    passed-no_line (map string_bytes c.args.words.now) c.from_residual-in_err-route.result
    (λ line. let way =
    line-route c.in_ok-verb.verb (map string_bytes c.args.words.now) c.in_ok-verb.ensures.named.0
    c.in_ok-verb.ensures.named.1 line _
    c.in_ok-texts.ensures.texts in c.in_err-route.ensures.judged way.0 way.1)

pub returns-clause-line : goal.returns-clause-line
returns-clause-line c =
    spelled-line c.in_ok-verb.verb (map string_bytes c.args.words.now) c.in_ok-verb.ensures.named.0 _
    c.in_ok-width.width c.in_ok-route.route
    c.in_ok-verb.ensures.named.1 c.in_ok-texts.ensures.texts
    (of_kinds_again string_bytes (greatest_of c.in_ok-width.width) c.greatest.result
    (own_of c.in_ok-verb.verb) c.own.result.now
    c.in_ok-texts.texts.own.items c.as_slice.result.now (sym c.greatest.ensures.greatest) (sym c.own.ensures.own)
    (sym c.as_slice.ensures.value) (c.if-not-are_of_kinds.ensures.kinds.0 refl))
    c.in_ok-width.ensures.judged c.in_ok-route.ensures.judged
