use Rattle.std.proofs.Common.{◌≡◌, ◌∙◌, Err, ap, map, string_bytes, sym, true≢false}
use denote.Enum.Bare.{sameb}
use Rattle.clap.specs.contracts.error.kind.ErrorKind.{the_type}
use Rattle.clap.specs.declared.error.kind.ErrorKind.TheVariants.{OutOfMemory}
use Rattle.rob_words.specs.Texts.{holding_of}
use Rattle.rob_words.proofs.Takings.{named-map, parsed-texts, refused-cause}
use Rattle.rob_words.proofs.grammar.read_texts.Goals as goal

pub returns-in-Ok-clause-texts : goal.returns-in-Ok-clause-texts
returns-in-Ok-clause-texts c =
    parsed-texts c.args.verb _ (map string_bytes c.args.words.now) c.in_ok-command.ensures.grammar c.in-Ok.matches
    (named-map string_bytes c.args.words.now c.requires.named) c.requires.admitted c.in-Ok.ensures.kinds
    (λ simple. (c.in-Ok.ensures.matches simple).0)
    (holding_of c.in_ok-texts_of-in-Ok.field-0) c.in_ok-texts_of-in-Ok.ensures.found

pub returns-clause-cause : goal.returns-clause-cause
returns-clause-cause c =
    refused-cause c.args.verb _ (map string_bytes c.args.words.now) c.in_ok-command.ensures.grammar c.in-Err-2.field-0
    c.in-Err-2.ensures.kinds (λ e.
    let errors : Err c.in-Err.error ≡ Err c.in-Err-2.field-0 = sym c.in-Err.is ∙ c.in-Err-2.is in
    let kind : c.kind.result ≡ OutOfMemory = cc in
    true≢false (sym (ap (λ k. sameb the_type k OutOfMemory) kind) ∙ sym c.eq.ensures ∙ c.if-eq.false))
