use Rattle.std.proofs.Common.{ap, ◌∙◌, get_or, Vec}
use Rattle.std.specs.Prelude.{option_to_list}
use Rattle.std.specs.declared.alloc.Global.{Global}
use Rattle.rob_lex.specs.declared.token.Token.{Token}
use Rattle.rob_syntax.specs.Known.{texts}
use Rattle.rob_syntax.specs.Symbols.{symbol_at, bytes_of}
use Rattle.rob_syntax.specs.Versions.{seen_version}
use Rattle.rob_syntax.specs.declared.symbol.Symbol.{Symbol}
use Rattle.rob_syntax.proofs.WordLemmas.{given_all, given_more, kept_is, none_given, pushed_is, symbol_here}
use Rattle.rob_syntax.proofs.words.symbols.Goals.{in-Some+in_ok-push, in_default}
use Rattle.rob_syntax.proofs.words.symbols.Goals as goal

pub loop-token-init : goal.loop-token-init
loop-token-init c =
    none_given
    (λ (t : Token).
    symbol_at (seen_version c.args.version) (texts c.args.words.now.keys) t.kind (bytes_of c.args.text.now t))
    c.args.tokens.now c.new-symbols.ensures.items

pub loop-token-preserved : goal.loop-token-preserved
loop-token-preserved c =
    let version = seen_version c.args.version in
    let words = texts c.args.words.now.keys in
    let ys = c.loop-token.symbols.items in
    given_more
    (λ (t : Token). symbol_at version words t.kind (bytes_of c.args.text.now t)) c.args.tokens.now
    c.loop-token.token-index _ ys (option_to_list c.symbol.result)
    {next = c.match-symbol.symbols.items} c.loop-token-test.true
    (symbol_here version words c.args.text.now (get_or c.args.tokens.now c.loop-token.token-index _) c.symbol.result
    c.symbol.ensures.symbol c.bytes_of-bytes.ensures.bytes)
    (elim c.match-symbol.branch [
      | in-Some+in_ok-push w ↦ pushed_is ys w.in-Some.is
          (ap (λ (v : Vec Symbol Global). v.items) w.symbols-is ∙ w.in_ok-push.ensures.items)
      | in_default w ↦ kept_is ys w.in_default.is (ap (λ (v : Vec Symbol Global). v.items) w.symbols-is)
    ])
    c.loop-token.invariant

pub returns : goal.returns
returns c = record {
  symbols =
      given_all
      (λ (t : Token).
      symbol_at (seen_version c.args.version) (texts c.args.words.now.keys) t.kind (bytes_of c.args.text.now t))
      c.args.tokens.now c.loop-token.token-index c.loop-token.symbols.items c.loop-token-test.false
      c.loop-token.invariant;
}
