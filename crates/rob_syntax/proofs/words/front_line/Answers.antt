use Rattle.std.proofs.Common.{ap, ◌∙◌, ◌∷◌, take, ◌+◌, List}
use Rattle.rob_lex.specs.declared.token.Token.{Token}
use Rattle.rob_syntax.proofs.WordLemmas.{prepend-nil, line_more, line_ends, last_line, drop_all}
use Rattle.rob_syntax.specs.Symbols.{token_lines}
use Rattle.rob_syntax.proofs.words.front_line.Goals as goal

pub loop-i-init : goal.loop-i-init
loop-i-init c = prepend-nil (token_lines c.args.tokens.now)

pub returns-in-LineEnd : goal.returns-in-LineEnd
returns-in-LineEnd c =
    record {
      line =
          line_ends c.args.tokens.now c.loop-i.i _ c.loop-i-test.true c.in-LineEnd.is c.loop-i.invariant
          ∙ ap (λ (l : List Token). take c.loop-i.i c.args.tokens.now ∷ token_lines l)
          (drop_all c.args.tokens.now (c.loop-i.i + 1));
    }

pub loop-i-preserved : goal.loop-i-preserved
loop-i-preserved c =
    line_more c.args.tokens.now c.loop-i.i _ c.loop-i-test.true c.in_default.not-LineEnd c.loop-i.invariant

pub returns : goal.returns
returns c =
    record {
      line =
          last_line c.args.tokens.now c.loop-i.i c.loop-i-test.false c.loop-i.invariant;
    }
