use Rattle.std.proofs.Common.{◌≡◌, ◌∷◌, false, length, ap, ◌∙◌, arith}
use Rattle.rob_syntax.specs.Known.{texts}
use Rattle.rob_syntax.specs.Symbols.{token_lines}
use Rattle.rob_syntax.specs.Versions.{seen_version}
use Rattle.rob_syntax.proofs.WordLemmas.{left, front_left, line_fits}
use Rattle.rob_rules.proofs.Steps.MoreLines.{between_own, line_breaks, line_on, read_all, read_start, symbols_in}
use Rattle.rob_rules.proofs.lines.Reader.read_lines.Goals as goal

pub overflow_add-line : goal.overflow_add-line
overflow_add-line c =
    let fits = line_fits c.loop-rest.line c.loop-rest.rest c.in-Some.tokens c.args.tokens.now c.in-Some.is
    c.loop-rest.invariant.count c.requires.room in
    omega (arith, fits)

pub loop-rest-init : goal.loop-rest-init
loop-rest-init c =
    let own = texts c.args.self.now.own.keys in
    let v = seen_version c.args.version in
    record {
      count = omega arith;
      progress = read_start c.args.limit own v
          (symbols_in c.args.text.now own v false (token_lines c.args.tokens.now)) c.args.self.now c.requires.between;
    }

pub read_line-requires : goal.read_line-requires
read_line-requires c = record {
  between = between_own (texts c.args.self.now.own.keys) c.loop-rest.self c.loop-rest.invariant.progress.read.between;
}

pub loop-rest-preserved : goal.loop-rest-preserved
loop-rest-preserved c =
    let own = texts c.args.self.now.own.keys in
    let v = seen_version c.args.version in
    let here = c.front_line.result.0.now in
    let front : left c.loop-rest.rest ≡ here ∷ left c.front_line.result.1 =
    ap left c.in-Some.is ∙ front_left c.in-Some.tokens.now here c.front_line.result.1 c.front_line.ensures.line in
    record {
      count = omega (arith, c.loop-rest.invariant.count, ap length front);
      progress = line_on c.args.limit own v c.args.text.now _ c.loop-rest.begun _ _ _ _ _ _ _ _ _
          c.loop-rest.invariant.progress front c.body_line-read.ensures.line c.body_line-read.ensures.begun
          (c.deref.ensures.value ∙ c.in_ok-symbols.ensures.symbols) c.read_line.new.self c.in-Ok.ensures.line;
    }

pub returns-in-Err-Rule-clause-lines : goal.returns-in-Err-Rule-clause-lines
returns-in-Err-Rule-clause-lines c =
    let own = texts c.args.self.now.own.keys in
    let v = seen_version c.args.version in
    let here = c.front_line.result.0.now in
    let front : left c.loop-rest.rest ≡ here ∷ left c.front_line.result.1 =
    ap left c.in-Some.is ∙ front_left c.in-Some.tokens.now here c.front_line.result.1 c.front_line.ensures.line in
    rw c.in-Err-Rule.field-0-is
    (line_breaks c.args.limit own v c.args.text.now _ c.loop-rest.begun _ _ _ _ _ _ _ _ _
    c.loop-rest.invariant.progress front c.body_line-read.ensures.line c.body_line-read.ensures.begun
    (c.deref.ensures.value ∙ c.in_ok-symbols.ensures.symbols) c.in-Err-Rule.rule c.in-Err-Rule.field-0
    c.in-Err-Rule.field-0-is c.in-Err-Rule.ensures.line)

pub returns-clause-lines : goal.returns-clause-lines
returns-clause-lines c =
    let own = texts c.args.self.now.own.keys in
    let v = seen_version c.args.version in
    read_all c.args.limit own v (symbols_in c.args.text.now own v false (token_lines c.args.tokens.now))
    (symbols_in c.args.text.now own v c.loop-rest.begun (left c.loop-rest.rest)) c.loop-rest.line c.args.self.now
    c.loop-rest.self c.loop-rest.invariant.progress
    (ap (λ r. symbols_in c.args.text.now own v c.loop-rest.begun (left r)) c.in_default.is)
