use Rattle.std.proofs.Common.{ap, arith, length, sym, subst}
use Rattle.std.proofs.lemmas.Result.{err_from_is_err_and}
use Rattle.rob_lex.specs.Offences.{AreTokens}
use Rattle.rob_lex.proofs.SliceLemmas.{at_most}
use Rattle.rob_syntax.specs.Versions.{seen_version}
use Rattle.rob_rules.proofs.Steps.WholeText.{refused_by, start_between, text_breaks, text_ends, text_reads}
use Rattle.rob_rules.proofs.lines.read_text.Goals as goal

pub read_lines-requires-clause-room : goal.read_lines-requires-clause-room
read_lines-requires-clause-room c =
    let few = at_most c.args.text.now c.in-Ok.tokens.items c.in-Ok.ensures.read in
    omega (arith, few, ap length c.as_slice-tokens.ensures.value, c.requires.room)

pub read_lines-requires-clause-between : goal.read_lines-requires-clause-between
read_lines-requires-clause-between c =
    let text = c.args.text.now in
    let tokens = c.as_slice-tokens.result.now in
    let are = subst (AreTokens text) (sym c.as_slice-tokens.ensures.value) c.in-Ok.ensures.read in
    let v = seen_version c.read_version-version.result in
    start_between c.args.limit text tokens are v c.read_version-version.ensures.version c.in_ok-reader.reader
    c.in_ok-reader.ensures.start

pub returns-in_err-lines-clause-cause : goal.returns-in_err-lines-clause-cause
returns-in_err-lines-clause-cause c =
    let text = c.args.text.now in
    let tokens = c.as_slice-tokens.result.now in
    let are = subst (AreTokens text) (sym c.as_slice-tokens.ensures.value) c.in-Ok.ensures.read in
    let v = seen_version c.read_version-version.result in
    let r = c.from_residual-in_err-lines in
    let p = err_from_is_err_and r.result r.ensures.1 in
    refused_by c.args.limit text r.result p.0 c.in_err-lines.field-0.0 p.1 p.2
    (text_breaks c.args.limit text tokens are v c.read_version-version.ensures.version c.in_ok-reader.reader
    c.in_ok-reader.ensures.start c.in_err-lines.field-0.0 c.in_err-lines.ensures.lines)

pub returns-then-not-reader-clause-cause : goal.returns-then-not-reader-clause-cause
returns-then-not-reader-clause-cause c =
    let text = c.args.text.now in
    let tokens = c.as_slice-tokens.result.now in
    let are = subst (AreTokens text) (sym c.as_slice-tokens.ensures.value) c.in-Ok.ensures.read in
    let v = seen_version c.read_version-version.result in
    text_ends c.args.limit text tokens are v c.read_version-version.ensures.version c.in_ok-reader.reader
    c.in_ok-reader.ensures.start _ c.in_ok-lines.ensures.lines c.if-not-reader.true
    c.rule.result c.in_ok-lines.lines c.rule.ensures.rule c.in_ok-lines.ensures.count

pub returns-clause-read : goal.returns-clause-read
returns-clause-read c =
    let text = c.args.text.now in
    let tokens = c.as_slice-tokens.result.now in
    let are = subst (AreTokens text) (sym c.as_slice-tokens.ensures.value) c.in-Ok.ensures.read in
    let v = seen_version c.read_version-version.result in
    text_reads c.args.limit text tokens are v c.read_version-version.ensures.version c.in_ok-reader.reader
    c.in_ok-reader.ensures.start _ c.in_ok-lines.ensures.lines c.if-not-reader.false
