use Rattle.std.proofs.Common.{◌+◌, ◌++◌, length, length-append, arith, refl, ap, sym, subst, ◌∙◌, Fits, w32}
use Rattle.rob_cert.specs.Causes.{HasCause}
use Rattle.rob_cert.specs.Reading.{start}
use Rattle.rob_cert.specs.Spelling.{naming_of}
use Rattle.rob_cert.specs.View.{certificate_of}
use Rattle.rob_model.specs.View.{robust}
use Rattle.rob_tree.proofs.Readers.NodeSteps.{cause_within}
use Rattle.rob_tree.proofs.Readers.ReadingLemmas.{line_ends_within}
use Rattle.rob_tree.specs.Reading.{line_ends}
use Rattle.rob_tree.proofs.nodes.read_leaf.Goals as goal

pub read_cert-requires-clause-small : goal.read_cert-requires-clause-small
read_cert-requires-clause-small g c =
    let part = c.certificate_part-part.result in
    let is = c.certificate_part-part.ensures.part in
    let size = length-append part.lines.now part.behind.now in
    omega (arith, c.requires.short, ap length is.split, size)

pub overflow_add-result : goal.overflow_add-result
overflow_add-result g c =
    let part = c.certificate_part-part.result in
    let is = c.certificate_part-part.ensures.part in
    let size = length-append part.lines.now part.behind.now in
    let names = naming_of (robust g.N.Exact.value c.args.scene.model.now) in
    let cause =
    subst (λ e. HasCause names g.N.Exact.limit start part.lines.now 1 e) c.in-Err-Rule.field-0-is
    c.in-Err-Rule.ensures.fault in
    let within = (cause_within names g.N.Exact.limit part.lines.now c.in-Err-Rule.rule c.in-Err-Rule.line cause).1 in
    subst (λ n. Fits w32 (c.args.at.line + n)) (sym c.in-Err-Rule.line-is)
    (omega (arith, within, c.requires.small, ap length is.split, size))

pub overflow_add-result-in-Ok : goal.overflow_add-result-in-Ok
overflow_add-result-in-Ok g c =
    let part = c.certificate_part-part.result in
    let is = c.certificate_part-part.ensures.part in
    let size = length-append part.lines.now part.behind.now in
    omega (arith, is.counted, line_ends_within part.lines.now, ap length is.split, size, c.requires.small)

pub returns-in-Ok-clause-read : goal.returns-in-Ok-clause-read
returns-in-Ok-clause-read g c =
    let part = c.certificate_part-part.result in
    let is = c.certificate_part-part.ensures.part in
    let size = length-append part.lines.now part.behind.now in
    let m = robust g.N.Exact.value c.args.scene.model.now in
    let d = certificate_of g.N.Exact.value c.in-Ok.cert in
    record {
      certificate = d;
      is = refl;
      split = is.split ∙ ap (λ t. t ++ part.behind.now) c.in-Ok.ensures.read.spelled;
      line_is = ap (λ n. c.args.at.line + n) (is.counted ∙ ap (λ t. line_ends t) c.in-Ok.ensures.read.spelled);
      branches_are = refl;
      shape = c.in-Ok.ensures.read.shape;
      fits = c.in-Ok.ensures.fits;
    }
