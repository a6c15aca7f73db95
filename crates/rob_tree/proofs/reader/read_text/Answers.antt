use Rattle.std.proofs.Common.{sym, subst}
use Rattle.rob_cert.specs.View.{status_of}
use Rattle.rob_model.specs.View.{robust}
use Rattle.rob_tree.proofs.Readers.ReaderLemmas.{best_fits, text_best_cause, text_claim_cause, texts_cause, texts_read}
use Rattle.rob_tree.specs.Reading.{Breaks}
use Rattle.rob_tree.proofs.reader.read_text.Goals as goal

pub returns-in-Err-clause-fault : goal.returns-in-Err-clause-fault
returns-in-Err-clause-fault g c =
    let limit = g.N.Exact.limit in
    let m = robust g.N.Exact.value c.args.model.now in
    let names = c.args.named.now in
    let text = c.args.text.now in
    subst (λ r. Breaks limit m names text r 1) (sym c.rule.ensures.rule)
    (text_claim_cause limit m names text c.in-Err.offence c.in-Err.ensures.claim)

pub returns-in-Err-read_best-clause-fault : goal.returns-in-Err-read_best-clause-fault
returns-in-Err-read_best-clause-fault g c =
    let limit = g.N.Exact.limit in
    let m = robust g.N.Exact.value c.args.model.now in
    let names = c.args.named.now in
    let text = c.args.text.now in
    let claim = c.in-Ok.read.claim in
    let fits = g.met.N.Exact.fits claim.value in
    subst (λ r. Breaks limit m names text r 2) (sym c.rule-in-Err-read_best.ensures.rule)
    (text_best_cause limit m names (status_of claim.status) (g.N.Exact.value claim.value) text c.in-Ok.read.rest.now
    c.in-Err-read_best.offence fits c.in-Ok.ensures.claim
    c.in-Err-read_best.ensures.shown)

pub returns-in-Ok-read_best-clause-read : goal.returns-in-Ok-read_best-clause-read
returns-in-Ok-read_best-clause-read g c =
    let limit = g.N.Exact.limit in
    let m = robust g.N.Exact.value c.args.model.now in
    let names = c.args.named.now in
    let text = c.args.text.now in
    let claim = c.in-Ok.read.claim in
    let fits = g.met.N.Exact.fits claim.value in
    let shown = c.in-Ok-read_best.shown in
    texts_read g.N.Exact.value limit m names (status_of claim.status) (g.N.Exact.value claim.value) text
    c.in-Ok.read.rest.now shown.rest.now shown.best shown.line fits c.in-Ok.ensures.claim
    c.in-Ok-read_best.ensures.shown c.read_root.result c.requires.bounded c.read_root.ensures.read

pub returns-in-Ok-read_best-clause-fault : goal.returns-in-Ok-read_best-clause-fault
returns-in-Ok-read_best-clause-fault g c =
    let limit = g.N.Exact.limit in
    let m = robust g.N.Exact.value c.args.model.now in
    let names = c.args.named.now in
    let text = c.args.text.now in
    let claim = c.in-Ok.read.claim in
    let fits = g.met.N.Exact.fits claim.value in
    let shown = c.in-Ok-read_best.shown in
    texts_cause g.N.Exact.value limit m names (status_of claim.status) (g.N.Exact.value claim.value) text
    c.in-Ok.read.rest.now shown.rest.now shown.best shown.line fits c.in-Ok.ensures.claim
    c.in-Ok-read_best.ensures.shown c.read_root.result c.read_root.ensures.fault

pub read_root-requires-clause-best : goal.read_root-requires-clause-best
read_root-requires-clause-best g c =
    let shown = c.in-Ok-read_best.ensures.shown in
    best_fits (status_of c.in-Ok.read.claim.status) shown.shown
    c.in-Ok-read_best.shown.best shown.is_best
