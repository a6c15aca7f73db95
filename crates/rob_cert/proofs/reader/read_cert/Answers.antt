use Rattle.std.proofs.Common.{◌<◌, ◌^◌, length, sym, subst}
use Rattle.rob_meaning.proofs.Naming.NamedFormLemmas.{distinct_forms}
use Rattle.rob_meaning.specs.Named.{AreDistinct}
use Rattle.rob_model.specs.View.{robust}
use Rattle.std.specs.Prelude.{Err}
use Rattle.rob_cert.specs.declared.error.CertErr.{CertErr}
use Rattle.rob_cert.specs.Whole.{Reads}
use Rattle.rob_cert.specs.NamesView.{naming}
use Rattle.rob_cert.specs.Spelling.{Naming}
use Rattle.rob_cert.specs.View.{certificate_of}
use Rattle.rob_cert.proofs.Writing.FitLemmas.{answer_fits}
use Rattle.rob_cert.proofs.Writing.ReadLemmas.{reads_exactly}
use Rattle.rob_cert.proofs.Writing.ShapeLemmas.{few_names, well_read_both}
use Rattle.rob_cert.proofs.reader.read_cert.Goals as goal

pub read_text-requires-clause-distinct : goal.read_text-requires-clause-distinct
read_text-requires-clause-distinct g c =
    subst (λ (n : Naming). AreDistinct n.forms) (sym c.in-Ok.ensures.names)
    (distinct_forms (robust g.N.Exact.value c.args.model.now) c.requires.valid.well_formed c.requires.named)

pub read_text-requires-clause-few : goal.read_text-requires-clause-few
read_text-requires-clause-few g c =
    subst (λ (n : Naming). (length n.forms < 2 ^ 32) × (length n.set_rows < 2 ^ 32) × (length n.columns < 2 ^ 32))
    (sym c.in-Ok.ensures.names)
    (few_names (robust g.N.Exact.value c.args.model.now) c.requires.valid.limits)

pub returns-in-Ok-clause-read : goal.returns-in-Ok-clause-read
returns-in-Ok-clause-read g c =
    well_read_both (robust g.N.Exact.value c.args.model.now) (naming c.in-Ok.names) (certificate_of g.N.Exact.value)
    c.args.text.now c.read_text.result c.requires.small c.in-Ok.ensures.names
    c.read_text.ensures.read c.read_text.ensures.shape

pub returns-in-Ok-clause-fits : goal.returns-in-Ok-clause-fits
returns-in-Ok-clause-fits g c =
    answer_fits g.N.Exact.value g.N.Exact.limit g.met.N.Exact.fits
    (robust g.N.Exact.value c.args.model.now) c.read_text.result

pub returns-in-Ok-clause-exact : goal.returns-in-Ok-clause-exact
returns-in-Ok-clause-exact g c =
    reads_exactly g.N.Exact.value (robust g.N.Exact.value c.args.model.now) g.N.Exact.limit c.args.text.now
    c.requires.valid.well_formed c.requires.named g.met.N.Exact.limit_high
    (naming c.in-Ok.names) c.read_text.result c.in-Ok.ensures.names (returns-in-Ok-clause-read g c)
    (returns-in-Ok-clause-fits g c) c.read_text.ensures.fault

pub returns-in-Err-clause-exact : goal.returns-in-Err-clause-exact
returns-in-Err-clause-exact g c d words is fits =
    subst (λ (e : CertErr). Reads g.N.Exact.value d (Err e)) (sym c.from.ensures) tt
