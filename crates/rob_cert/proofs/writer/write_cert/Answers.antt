use Rattle.std.proofs.Common.{sym, subst}
use Rattle.rob_model.specs.View.{robust}
use Rattle.rob_cert.proofs.Words.NameListLemmas.{shape_named}
use Rattle.rob_cert.specs.Spelling.{HasNames}
use Rattle.rob_cert.specs.View.{certificate_of}
use Rattle.rob_cert.proofs.writer.write_cert.Goals as goal

pub put_cert-requires : goal.put_cert-requires
put_cert-requires g c =
    let d = certificate_of g.N.Exact.value c.args.cert.now in
    record {
      named = subst (λ names. HasNames names d) (sym c.in_ok-names.ensures.names)
          (shape_named (robust g.N.Exact.value c.args.model.now) d c.requires.valid.limits c.requires.shape);
    }
