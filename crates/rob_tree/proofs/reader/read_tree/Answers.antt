use Rattle.rob_model.specs.View.{robust}
use Rattle.rob_reach.proofs.RuleLemmas.{rules_kept}
use Rattle.rob_tree.proofs.Writing.GoodNodes.{columns_inside}
use Rattle.rob_tree.proofs.Readers.ReaderLemmas.{reads_exactly}
use Rattle.rob_tree.proofs.reader.read_tree.Goals as goal

pub read_text-requires-clause-ready : goal.read_text-requires-clause-ready
read_text-requires-clause-ready g c =
    let m = robust g.N.Exact.value c.args.model.now in
    record {
      named = c.requires.named;
      scene = record {
        names_are = c.in-Ok.ensures.names;
        inside = columns_inside m c.args.names.now ((rules_kept m c.args.names.now).0 c.requires.rule).0;
      };
    }

pub read_text-requires-clause-bounded : goal.read_text-requires-clause-bounded
read_text-requires-clause-bounded g c =
    ((rules_kept (robust g.N.Exact.value c.args.model.now) c.args.names.now).0 c.requires.rule).0

pub returns-in-Ok-clause-exact : goal.returns-in-Ok-clause-exact
returns-in-Ok-clause-exact g c =
    let m = robust g.N.Exact.value c.args.model.now in
    reads_exactly g.N.Exact.value m g.N.Exact.limit c.args.names.now c.args.text.now
    c.requires.valid.well_formed c.requires.named
    g.met.N.Exact.limit_high ((rules_kept m c.args.names.now).0 c.requires.rule).0 c.read_text.result
    c.read_text.ensures.read c.read_text.ensures.fault
