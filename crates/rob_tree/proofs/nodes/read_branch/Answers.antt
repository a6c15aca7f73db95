use Rattle.std.proofs.Common.{ap, length}
use Rattle.rob_cert.specs.View.{status_of}
use Rattle.rob_model.specs.View.{robust}
use Rattle.rob_tree.proofs.Readers.LineLemmas.{no_node}
use Rattle.rob_tree.proofs.nodes.read_branch.Goals as goal

pub returns-in-None-clause-head : goal.returns-in-None-clause-head
returns-in-None-clause-head g c =
    no_node g.N.Exact.limit (robust g.N.Exact.value c.args.scene.model.now) c.args.scene.named.now
    (status_of c.args.scene.status) c.args.branches
    c.args.line.now c.requires.other.0 c.requires.other.1 (λ name word few e. c.in-None.ensures.words (ap length e))
