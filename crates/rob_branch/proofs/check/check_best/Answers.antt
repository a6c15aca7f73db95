use Rattle.rob_cert.specs.View.{certificate_of, status_of}
use Rattle.rob_reach.specs.Trees.{leaves}
use Rattle.rob_tree.specs.View.{node_of}
use Rattle.rob_branch.proofs.WalkLemmas.{ends_accepted, ends_open, ends_rejected}
use Rattle.rob_branch.proofs.check.check_best.Goals as goal

pub returns-in-None : goal.returns-in-None
returns-in-None g c =
    let value = g.N.Exact.value in
    record {
      ended = λ m. let l = c.in-Here.ensures.walk m in
          ends_accepted (status_of c.args.claim.status) c.args.names.now (value c.args.claim.value) c.args.best
          (leaves m (node_of value c.args.root.now)) c.requires.shows l.0
          (certificate_of value c.in-Here.cert.now) l.1 l.2
          c.in-None.ensures.last;
    }

pub returns-in-Some : goal.returns-in-Some
returns-in-Some g c =
    let value = g.N.Exact.value in
    record {
      ended = λ m. let l = c.in-Here.ensures.walk m in
          ends_rejected (status_of c.args.claim.status) c.args.names.now (value c.args.claim.value) c.args.best
          (leaves m (node_of value c.args.root.now)) c.requires.shows l.0 (certificate_of value c.in-Here.cert.now)
          c.in-Some.fault l.1 l.2 c.in-Some.ensures.last;
    }

pub returns-in-Open : goal.returns-in-Open
returns-in-Open g c =
    let value = g.N.Exact.value in
    record {
      ended = λ m. let l = c.in-Open.ensures.walk m in
          ends_open (status_of c.args.claim.status) c.args.names.now (value c.args.claim.value) c.args.best
          (leaves m (node_of value c.args.root.now)) c.requires.shows l.0 l.1 l.2;
    }
