use Rattle.rob_cert.specs.View.{certificate_of}
use Rattle.rob_model.specs.View.{robust}
use Rattle.rob_tree.specs.View.{tree_of}
use Rattle.rob_commands.proofs.ShownLemmas.{best_not_behind, best_not_open, best_some, shown_report, shown_shape}
use Rattle.rob_commands.proofs.trees.shown_text.Goals as goal

pub leaf_of-requires : goal.leaf_of-requires
leaf_of-requires g c = record {
  some = best_some (robust g.N.Exact.value c.args.model.now) c.args.numbers.now
      (tree_of g.N.Exact.value c.args.tree.now) c.requires.proves c.requires.planned;
}

pub report_text-requires-clause-shape : goal.report_text-requires-clause-shape
report_text-requires-clause-shape g c =
    let here = c.in-Here.ensures.walk (robust g.N.Exact.value c.args.model.now) in
    shown_shape g.N.Exact.limit (robust g.N.Exact.value c.args.model.now) (tree_of g.N.Exact.value c.args.tree.now)
    (record { names = c.args.numbers.now; bounded = c.requires.bounded; shape = c.requires.shape })
    c.args.tree.now.best here.0 (certificate_of g.N.Exact.value c.in-Here.cert.now) here.1 here.2

pub returns : goal.returns
returns g c =
    let here = c.in-Here.ensures.walk (robust g.N.Exact.value c.args.model.now) in
    record {
      shown = shown_report (robust g.N.Exact.value c.args.model.now) c.args.numbers.now
          (tree_of g.N.Exact.value c.args.tree.now) c.requires.proves
          c.requires.planned c.requires.valid.well_formed (certificate_of g.N.Exact.value c.in-Here.cert.now) here.0
          here.1 here.2 c.report_text.result
          c.report_text.ensures.text;
    }

pub unreachable-requires : goal.unreachable-requires
unreachable-requires g c =
    let here = c.in-Open.ensures.walk (robust g.N.Exact.value c.args.model.now) in
    best_not_open (robust g.N.Exact.value c.args.model.now) c.args.numbers.now
    (tree_of g.N.Exact.value c.args.tree.now) c.requires.proves
    c.requires.planned here.0 here.1 here.2

pub unreachable-requires-in-Behind : goal.unreachable-requires-in-Behind
unreachable-requires-in-Behind g c =
    best_not_behind (robust g.N.Exact.value c.args.model.now) c.args.numbers.now
    (tree_of g.N.Exact.value c.args.tree.now) c.requires.proves
    c.requires.planned _ c.in-Behind.ensures.walk.0 c.in-Behind.ensures.walk.1
