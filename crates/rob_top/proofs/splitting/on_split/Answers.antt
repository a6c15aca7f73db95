use Rattle.rob_model.specs.View.{robust}
use Rattle.rob_top.proofs.Meaning.SplittingLemmas.{pieces_replies, text_replies}
use Rattle.rob_top.proofs.splitting.on_split.Goals as goal

pub returns-in-Cells-clause-replies : goal.returns-in-Cells-clause-replies
returns-in-Cells-clause-replies g c =
    pieces_replies g.N.Exact.limit _ (robust g.N.Exact.value c.args.model.now) c.args.cells c.args.verb
    c.solved.result c.in-Cells.is
    c.solved.ensures.pieces

pub returns-in-CellText-clause-replies : goal.returns-in-CellText-clause-replies
returns-in-CellText-clause-replies g c =
    text_replies g.N.Exact.limit _ (robust g.N.Exact.value c.args.model.now) c.args.cells c.args.verb
    c.printed_model.result c.in-CellText.is
    c.printed_model.ensures.printed
