use Rattle.std.proofs.Common.{map}
use Rattle.rob_cells.proofs.SplitSizeLemmas.{few_cells}
use Rattle.rob_cells.specs.View.{cut_of}
use Rattle.rob_model.specs.View.{robust}
use Rattle.rob_pieces.specs.SplitModel.{split_model}
use Rattle.rob_cells.proofs.size.is_split_within.Goals as goal

pub returns : goal.returns
returns g c =
    let value = g.N.Exact.value in
    let m = robust value c.args.model.now in
    record {
      test = c.are_within.ensures.test (split_model m (map (cut_of value) c.args.cuts.now))
          c.split_counts.ensures.counts
          (few_cells m (cut_of value) c.args.cuts.now c.requires.three);
    }
