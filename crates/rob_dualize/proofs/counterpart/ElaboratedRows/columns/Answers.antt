use Rattle.std.proofs.Common.{◌∙◌}
use Rattle.rob_dualize.specs.Wholes.{counterpart_of}
use Rattle.rob_dualize.proofs.ToldLemmas.{told_columns}
use Rattle.rob_dualize.proofs.counterpart.ElaboratedRows.columns.Goals as goal

pub returns : goal.returns
returns c = record {
  count = c.program_columns.ensures.count
      ∙ told_columns (counterpart_of c.args.self.now.forms.now c.args.self.now.set.now);
}
