use Rattle.std.proofs.Common.{◌∙◌}
use Rattle.rob_dualize.specs.Wholes.{counterpart_of}
use Rattle.rob_dualize.proofs.ToldLemmas.{told_rows}
use Rattle.rob_dualize.proofs.counterpart.ElaboratedRows.rows.Goals as goal

pub returns : goal.returns
returns c = record {
  count = c.program_rows.ensures.count ∙ told_rows
      (counterpart_of c.args.self.now.forms.now c.args.self.now.set.now);
}
