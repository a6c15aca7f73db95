use Rattle.std.proofs.Common.{◌∙◌, ap, neg_ℤ}
use Rattle.rob_simplex.proofs.dictionary.Dictionary.minus_entry.Goals as goal

pub returns : goal.returns
returns g c = record { entry = c.minus.ensures.value ∙ ap neg_ℤ c.dense_entry.ensures.entry }
