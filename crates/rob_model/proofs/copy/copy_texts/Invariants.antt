use Rattle.std.proofs.Common.{◌≡◌, ◌++◌, drop}
use Rattle.rob_model.proofs.copy.copy_texts.Given as goal

abbrev pub invariant-loop-text : goal.invariant-loop-text
invariant-loop-text l = l.copy ++ drop l.text-index l.texts ≡ l.texts
