use Rattle.std.proofs.Common.{◌≡◌, drop}
use Rattle.rob_expand.specs.Judging.{worse, worst, indices_found}
use Rattle.rob_judge.proofs.judging.judge_entries.Given as goal

abbrev pub invariant-loop-setting : goal.invariant-loop-setting
invariant-loop-setting l =
    worse l.found (worst (indices_found l.indices) (drop l.setting-index l.settings))
    ≡ worst (indices_found l.indices) l.settings
