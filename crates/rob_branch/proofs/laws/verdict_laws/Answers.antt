use Rattle.rob_branch.proofs.OneVerdictLemmas.{one_verdict}
use Rattle.rob_branch.proofs.laws.verdict_laws.Goals as goal

pub returns : goal.returns
returns c =
    record { one = λ limit m names t model shape v w is also. one_verdict limit m names t model shape w v also is }
