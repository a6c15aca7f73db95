use Rattle.rob_counterpart.proofs.Positions.SamePaths.{own_same, own_auxiliary_same, last_same, wide_row_same, last_from, wide_row_from}
use Rattle.rob_counterpart.proofs.programs.path_laws.Goals as goal

pub returns-clause-own : goal.returns-clause-own
returns-clause-own c = λ P Q basis h. (own_same P Q h basis, own_auxiliary_same P Q h basis)

pub returns-clause-last : goal.returns-clause-last
returns-clause-last c = λ P Q basis h. last_same P Q h basis

pub returns-clause-wide : goal.returns-clause-wide
returns-clause-wide c = λ P Q limit basis i h. wide_row_same P Q h limit basis i

pub returns-clause-last_from : goal.returns-clause-last_from
returns-clause-last_from c = λ P Q start basis h. last_from P Q h start basis

pub returns-clause-wide_from : goal.returns-clause-wide_from
returns-clause-wide_from c = λ P Q limit start basis i h. wide_row_from P Q h limit start basis i
