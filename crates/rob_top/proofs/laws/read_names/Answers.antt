use Rattle.rob_parse.proofs.Names.WellNamed.{well_spelled}
use Rattle.rob_top.proofs.Telling.CertificateNameLemmas.{named_in_words}
use Rattle.rob_top.proofs.laws.read_names.Goals as goal

pub returns : goal.returns
returns c = record { words = λ limit text m reads. named_in_words m (well_spelled limit text m reads) }
