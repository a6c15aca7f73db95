use Rattle.rob_round_trip.proofs.Written.ReadModels.{readable}
use Rattle.rob_parse.proofs.Names.WellNamed.{well_spelled}
use Rattle.rob_round_trip.proofs.Written.WritableLines.{all_fine}
use Rattle.rob_round_trip.proofs.Written.DeclarableLines.{all_declarable}
use Rattle.rob_round_trip.proofs.laws.canonical_words.Goals as goal

pub returns : goal.returns
returns c = record {
  writable = λ limit text m low small read.
      all_fine limit small m (well_spelled limit text m read) (readable limit text m low read);
  declarable = λ limit text m read. all_declarable m (well_spelled limit text m read);
}
