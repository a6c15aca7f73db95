use Rattle.rob_meaning.proofs.Conditions.ConeLemmas.{taken_meets}
use Rattle.rob_meaning.proofs.Proving.CoverLemmas.{covered_at}
use Rattle.rob_meaning.proofs.Proving.ProvesLemmas.{certificate_true, items_tight}
use Rattle.rob_meaning.proofs.certificates.certificate_laws.Goals as goal

pub returns : goal.returns
returns c = record {
  true_of = λ m c model h. certificate_true m model c h;
  tight = λ m c model h. items_tight m model c h;
  covered = λ m i s z amounts model some positive h base p taken.
      covered_at m model i some s z amounts h base p positive (taken_meets m model base p taken).0
      (taken_meets m model base p taken).1;
}
