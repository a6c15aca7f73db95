-- A model that a text reads as is read again from its canonical text.
use Rattle.std.proofs.Common.{ℕ, ◌^◌, ◌<◌, ◌≤◌, List, sym, subst}
use Rattle.rob_meaning.specs.Named.{HasDistinctMembers}
use Rattle.rob_meaning.specs.Places.{Each}
use Rattle.rob_meaning.specs.RobustModel.{RobustModel}
use Rattle.rob_meaning.specs.WellFormed.{IsModel}
use Rattle.rob_write.specs.Canonical.{model_text}
use Rattle.rob_parse.specs.Modelled.{ReadsModel}
use Rattle.rob_round_trip.proofs.Canonical.CanonicalReading.{canonical_reads}
use Rattle.rob_parse.proofs.Sizes.LimitLemmas.{within_limits}
use Rattle.rob_parse.proofs.Building.ModelLemmas.{well_formed_written}
use Rattle.rob_round_trip.proofs.Written.PlacedModels.{is_written}
use Rattle.rob_round_trip.proofs.Written.ReadModels.{readable}
use Rattle.rob_round_trip.proofs.Lengths.TokenCounts.{canonical_tokens, canonical_shallow}
use Rattle.rob_parse.proofs.Names.WellNamed.{once_written, well_named, well_spelled}

pub round_trip : (limit : ℕ) (text : List ℕ) (m : RobustModel) → 1 ≤ limit → limit < 2 ^ 62 → ReadsModel limit text m
    → ReadsModel limit (model_text m) m
round_trip limit text m low small read =
    let is = sym (is_written limit text m read low) in
    canonical_reads limit m low small (readable limit text m low read)
    (subst IsModel is (well_formed_written limit text m low read))
    (well_named limit text m read) (well_spelled limit text m read)
    (subst (λ (x : RobustModel). Each HasDistinctMembers x.set_lines) is (once_written limit text m read))
    (within_limits limit text m read) (canonical_shallow limit text m low read) (canonical_tokens limit text m low read)
