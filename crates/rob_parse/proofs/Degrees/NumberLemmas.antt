-- Digits within the limit are a number within it.
pub use Rattle.rob_number.proofs.CastLemmas.{limit_seen}
pub use Rattle.rob_number.proofs.PairLemmas.{pair_fits, written_kept}
