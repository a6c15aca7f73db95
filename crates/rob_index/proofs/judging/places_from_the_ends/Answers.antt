use Rattle.rob_index.proofs.Faults.FastLemmas.{is_long_is, is_out_is}
use Rattle.rob_index.proofs.judging.places_from_the_ends.Goals as goal

pub returns : goal.returns
returns c = record { long = is_long_is; out = is_out_is }
