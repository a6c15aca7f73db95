-- What is asked of cuts and of a split model, so that its canonical text is read.
use Rattle.std.specs.Prelude.{ℕ, ◌≤◌, List, length}
use Rattle.rob_algebra.specs.Width.{Fits}
use Rattle.rob_lex.specs.Offences.{most_tokens}
use Rattle.rob_meaning.specs.Places.{Each}
use Rattle.rob_meaning.specs.RobustModel.{RobustModel}
use Rattle.rob_pieces.specs.Cuts.{Cut}
use Rattle.rob_round_trip.specs.Pages.{ended}
use Rattle.rob_write.specs.Canonical.{lines_of}

-- the numbers of the cuts are within the limit
abbrev pub HaveFittingLevels : ℕ → List Cut → Type 0
HaveFittingLevels limit cuts = Each (λ (cut : Cut). Fits limit cut.level) cuts

-- the canonical text of the model has no more tokens than a text may have, line ends among them
abbrev pub HasFewTokens : RobustModel → Type 0
HasFewTokens m = length (ended (lines_of m)) ≤ most_tokens
