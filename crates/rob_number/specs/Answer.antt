-- What an answer stands for: the exact number, or none where it was refused for its width.
use Rattle.std.specs.Prelude.{Option, Some, None, Result, Ok, Err}
use Rattle.rob_algebra.specs.Fraction.{Fraction}

-- the fraction of the number answered, or none where the call refused
abbrev pub answer : {N E : Type 0} → (N → Fraction) → Result N E → Option Fraction
answer value (Ok x) = Some (value x)
answer value (Err e) = None
