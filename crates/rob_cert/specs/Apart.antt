-- What a text needs so that it is the text of one certificate alone: names that stand in a line as words, and numbers
-- that fit.
use Rattle.std.specs.Prelude.{◌≢◌, ℕ}
use Rattle.rob_meaning.specs.Certificates.{Certificate}
use Rattle.rob_meaning.specs.Named.{declared_names}
use Rattle.rob_meaning.specs.Names.{Name}
use Rattle.rob_meaning.specs.Places.{Each}
use Rattle.rob_meaning.specs.RobustModel.{RobustModel}
use Rattle.rob_cert.specs.Lines.{lines_of}
use Rattle.rob_cert.specs.Reading.{FitsLine}
use Rattle.rob_cert.specs.Spelling.{naming_of}

-- the name has no space and no line's end
abbrev pub IsWord : Name → Type 0
IsWord name = Each (λ byte. (byte ≢ 32) × (byte ≢ 10)) name

-- each declared name of the model is a word
abbrev pub IsNamedInWords : RobustModel → Type 0
IsNamedInWords m = Each IsWord (declared_names m)

-- each number of the certificate's lines fits
abbrev pub FitsLines : ℕ → RobustModel → Certificate → Type 0
FitsLines limit m c = Each (FitsLine (naming_of m) limit) (lines_of c)
