-- The first lines of a certificate's text: the status, the value and the scale.
use Rattle.std.specs.Prelude.{◌≡◌, ℕ, List, [], ◌∷◌, codes, ◌++◌}
use Rattle.rob_algebra.specs.Fraction.{Fraction}
use Rattle.rob_algebra.specs.Width.{Fits}
use Rattle.rob_meaning.specs.Certificates.{Status}
use Rattle.rob_meaning.specs.Names.{Name}
use Rattle.rob_cert.specs.declared.error.Offence.{Offence}
use Rattle.rob_cert.specs.declared.error.Offence.TheVariants.{NoLine, NoShape, NoNumber}
use Rattle.rob_cert.specs.declared.kind.Bound.{Bound}
use Rattle.rob_cert.specs.declared.kind.Bound.TheVariants.{Value, Scale}
use Rattle.rob_cert.specs.Lines.{Line, value_line, scale_line}
use Rattle.rob_cert.specs.Kinds.{Kind, values, scales, word_of}
use Rattle.rob_cert.specs.Reading.{BeginsWithLine, words_in, HasWords}
use Rattle.rob_cert.specs.Spelling.{number_text, status_word}

-- the kind of the line of the value or the scale
abbrev pub bound_kind : Bound → Kind
bound_kind Value = values
bound_kind Scale = scales

-- the line of the value or the scale
abbrev pub bound_line : {A : Type 0} → Bound → A → Line A
bound_line Value q = value_line q
bound_line Scale q = scale_line q

-- the line of a status, without its end
abbrev pub status_bytes : Status → List ℕ
status_bytes s = codes "certificate " ++ status_word s

-- why the next line is not that of the value or the scale
abbrev pub HasBoundFault : ℕ → Bound → List ℕ → Offence → Type 0
HasBoundFault limit which text NoLine =
    (line after : List ℕ) → BeginsWithLine text line after → HasWords (bound_kind which) (words_in line) → ⊥
HasBoundFault limit which text NoShape = ⊥
HasBoundFault limit which text NoNumber = (line after : List ℕ) × (word : Name) × BeginsWithLine text line after
    × (words_in line ≡ word_of (bound_kind which) ∷ (word ∷ []))
    × ((q : Fraction) → Fits limit q → word ≡ number_text q → ⊥)
