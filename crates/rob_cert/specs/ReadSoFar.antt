-- The parts of a certificate's text behind one another.
use Rattle.std.specs.Prelude.{◌≡◌, ◌≢◌, ℕ, ◌<◌, ◌≤◌, nat_eq, true, false, List, ◌++◌}
use Rattle.rob_algebra.specs.Fraction.{Fraction}
use Rattle.rob_meaning.specs.Certificates.{Status}
use Rattle.rob_cert.specs.Causes.{HasCause}
use Rattle.rob_cert.specs.declared.error.CertErr.{CertErr}
use Rattle.rob_cert.specs.declared.kind.Vector.TheVariants.{At}
use Rattle.rob_cert.specs.Lines.{Line}
use Rattle.rob_cert.specs.Kinds.{Kind, entries, rank, is_used, may_follow, word_of}
use Rattle.rob_cert.specs.Reading.{start, behind, Leads}
use Rattle.rob_cert.specs.ReaderLines.{IsSection, HasNoLineOf}
use Rattle.rob_cert.specs.Spelling.{Naming}

-- behind a line of that kind the used kinds from that rank on may stand, and begin anew; an item's entries do not count
-- here
abbrev pub IsReady : Status → Kind → ℕ → Type 0
IsReady s last n = (kind : Kind) → n ≤ rank kind → is_used s kind ≡ true → kind ≢ entries At
    → (may_follow s last kind ≡ true) × (nat_eq (rank last) (rank kind) ≡ false)

-- the lines are the text's first ones, in a certificate of that status: kinds from rank `n` on may follow, and what
-- stands behind is no line of a lower kind that might follow
pub record SoFar (names : Naming) (limit : ℕ) (s : Status) (text : List ℕ) (lines : List (Line Fraction))
    (rest : List ℕ) (line n : ℕ) : Type 0 where
  pub last : Kind
  pub form : ℕ
  pub place : ℕ
  pub leads : Leads names limit start lines (behind s last form place)
  pub section : IsSection names text 1 lines rest line
  pub ready : IsReady s last n
  pub passed : (kind : Kind) → may_follow s last kind ≡ true → rank kind < n → HasNoLineOf (word_of kind) rest

-- a part of the text has the lines, up to kinds of rank `m`
abbrev pub Extends : Naming → ℕ → Status → (n m : ℕ) → List ℕ → ℕ → List (Line Fraction) → List ℕ → ℕ → Type 0
Extends names limit s n m rest line more rest' line' = (text : List ℕ) (lines : List (Line Fraction))
    → SoFar names limit s text lines rest line n → SoFar names limit s text (lines ++ more) rest' line' m

-- a part of the text has an error, which is the whole text's
abbrev pub Fails : Naming → ℕ → Status → ℕ → List ℕ → ℕ → CertErr → Type 0
Fails names limit s n rest line e = (text : List ℕ) (lines : List (Line Fraction))
    → SoFar names limit s text lines rest line n → HasCause names limit start text 1 e
