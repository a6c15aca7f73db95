-- The numbers of the rules, and what an error tells.
use Rattle.std.specs.Prelude.{◌≡◌, ℕ, List}
use Rattle.rob_cert.specs.declared.error.CertErr.{CertErr}
use Rattle.rob_cert.specs.declared.error.CertErr.TheVariants.{Rule, Memory}
use Rattle.rob_cert.specs.declared.error.Offence.{Offence}
use Rattle.rob_cert.specs.declared.error.Offence.TheVariants.{NoLine, NoShape, NoNumber}
use Rattle.rob_cert.specs.Reading.{Stage, BreaksFrom}
use Rattle.rob_cert.specs.Spelling.{Naming}

-- the number of the rule that an offence breaks
abbrev pub rule_of : Offence → ℕ
rule_of NoLine = 31
rule_of NoShape = 32
rule_of NoNumber = 33

-- the text breaks the rule on that line, which is the first bad one; no lower rule is broken there. Want of memory has
-- no cause
abbrev pub HasCause : Naming → ℕ → Stage → List ℕ → ℕ → CertErr → Type 0
HasCause names limit stage text number (Rule rule line) =
    (offence : Offence) × (rule ≡ rule_of offence) × BreaksFrom names limit stage text number offence line
HasCause names limit stage text number Memory = Unit {0}
