-- The statement of a line, in either version.
use Rattle.std.proofs.Common.{◌≡◌, List, subst}
use Rattle.rob_index.specs.Lines.{IsStatement}
use Rattle.rob_index.specs.PlainLines.{IsPlainLine}
use Rattle.rob_index.specs.Reading.{Version, one, two, IsOf}
use Rattle.rob_index.specs.Statements.{Indexed, Tree}
use Rattle.rob_index.specs.Symbols.{Symbol}
use Rattle.rob_index.proofs.Parsing.OneStatement.{one_statement}

-- what is no statement is none of a version
pub none_of : (v : Version) (symbols : List Symbol) → ((s : Indexed Tree) → IsStatement symbols s → ⊥)
    → (s : Indexed Tree) → IsOf v symbols s → ⊥
none_of one symbols none s is = none s is.0
none_of two symbols none s is = none s is

-- nor is a statement with indices or ranges one of version 1
pub none_plain : (v : Version) (symbols : List Symbol) (s : Indexed Tree) → v ≡ one → IsStatement symbols s
    → (IsPlainLine s → ⊥) → (t : Indexed Tree) → IsOf v symbols t → ⊥
none_plain one symbols s v is with_indices t other =
    with_indices (subst IsPlainLine (one_statement symbols t s other.0 is) other.1)
none_plain two symbols s v is with_indices t other = absurd (differ v)
  where
    differ : two ≡ one → ⊥
    differ h = cc

-- one without is one, and in version 2 each is
pub plain_of : (v : Version) (symbols : List Symbol) (s : Indexed Tree) → IsStatement symbols s → IsPlainLine s
    → IsOf v symbols s
plain_of one symbols s is plain = (is, plain)
plain_of two symbols s is plain = is

pub of_two : (v : Version) (symbols : List Symbol) (s : Indexed Tree) → v ≡ two → IsStatement symbols s
    → IsOf v symbols s
of_two one symbols s v is = absurd (differ v)
  where
    differ : one ≡ two → ⊥
    differ h = cc
of_two two symbols s v is = is
