-- A sink in memory that grows, as contracts see it.
use Rattle.std.specs.Prelude.{ℕ, List, []}
use Rattle.rob_outside.specs.Puts.{Put}

-- the bytes taken so far, and the puts
pub record SureOutput : Type 0 where
  pub bytes : List ℕ
  pub puts : List Put

-- the sink before its first put
abbrev pub empty_bytes : SureOutput
empty_bytes = record { bytes = []; puts = [] }
