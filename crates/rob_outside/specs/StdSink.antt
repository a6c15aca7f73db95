-- Standard output, as contracts see it.
use Rattle.std.specs.Prelude.{ℕ, List, []}
use Rattle.rob_outside.specs.Puts.{Put}

-- the bytes that it noted as taken so far, the puts and the faults
pub record OutputState : Type 0 where
  pub taken : List ℕ
  pub puts : List Put
  pub faults : ℕ

-- the output before its first put
abbrev pub empty_output : OutputState
empty_output = record { taken = []; puts = []; faults = 0 }
