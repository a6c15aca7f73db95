use Rattle.std.proofs.Common.{◌≡◌, drop, take, ◌++◌}
use Rattle.rob_replay.specs.Fields.{numerator_in, denominator_in}
use Rattle.rob_replay.proofs.field.slash_in.Given as goal

-- no byte so far is a slash
abbrev pub invariant-loop-i : goal.invariant-loop-i
invariant-loop-i l = record {
  front : numerator_in l.word ≡ take l.i l.word ++ numerator_in (drop l.i l.word);
  back : denominator_in l.word ≡ denominator_in (drop l.i l.word);
}
