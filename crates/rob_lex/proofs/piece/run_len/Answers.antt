use Rattle.std.proofs.Common.{length, arith}
use Rattle.rob_lex.specs.Found.{passes}
use Rattle.rob_lex.proofs.Runs.{IsRun-from_each}
use Rattle.rob_lex.proofs.piece.run_len.Goals as goal

pub returns-then-not-passes-clause-run : goal.returns-then-not-passes-clause-run
returns-then-not-passes-clause-run c =
    IsRun-from_each (passes c.args.class) c.loop-i.i c.args.bytes.now (omega arith) c.loop-i.invariant (λ _. cc)

pub returns-clause-run : goal.returns-clause-run
returns-clause-run c =
    IsRun-from_each (passes c.args.class) (length c.args.bytes.now) c.args.bytes.now (omega arith)
    (λ k h. c.loop-i.invariant k (omega arith)) (λ h. absurd (omega arith))
