use Rattle.std.proofs.Common.{refl, ◌∙◌}
use Rattle.rob_outside.proofs.PutsLemmas.{stands_behind}
use Rattle.rob_top.proofs.Ending.PutLemmas.{lines_some, puts_nothing, puts_piece, puts_prefix}
use Rattle.rob_top.proofs.put.put_lines.Goals as goal

pub loop-rest-init : goal.loop-rest-init
loop-rest-init g c = record { puts = puts_nothing _ _ _; stands = refl }

pub loop-rest-preserved : goal.loop-rest-preserved
loop-rest-preserved g c = record {
  puts = puts_piece _ _ _ _ _ _ _ _ _ _ c.loop-rest.invariant.puts c.first_line.ensures.both c.first_line.ensures.first
      c.in_default.ensures.took c.in_default.ensures.noted;
  stands = c.in_default.ensures.stands ∙ c.loop-rest.invariant.stands;
}

pub returns-in-Err-clause-took : goal.returns-in-Err-clause-took
returns-in-Err-clause-took g c =
    puts_prefix _ _ _ _ _ _ _ _ _ c.loop-rest.invariant.puts c.first_line.ensures.both c.in-Err.ensures.took

pub returns-in-Err-clause-puts : goal.returns-in-Err-clause-puts
returns-in-Err-clause-puts g c =
    lines_some _ _ _ _ _ _ _ _ c.first_line.result.1.now c.in-Err.error c.loop-rest.invariant.puts
    c.first_line.ensures.first
    c.in-Err.ensures.noted

pub returns-in-Err-clause-stands : goal.returns-in-Err-clause-stands
returns-in-Err-clause-stands g c =
    stands_behind _ _ _ c.in-Err.error c.loop-rest.invariant.stands c.in-Err.ensures.stands
