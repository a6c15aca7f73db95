use Rattle.std.proofs.Common.{arith}
use Rattle.rob_cert.specs.View.{certificate_of, status_of}
use Rattle.rob_model.specs.View.{robust}
use Rattle.rob_number.proofs.CountLemmas.{later, rise_later}
use Rattle.rob_branch.specs.Leaves.{is_wide_leaf}
use Rattle.rob_branch.proofs.JudgingLemmas.{refused_counted, refused_written}
use Rattle.rob_branch.proofs.leaf.judge_leaf.Goals as goal

-- ---- the box is written
pub judge_written-requires-clause-elaborated : goal.judge_written-requires-clause-elaborated
judge_written-requires-clause-elaborated g c = c.in-Ok.ensures.elaborated

pub judge_written-requires-clause-none_wide : goal.judge_written-requires-clause-none_wide
judge_written-requires-clause-none_wide g c = c.in-Ok.ensures.written

pub returns-in-Ok-clause-judged : goal.returns-in-Ok-clause-judged
returns-in-Ok-clause-judged g c = c.judge_written.ensures.judged

pub returns-in-Ok-clause-counted : goal.returns-in-Ok-clause-counted
returns-in-Ok-clause-counted g c = record {
  never_fell = later c.written.ensures.counted c.judge_written.ensures.counted.never_fell;
  refused = rise_later (is_wide_leaf c.judge_written.result) (g.L.Ledger.wides c.args.ledger.now)
      (g.L.Ledger.wides c.written.new.ledger) (g.L.Ledger.wides c.judge_written.new.ledger)
      c.written.ensures.counted.wides c.judge_written.ensures.counted.refused;
}

-- ---- a number of the set rows or forms is wide, or memory is refused
pub returns-in-Err-clause-judged : goal.returns-in-Err-clause-judged
returns-in-Err-clause-judged g c =
    let value = g.N.Exact.value in
    refused_written g.N.Exact.limit (status_of c.args.claim.status) (value c.args.claim.value)
    (robust value c.args.model.now) (certificate_of value c.args.cert.now) c.refused.result c.in-Err.error
    c.refused.ensures.told c.in-Err.ensures.cause

pub returns-in-Err-clause-counted : goal.returns-in-Err-clause-counted
returns-in-Err-clause-counted g c = record {
  never_fell = c.written.ensures.counted;
  refused = refused_counted (g.L.Ledger.wides c.args.ledger.now) (g.L.Ledger.wides c.args.ledger.now)
      (g.L.Ledger.wides c.written.new.ledger) (omega arith) c.in-Err.error c.refused.result c.refused.ensures.told
      c.in-Err.ensures.rose;
}
