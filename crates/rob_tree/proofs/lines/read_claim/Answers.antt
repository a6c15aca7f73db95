use Rattle.rob_cert.specs.View.{status_of}
use Rattle.rob_tree.proofs.Readers.LineLemmas.{claim_cause, claim_missing}
use Rattle.rob_tree.proofs.Readers.ReadingLemmas.{text_of_words}
use Rattle.rob_tree.specs.Parts.{claim_words}
use Rattle.rob_tree.proofs.lines.read_claim.Goals as goal

pub returns-in-None-clause-claim : goal.returns-in-None-clause-claim
returns-in-None-clause-claim g c = claim_missing g.N.Exact.limit c.args.text.now c.in-None.ensures.cut

pub returns-in-Err-clause-claim : goal.returns-in-Err-clause-claim
returns-in-Err-clause-claim g c =
    claim_cause g.N.Exact.limit c.args.text.now c.in-Some.split.front.now c.in-Some.split.back.now c.in-Err.offence
    c.in-Some.ensures.cut.0 c.in-Some.ensures.cut.1 c.in-Err.ensures.claim

pub returns-in-Ok-clause-claim : goal.returns-in-Ok-clause-claim
returns-in-Ok-clause-claim g c =
    let words = claim_words (status_of c.in-Ok.claim.status) (g.N.Exact.value c.in-Ok.claim.value) in
    record {
      split = text_of_words c.args.text.now c.in-Some.split.front.now c.in-Some.split.back.now
          words c.in-Some.ensures.cut.0
          c.in-Ok.ensures.claim.words_are;
      nothing = c.in-Ok.ensures.claim.nothing;
    }
