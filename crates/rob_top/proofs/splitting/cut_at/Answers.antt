use Rattle.std.proofs.Common.{refl, subst, sym, ◌∙◌}
use Rattle.rob_cells.specs.View.{cut_of}
use Rattle.rob_model.specs.View.{robust}
use Rattle.rob_parse.proofs.Degrees.NumberLemmas.{limit_seen}
use Rattle.rob_words.specs.Cuts.{IsCut}
use Rattle.rob_top.proofs.Telling.CutTellingLemmas.{cut_told}
use Rattle.rob_top.proofs.splitting.cut_at.Goals as goal

pub returns-in_err-told-clause-cut : goal.returns-in_err-told-clause-cut
returns-in_err-told-clause-cut g c =
    rw c.from_residual.ensures (λ is cut at. c.in_err-told.ensures.cut
    (subst (λ k. IsCut k c.args.word.now)
    (sym (limit_seen _ g.N.Exact.limit (c.LIMIT.ensures ∙ g.met.N.Exact.limit_told) g.met.N.Exact.limit_high)) is))

pub returns-clause-cut : goal.returns-clause-cut
returns-clause-cut g c =
    cut_told (robust g.N.Exact.value c.args.model.now) c.args.word.now c.in_ok-told.told _ c.in_ok-param.param
    (cut_of g.N.Exact.value (record { param = c.in_ok-param.param; at = c.signed.result })) c.in_ok-told.ensures.cut.1
    c.as_bytes.ensures.value c.in_ok-param.ensures.found refl c.signed.ensures.value
