use Rattle.rob_meaning.specs.RobustModel.{written_count}
use Rattle.rob_model.specs.View.{robust}
use Rattle.rob_write.specs.ExpressionWords.{naming_of}
use Rattle.rob_write.proofs.WriterLemmas.{factor_step, term_step}
use Rattle.rob_write.proofs.expression_writer.+write.Goals as goal

pub put_terms-loop-term-preserved : goal.put_terms-loop-term-preserved
put_terms-loop-term-preserved g t c =
    term_step g.N.Exact.value (written_count (robust g.N.Exact.value c.args.model.now))
    (naming_of (robust g.N.Exact.value c.args.model.now)) c.args.terms.now c.loop-term.term-index c.term-item.result
    c.loop-term.first c.loop-term.page c.is_sum.result c.is_sum-in-loop-term.result
    c.loop-term-test.true c.term-item.is c.in_ok-put_lead.ensures.written c.is_sum.ensures.holds
    c.in_ok-put_paren.ensures.written c.in_ok-put_expression.ensures.written
    c.is_sum-in-loop-term.ensures.holds c.in_ok-put_paren-2.ensures.written c.loop-term.invariant

pub put_factors-loop-factor-preserved : goal.put_factors-loop-factor-preserved
put_factors-loop-factor-preserved g t c =
    factor_step g.N.Exact.value (written_count (robust g.N.Exact.value c.args.model.now))
    (naming_of (robust g.N.Exact.value c.args.model.now)) c.args.factors.now c.loop-factor.factor-index
    c.factor-item.result c.loop-factor.first c.loop-factor.page c.is_compound.result
    c.is_compound-in-loop-factor.result
    c.loop-factor-test.true c.factor-item.is c.in_ok-put_times.ensures.written c.is_compound.ensures.holds
    c.in_ok-put_paren.ensures.written c.in_ok-put_expression.ensures.written
    c.is_compound-in-loop-factor.ensures.holds c.in_ok-put_paren-2.ensures.written c.loop-factor.invariant
