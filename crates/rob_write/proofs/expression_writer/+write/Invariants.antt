use Rattle.std.proofs.Common.{◌≡◌, true, drop, map}
use Rattle.std.specs.Prelude.{fold}
use Rattle.rob_model.specs.View.{robust, expression_of, signed_of, terms_of, factors_of}
use Rattle.rob_write.specs.Pages.{put}
use Rattle.rob_write.specs.WrittenModel.{terms_written, factors_written}
use Rattle.rob_write.specs.ExpressionWords.{naming_of, term_words, factor_words}
use Rattle.rob_meaning.specs.RobustModel.{written_count}
use Rattle.rob_write.proofs.expression_writer.+write.Given as goal

abbrev pub invariant-put_terms-loop-term : goal.invariant-put_terms-loop-term
invariant-put_terms-loop-term g l =
    fold put l.page
    (term_words (naming_of (robust g.N.Exact.value l.model)) l.first
    (terms_written (written_count (robust g.N.Exact.value l.model))
    (terms_of (map (signed_of g.N.Exact.value) (drop l.term-index l.terms)))))
    ≡ fold put l.fn.page
    (term_words (naming_of (robust g.N.Exact.value l.model)) true
    (terms_written (written_count (robust g.N.Exact.value l.model))
    (terms_of (map (signed_of g.N.Exact.value) l.terms))))

abbrev pub invariant-put_factors-loop-factor : goal.invariant-put_factors-loop-factor
invariant-put_factors-loop-factor g l =
    fold put l.page
    (factor_words (naming_of (robust g.N.Exact.value l.model)) l.first
    (factors_written (written_count (robust g.N.Exact.value l.model))
    (factors_of (map (expression_of g.N.Exact.value) (drop l.factor-index l.factors)))))
    ≡ fold put l.fn.page
    (factor_words (naming_of (robust g.N.Exact.value l.model)) true
    (factors_written (written_count (robust g.N.Exact.value l.model))
    (factors_of (map (expression_of g.N.Exact.value) l.factors))))
