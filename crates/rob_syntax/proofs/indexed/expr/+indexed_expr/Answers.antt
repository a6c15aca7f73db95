use Rattle.std.proofs.Common.{ap, refl, sym, ◌∙◌}
use Rattle.rob_index.specs.Statements as stated
use Rattle.rob_syntax.specs.declared.syntax.Tree.{Tree}
use Rattle.rob_syntax.specs.Seen.{seen_range, seen_tree, seen_part}
use Rattle.rob_syntax.proofs.Fronts.PartLemmas.{pushed, first_pushed, led_found, led_missing, read_as, refused_up}
use Rattle.rob_syntax.proofs.Fronts.ChainLemmas.{front_start, front_push, front_end, front_refused, started}
use Rattle.rob_syntax.proofs.Fronts.TreeLemmas.{number_is, ref_is, sum_is, product_is, ranged_is, part_is}
use Rattle.rob_syntax.proofs.Fronts.FactorLemmas.{factor_of_number, factor_of_ref, factor_of_parens, no_parens, factor_of_sum, no_sum, no_factor, closed_read, not_closed, nothing_closed, not_summed, no_range_inside, no_colon, no_summand, summed_read}
use Rattle.rob_syntax.proofs.Fronts.TermLemmas.{factor_chain, star_stuck, no_next, factor_in_front, term_of_one, term_of_more, no_factors_behind, no_first_factor}
use Rattle.rob_syntax.proofs.Fronts.ExprLemmas.{term_chain, sign_stuck, no_next as no_next_term, next_found, next_missing, part_in_front, expr_of_one, expr_of_sum, no_first_term, no_terms_behind}
use Rattle.rob_syntax.proofs.indexed.expr.+indexed_expr.Goals as goal

pub expr-returns-in_err-first : goal.expr-returns-in_err-first
expr-returns-in_err-first t c = record {
  read = refused_up _ _ _ c.from_residual.ensures.1 (no_first_term c.front_minus-minus.ensures.read)
      c.in_err-first.ensures.read;
}

pub expr-returns-then-is_one_term : goal.expr-returns-then-is_one_term
expr-returns-then-is_one_term t c = record {
  read = expr_of_one c.front_minus-minus.ensures.read c.in_ok-first.ensures.read c.if-is_one_term.ensures.one_term.0
      c.if-is_one_term.ensures.one_term.1;
}

pub expr-returns-in_err-parts : goal.expr-returns-in_err-parts
expr-returns-in_err-parts t c = record {
  read = refused_up _ _ _ c.from_residual-in_err-parts.ensures.1
      (no_terms_behind c.front_minus-minus.ensures.read c.in_ok-first.ensures.read) c.in_err-parts.ensures.read;
}

pub expr-returns : goal.expr-returns
expr-returns t c = record {
  read =
      read_as (sym (sum_is c.in_ok-parts.parts))
      (expr_of_sum c.front_minus-minus.ensures.read c.in_ok-first.ensures.read c.if-is_one_term.ensures.one_term
      (started (part_is _) c.in_ok-parts.ensures.read.0) c.in_ok-parts.ensures.read.1);
}

pub parts-loop-minus-init : goal.parts-loop-minus-init
parts-loop-minus-init t c =
    front_start (first_pushed seen_part _ c.new-list.ensures.empty c.in_ok-push.ensures.appended)

pub parts-returns-in_err-inner : goal.parts-returns-in_err-inner
parts-returns-in_err-inner t c = record {
  read =
      refused_up _ _ _ c.from_residual-in_err-inner.ensures.1 (λ missing. front_refused term_chain
      c.loop-minus.invariant (next_missing c.in-Some.minus c.in-Some.ensures.read missing)
      (sign_stuck c.in-Some.minus c.in-Some.ensures.read)) c.in_err-inner.ensures.read;
}

pub parts-loop-minus-preserved : goal.parts-loop-minus-preserved
parts-loop-minus-preserved t c =
    front_push term_chain (c.in-Some.minus, c.in_ok-inner.ensures.read.item)
    (seen_part (record { minus = c.in-Some.minus; inner = c.in_ok-inner.inner }))
    (part_in_front c.in-Some.minus (part_is _) c.in_ok-inner.ensures.read) c.loop-minus.invariant
    (next_found c.in-Some.minus c.in-Some.ensures.read c.in_ok-inner.ensures.read.found)
    (sign_stuck c.in-Some.minus c.in-Some.ensures.read)
    (pushed seen_part _ _ c.in_ok-push-2.ensures.appended)

pub parts-returns : goal.parts-returns
parts-returns t c = record {
  read = (
    front_end term_chain refl c.loop-minus.invariant (no_next_term c.in_default.ensures.read),
    c.in_default.ensures.read,
  );
}

pub term-returns-in_err-first : goal.term-returns-in_err-first
term-returns-in_err-first t c =
    record { read = refused_up _ _ _ c.from_residual.ensures.1 no_first_factor c.in_err-first.ensures.read }

pub term-returns-in_default : goal.term-returns-in_default
term-returns-in_default t c = record { read = term_of_one c.in_ok-first.ensures.read c.in_default.ensures.read }

pub term-returns-in_err-factors : goal.term-returns-in_err-factors
term-returns-in_err-factors t c = record {
  read = refused_up _ _ _ c.from_residual-in_err-factors.ensures.1 (no_factors_behind c.in_ok-first.ensures.read)
      c.in_err-factors.ensures.read;
}

pub term-returns : goal.term-returns
term-returns t c = record {
  read =
      read_as (sym (product_is c.in_ok-factors.factors))
      (term_of_more c.in_ok-first.ensures.read c.in-Some.ensures.read c.in_ok-factors.ensures.read.0
      c.in_ok-factors.ensures.read.1);
}

pub factors-loop-behind-init : goal.factors-loop-behind-init
factors-loop-behind-init t c =
    front_start (first_pushed seen_tree _ c.new-list.ensures.empty c.in_ok-push.ensures.appended)

pub factors-returns-in_err-next : goal.factors-returns-in_err-next
factors-returns-in_err-next t c = record {
  read =
      refused_up _ _ _ c.from_residual-in_err-next.ensures.1 (λ missing. front_refused factor_chain
      c.loop-behind.invariant (led_missing c.in-Some.ensures.read missing) (star_stuck c.in-Some.ensures.read))
      c.in_err-next.ensures.read;
}

pub factors-loop-behind-preserved : goal.factors-loop-behind-preserved
factors-loop-behind-preserved t c =
    front_push factor_chain c.in_ok-next.ensures.read.item (seen_tree c.in_ok-next.next)
    (factor_in_front c.in_ok-next.ensures.read) c.loop-behind.invariant
    (led_found c.in-Some.ensures.read c.in_ok-next.ensures.read.found) (star_stuck c.in-Some.ensures.read)
    (pushed seen_tree _ _ c.in_ok-push-2.ensures.appended)

pub factors-returns : goal.factors-returns
factors-returns t c = record {
  read = (
    front_end factor_chain refl c.loop-behind.invariant (no_next c.in_default.ensures.read),
    c.in_default.ensures.read,
  );
}

pub factor-returns-in-Some : goal.factor-returns-in-Some
factor-returns-in-Some t c =
    record { read = read_as (sym (number_is c.in-Some.numeral)) (factor_of_number _ c.in-Some.ensures.read) }

pub factor-returns-in_err-inner : goal.factor-returns-in_err-inner
factor-returns-in_err-inner t c = record {
  read = refused_up _ _ _ c.from_residual.ensures.1 (no_parens c.in-Some-behind_mark.ensures.read)
      c.in_err-inner.ensures.read;
}

pub factor-returns-in-Some-behind_mark : goal.factor-returns-in-Some-behind_mark
factor-returns-in-Some-behind_mark t c =
    record { read = factor_of_parens c.in-Some-behind_mark.ensures.read c.in_ok-inner.ensures.read }

pub factor-returns-in_err-sum : goal.factor-returns-in_err-sum
factor-returns-in_err-sum t c = record {
  read = refused_up _ _ _ c.from_residual-in_err-sum.ensures.1 (no_sum c.in-Some-behind_word.ensures.read)
      c.in_err-sum.ensures.read;
}

pub factor-returns-in-Some-behind_word : goal.factor-returns-in-Some-behind_word
factor-returns-in-Some-behind_word t c =
    record { read = factor_of_sum c.in-Some-behind_word.ensures.read c.in_ok-sum.ensures.read }

pub factor-returns-in_err-name : goal.factor-returns-in_err-name
factor-returns-in_err-name t c = record {
  read = refused_up _ _ _ c.from_residual-in_err-name.ensures.1
      (no_factor c.in_default.ensures.read c.in_default-behind_mark.ensures.read c.in_default-behind_word.ensures.read)
      c.in_err-name.ensures.read;
}

pub factor-returns : goal.factor-returns
factor-returns t c =
    record { read = read_as (sym (ref_is c.in_ok-name.name)) (factor_of_ref _ c.in_ok-name.ensures.read) }

pub closed-returns-in_err-inner : goal.closed-returns-in_err-inner
closed-returns-in_err-inner t c =
    record { read = refused_up _ _ _ c.from_residual.ensures.1 nothing_closed c.in_err-inner.ensures.read }

pub closed-returns-in-Some : goal.closed-returns-in-Some
closed-returns-in-Some t c = record { read = closed_read c.in_ok-inner.ensures.read c.in-Some.ensures.read }

pub closed-returns-in-None : goal.closed-returns-in-None
closed-returns-in-None t c = record { read = not_closed c.in_ok-inner.ensures.read c.in-None.ensures.read }

pub summed-returns-in_default : goal.summed-returns-in_default
summed-returns-in_default t c = record { read = not_summed c.in_default.ensures.read }

pub summed-returns-in_err-range : goal.summed-returns-in_err-range
summed-returns-in_err-range t c = record {
  read = refused_up _ _ _ c.from_residual.ensures.1 (no_range_inside c.in-Some.ensures.read)
      c.in_err-range.ensures.read;
}

pub summed-returns-in_default-behind_mark : goal.summed-returns-in_default-behind_mark
summed-returns-in_default-behind_mark t c =
    record { read = no_colon c.in-Some.ensures.read c.in_ok-range.ensures.read c.in_default-behind_mark.ensures.read }

pub summed-returns-in_err-inner : goal.summed-returns-in_err-inner
summed-returns-in_err-inner t c = record {
  read = refused_up _ _ _ c.from_residual-in_err-inner.ensures.1
      (no_summand c.in-Some.ensures.read c.in_ok-range.ensures.read c.in-Some-behind_mark.ensures.read)
      c.in_err-inner.ensures.read;
}

pub summed-returns : goal.summed-returns
summed-returns t c = record {
  read =
      read_as
      (ap (λ (v : Tree). stated.ranged (seen_range c.in_ok-range.range) (seen_tree v))
      (sym c.in_ok-inner-2.ensures.boxed) ∙ sym (ranged_is c.in_ok-range.range c.in_ok-inner-2.inner))
      (summed_read c.in-Some.ensures.read c.in_ok-range.ensures.read c.in-Some-behind_mark.ensures.read
      c.in_ok-inner.ensures.read);
}
