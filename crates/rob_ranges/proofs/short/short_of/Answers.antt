use Rattle.std.proofs.Common.{rules}
use mir.Syntax.{w32}
use mir.Val.{SFits}
use Rattle.rob_ranges.proofs.ShortLemmas.{none_short, one_short, two_short}
use Rattle.rob_ranges.proofs.short.short_of.Goals as goal

pub returns-in-empty : goal.returns-in-empty
returns-in-empty c = record {
  same =
      none_short c.args.form.now c.constant.result.now c.in_ok-constant.constant c.factors.result.now
      c.constant.ensures.constant c.in_ok-constant.ensures.wide c.factors.ensures.factors c.in-empty.len_below;
}

pub returns-in_ok-few_bits-in-len1 : goal.returns-in_ok-few_bits-in-len1
returns-in_ok-few_bits-in-len1 c = record {
  same =
      let few : SFits w32 c.in_ok-few_bits-in-len1.field-0 = search rules in
      one_short c.args.form.now c.constant.result.now c.in_ok-constant.constant c.factors.result.now
      c.constant.ensures.constant c.in_ok-constant.ensures.wide c.factors.ensures.factors
      c.first-item.result c.in_ok-few_bits-in-len1.field-0 c.in-len1.len_at_least c.in-len1.len_below c.first-item.is
      c.in_ok-few_bits-in-len1.ensures.few few;
}

pub returns-in_ok-few_bits-in-len2-2 : goal.returns-in_ok-few_bits-in-len2-2
returns-in_ok-few_bits-in-len2-2 c = record {
  same =
      let first : SFits w32 c.in_ok-few_bits-in-len2.field-0 = search rules in
      let second : SFits w32 c.in_ok-few_bits-in-len2-2.field-0 = search rules in
      two_short c.args.form.now c.constant.result.now c.in_ok-constant.constant c.factors.result.now
      c.constant.ensures.constant c.in_ok-constant.ensures.wide c.factors.ensures.factors
      c.first-item-then-this-lt3.result c.second-item.result
      c.in_ok-few_bits-in-len2.field-0 c.in_ok-few_bits-in-len2-2.field-0
      c.in-len2.len_at_least c.in-len2.len_below c.first-item-then-this-lt3.is c.second-item.is
      c.in_ok-few_bits-in-len2.ensures.few first c.in_ok-few_bits-in-len2-2.ensures.few second;
}
