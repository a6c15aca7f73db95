-- Which answer has to come at `sweep` and `sweeptext`, where what is known of the files decides.
use Rattle.std.proofs.Common.{◌≡◌, ◌⊎◌, ℕ, List, [], ◌∷◌, ◌++◌, map, Some, inl, inr, refl, sym, ◌∙◌, ap, subst}
use Rattle.rob_algebra.specs.Fraction.{Fraction}
use Rattle.rob_dualize.specs.Models.{IsWideIn}
use Rattle.rob_meaning.specs.Places.{Each}
use Rattle.rob_meaning.specs.RobustModel.{RobustModel}
use Rattle.rob_model.specs.declared.place.Spot.{Spot}
use Rattle.rob_reach.specs.Sweeps.{IsBudgetAt, with_budget}
use Rattle.rob_sweep.specs.Answering.{AreWritten}
use Rattle.rob_sweep.specs.Stops.{BreaksRule, IsWideAtLimit, KeepsRules}
use Rattle.rob_top.proofs.Origins.CommandLemmas.{two_verbs}
use Rattle.rob_top.proofs.Origins.OriginLemmas.{SweepOrigin, breaks_rule, prices, wide_limit, writes_limit}
use Rattle.rob_top.proofs.Coming.TrueAnswerLemmas.{first_of_two, unformed_origin}
use Rattle.rob_top.specs.Calls.{Call, Known, limit_of}
use Rattle.rob_top.specs.Endings.{IsNarrowAt, IsSweepAnswer}
use Rattle.rob_top.specs.Headline.{Means}
use Rattle.rob_top.specs.Inputs.{HasModel}
use Rattle.rob_top.specs.Swept.{BreaksSweep, HasLimit, HasSweep, TellsLimits, TellsStatement, at_limit, at_limits, limit_value}
use Rattle.rob_top.specs.Commands as works
use Rattle.rob_top.specs.Commands.{IsSweeping, work_of}
use Rattle.rob_commands.specs.declared.ended.Ended.{Ended}
use Rattle.rob_commands.specs.declared.ended.Ended.TheVariants.{Printed, WideBudget, Sweep, ReadFault, Memory}
use Rattle.rob_words.specs.Commands.{Line}
use Rattle.rob_words.specs.Kinds.{number_of}
use Rattle.rob_words.specs.Names.{parts_of}
use Rattle.rob_words.specs.declared.verb.Verb.{Verb}
use Rattle.rob_words.specs.declared.verb.Verb.TheVariants as verbs

-- ---- the words tell one statement, and one list of limits
statement_once : (line : Line) (a b : ℕ) → TellsStatement line a → TellsStatement line b → a ≡ b
statement_once line a b h k =
    let both : Some h.word ≡ Some k.word = sym h.told ∙ k.told in
    let same : h.word ≡ k.word = cc in
    h.spells ∙ ap number_of same ∙ sym k.spells

limits_once : (line : Line) (a b : List Fraction) → TellsLimits line a → TellsLimits line b → a ≡ b
limits_once line a b h k =
    let both : Some h.word ≡ Some k.word = sym h.told ∙ k.told in
    let same : h.word ≡ k.word = cc in
    h.parts ∙ ap (λ word. map limit_value (parts_of word)) same ∙ sym k.parts

-- `sweep` isn't `sweeptext`
two_sweeps : (verb : Verb) → verb ≡ verbs.Sweep → verb ≡ verbs.SweepText → ⊥
two_sweeps verb = two_verbs verbs.Sweep verbs.SweepText verb (λ e. cc)

-- ---- one rule is broken first
one_broken : (m : RobustModel) (n : ℕ) (gs : List Fraction) (rule other : ℕ) → BreaksRule m.set_lines n gs rule
    → BreaksRule m.set_lines n gs other → rule ≡ other
one_broken m n gs rule other (inl h) (inl k) = h.0 ∙ sym k.0
one_broken m n gs rule other (inl h) (inr k) = absurd (h.1 k.1.0)
one_broken m n gs rule other (inr h) (inl k) = absurd (k.1 h.1.0)
one_broken m n gs rule other (inr h) (inr k) = h.0 ∙ sym k.0

-- and none where they are kept
none_broken : (m : RobustModel) (n : ℕ) (gs : List Fraction) (rule : ℕ) → BreaksRule m.set_lines n gs rule
    → KeepsRules m.set_lines n gs → ⊥
none_broken m n gs rule (inl h) keeps = h.1 keeps.budget
none_broken m n gs rule (inr h) keeps = h.1.1 keeps.rises

-- a limit with a wide number is none of those without
each_at : (P : Fraction → Type 0) (before after : List Fraction) (here : Fraction)
    → Each P (before ++ here ∷ after) → P here
each_at P [] after here h = h.0
each_at P (g ∷ before) after here h = each_at P before after here h.1

module _ (call : Call) (known : Known call.source) (line : Line) (m : RobustModel) where
  -- the command sweeps, so that stands behind its answer
  sweep_origin : HasModel call line m → IsSweeping line.verb → (ended : Ended) (text : List ℕ) → Means call ended text
      → SweepOrigin call line m ended ⊎ ((ended ≡ ReadFault) ⊎ (ended ≡ Memory))
  sweep_origin has is = unformed_origin call known line m has works.sweeping refl is

  -- ---- `sweep`
  module _ (n : ℕ) (gs : List Fraction) (has : HasSweep call line m n gs) where
    sweeps_here : IsSweeping line.verb
    sweeps_here = ap work_of has.is_sweep

    -- it has these statement and limits alone
    moved : (P : ℕ → List Fraction → Type 0) (k : ℕ) (hs : List Fraction) → HasSweep call line m k hs → P k hs → P n gs
    moved P k hs other h =
        subst (λ (xs : List Fraction). P n xs) (limits_once line hs gs other.limits_are has.limits_are)
        (subst (λ (i : ℕ). P i hs) (statement_once line k n other.statement has.statement) h)

    broken_here : (rule : ℕ) → BreaksSweep call line m rule → BreaksRule m.set_lines n gs rule
    broken_here rule (at_limits k hs other breaks) = moved (λ i xs. BreaksRule m.set_lines i xs rule) k hs other breaks
    broken_here rule (at_limit k g other none e) = absurd (two_sweeps line.verb has.is_sweep other.is_text)

    pub sweep_rule_decides : (rule : ℕ) → BreaksRule m.set_lines n gs rule
        → (ended : Ended) (text : List ℕ) → Means call ended text
        → (ended ≡ Sweep rule) ⊎ ((ended ≡ ReadFault) ⊎ (ended ≡ Memory))
    sweep_rule_decides rule broken ended text means =
        first_of_two by (sweep_origin has.model sweeps_here ended text means)
      where
        by : SweepOrigin call line m ended → ended ≡ Sweep rule
        by (breaks_rule other h e) = e ∙ ap (λ r. Sweep r) (one_broken m n gs other rule (broken_here other h) broken)
        by (prices k hs other keeps written e) =
            absurd (none_broken m n gs rule broken (moved (λ i xs. KeepsRules m.set_lines i xs) k hs other keeps))
        by (wide_limit k hs number spot other keeps wide e) =
            absurd (none_broken m n gs rule broken (moved (λ i xs. KeepsRules m.set_lines i xs) k hs other keeps))
        by (writes_limit k g other budget e) = absurd (two_sweeps line.verb has.is_sweep other.is_text)

    module _ (keeps : KeepsRules m.set_lines n gs) where
      answer_is : (ended other : Ended) → ended ≡ other → IsSweepAnswer (limit_of line) m n gs other
          → IsSweepAnswer (limit_of line) m n gs ended
      answer_is ended other e h = subst (λ (x : Ended). IsSweepAnswer (limit_of line) m n gs x) (sym e) h

      pub sweep_decides : (ended : Ended) (text : List ℕ) → Means call ended text
          → IsSweepAnswer (limit_of line) m n gs ended
      sweep_decides ended text means = all (sweep_origin has.model sweeps_here ended text means)
        where
          by : SweepOrigin call line m ended → IsSweepAnswer (limit_of line) m n gs ended
          by (breaks_rule other h e) = absurd (none_broken m n gs other (broken_here other h) keeps)
          by (prices k hs other kept written e) =
              answer_is ended Printed e (moved (λ i xs. AreWritten (limit_of line) m i xs) k hs other written)
          by (wide_limit k hs number spot other kept wide e) =
              answer_is ended (WideBudget number spot) e
              (moved (λ i xs. IsWideAtLimit (limit_of line) m i xs number spot) k hs other wide)
          by (writes_limit k g other budget e) = absurd (two_sweeps line.verb has.is_sweep other.is_text)

          all : SweepOrigin call line m ended ⊎ ((ended ≡ ReadFault) ⊎ (ended ≡ Memory))
              → IsSweepAnswer (limit_of line) m n gs ended
          all (inl origin) = by origin
          all (inr (inl e)) = answer_is ended ReadFault e (inl refl)
          all (inr (inr e)) = answer_is ended Memory e (inr (inr refl))

      narrow_here : IsNarrowAt (limit_of line) m n gs → (number : ℕ) (spot : Spot)
          → IsWideAtLimit (limit_of line) m n gs number spot → ⊥
      narrow_here narrow number spot wide =
          each_at (λ g. (s : Spot) → IsWideIn (limit_of line) (with_budget m n g) s → ⊥)
          wide.before wide.after wide.here
          (subst (λ (xs : List Fraction). IsNarrowAt (limit_of line) m n xs) wide.order narrow) spot wide.wide

      pub narrow_sweep_decides : IsNarrowAt (limit_of line) m n gs
          → (ended : Ended) (text : List ℕ) → Means call ended text
          → (ended ≡ Printed) ⊎ ((ended ≡ ReadFault) ⊎ (ended ≡ Memory))
      narrow_sweep_decides narrow ended text means =
          first_of_two by (sweep_origin has.model sweeps_here ended text means)
        where
          by : SweepOrigin call line m ended → ended ≡ Printed
          by (breaks_rule other h e) = absurd (none_broken m n gs other (broken_here other h) keeps)
          by (prices k hs other kept written e) = e
          by (wide_limit k hs number spot other kept wide e) =
              absurd (narrow_here narrow number spot
              (moved (λ i xs. IsWideAtLimit (limit_of line) m i xs number spot) k hs other wide))
          by (writes_limit k g other budget e) = e

  -- ---- `sweeptext`
  module _ (n : ℕ) (g : Fraction) (has : HasLimit call line m n g) where
    writes_here : IsSweeping line.verb
    writes_here = ap work_of has.is_text

    no_sweep_here : (k : ℕ) (hs : List Fraction) → HasSweep call line m k hs → ⊥
    no_sweep_here k hs other = two_sweeps line.verb other.is_sweep has.is_text

    same_budget : (k : ℕ) (h : Fraction) → HasLimit call line m k h → IsBudgetAt m.set_lines k
        → IsBudgetAt m.set_lines n
    same_budget k h other budget =
        subst (λ (i : ℕ). IsBudgetAt m.set_lines i) (statement_once line k n other.statement has.statement) budget

    pub limit_rule_decides : (IsBudgetAt m.set_lines n → ⊥) → (ended : Ended) (text : List ℕ) → Means call ended text
        → (ended ≡ Sweep 81) ⊎ ((ended ≡ ReadFault) ⊎ (ended ≡ Memory))
    limit_rule_decides none ended text means = first_of_two by (sweep_origin has.model writes_here ended text means)
      where
        by : SweepOrigin call line m ended → ended ≡ Sweep 81
        by (breaks_rule other (at_limits k hs it breaks) e) = absurd (no_sweep_here k hs it)
        by (breaks_rule other (at_limit k h it other_none is) e) = e ∙ ap (λ r. Sweep r) is
        by (prices k hs other keeps written e) = absurd (no_sweep_here k hs other)
        by (wide_limit k hs number spot other keeps wide e) = absurd (no_sweep_here k hs other)
        by (writes_limit k h other budget e) = absurd (none (same_budget k h other budget))

    pub limit_decides : IsBudgetAt m.set_lines n → (ended : Ended) (text : List ℕ) → Means call ended text
        → (ended ≡ Printed) ⊎ ((ended ≡ ReadFault) ⊎ (ended ≡ Memory))
    limit_decides budget ended text means = first_of_two by (sweep_origin has.model writes_here ended text means)
      where
        by : SweepOrigin call line m ended → ended ≡ Printed
        by (breaks_rule other (at_limits k hs it breaks) e) = absurd (no_sweep_here k hs it)
        by (breaks_rule other (at_limit k h it other_none is) e) =
            absurd (other_none
            (subst (λ (i : ℕ). IsBudgetAt m.set_lines i)
            (statement_once line n k has.statement it.statement) budget))
        by (prices k hs other keeps written e) = e
        by (wide_limit k hs number spot other keeps wide e) = absurd (no_sweep_here k hs other)
        by (writes_limit k h other there e) = e
