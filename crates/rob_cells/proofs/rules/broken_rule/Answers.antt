use Rattle.std.proofs.Common.{◌≡◌, [], refl, sym, ◌∙◌, inl, inr}
use Rattle.rob_cells.proofs.RuleLemmas.{no_items, on_err_by, some_items}
use Rattle.rob_cells.proofs.rules.broken_rule.Goals as goal
use Rattle.rob_model.proofs.KeptLemmas.{refuted}

pub has_good_names-requires : goal.has_good_names-requires
has_good_names-requires g c = record { three = c.requires.few }

pub is_split_within-requires : goal.is_split_within-requires
is_split_within-requires g c = record { valid = c.requires.valid; three = c.requires.few }

pub returns-then-not-is_empty-clause-rule : goal.returns-then-not-is_empty-clause-rule
returns-then-not-is_empty-clause-rule g c =
    inl (refl, λ e. some_items c.items.result.now c.if-not-is_empty.ensures (c.items.ensures.list ∙ e))

pub returns-in_err-has_good_names-clause-alone : goal.returns-in_err-has_good_names-clause-alone
returns-in_err-has_good_names-clause-alone g c =
    let alone : c.args.model.now.sets ≡ [] =
    sym c.items.ensures.list ∙ no_items c.items.result.now c.if-not-is_empty.ensures in
    on_err_by c.from_residual.result alone

pub returns-then-not-branch-clause-rule : goal.returns-then-not-branch-clause-rule
returns-then-not-branch-clause-rule g c =
    let alone : c.args.model.now.sets ≡ [] =
    sym c.items.ensures.list ∙ no_items c.items.result.now c.if-not-is_empty.ensures in
    inr (inl (refl, (alone, refuted _ c.in_ok-has_good_names.ensures.test c.if-not-branch.true)))

pub returns-then-is_split_within-clause-rule : goal.returns-then-is_split_within-clause-rule
returns-then-is_split_within-clause-rule g c =
    let alone : c.args.model.now.sets ≡ [] =
    sym c.items.ensures.list ∙ no_items c.items.result.now c.if-not-is_empty.ensures in
    record {
      alone = alone;
      names = c.in_ok-has_good_names.ensures.test.0 c.if-not-branch.false;
      limits = c.is_split_within.ensures.test.0 c.if-is_split_within.true;
    }

pub returns-else-is_split_within-clause-rule : goal.returns-else-is_split_within-clause-rule
returns-else-is_split_within-clause-rule g c =
    let alone : c.args.model.now.sets ≡ [] =
    sym c.items.ensures.list ∙ no_items c.items.result.now c.if-not-is_empty.ensures in
    inr (inr (
      refl,
      (
        alone,
        (
          c.in_ok-has_good_names.ensures.test.0 c.if-not-branch.false,
          refuted _ c.is_split_within.ensures.test c.if-is_split_within.false,
        ),
      ),
    ))
