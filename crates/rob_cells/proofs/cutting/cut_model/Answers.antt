use Rattle.std.proofs.Common.{◌≤◌, map, sym, subst}
use Rattle.std.proofs.lemmas.List.{length-map}
use Rattle.rob_cells.proofs.MeaningLemmas.{named_split, sets_of_cells, status_of_pieces, valid_split}
use Rattle.rob_cells.proofs.RuleLemmas.{kept_rules}
use Rattle.rob_cells.specs.View.{cut_of}
use Rattle.rob_model.specs.View.{robust}
use Rattle.rob_cells.proofs.cutting.cut_model.Goals as goal

pub returns-clause-valid : goal.returns-clause-valid
returns-clause-valid g c =
    let value = g.N.Exact.value in
    let kept = kept_rules (robust value c.args.model.now) (map (cut_of value) c.args.cuts.now) c.in_ok-rule.field-0
    c.in_default.is c.in_ok-rule.ensures.rule in
    valid_split value c.args.model.now c.in_ok-split.field-0 (map (cut_of value) c.args.cuts.now) kept
    c.in_ok-split.ensures.split c.requires.ready.are_cuts
    c.requires.valid

pub returns-clause-named : goal.returns-clause-named
returns-clause-named g c =
    let value = g.N.Exact.value in
    let kept = kept_rules (robust value c.args.model.now) (map (cut_of value) c.args.cuts.now) c.in_ok-rule.field-0
    c.in_default.is c.in_ok-rule.ensures.rule in
    named_split value c.args.model.now c.in_ok-split.field-0 (map (cut_of value) c.args.cuts.now) kept
    c.in_ok-split.ensures.split c.requires.ready.are_cuts
    c.requires.valid (subst (λ n. n ≤ 3) (sym (length-map c.args.cuts.now (cut_of value))) c.requires.ready.few)

pub returns-clause-pieces : goal.returns-clause-pieces
returns-clause-pieces g c =
    let value = g.N.Exact.value in
    let kept = kept_rules (robust value c.args.model.now) (map (cut_of value) c.args.cuts.now) c.in_ok-rule.field-0
    c.in_default.is c.in_ok-rule.ensures.rule in
    status_of_pieces value c.args.model.now c.in_ok-split.field-0 (map (cut_of value) c.args.cuts.now) kept
    c.in_ok-split.ensures.split c.requires.ready.are_cuts
    c.requires.valid

pub returns-clause-cells : goal.returns-clause-cells
returns-clause-cells g c =
    let value = g.N.Exact.value in
    let kept = kept_rules (robust value c.args.model.now) (map (cut_of value) c.args.cuts.now) c.in_ok-rule.field-0
    c.in_default.is c.in_ok-rule.ensures.rule in
    sets_of_cells value c.args.model.now c.in_ok-split.field-0 (map (cut_of value) c.args.cuts.now) kept
    c.in_ok-split.ensures.split c.requires.ready.are_cuts
    c.requires.valid
