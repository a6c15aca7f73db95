use Rattle.std.proofs.Common.{map, subst}
use Rattle.rob_cells.specs.Rules.{HasCause}
use Rattle.rob_cells.specs.View.{cut_of}
use Rattle.rob_cells.specs.declared.error.CellsErr.{CellsErr}
use Rattle.rob_model.specs.View.{robust}
use Rattle.rob_top.proofs.Meaning.SplittingLemmas.{rule_answers, split_answers}
use Rattle.rob_top.proofs.splitting.at_cuts.Goals as goal

pub cut_model-requires-clause-ready : goal.cut_model-requires-clause-ready
cut_model-requires-clause-ready g c = record {
  some = c.requires.some;
  few = c.requires.few;
  are_cuts = c.requires.cuts;
}

pub returns-in-Ok-clause-answers : goal.returns-in-Ok-clause-answers
returns-in-Ok-clause-answers g c =
    let cuts = map (cut_of g.N.Exact.value) c.args.cuts.now in
    split_answers (robust g.N.Exact.value c.args.model.now) c.requires.valid.well_formed cuts
    c.in-Ok.ensures.rule c.requires.cuts
    g.N.Exact.limit _ _ c.args.verb (robust g.N.Exact.value c.in-Ok.other) c.cell_count.result
    c.on_split.result c.requires.splits
    c.in-Ok.ensures.split c.cell_count.ensures.count c.on_split.ensures.replies

pub returns-in-Err-Rule-clause-answers : goal.returns-in-Err-Rule-clause-answers
returns-in-Err-Rule-clause-answers g c =
    let m = robust g.N.Exact.value c.args.model.now in
    let cuts = map (cut_of g.N.Exact.value) c.args.cuts.now in
    rule_answers g.N.Exact.limit m c.args.verb c.requires.splits _ cuts c.in-Err-Rule.rule c.broken_words.result
    (subst (λ (e : CellsErr). HasCause m cuts e) c.in-Err-Rule.field-0-is c.in-Err-Rule.ensures.rule)
    (rw c.in-Err-Rule.field-0-is at c.broken_words.ensures.fault)
