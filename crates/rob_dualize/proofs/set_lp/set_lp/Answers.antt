use Rattle.std.proofs.Common.{◌∙◌, List, ap, map}
use Rattle.rob_sets.specs.declared.set_form.SetRow.{SetRow}
use Rattle.rob_dualize.specs.SetProgram.{in_pairs, left_sides, right_sides}
use Rattle.rob_dualize.proofs.ProgramListLemmas.{is_over, is_shaped, is_within}
use Rattle.rob_dualize.proofs.set_lp.set_lp.Goals as goal

pub returns-clause-program : goal.returns-clause-program
returns-clause-program c =
    is_over c.args.set.now (record {
      a = c.in_ok-left_in_pairs.field-0;
      b = c.in_ok-rights.field-0;
      c = c.in_ok-zeros.field-0;
    })
    (c.in_ok-left_in_pairs.ensures.rows
    ∙ ap (λ (rows : List SetRow). map in_pairs (left_sides rows)) c.items-rows.ensures.list)
    (c.in_ok-rights.ensures.rights ∙ ap right_sides c.items-rows.ensures.list) c.in_ok-zeros.ensures.zeros
    c.in_ok-zeros.ensures.many

pub returns-clause-shaped : goal.returns-clause-shaped
returns-clause-shaped c =
    is_shaped c.args.set.now (record {
      a = c.in_ok-left_in_pairs.field-0;
      b = c.in_ok-rights.field-0;
      c = c.in_ok-zeros.field-0;
    })
    (c.in_ok-left_in_pairs.ensures.rows
    ∙ ap (λ (rows : List SetRow). map in_pairs (left_sides rows)) c.items-rows.ensures.list)
    (c.in_ok-rights.ensures.rights ∙ ap right_sides c.items-rows.ensures.list) c.in_ok-zeros.ensures.zeros
    c.in_ok-zeros.ensures.many c.requires.whole

pub returns-clause-within : goal.returns-clause-within
returns-clause-within c =
    is_within c.args.set.now (record {
      a = c.in_ok-left_in_pairs.field-0;
      b = c.in_ok-rights.field-0;
      c = c.in_ok-zeros.field-0;
    })
    (c.in_ok-left_in_pairs.ensures.rows
    ∙ ap (λ (rows : List SetRow). map in_pairs (left_sides rows)) c.items-rows.ensures.list)
    (c.in_ok-rights.ensures.rights ∙ ap right_sides c.items-rows.ensures.list) c.in_ok-zeros.ensures.zeros
    c.in_ok-zeros.ensures.many
