use Rattle.std.proofs.Common.{ap, ◌∙◌, arith}
use Rattle.rob_model.specs.View.{scenario_of}
use Rattle.rob_number.specs.declared.lp_kind.LpKind.TheVariants as kind
use Rattle.rob_dualize.specs.Ending.{infeasible_with}
use Rattle.rob_dualize.specs.Wholes.{wholes}
use Rattle.rob_dualize.proofs.MakingLemmas.{parameters_low}
use Rattle.rob_dualize.proofs.CertificateLemmas.{rows_told, infeasible_rows, are_told, count_told, rows_kept, items_read}
use Rattle.rob_dualize.proofs.certificate.infeasible.Goals as goal

pub exact_weights-requires-clause-inside : goal.exact_weights-requires-clause-inside
exact_weights-requires-clause-inside g c =
    let d = wholes c.args.model.forms.now c.args.model.set.now in
    omega (arith, c.program_rows.ensures.count, rows_told d c.args.solver.now kind.Infeasible c.requires.ended)

pub items-requires-2-clause-numbers : goal.items-requires-2-clause-numbers
items-requires-2-clause-numbers g c =
    count_told (are_told g.N.Exact.value c.items.ensures.list c.in_ok-weights.ensures.numbers)
    ∙ c.program_rows.ensures.count

pub items-requires-2-clause-pairs : goal.items-requires-2-clause-pairs
items-requires-2-clause-pairs g c =
    let d = wholes c.args.model.forms.now c.args.model.set.now in
    rows_kept (are_told g.N.Exact.value c.items.ensures.list c.in_ok-weights.ensures.numbers) d
    c.program_rows.ensures.count (infeasible_rows d c.args.solver.now c.requires.ended)

pub returns : goal.returns
returns g c =
    let value = g.N.Exact.value in
    let d = wholes c.args.model.forms.now c.args.model.set.now in
    record {
      certificate = c.with_items.ensures.certificate
          ∙ ap (infeasible_with (scenario_of value c.args.inside))
          (c.in_ok-items.ensures.items
          ∙ items_read (are_told value c.items.ensures.list c.in_ok-weights.ensures.numbers) d
          c.program_rows.ensures.count
          (parameters_low c.args.model.forms.now c.args.model.set.now c.requires.model.elaborated));
    }
