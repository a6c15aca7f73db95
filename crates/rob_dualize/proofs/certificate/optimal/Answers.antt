use Rattle.std.proofs.Common.{map, ap, ◌∙◌, arith}
use Rattle.rob_cert.specs.View.{cover_of}
use Rattle.rob_meaning.specs.Certificates.{optimal}
use Rattle.rob_number.specs.declared.lp_kind.LpKind.TheVariants as kind
use Rattle.rob_dualize.specs.Wholes.{wholes}
use Rattle.rob_dualize.proofs.MakingLemmas.{parameters_low}
use Rattle.rob_dualize.proofs.CertificateLemmas.{rows_told, columns_told, optimal_pairs, optimal_rows, are_told, count_told, pair_told, pairs_told, rows_kept, difference_read, differences_read, covers_read, items_read, parts_same}
use Rattle.rob_dualize.proofs.certificate.optimal.Goals as goal

pub point-requires-clause-inside : goal.point-requires-clause-inside
point-requires-clause-inside g c =
    let d = wholes c.args.model.forms.now c.args.model.set.now in
    omega (arith, c.program_columns.ensures.count, columns_told d c.args.solver.now kind.Optimal c.requires.ended)

pub dual_values-requires-clause-inside : goal.dual_values-requires-clause-inside
dual_values-requires-clause-inside g c =
    let d = wholes c.args.model.forms.now c.args.model.set.now in
    omega (arith, c.program_rows.ensures.count, rows_told d c.args.solver.now kind.Optimal c.requires.ended)

pub pair_differences-requires-clause-inside : goal.pair_differences-requires-clause-inside
pair_differences-requires-clause-inside g c =
    let n = count_told (are_told g.N.Exact.value c.items.ensures.list c.in_ok-x.ensures.numbers) in
    omega (arith, c.program_columns.ensures.count)

pub pair_differences-requires-clause-pairs : goal.pair_differences-requires-clause-pairs
pair_differences-requires-clause-pairs g c =
    let d = wholes c.args.model.forms.now c.args.model.set.now in
    pairs_told (are_told g.N.Exact.value c.items.ensures.list c.in_ok-x.ensures.numbers) c.args.model.forms.now.columns
    (omega (arith, c.program_columns.ensures.count)) (λ j jl. optimal_pairs d c.args.solver.now c.requires.ended j
    (omega arith))

pub covers-requires-clause-numbers : goal.covers-requires-clause-numbers
covers-requires-clause-numbers g c =
    count_told (are_told g.N.Exact.value c.items-2.ensures.list c.in_ok-x.ensures.numbers)
    ∙ c.program_columns.ensures.count

pub items-requires-4-clause-numbers : goal.items-requires-4-clause-numbers
items-requires-4-clause-numbers g c =
    count_told (are_told g.N.Exact.value c.items-3.ensures.list c.in_ok-y.ensures.numbers)
    ∙ c.program_rows.ensures.count

pub items-requires-4-clause-pairs : goal.items-requires-4-clause-pairs
items-requires-4-clause-pairs g c =
    let d = wholes c.args.model.forms.now c.args.model.set.now in
    rows_kept (are_told g.N.Exact.value c.items-3.ensures.list c.in_ok-y.ensures.numbers) d c.program_rows.ensures.count
    (optimal_rows d c.args.solver.now c.requires.ended)

pub pair_difference-requires-clause-inside : goal.pair_difference-requires-clause-inside
pair_difference-requires-clause-inside g c =
    let n = count_told (are_told g.N.Exact.value c.items-5.ensures.list c.in_ok-x.ensures.numbers) in
    omega (arith, c.program_columns.ensures.count)

pub pair_difference-requires-clause-one : goal.pair_difference-requires-clause-one
pair_difference-requires-clause-one g c =
    let d = wholes c.args.model.forms.now c.args.model.set.now in
    pair_told (are_told g.N.Exact.value c.items-5.ensures.list c.in_ok-x.ensures.numbers) c.args.model.forms.now.columns
    (omega (arith, c.program_columns.ensures.count)) (optimal_pairs d c.args.solver.now c.requires.ended
    c.args.model.forms.now.columns (omega arith))

pub returns : goal.returns
returns g c =
    let value = g.N.Exact.value in
    let d = wholes c.args.model.forms.now c.args.model.set.now in
    let columns = c.args.model.forms.now.columns in
    let count = c.program_columns.ensures.count in
    let x = c.in_ok-x.ensures.numbers in
    let y = c.in_ok-y.ensures.numbers in
    record {
      certificate = parts_same optimal
          (c.pair_difference.ensures.difference
          ∙ difference_read (are_told value c.items-5.ensures.list x) columns (omega (arith, count)))
          c.whole.ensures.value
          (c.in_ok-plan.ensures.differences
          ∙ differences_read (are_told value c.items.ensures.list x) columns (omega (arith, count)))
          (ap (map value) c.new.ensures.empty)
          c.whole-2.ensures.value
          (c.in_ok-covers.ensures.covers
          ∙ covers_read (are_told value c.items-2.ensures.list x) d count)
          (ap (map (cover_of value)) c.new-2.ensures.empty)
          (c.in_ok-items.ensures.items
          ∙ items_read (are_told value c.items-3.ensures.list y) d c.program_rows.ensures.count
          (parameters_low c.args.model.forms.now c.args.model.set.now c.requires.model.elaborated));
    }
