use Rattle.std.proofs.Common.{map, ap, ◌∙◌, arith}
use Rattle.rob_cert.specs.View.{item_of}
use Rattle.rob_meaning.specs.Certificates.{unbounded}
use Rattle.rob_number.specs.declared.lp_kind.LpKind.TheVariants as kind
use Rattle.rob_dualize.specs.Wholes.{wholes}
use Rattle.rob_dualize.proofs.CertificateLemmas.{columns_told, unbounded_pairs, direction_pairs, are_told, count_told, pair_told, pairs_told, difference_read, differences_read, covers_read, parts_same}
use Rattle.rob_dualize.proofs.certificate.unbounded.Goals as goal

pub point-requires-clause-inside : goal.point-requires-clause-inside
point-requires-clause-inside g c =
    let d = wholes c.args.model.forms.now c.args.model.set.now in
    let e = columns_told d c.args.solver.now kind.Unbounded c.requires.ended in
    omega (arith, c.program_columns-count.ensures.count)

pub ray-requires-clause-inside : goal.ray-requires-clause-inside
ray-requires-clause-inside g c =
    let d = wholes c.args.model.forms.now c.args.model.set.now in
    let e = columns_told d c.args.solver.now kind.Unbounded c.requires.ended in
    omega (arith, c.program_columns-count.ensures.count)

pub pair_differences-requires : goal.pair_differences-requires
pair_differences-requires g c =
    let d = wholes c.args.model.forms.now c.args.model.set.now in
    let told = are_told g.N.Exact.value c.items.ensures.list c.in_ok-x.ensures.numbers in
    let n = count_told told in
    record {
      inside = omega (arith, c.program_columns-count.ensures.count);
      pairs = pairs_told told c.args.model.forms.now.columns (omega (arith, c.program_columns-count.ensures.count))
          (λ j jl. unbounded_pairs d c.args.solver.now c.requires.ended j (omega arith));
    }

pub pair_differences-requires-2 : goal.pair_differences-requires-2
pair_differences-requires-2 g c =
    let d = wholes c.args.model.forms.now c.args.model.set.now in
    let told = are_told g.N.Exact.value c.items-2.ensures.list c.in_ok-r.ensures.numbers in
    let n = count_told told in
    record {
      inside = omega (arith, c.program_columns-count.ensures.count);
      pairs = pairs_told told c.args.model.forms.now.columns (omega (arith, c.program_columns-count.ensures.count))
          (λ j jl. direction_pairs d c.args.solver.now c.requires.ended j (omega arith));
    }

pub covers-requires-clause-numbers : goal.covers-requires-clause-numbers
covers-requires-clause-numbers g c =
    count_told (are_told g.N.Exact.value c.items-3.ensures.list c.in_ok-r.ensures.numbers)
    ∙ c.program_columns-count.ensures.count

pub covers-requires-2-clause-numbers : goal.covers-requires-2-clause-numbers
covers-requires-2-clause-numbers g c =
    count_told (are_told g.N.Exact.value c.items-4.ensures.list c.in_ok-x.ensures.numbers)
    ∙ c.program_columns-count.ensures.count

pub pair_difference-requires : goal.pair_difference-requires
pair_difference-requires g c =
    let d = wholes c.args.model.forms.now c.args.model.set.now in
    let told = are_told g.N.Exact.value c.items-5.ensures.list c.in_ok-x.ensures.numbers in
    let n = count_told told in
    record {
      inside = omega (arith, c.program_columns-count.ensures.count);
      one = pair_told told c.args.model.forms.now.columns (omega (arith, c.program_columns-count.ensures.count))
          (unbounded_pairs d c.args.solver.now c.requires.ended c.args.model.forms.now.columns (omega arith));
    }

pub pair_difference-requires-2 : goal.pair_difference-requires-2
pair_difference-requires-2 g c =
    let d = wholes c.args.model.forms.now c.args.model.set.now in
    let told = are_told g.N.Exact.value c.items-6.ensures.list c.in_ok-r.ensures.numbers in
    let n = count_told told in
    record {
      inside = omega (arith, c.program_columns-count.ensures.count);
      one = pair_told told c.args.model.forms.now.columns (omega (arith, c.program_columns-count.ensures.count))
          (direction_pairs d c.args.solver.now c.requires.ended c.args.model.forms.now.columns (omega arith));
    }

pub returns : goal.returns
returns g c =
    let value = g.N.Exact.value in
    let d = wholes c.args.model.forms.now c.args.model.set.now in
    let columns = c.args.model.forms.now.columns in
    let count = c.program_columns-count.ensures.count in
    let x = c.in_ok-x.ensures.numbers in
    let r = c.in_ok-r.ensures.numbers in
    record {
      certificate = parts_same unbounded
          (c.pair_difference.ensures.difference
          ∙ difference_read (are_told value c.items-5.ensures.list x) columns (omega (arith, count)))
          c.whole.ensures.value
          (c.in_ok-plan.ensures.differences
          ∙ differences_read (are_told value c.items.ensures.list x) columns (omega (arith, count)))
          (c.in_ok-step.ensures.differences
          ∙ differences_read (are_told value c.items-2.ensures.list r) columns (omega (arith, count)))
          (c.pair_difference-2.ensures.difference
          ∙ difference_read (are_told value c.items-6.ensures.list r) columns (omega (arith, count)))
          (c.in_ok-covers.ensures.covers
          ∙ covers_read (are_told value c.items-4.ensures.list x) d count)
          (c.in_ok-holds.ensures.covers
          ∙ covers_read (are_told value c.items-3.ensures.list r) d count)
          (ap (map (item_of value)) c.new.ensures.empty);
    }
