use Rattle.std.proofs.Common.{◌≡◌, ◌<◌, ◌-◌, ◌++◌, ◌∷◌, [], length, take, ap, subst, sym, arith}
use Rattle.rob_index.specs.Forms.{onto}
use Rattle.rob_ranges.specs.Nests.{IsTold}
use Rattle.rob_ranges.proofs.NestLemmas.{last_apart}
use Rattle.rob_ranges.proofs.NestLists.{one_longer, told_few, told_kept, told_around}
use Rattle.rob_ranges.proofs.nest.+told_of.Goals as goal

pub returns-then-told-ranges : goal.returns-then-told-ranges
returns-then-told-ranges t c =
    let all : length c.args.told.now ≡ length c.args.ranges.now = omega (arith, c.if-told-ranges.true) in
    record {
      told =
          subst (IsTold (onto c.args.ranges.now [])) (sym c.last_told.ensures.last)
          (told_kept c.args.ranges.now c.args.told.now c.requires.told all);
    }

pub told_of-requires : goal.told_of-requires
told_of-requires t c =
    let ranges = c.args.ranges.now in
    let told = c.args.told.now in
    let around = take (length ranges - 1) ranges in
    let apart : around ++ c.innermost-item.result ∷ [] ≡ ranges =
    last_apart ranges c.innermost-item.result c.in-len1-up.len_at_least c.innermost-item.is in
    let fewer : length told < length ranges =
    omega (arith, told_few [] ranges told c.requires.told, c.if-told-ranges.false) in (
      omega (arith, one_longer around c.innermost-item.result, ap length apart, c.decreases),
      told_around ranges around c.innermost-item.result told apart c.requires.told fewer,
    )

pub returns-in-empty : goal.returns-in-empty
returns-in-empty t c =
    let all : length c.args.told.now ≡ length c.args.ranges.now =
    omega (arith, told_few [] c.args.ranges.now c.args.told.now c.requires.told, c.in-empty.len_below) in
    record {
      told =
          subst (IsTold (onto c.args.ranges.now [])) (sym c.last_told-in-empty.ensures.last)
          (told_kept c.args.ranges.now c.args.told.now c.requires.told all);
    }
