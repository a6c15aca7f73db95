use Rattle.std.proofs.Common.{◌≡◌, ◌∙◌, ◌<◌, ◌-◌, ◌++◌, ◌∷◌, [], List, length, take, ap, subst, sym, arith}
use Rattle.rob_index.specs.Forms.{onto}
use Rattle.rob_ranges.specs.declared.nest.Told.{Told}
use Rattle.rob_ranges.specs.Nests.{IsTold, AreTold, last_told}
use Rattle.rob_ranges.proofs.NestLemmas.{last_apart}
use Rattle.rob_ranges.proofs.NestLists.{one_longer, told_few, told_kept, told_around, told_too, told_wider}
use Rattle.rob_ranges.proofs.nest.+tell_all.Goals as goal

pub tell_all-requires : goal.tell_all-requires
tell_all-requires t c =
    let ranges = c.args.ranges.now in
    let told = c.args.told.now.items in
    let around = take (length ranges - 1) ranges in
    let apart : around ++ c.innermost-item.result ∷ [] ≡ ranges =
    last_apart ranges c.innermost-item.result c.in-len1-up.len_at_least c.innermost-item.is in
    let fewer : length told < length ranges =
    omega (arith, told_few [] ranges told c.requires.told, c.len.ensures, c.if-len-ranges.false) in (
      omega (arith, one_longer around c.innermost-item.result, ap length apart, c.decreases),
      told_around ranges around c.innermost-item.result told apart c.requires.told fewer,
    )

pub returns-in_err-tell_all-in-len1-up-clause-told : goal.returns-in_err-tell_all-in-len1-up-clause-told
returns-in_err-tell_all-in-len1-up-clause-told t c =
    let ranges = c.args.ranges.now in
    let around = take (length ranges - 1) ranges in
    told_wider ranges around c.innermost-item.result c.tell_all.new.told.items
    (last_apart ranges c.innermost-item.result c.in-len1-up.len_at_least c.innermost-item.is) c.tell_all.ensures.told

pub told_inside-requires : goal.told_inside-requires
told_inside-requires t c =
    let ranges = c.args.ranges.now in
    let around = take (length ranges - 1) ranges in
    record {
      told =
          subst (IsTold (onto around []))
          (sym (c.last_told-outer.ensures.last ∙ ap last_told c.as_slice.ensures.value))
          (told_kept around c.tell_all.new.told.items c.tell_all.ensures.told
          c.in_ok-tell_all-in-len1-up.ensures.all);
    }

pub returns-in_err-inner-in-len1-up-clause-told : goal.returns-in_err-inner-in-len1-up-clause-told
returns-in_err-inner-in-len1-up-clause-told t c =
    let ranges = c.args.ranges.now in
    let around = take (length ranges - 1) ranges in
    told_wider ranges around c.innermost-item.result c.tell_all.new.told.items
    (last_apart ranges c.innermost-item.result c.in-len1-up.len_at_least c.innermost-item.is) c.tell_all.ensures.told

pub returns-in_err-push-in-len1-up-clause-told : goal.returns-in_err-push-in-len1-up-clause-told
returns-in_err-push-in-len1-up-clause-told t c =
    let ranges = c.args.ranges.now in
    let around = take (length ranges - 1) ranges in
    subst (λ (ts : List Told). AreTold [] ranges ts) (sym c.in_err-push-in-len1-up.ensures.items)
    (told_wider ranges around c.innermost-item.result c.tell_all.new.told.items
    (last_apart ranges c.innermost-item.result c.in-len1-up.len_at_least c.innermost-item.is) c.tell_all.ensures.told)

pub returns-in-empty-clause-all : goal.returns-in-empty-clause-all
returns-in-empty-clause-all t c =
    omega (arith, told_few [] c.args.ranges.now c.args.told.now.items c.requires.told, c.in-empty.len_below)

pub returns-in_ok-push-in-len1-up-clause-told : goal.returns-in_ok-push-in-len1-up-clause-told
returns-in_ok-push-in-len1-up-clause-told t c =
    let ranges = c.args.ranges.now in
    let around = take (length ranges - 1) ranges in
    subst (λ (ts : List Told). AreTold [] ranges ts) (sym c.in_ok-push-in-len1-up.ensures.items)
    (told_too ranges around c.innermost-item.result c.tell_all.new.told.items c.in_ok-inner-in-len1-up.inner
    (last_apart ranges c.innermost-item.result c.in-len1-up.len_at_least c.innermost-item.is)
    c.in_ok-tell_all-in-len1-up.ensures.all c.tell_all.ensures.told c.in_ok-inner-in-len1-up.ensures.told)
