use Rattle.std.proofs.Common.{◌<◌, ◌≤◌, ap, arith, length, map, refl, subst, sym}
use Rattle.std.proofs.lemmas.List.{length-map}
use Rattle.std.specs.Prelude.{option_map}
use Rattle.rob_syntax.proofs.Fronts.PartLemmas.{pushed}
use Rattle.rob_words.specs.Names.{most_in_list, parts_behind, parts_of}
use Rattle.rob_top.proofs.Telling.LimitLemmas.{HasTold, no_limit, told_all, told_more, told_part, too_many}
use Rattle.rob_top.proofs.Telling.NumberingLemmas.{left_less, some_mapped}
use Rattle.rob_top.proofs.Telling.ToldLemmas.{told_filled, told_unfilled}
use Rattle.rob_top.proofs.limits.limits_of.Goals as goal

pub loop-rest-smaller : goal.loop-rest-smaller
loop-rest-smaller g c =
    left_less (option_map (λ word. word.now) c.loop-rest.rest)
    (option_map (λ word. word.now) c.first_part.result.1) c.in-Some.word.now
    (ap (option_map (λ word. word.now)) c.in-Some.is)
    (some_mapped (λ word. word.now) (λ rest. length rest < length c.in-Some.word.now) c.first_part.result.1
    c.first_part.ensures.shorter)

pub returns-then-items-eq-MOST_IN_LIST-clause-limits : goal.returns-then-items-eq-MOST_IN_LIST-clause-limits
returns-then-items-eq-MOST_IN_LIST-clause-limits g c =
    let all = parts_of c.args.word.now in
    let told = map g.N.Exact.value c.loop-rest.limits in
    let behind = option_map (λ word. word.now) c.first_part.result.1 in
    too_many g.N.Exact.limit all told c.first_part.result.0.now (parts_behind behind)
    (told_part g.N.Exact.limit all told (option_map (λ word. word.now) c.loop-rest.rest) c.in-Some.word.now
    c.first_part.result.0.now behind
    c.loop-rest.invariant.0 (ap (option_map (λ word. word.now)) c.in-Some.is) c.first_part.ensures.parts)
    c.args.word.now refl
    (told_filled g.N.Exact.value most_in_list c.items.result.now c.loop-rest.limits c.items.ensures.list
    c.if-items-eq-MOST_IN_LIST.true)

pub returns-in_default-limit_of-clause-limits : goal.returns-in_default-limit_of-clause-limits
returns-in_default-limit_of-clause-limits g c =
    let all = parts_of c.args.word.now in
    let told = map g.N.Exact.value c.loop-rest.limits in
    let behind = option_map (λ word. word.now) c.first_part.result.1 in
    no_limit g.N.Exact.limit all told c.first_part.result.0.now (parts_behind behind)
    (told_part g.N.Exact.limit all told (option_map (λ word. word.now) c.loop-rest.rest) c.in-Some.word.now
    c.first_part.result.0.now behind
    c.loop-rest.invariant.0 (ap (option_map (λ word. word.now)) c.in-Some.is) c.first_part.ensures.parts)
    c.args.word.now refl c.in_default-limit_of.ensures.limit

pub loop-rest-preserved : goal.loop-rest-preserved
loop-rest-preserved g c =
    let value = g.N.Exact.value in
    let all = parts_of c.args.word.now in
    let told = map value c.loop-rest.limits in
    let behind = option_map (λ word. word.now) c.first_part.result.1 in (
      subst (λ limits. HasTold g.N.Exact.limit all limits (parts_behind behind))
          (sym (pushed value c.loop-rest.limits c.in-Some-limit_of.limit c.in_ok-push.ensures.appended))
          (told_more g.N.Exact.limit all told c.first_part.result.0.now (parts_behind behind)
          (told_part g.N.Exact.limit all told (option_map (λ word. word.now) c.loop-rest.rest) c.in-Some.word.now
          c.first_part.result.0.now behind c.loop-rest.invariant.0 (ap (option_map (λ word. word.now)) c.in-Some.is)
          c.first_part.ensures.parts)
          (value c.in-Some-limit_of.limit) c.in-Some-limit_of.ensures.limit.1
          (told_unfilled value most_in_list c.items.result.now c.loop-rest.limits c.items.ensures.list
          c.if-items-eq-MOST_IN_LIST.false)),
      omega (arith, c.loop-rest.invariant.1, c.limit_of.ensures.counted),
    )

pub returns-clause-limits : goal.returns-clause-limits
returns-clause-limits g c = (
  told_all g.N.Exact.limit (parts_of c.args.word.now) (map g.N.Exact.value c.loop-rest.limits)
      (option_map (λ word. word.now) c.loop-rest.rest) c.loop-rest.invariant.0
      (ap (option_map (λ word. word.now)) c.in_default.is),
  subst (λ n. n ≤ 20) (length-map c.loop-rest.limits g.N.Exact.value) c.loop-rest.invariant.0.few,
)
