use Rattle.std.proofs.Common.{ap, arith, map, refl, subst, sym}
use Rattle.std.specs.Prelude.{option_map}
use Rattle.rob_cells.specs.View.{cut_of}
use Rattle.rob_model.specs.View.{robust}
use Rattle.rob_syntax.proofs.Fronts.PartLemmas.{pushed}
use Rattle.rob_words.specs.Names.{parts_behind, parts_of}
use Rattle.rob_top.proofs.Telling.CutTellingLemmas.{HasTold, no_cut, not_three_told, some_part, told_all, told_count, told_more, told_part}
use Rattle.rob_top.proofs.splitting.cuts_of.Goals as goal

pub returns-in_default-cut_at-clause-cuts : goal.returns-in_default-cut_at-clause-cuts
returns-in_default-cut_at-clause-cuts g c =
    let m = robust g.N.Exact.value c.args.model.now in
    let all = parts_of c.args.word.now in
    let told = map (cut_of g.N.Exact.value) c.loop-rest.cuts in
    let behind = option_map (λ word. word.now) c.first_part.result.1 in
    no_cut m g.N.Exact.limit all told c.first_part.result.0.now (parts_behind behind)
    (told_part m g.N.Exact.limit all told (option_map (λ word. word.now) c.loop-rest.rest) c.in-Some.word.now
    c.first_part.result.0.now behind
    c.loop-rest.invariant.0 (ap (option_map (λ word. word.now)) c.in-Some.is) c.first_part.ensures.parts)
    c.args.word.now refl c.in_default-cut_at.ensures.cut

pub loop-rest-preserved : goal.loop-rest-preserved
loop-rest-preserved g c =
    let m = robust g.N.Exact.value c.args.model.now in
    let f = cut_of g.N.Exact.value in
    let all = parts_of c.args.word.now in
    let told = map f c.loop-rest.cuts in
    let behind = option_map (λ word. word.now) c.first_part.result.1 in (
      subst (λ cuts. HasTold m g.N.Exact.limit all cuts (parts_behind behind))
          (sym (pushed f c.loop-rest.cuts c.in-Some-cut_at.next c.in_ok-push.ensures.appended))
          (told_more m g.N.Exact.limit all told c.first_part.result.0.now (parts_behind behind)
          (told_part m g.N.Exact.limit all told (option_map (λ word. word.now) c.loop-rest.rest) c.in-Some.word.now
          c.first_part.result.0.now behind c.loop-rest.invariant.0 (ap (option_map (λ word. word.now)) c.in-Some.is)
          c.first_part.ensures.parts)
          (f c.in-Some-cut_at.next) c.in-Some-cut_at.ensures.cut
          (not_three_told f c.items.result.now c.loop-rest.cuts c.items.ensures.list c.if-items-eq-MOST_CUTS.false)),
      omega (arith, c.loop-rest.invariant.1, c.cut_at.ensures.counted),
    )

pub returns-clause-cuts : goal.returns-clause-cuts
returns-clause-cuts g c =
    let m = robust g.N.Exact.value c.args.model.now in
    let f = cut_of g.N.Exact.value in
    let all = told_all m g.N.Exact.limit (parts_of c.args.word.now) (map f c.loop-rest.cuts)
    (option_map (λ word. word.now) c.loop-rest.rest) c.loop-rest.invariant.0
    (ap (option_map (λ word. word.now)) c.in_default.is)
    (some_part c.args.word.now)
    in
    (all.0, told_count f c.loop-rest.cuts all.1)
