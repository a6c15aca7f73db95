use Rattle.std.proofs.Common.{◌<◌, ap, length, sym, subst, true≢false, ◌∙◌}
use Rattle.std.specs.Prelude.{option_map}
use Rattle.rob_model.specs.View.{robust}
use Rattle.rob_reach.specs.Trees.{IsIn}
use Rattle.rob_words.specs.Names.{parts_behind, parts_of}
use Rattle.rob_top.proofs.Fetching.FilesLemmas.{none_of}
use Rattle.rob_top.proofs.Telling.NumberingLemmas.{HasRead, at_end, at_part, left_less, read_all, read_more, read_no_variable, read_nothing, read_twice, some_mapped, variable_is}
use Rattle.rob_top.proofs.names.variables_of.Goals as goal

pub loop-rest-init : goal.loop-rest-init
loop-rest-init g c =
    let m = robust g.N.Exact.value c.args.model.now in
    subst (λ numbers. HasRead m (parts_of c.args.names.now) numbers (parts_of c.args.names.now))
    (sym c.new-numbers.ensures.empty)
    (read_nothing m (parts_of c.args.names.now))

pub loop-rest-smaller : goal.loop-rest-smaller
loop-rest-smaller g c =
    left_less (option_map (λ word. word.now) c.loop-rest.rest)
    (option_map (λ word. word.now) c.first_part.result.1) c.in-Some.word.now
    (ap (option_map (λ word. word.now)) c.in-Some.is)
    (some_mapped (λ word. word.now) (λ rest. length rest < length c.in-Some.word.now) c.first_part.result.1
    c.first_part.ensures.shorter)

pub returns-in_default-variable_of : goal.returns-in_default-variable_of
returns-in_default-variable_of g c =
    let m = robust g.N.Exact.value c.args.model.now in
    record {
      numbers = read_no_variable m (parts_of c.args.names.now) c.loop-rest.numbers c.first_part.result.0.now
          (parts_behind (option_map (λ word. word.now) c.first_part.result.1))
          (at_part m (parts_of c.args.names.now) c.loop-rest.numbers
          (option_map (λ word. word.now) c.loop-rest.rest) c.in-Some.word.now
          c.first_part.result.0.now (option_map (λ word. word.now) c.first_part.result.1) c.loop-rest.invariant
          (ap (option_map (λ word. word.now)) c.in-Some.is) c.first_part.ensures.parts)
          c.in_default-variable_of.ensures.number;
    }

pub returns-then-has : goal.returns-then-has
returns-then-has g c =
    let m = robust g.N.Exact.value c.args.model.now in
    record {
      numbers = read_twice m (parts_of c.args.names.now) c.loop-rest.numbers c.first_part.result.0.now
          (parts_behind (option_map (λ word. word.now) c.first_part.result.1)) c.in-Some-variable_of.number
          (at_part m (parts_of c.args.names.now) c.loop-rest.numbers
          (option_map (λ word. word.now) c.loop-rest.rest) c.in-Some.word.now
          c.first_part.result.0.now (option_map (λ word. word.now) c.first_part.result.1) c.loop-rest.invariant
          (ap (option_map (λ word. word.now)) c.in-Some.is) c.first_part.ensures.parts)
          (variable_is m c.first_part.result.0.now c.in-Some-variable_of.number c.in-Some-variable_of.ensures.number)
          (subst (IsIn c.in-Some-variable_of.number) c.items.ensures.list (c.has.ensures.has.0 c.if-has.true));
    }

pub loop-rest-preserved : goal.loop-rest-preserved
loop-rest-preserved g c =
    let m = robust g.N.Exact.value c.args.model.now in
    subst (λ numbers. HasRead m (parts_of c.args.names.now) numbers
    (parts_behind (option_map (λ word. word.now) c.first_part.result.1)))
    (sym c.in_ok-push.ensures.appended)
    (read_more m (parts_of c.args.names.now) c.loop-rest.numbers c.first_part.result.0.now
    (parts_behind (option_map (λ word. word.now) c.first_part.result.1)) c.in-Some-variable_of.number
    (at_part m (parts_of c.args.names.now) c.loop-rest.numbers
    (option_map (λ word. word.now) c.loop-rest.rest) c.in-Some.word.now
    c.first_part.result.0.now (option_map (λ word. word.now) c.first_part.result.1) c.loop-rest.invariant
    (ap (option_map (λ word. word.now)) c.in-Some.is) c.first_part.ensures.parts)
    (variable_is m c.first_part.result.0.now c.in-Some-variable_of.number c.in-Some-variable_of.ensures.number)
    (λ here. true≢false
    (sym (c.has.ensures.has.1 (subst (IsIn c.in-Some-variable_of.number) (sym c.items.ensures.list) here))
    ∙ c.if-has.false)))

pub returns : goal.returns
returns g c =
    let m = robust g.N.Exact.value c.args.model.now in
    record {
      numbers = read_all m (parts_of c.args.names.now) c.loop-rest.numbers
          (at_end m (parts_of c.args.names.now) c.loop-rest.numbers
          (option_map (λ word. word.now) c.loop-rest.rest) c.loop-rest.invariant
          (ap (option_map (λ word. word.now)) (none_of c.loop-rest.rest c.in_default.not-Some)));
    }
