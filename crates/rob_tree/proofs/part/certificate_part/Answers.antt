use Rattle.std.proofs.Common.{◌≡◌, ◌+◌, ◌++◌, ◌∷◌, length, take, drop, append-nil, arith, ap, sym, subst, ◌∙◌}
use Rattle.std.proofs.lemmas.List.{take-append-drop, take_rest}
use Rattle.std.specs.Cmp.Lexicographic.{other_text, same_text}
use Rattle.rob_cert.specs.Reading.{Lacks}
use Rattle.rob_model.proofs.PartLemmas.{drop_all}
use Rattle.rob_tree.proofs.Readers.CutLemmas.{cut_counted, cut_counted_all, cut_ends, cut_few, cut_goes_on, cut_nothing, cut_within}
use Rattle.rob_tree.proofs.part.certificate_part.Goals as goal

pub overflow_add-count : goal.overflow_add-count
overflow_add-count c =
    let text = c.args.text.now in
    let at = c.loop-split.at in
    let front = c.in-Some.split.front.now in
    let back = c.in-Some.split.back.now in
    let to = at + (length front + 1) in
    let is : drop at text ≡ front ++ 10 ∷ back = sym (take_rest text at) ∙ c.in-Some.ensures.cut.0 in
    let to_is : to ≡ at + length front + 1 = omega arith in
    let within = c.loop-split.invariant.within in
    let few = cut_few text front back at to within is to_is c.loop-split.count c.loop-split.invariant.counted in
    omega (arith, few, c.requires.small)

pub returns-then-eq : goal.returns-then-eq
returns-then-eq c =
    let text = c.args.text.now in
    let at = c.loop-split.at in
    let front = c.in-Some.split.front.now in
    let back = c.in-Some.split.back.now in
    let to = at + (length front + 1) in
    let is : drop at text ≡ front ++ 10 ∷ back = sym (take_rest text at) ∙ c.in-Some.ensures.cut.0 in
    let to_is : to ≡ at + length front + 1 = omega arith in
    let within = c.loop-split.invariant.within in
    let lacks = c.in-Some.ensures.cut.1 in
    let end = same_text front c.as_slice.result.now c.if-eq.ensures ∙ c.as_slice.ensures in
    record {
      part = record {
        split = sym (ap (λ t. take to text ++ t) (take_rest text to) ∙ take-append-drop to text);
        part = cut_ends text front back at to within is to_is lacks end c.loop-split.invariant.goes_on;
        counted = cut_counted text front back at to within is to_is c.loop-split.count lacks
            c.loop-split.invariant.counted;
      };
    }

pub loop-split-preserved : goal.loop-split-preserved
loop-split-preserved c =
    let text = c.args.text.now in
    let at = c.loop-split.at in
    let front = c.in-Some.split.front.now in
    let back = c.in-Some.split.back.now in
    let to = at + (length front + 1) in
    let is : drop at text ≡ front ++ 10 ∷ back = sym (take_rest text at) ∙ c.in-Some.ensures.cut.0 in
    let to_is : to ≡ at + length front + 1 = omega arith in
    let within = c.loop-split.invariant.within in
    let lacks = c.in-Some.ensures.cut.1 in
    record {
      within = cut_within text front back at to within is to_is;
      counted = cut_counted text front back at to within is to_is c.loop-split.count lacks
          c.loop-split.invariant.counted;
      goes_on = cut_goes_on text front back at to within is to_is lacks
          (λ e. other_text front c.as_slice.result.now c.if-eq.ensures (e ∙ sym c.as_slice.ensures))
          c.loop-split.invariant.goes_on;
    }

pub returns : goal.returns
returns c =
    let text = c.args.text.now in
    let at = c.loop-split.at in
    let lacks = subst (λ t. Lacks 10 t) (take_rest text at) c.in_default.ensures.cut in
    record {
      part = record {
        split = sym
            (ap (λ t. text ++ t) (take_rest text (length text) ∙ drop_all (length text) text (omega arith))
            ∙ append-nil text);
        part = cut_nothing text at lacks c.loop-split.invariant.goes_on;
        counted = cut_counted_all text at c.loop-split.count lacks c.loop-split.invariant.counted;
      };
    }
