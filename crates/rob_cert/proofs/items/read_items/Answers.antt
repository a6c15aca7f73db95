use Rattle.std.proofs.Common.{◌∷◌, [], arith, map, ap, sym, subst, ◌∙◌}
use Rattle.std.proofs.lemmas.List.{map-append}
use Rattle.rob_number.proofs.CountLemmas.{later}
use Rattle.rob_cert.specs.NamesView.{naming}
use Rattle.rob_cert.specs.View.{item_of}
use Rattle.rob_cert.proofs.Readers.ItemLemmas.{ItemsSoFar, items_more, items_fault}
use Rattle.rob_cert.proofs.Readers.SectionLemmas.{shorter}
use Rattle.rob_cert.proofs.items.read_items.Goals as goal

pub returns-in-Err-clause-fault : goal.returns-in-Err-clause-fault
returns-in-Err-clause-fault g c s stage h =
    items_fault (naming c.args.names.now) g.N.Exact.limit c.args.at.rest.now c.args.at.line
    (map (item_of g.N.Exact.value) c.loop-split.list) c.loop-split.form
    c.loop-split.rest.now c.loop-split.line c.in-Some.split.front.now c.in-Some.split.back.now
    c.in-Some.ensures.found.1.0 c.in-Err.error c.loop-split.invariant.so c.in-Some.ensures.found.0
    c.in-Some.ensures.found.1.1 c.in-Err.ensures.fault s stage h

pub loop-split-preserved : goal.loop-split-preserved
loop-split-preserved g c =
    let value = g.N.Exact.value in
    let begins = c.in-Some.ensures.found.0 in
    let new = item_of value c.in-Ok.one.item in
    record {
      so = subst (λ is. ItemsSoFar (naming c.args.names.now) g.N.Exact.limit c.args.at.rest.now c.args.at.line is
          c.in-Ok.one.item.form c.in-Ok.one.at.rest.now c.in-Ok.one.at.line)
          (sym (ap (map (item_of value)) c.in_ok-push-in-Ok.ensures.appended
          ∙ map-append (item_of value) c.loop-split.list (c.in-Ok.one.item ∷ [])))
          (items_more (naming c.args.names.now) g.N.Exact.limit c.args.at.rest.now c.args.at.line
          (map (item_of value) c.loop-split.list) c.loop-split.form
          c.loop-split.rest.now c.loop-split.line c.in-Some.split.front.now c.in-Some.split.back.now new
          c.in-Ok.one.at.rest.now c.in-Ok.one.at.line c.loop-split.invariant.so begins c.in-Ok.ensures.read);
      small = omega (
        arith,
        c.loop-split.invariant.small,
        c.in-Ok.ensures.small,
        shorter c.loop-split.rest.now c.in-Some.split.front.now c.in-Some.split.back.now begins,
      );
      counted = later c.loop-split.invariant.counted c.in-Ok.ensures.counted;
    }
