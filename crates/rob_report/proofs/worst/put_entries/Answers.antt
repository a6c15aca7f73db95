use Rattle.std.proofs.Common.{◌≡◌, ◌∙◌, [], ◌∷◌, arith, drop, length, length-append, rules, ap, ◌++◌}
use Rattle.std.proofs.lemmas.Slice.Zip.{zip_end, zip_turn}
use Rattle.std.specs.Iterator.Adapters.{zip_first, zip_second}
use Rattle.std.specs.Slice.Iter.{iter_rest}
use Rattle.rob_model.specs.declared.model.Param.{Param}
use Rattle.rob_report.proofs.PairLemmas.{pairs_done, pairs_more}
use Rattle.rob_report.proofs.WorstLemmas.{entries_of, entries_whole}
use Rattle.rob_report.specs.Worst.{at_line}
use Rattle.rob_report.proofs.worst.put_entries.Goals as goal

pub returns : goal.returns
returns g c =
    let value = g.N.Exact.value in
    let s = c.into_iter-number-iterator.result in
    let first : iter_rest (zip_first s) ≡ c.args.numbers.now = search rules in
    let second : iter_rest (zip_second s) ≡ c.args.params.now = search rules in
    let e = zip_end c.args.numbers.now c.args.params.now c.loop-number.yielded s c.loop-number.number-iterator
    c.next.new.self c.next.result
    first second c.loop-number.yielded_by c.in-None.is c.next.ensures.steps in
    record {
      appended = pairs_done (λ x (p : Param g.row.N.Denot). at_line (value x) p.name) c.args.numbers.now
          c.args.params.now (length c.loop-number.yielded) c.loop-number.out _
          (omega (arith, e)) c.loop-number.invariant
          ∙ ap (λ t. c.args.out.now ++ t) (entries_whole value c.args.numbers.now c.args.params.now);
    }

pub loop-number-preserved : goal.loop-number-preserved
loop-number-preserved g c =
    let value = g.N.Exact.value in
    let s = c.into_iter-number-iterator.result in
    let done = c.loop-number.yielded in
    let number = c.in-Some.number in
    let param = c.in-Some.param in
    let first : iter_rest (zip_first s) ≡ c.args.numbers.now = search rules in
    let second : iter_rest (zip_second s) ≡ c.args.params.now = search rules in
    let turn = zip_turn c.args.numbers.now c.args.params.now done s c.loop-number.number-iterator
    c.next.new.self c.next.result
    first second c.loop-number.yielded_by (number, param) c.in-Some.is c.next.ensures.steps in
    let grown : c.put_entry.new.out ≡ c.loop-number.out ++ at_line (value number.now) param.now.name = search rules in
    ap (λ n. c.put_entry.new.out ++ entries_of value (drop n c.args.numbers.now) (drop n c.args.params.now))
    (length-append done ((number, param) ∷ []))
    ∙ pairs_more (λ x (p : Param g.row.N.Denot). at_line (value x) p.name) c.args.numbers.now
    c.args.params.now (length done)
    number.now number.now param.now param.now c.loop-number.out c.put_entry.new.out _
    turn.0 turn.1 (turn.2 number.now) (turn.3 param.now) grown c.loop-number.invariant
