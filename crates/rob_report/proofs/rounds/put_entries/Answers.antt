use Rattle.std.proofs.Common.{◌≡◌, ◌∙◌, ℤ, [], ◌∷◌, arith, drop, length, length-append, rules, ap, ◌++◌}
use Rattle.std.proofs.lemmas.Slice.Zip.{zip_end, zip_turn}
use Rattle.std.specs.Iterator.Adapters.{zip_first, zip_second}
use Rattle.std.specs.Slice.Iter.{iter_rest}
use Rattle.rob_model.specs.declared.model.Param.{Param}
use Rattle.rob_report.proofs.PairLemmas.{pairs_done, pairs_more}
use Rattle.rob_report.proofs.RoundLemmas.{entries_of, entries_whole}
use Rattle.rob_report.specs.Rounds.{entry_words}
use Rattle.rob_report.proofs.rounds.put_entries.Goals as goal

pub returns : goal.returns
returns g c =
    let value = g.N.Exact.value in
    let s = c.into_iter-param-iterator.result in
    let first : iter_rest (zip_first s) ≡ c.args.params.now = search rules in
    let second : iter_rest (zip_second s) ≡ c.args.numbers.now = search rules in
    let e = zip_end c.args.params.now c.args.numbers.now c.loop-param.yielded s c.loop-param.param-iterator
    c.next.new.self c.next.result
    first second c.loop-param.yielded_by c.in-None.is c.next.ensures.steps in
    record {
      appended = pairs_done (λ (p : Param g.row.N.Denot) (n : ℤ). entry_words p.name n)
          c.args.params.now c.args.numbers.now
          (length c.loop-param.yielded) c.loop-param.out _
          (omega (arith, e)) c.loop-param.invariant
          ∙ ap (λ t. c.args.out.now ++ t) (entries_whole value c.args.params.now c.args.numbers.now);
    }

pub loop-param-preserved : goal.loop-param-preserved
loop-param-preserved g c =
    let value = g.N.Exact.value in
    let s = c.into_iter-param-iterator.result in
    let done = c.loop-param.yielded in
    let param = c.in-Some.param in
    let number = c.in-Some.number in
    let first : iter_rest (zip_first s) ≡ c.args.params.now = search rules in
    let second : iter_rest (zip_second s) ≡ c.args.numbers.now = search rules in
    let turn = zip_turn c.args.params.now c.args.numbers.now done s c.loop-param.param-iterator
    c.next.new.self c.next.result
    first second c.loop-param.yielded_by (param, number) c.in-Some.is c.next.ensures.steps in
    let grown : c.put_entry.new.out ≡ c.loop-param.out ++ entry_words param.now.name number.now = search rules in
    ap (λ n. c.put_entry.new.out ++ entries_of value (drop n c.args.params.now) (drop n c.args.numbers.now))
    (length-append done ((param, number) ∷ []))
    ∙ pairs_more (λ (p : Param g.row.N.Denot) (n : ℤ). entry_words p.name n) c.args.params.now
    c.args.numbers.now (length done)
    param.now param.now number.now number.now c.loop-param.out c.put_entry.new.out _
    turn.0 turn.1 (turn.2 param.now) (turn.3 number.now) grown c.loop-param.invariant
