use Rattle.std.proofs.Common.{◌≡◌, ◌++◌, arith, length, rules}
use Rattle.std.proofs.lemmas.Slice.Zip.{zip_end}
use Rattle.std.specs.Iterator.Adapters.{zip_first, zip_second}
use Rattle.std.specs.Slice.Iter.{iter_rest}
use Rattle.rob_report.proofs.PairLemmas.{pairs_done}
use Rattle.rob_report.specs.Rows.{term_text}
use Rattle.rob_report.proofs.terms.put_terms.Goals as goal

pub returns : goal.returns
returns c =
    let s = c.into_iter-number-iterator.result in
    let first : iter_rest (zip_first s) ≡ c.args.numbers.now = search rules in
    let second : iter_rest (zip_second s) ≡ c.args.columns.now = search rules in
    let e = zip_end c.args.numbers.now c.args.columns.now c.loop-number.yielded s c.loop-number.number-iterator
    c.next.new.self c.next.result first second c.loop-number.yielded_by c.in-None.is c.next.ensures.steps in
    record {
      appended = pairs_done (λ a name. term_text a (c.args.front.now ++ name)) c.args.numbers.now c.args.columns.now
          (length c.loop-number.yielded) c.loop-number.out _ (omega (arith, e)) c.loop-number.invariant;
    }
