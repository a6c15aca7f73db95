use Rattle.std.proofs.Common.{◌≡◌, arith, length, rules}
use Rattle.std.proofs.lemmas.Slice.Zip.{zip_end}
use Rattle.std.specs.Iterator.Adapters.{zip_first, zip_second}
use Rattle.std.specs.Slice.Iter.{iter_rest}
use Rattle.rob_report.proofs.PairLemmas.{pairs_done}
use Rattle.rob_report.specs.Rows.{terms_text}
use Rattle.rob_report.proofs.terms.put_matrix.Goals as goal

pub returns : goal.returns
returns c =
    let s = c.into_iter-front-iterator.result in
    let first : iter_rest (zip_first s) ≡ c.args.fronts.now = search rules in
    let second : iter_rest (zip_second s) ≡ c.args.matrix.now = search rules in
    let e = zip_end c.args.fronts.now c.args.matrix.now c.loop-front.yielded s c.loop-front.front-iterator
    c.next.new.self c.next.result first second c.loop-front.yielded_by c.in-None.is c.next.ensures.steps in
    record {
      appended = pairs_done (λ front numbers. terms_text front numbers c.args.columns.now) c.args.fronts.now
          c.args.matrix.now (length c.loop-front.yielded) c.loop-front.out _ (omega (arith, e)) c.loop-front.invariant;
    }
