use Rattle.std.proofs.Common.{◌≡◌, ◌∙◌, arith, length, rules, ap, ◌++◌}
use Rattle.std.proofs.lemmas.Slice.Zip.{zip_end}
use Rattle.std.specs.Iterator.Adapters.{zip_first, zip_second}
use Rattle.std.specs.Slice.Iter.{iter_rest}
use Rattle.rob_report.proofs.PairLemmas.{pairs_done}
use Rattle.rob_report.proofs.TableLemmas.{texts_whole}
use Rattle.rob_report.specs.Tables.{named_text}
use Rattle.rob_report.proofs.table.put_named_numbers.Goals as goal

pub returns : goal.returns
returns g c =
    let value = g.N.Exact.value in
    let s = c.into_iter-name-iterator.result in
    let first : iter_rest (zip_first s) ≡ c.args.names.now = search rules in
    let second : iter_rest (zip_second s) ≡ c.args.numbers.now = search rules in
    let e = zip_end c.args.names.now c.args.numbers.now c.loop-name.yielded s c.loop-name.name-iterator
    c.next.new.self c.next.result
    first second c.loop-name.yielded_by c.in-None.is c.next.ensures.steps in
    record {
      appended = pairs_done (λ name x. named_text name (value x)) c.args.names.now c.args.numbers.now
          (length c.loop-name.yielded) c.loop-name.out _
          (omega (arith, e)) c.loop-name.invariant
          ∙ ap (λ t. c.args.out.now ++ t) (texts_whole value c.args.names.now c.args.numbers.now);
    }
