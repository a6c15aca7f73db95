use Rattle.std.proofs.Common.{◌≡◌, ◌∙◌, ◌<◌, length, arith, to_z, of_z, w64}
use Rattle.rob_counterpart.specs.Reform.{row_entry}
use Rattle.rob_dualize.specs.Wholes.{wholes}
use Rattle.rob_dualize.proofs.EntryLemmas.{seen_same}
use Rattle.rob_dualize.proofs.ToldLemmas.{written_next, unwritten}
use Rattle.rob_dualize.proofs.counterpart.write_plan.Goals as goal

pub loop-k-preserved : goal.loop-k-preserved
loop-k-preserved c =
    let f = row_entry (wholes c.args.model.forms.now c.args.model.set.now) c.args.i c.args.p in
    let v = to_z w64 (of_z w64 c.row_number.result) in
    let e : to_z w64 (of_z w64 c.row_number.result) ≡ row_entry (wholes c.args.model.forms.now c.args.model.set.now)
    c.args.i c.args.p c.loop-k.k =
    seen_same c.row_number.result (row_entry (wholes c.args.model.forms.now c.args.model.set.now) c.args.i c.args.p
    c.loop-k.k) c.row_number.ensures.number c.row_number.ensures.small in
    let inside : c.loop-k.k < length c.loop-k.numbers =
    omega (arith, c.loop-k.auto.numbers, c.requires.size, c.loop-k-test.true) in
    record {
      written = λ j l. written_next 0 c.loop-k.numbers c.loop-k.k v f inside e
          (λ j a l. c.loop-k.invariant.written j l) j (omega arith) l;
      others = λ j l. unwritten c.loop-k.numbers c.loop-k.k v j (λ e. absurd (omega arith))
          ∙ c.loop-k.invariant.others j (omega arith);
    }
