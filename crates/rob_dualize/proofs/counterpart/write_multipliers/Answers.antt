use Rattle.std.proofs.Common.{◌≡◌, ◌∙◌, ◌≤◌, ◌<◌, ◌+◌, ◌*◌, ℕ, inl, inr, ap, refl, length, arith, to_z, of_z, w64}
use Rattle.rob_counterpart.specs.Reform.{pairs, multiplier, row_entry}
use Rattle.rob_dualize.specs.Wholes.{wholes}
use Rattle.rob_dualize.proofs.EntryLemmas.{seen_same, own_within}
use Rattle.rob_dualize.proofs.ToldLemmas.{written_next, unwritten}
use Rattle.rob_dualize.proofs.counterpart.write_multipliers.Goals as goal

pub loop-k-preserved : goal.loop-k-preserved
loop-k-preserved c =
    let f = row_entry (wholes c.args.model.forms.now c.args.model.set.now) c.args.i c.args.p in
    let v = to_z w64 (of_z w64 c.row_number.result) in
    let e : to_z w64 (of_z w64 c.row_number.result) ≡ row_entry (wholes c.args.model.forms.now c.args.model.set.now)
    c.args.i c.args.p c.loop-k.k =
    seen_same c.row_number.result (row_entry (wholes c.args.model.forms.now c.args.model.set.now) c.args.i c.args.p
    c.loop-k.k) c.row_number.ensures.number c.row_number.ensures.small in
    let count : length c.items-rows.result.now ≡ length c.args.model.set.now.rows =
    ap length c.items-rows.ensures.list in
    let product : c.args.i * length c.items-rows.result.now ≡ c.args.i * length c.args.model.set.now.rows =
    ap (λ (n : ℕ). c.args.i * n) count in
    let low : multiplier (wholes c.args.model.forms.now c.args.model.set.now) c.args.i 0 ≤ c.loop-k.k =
    omega (arith, product, c.loop-k.auto.k) in
    let own : (pairs (wholes c.args.model.forms.now c.args.model.set.now) + c.args.i * length
    c.args.model.set.now.rows) + length c.args.model.set.now.rows
    ≤ pairs (wholes c.args.model.forms.now c.args.model.set.now) +
    (length c.args.model.forms.now.matrices * length c.args.model.set.now.rows) =
    own_within (wholes c.args.model.forms.now c.args.model.set.now) c.args.i c.requires.form_in
    (pairs (wholes c.args.model.forms.now c.args.model.set.now)) (length c.args.model.set.now.rows) refl refl in
    let inside : c.loop-k.k < length c.loop-k.numbers =
    omega (arith, own, count, product, c.loop-k.auto.numbers, c.requires.size, c.loop-k-test.true) in
    record {
      written = λ j a l. written_next (multiplier (wholes c.args.model.forms.now c.args.model.set.now) c.args.i 0)
          c.loop-k.numbers c.loop-k.k v f inside e c.loop-k.invariant.written j a l;
      others = λ j out. elim out [
        | inl a ↦ unwritten c.loop-k.numbers c.loop-k.k v j (λ e. absurd (omega (arith, low)))
            ∙ c.loop-k.invariant.others j (inl a)
        | inr b ↦ unwritten c.loop-k.numbers c.loop-k.k v j (λ e. absurd (omega arith))
            ∙ c.loop-k.invariant.others j (inr (omega arith))
      ];
    }

pub returns-clause-own : goal.returns-clause-own
returns-clause-own c = λ k low high.
    let count : length c.items-rows.result.now ≡ length c.args.model.set.now.rows =
    ap length c.items-rows.ensures.list in
    let product : c.args.i * length c.items-rows.result.now ≡ c.args.i * length c.args.model.set.now.rows =
    ap (λ (n : ℕ). c.args.i * n) count in
    c.loop-k.invariant.written k low (omega (arith, count, product, high, c.loop-k-test.false))
