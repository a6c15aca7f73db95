use Rattle.std.proofs.Common.{ℕ, ◌≡◌, ◌+◌, map, length, sym, ap, subst, ◌∙◌, arith}
use Rattle.rob_meaning.specs.Places.{1ℚ}
use Rattle.rob_cert.specs.View.{item_of}
use Rattle.rob_counterpart.specs.RobustProgram.{RobustProgram}
use Rattle.rob_counterpart.specs.Reform.{constant_row}
use Rattle.rob_dualize.specs.Numbers.{told}
use Rattle.rob_counterpart.specs.ReadNumbers.{items_to, vector_at, all_zero}
use Rattle.rob_dualize.specs.Wholes.{wholes}
use Rattle.rob_dualize.proofs.SizeLemmas.{constant_fits, constant_in, constant_told, double_fits, first_fits, form_fits, form_in, width_fits}
use Rattle.rob_dualize.proofs.ReadingLemmas.{item_is, item_pushed, item_skipped, base_not_zero, vector_not_zero, both_zero}
use Rattle.rob_dualize.proofs.reading.items.Goals as goal
use Rattle.rob_dualize.proofs.reading.items.Goals.{then-not-is_zero+in_ok-push, then-not-is_zero-via-then-not-is_zero, then-not-is_zero-via-else-not-is_zero+then-not-are_zero, else-not-is_zero+else-not-are_zero}
use Rattle.rob_model.proofs.KeptLemmas.{refuted}

pub loop-i-preserved : goal.loop-i-preserved
loop-i-preserved g c =
    let value = g.N.Exact.value in
    let d : RobustProgram = wholes c.args.model.forms.now c.args.model.set.now in
    let y = told g.N.Exact.value c.args.numbers.now in
    let v = map g.N.Exact.value c.in_ok-vector.vector in
    let n = form_in c.items-i-end.ensures.list c.loop-i-test.true in
    let base = constant_told c.requires.model n c.args.numbers.now c.requires.numbers value c.index-numbers-i.result
    c.index-numbers-i.is in
    elim c.if-not-is_zero.branch [
      | then-not-is_zero+in_ok-push w ↦
          subst (λ all. map (item_of g.N.Exact.value) all ≡ items_to
          (wholes c.args.model.forms.now c.args.model.set.now) (c.loop-i.i + 1)
          (told g.N.Exact.value c.args.numbers.now)) (sym w.all-is)
          (item_pushed value d y c.loop-i.all w.push.new.self _ c.loop-i.i c.loop-i.invariant
          w.in_ok-push.ensures.appended
          (item_is c.loop-i.i (value w.whole.result) (value c.index-numbers-i.result) 1ℚ
          (y (constant_row d c.loop-i.i)) v (vector_at d y c.loop-i.i) w.whole.ensures.value (sym base)
          c.in_ok-vector.ensures.vector)
          (elim w.then-not-is_zero.branch [
            | then-not-is_zero-via-then-not-is_zero w' ↦ base_not_zero (value c.index-numbers-i.result) v
                (refuted c.is_zero.result c.is_zero.ensures.zero w'.if-not-is_zero.true)
            | then-not-is_zero-via-else-not-is_zero+then-not-are_zero w' ↦ vector_not_zero
                (value c.index-numbers-i.result) v
                (ap (λ xs. all_zero (map value xs)) (sym w'.items.ensures.list) ∙ sym w'.are_zero.ensures.zero
                ∙ w'.if-not-are_zero.true)
          ]))
      | else-not-is_zero+else-not-are_zero w ↦
          subst (λ all. map (item_of g.N.Exact.value) all ≡ items_to
          (wholes c.args.model.forms.now c.args.model.set.now) (c.loop-i.i + 1)
          (told g.N.Exact.value c.args.numbers.now)) (sym w.all-is)
          (item_skipped value d y c.loop-i.all c.loop-i.i c.loop-i.invariant
          (both_zero (y (constant_row d c.loop-i.i)) (vector_at d y c.loop-i.i)
          (base ∙ c.is_zero.ensures.zero.0 w.if-not-is_zero.false)
          ∙ ap all_zero (sym c.in_ok-vector.ensures.vector) ∙ ap (λ xs. all_zero (map value xs))
          (sym w.items.ensures.list) ∙ sym w.are_zero.ensures.zero ∙ w.if-not-are_zero.false))
    ]

pub returns : goal.returns
returns g c =
    let count : length c.items-i-end.result.now ≡ length c.args.model.forms.now.matrices =
    ap length c.items-i-end.ensures.list in
    let all : c.loop-i.i ≡ length c.args.model.forms.now.matrices =
    omega (arith, count, c.loop-i-test.false, c.loop-i.auto.i-end) in
    record {
      items = subst (λ (n : ℕ). map (item_of g.N.Exact.value) c.loop-i.all ≡ items_to
          (wholes c.args.model.forms.now c.args.model.set.now) n (told g.N.Exact.value c.args.numbers.now)) all
          c.loop-i.invariant;
    }

pub overflow_mul-rows : goal.overflow_mul-rows
overflow_mul-rows g c = double_fits c.requires.model

pub overflow_add-rows : goal.overflow_add-rows
overflow_add-rows g c = width_fits c.requires.model

pub overflow_mul-base-in-loop-i : goal.overflow_mul-base-in-loop-i
overflow_mul-base-in-loop-i g c = double_fits c.requires.model

pub overflow_mul-base : goal.overflow_mul-base
overflow_mul-base g c = first_fits c.requires.model (form_in c.items-i-end.ensures.list c.loop-i-test.true)

pub overflow_add-base : goal.overflow_add-base
overflow_add-base g c = constant_fits c.requires.model (form_in c.items-i-end.ensures.list c.loop-i-test.true)

pub bounds-numbers-i : goal.bounds-numbers-i
bounds-numbers-i g c =
    constant_in c.requires.model (form_in c.items-i-end.ensures.list c.loop-i-test.true) c.args.numbers.now
    c.requires.numbers

pub overflow_cast-item : goal.overflow_cast-item
overflow_cast-item g c = form_fits c.requires.model (form_in c.items-i-end.ensures.list c.loop-i-test.true)

pub vector-requires : goal.vector-requires
vector-requires g c = record {
  model = c.requires.model;
  numbers = c.requires.numbers;
  pairs = c.requires.pairs;
  form_in = form_in c.items-i-end.ensures.list c.loop-i-test.true;
}

pub whole-requires : goal.whole-requires
whole-requires g c = record { within = g.met.N.Exact.limit_low }

pub loop-i-init : goal.loop-i-init
loop-i-init g c = ap (map (item_of g.N.Exact.value)) c.new-all.ensures.empty
