use Rattle.std.proofs.Common.{◌≡◌, ◌+◌, ◌*◌, ◌<◌, ◌++◌, map, length, sym, ap, subst, ◌∙◌, arith}
use Rattle.rob_meaning.specs.Places.{tabulate}
use Rattle.rob_cert.specs.View.{cover_of}
use Rattle.rob_counterpart.specs.RobustProgram.{RobustProgram}
use Rattle.rob_counterpart.specs.Reform.{multiplier}
use Rattle.rob_counterpart.proofs.Pairs.Blocks.{block_in}
use Rattle.rob_dualize.specs.Numbers.{told}
use Rattle.rob_counterpart.specs.ReadNumbers.{cover_at, covers_kept}
use Rattle.rob_dualize.specs.Wholes.{wholes}
use Rattle.rob_dualize.proofs.ReadingLemmas.{told_place, cover_pushed, cover_skipped}
use Rattle.rob_dualize.proofs.reading.append_covers.Goals as goal
use Rattle.rob_dualize.proofs.reading.append_covers.Goals.{then-not-is_zero+in_ok-push, else-not-is_zero}
use Rattle.rob_model.proofs.KeptLemmas.{refuted}

pub loop-r-preserved : goal.loop-r-preserved
loop-r-preserved g c =
    let value = g.N.Exact.value in
    let d : RobustProgram = wholes c.args.model.forms.now c.args.model.set.now in
    let x = told g.N.Exact.value c.args.numbers.now in
    let before = map (cover_of g.N.Exact.value) c.args.all.now in
    let n : length c.items-rows.result.now ≡ length c.args.model.set.now.rows = ap length c.items-rows.ensures.list in
    let w : c.args.i * length c.items-rows.result.now ≡ c.args.i * length c.args.model.set.now.rows =
    ap (λ v. c.args.i * v) n in
    let b : ((c.args.i * length c.args.model.set.now.rows) + c.loop-r.r) <
    (length c.args.model.forms.now.matrices * length c.args.model.set.now.rows) =
    block_in (length c.args.model.forms.now.matrices) (length c.args.model.set.now.rows) c.args.i c.loop-r.r
    c.requires.form_in (omega (arith, c.loop-r-test.true)) in
    let place : ((2 * (c.args.model.forms.now.columns + 1)) + c.args.i * length c.items-rows.result.now) + c.loop-r.r
    ≡ multiplier (wholes c.args.model.forms.now c.args.model.set.now) c.args.i c.loop-r.r = omega arith in
    let amount = told_place value c.args.numbers.now (((2 * (c.args.model.forms.now.columns + 1)) + c.args.i * length
    c.items-rows.result.now) + c.loop-r.r) (multiplier d c.args.i c.loop-r.r)
    c.index-numbers-first.result place (omega (arith, c.requires.numbers)) c.index-numbers-first.is in
    elim c.if-not-is_zero.branch [
      | then-not-is_zero+in_ok-push w ↦
          subst (λ all. map (cover_of g.N.Exact.value) all ≡ map (cover_of g.N.Exact.value) c.args.all.now
          ++ covers_kept (tabulate (c.loop-r.r + 1) (cover_at (wholes c.args.model.forms.now c.args.model.set.now)
          (told g.N.Exact.value c.args.numbers.now) c.args.i)))
          (sym w.all-is)
          (cover_pushed value c.loop-r.all w.push.new.self _ before (cover_at d x c.args.i) c.loop-r.r
          c.loop-r.invariant w.in_ok-push.ensures.appended
          (ap (λ a. record { form = c.args.i; set_row = c.loop-r.r; amount = a }) (sym amount))
          (refuted c.is_zero.result c.is_zero.ensures.zero w.if-not-is_zero.true))
      | else-not-is_zero w ↦
          subst (λ all. map (cover_of g.N.Exact.value) all ≡ map (cover_of g.N.Exact.value) c.args.all.now
          ++ covers_kept (tabulate (c.loop-r.r + 1) (cover_at (wholes c.args.model.forms.now c.args.model.set.now)
          (told g.N.Exact.value c.args.numbers.now) c.args.i)))
          (sym w.all-is)
          (cover_skipped value c.loop-r.all before (cover_at d x c.args.i) c.loop-r.r c.loop-r.invariant
          (amount ∙ c.is_zero.ensures.zero.0 w.if-not-is_zero.false))
    ]
