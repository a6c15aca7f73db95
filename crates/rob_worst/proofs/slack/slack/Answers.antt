use Rattle.std.proofs.Common.{◌≡◌, ◌≤◌, ◌-◌, ◌^◌, ap, ◌∙◌, subst, arith, inl}
use Rattle.std.specs.Prelude.{MatchResult}
use lib.IntN.{nat_abs}
use Rattle.rob_algebra.specs.Fraction.{of_int, neg_ℚ, ◌+ℚ◌, ◌/ℚ◌}
use Rattle.rob_algebra.specs.Width.{Fits, IsWide, kept}
use Rattle.rob_number.specs.Counts.{raised}
use Rattle.rob_number.proofs.AnswerLaws.{ok_tells, err_tells}
use Rattle.rob_runs.specs.Spots.{slack_of}
use Rattle.rob_worst.proofs.CostLemmas.{held}
use Rattle.rob_worst.proofs.SlackLemmas.{quotient_fits, quotient_told, quotient_wide, rises}
use Rattle.rob_worst.proofs.slack.slack.Goals as goal

pub returns-in-Ok : goal.returns-in-Ok
returns-in-Ok g c =
    let value = g.N.Exact.value in
    let limit = g.N.Exact.limit in
    let k : nat_abs c.args.constant ≤ 2 ^ 62 - 1 = omega (arith, c.requires.constant, g.met.N.Exact.limit_high) in
    let whole = c.whole.ensures.value ∙ ap of_int (held c.args.constant k) in
    let told = ok_tells limit (value c.args.peak +ℚ value c.whole.result) (value c.in-Ok.sum) c.in-Ok.ensures.exact in
    let sum = told.0 ∙ ap (λ v. value c.args.peak +ℚ v) whole in
    let e = c.div.ensures.exact ∙ ap (λ v. kept limit (v /ℚ value c.args.scale))
    (c.neg.ensures.negation ∙ ap neg_ℚ sum) in
    let x = slack_of (value c.args.scale) (value c.args.peak) (of_int c.args.constant) in
    record {
      slack = quotient_told limit value x c.div.result e;
      fits = quotient_fits limit value (Fits limit (value c.args.peak +ℚ of_int c.args.constant))
          (subst (λ v. Fits limit (value c.args.peak +ℚ v)) whole told.1) x c.div.result e;
      wide = quotient_wide limit value (IsWide limit (value c.args.peak +ℚ of_int c.args.constant)) x c.div.result e;
      counted = record {
        ops = rises (g.L.Ledger.ops c.args.ledger.now) (g.L.Ledger.ops c.add.new.ledger)
            (g.L.Ledger.ops c.div.new.ledger) c.in-Ok.ensures.counted.ops c.div.ensures.counted.ops;
        wides = subst (λ n. MatchResult c.div.result (λ _. g.L.Ledger.wides c.div.new.ledger ≡ n)
            (λ _. g.L.Ledger.wides c.div.new.ledger ≡ raised n)) c.in-Ok.ensures.counted.wides
            c.div.ensures.counted.wides;
      };
    }

pub returns-in-Err : goal.returns-in-Err
returns-in-Err g c =
    let value = g.N.Exact.value in
    let limit = g.N.Exact.limit in
    let k : nat_abs c.args.constant ≤ 2 ^ 62 - 1 = omega (arith, c.requires.constant, g.met.N.Exact.limit_high) in
    let whole = c.whole.ensures.value ∙ ap of_int (held c.args.constant k) in
    record {
      slack = tt;
      fits = tt;
      wide = inl (subst (λ v. IsWide limit (value c.args.peak +ℚ v)) whole
          (err_tells limit (value c.args.peak +ℚ value c.whole.result) c.in-Err.ensures.exact));
      counted = record { ops = omega (arith, c.in-Err.ensures.counted.ops); wides = c.in-Err.ensures.counted.wides };
    }
