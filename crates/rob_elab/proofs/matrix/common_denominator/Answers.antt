use Rattle.std.proofs.Common.{arith, ap, sym, ◌∙◌, refl}
use Rattle.std.specs.Prelude.{◌≡◌}
use Rattle.rob_meaning.proofs.Tables.ClearingLemmas.{denominator_pos}
use Rattle.rob_meaning.specs.Clearing.{denominator, entries}
use Rattle.rob_sets.specs.Tables.{numbers_of}
use Rattle.rob_number.proofs.CountLemmas.{later}
use Rattle.rob_elab.specs.Forms.{rows_of}
use Rattle.rob_elab.proofs.RowLemmas.{rows_more, rows_wide}
use Rattle.rob_elab.proofs.matrix.common_denominator.Goals as goal

pub loop-row-init : goal.loop-row-init
loop-row-init g c = record {
  least = refl;
  within = g.met.N.Exact.limit_low;
  counted = record { ops = omega arith; wides = omega arith };
}

pub row_denominator-requires : goal.row_denominator-requires
row_denominator-requires g c = record {
  positive = omega (
    arith,
    c.loop-row.invariant.least,
    denominator_pos (entries (rows_of c.loop-row.row c.args.columns (numbers_of g.N.Exact.value c.args.table.now))),
  );
  within = c.loop-row.invariant.within;
}

pub returns-in-None-clause-least : goal.returns-in-None-clause-least
returns-in-None-clause-least g c =
    let f = numbers_of g.N.Exact.value c.args.table.now in
    rows_wide c.args.columns f g.N.Exact.limit c.loop-row.row c.args.rows c.loop-row-test.true
    (c.in-None.ensures.least (entries (rows_of c.loop-row.row c.args.columns f)) c.loop-row.invariant.least)

pub loop-row-preserved : goal.loop-row-preserved
loop-row-preserved g c =
    let f = numbers_of g.N.Exact.value c.args.table.now in
    let h = c.in-Some.ensures.least (entries (rows_of c.loop-row.row c.args.columns f)) c.loop-row.invariant.least in
    record {
      least = h.0 ∙ ap denominator (sym (rows_more c.args.columns f c.loop-row.row));
      within = h.1;
      counted = later c.loop-row.invariant.counted c.row_denominator.ensures.counted;
    }

pub returns-clause-least : goal.returns-clause-least
returns-clause-least g c =
    let f = numbers_of g.N.Exact.value c.args.table.now in
    let all : c.loop-row.row ≡ c.args.rows = omega (arith, c.loop-row-test.false, c.loop-row.auto.row-end) in (
      c.loop-row.invariant.least ∙ ap (λ n. denominator (entries (rows_of n c.args.columns f))) all,
      c.loop-row.invariant.within,
    )
