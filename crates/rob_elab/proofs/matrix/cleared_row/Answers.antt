use Rattle.std.proofs.Common.{arith, ap, sym, ◌∙◌, subst}
use Rattle.std.specs.Prelude.{◌≡◌, ◌≤◌, ◌++◌, ◌∷◌, [], List, ℤ, map, nat_abs}
use Rattle.rob_algebra.specs.Fraction.{Fraction}
use Rattle.rob_algebra.specs.Width.{IsWideWhole}
use Rattle.rob_number.proofs.CastLemmas.{seen_within}
use Rattle.rob_meaning.specs.Clearing.{whole_at}
use Rattle.rob_meaning.specs.Places.{Each, tabulate}
use Rattle.rob_meaning.proofs.Lists.EachLemmas.{each_push}
use Rattle.rob_sets.specs.Tables.{numbers_of}
use Rattle.rob_elab.proofs.RowLemmas.{mapped_more, some_number}
use Rattle.rob_elab.proofs.matrix.cleared_row.Goals as goal

pub returns-in-None-clause-wide : goal.returns-in-None-clause-wide
returns-in-None-clause-wide g c =
    let f = numbers_of g.N.Exact.value c.args.table.now c.args.row in
    let Q = λ (q : Fraction). IsWideWhole g.N.Exact.limit (whole_at c.args.common q) in (
      omega (
        arith,
        c.loop-column.invariant.counted.wides,
        c.number-number.ensures.counted.wides,
        c.wide.ensures.counted,
      ),
      some_number Q c.args.columns f c.loop-column.column c.loop-column-test.true
          (subst Q c.number-number.ensures.value c.in-None.ensures.whole),
    )

pub loop-column-preserved : goal.loop-column-preserved
loop-column-preserved g c =
    let f = numbers_of g.N.Exact.value c.args.table.now c.args.row in
    let seen = seen_within g.N.Exact.limit c.in-Some.entry g.met.N.Exact.limit_high c.in-Some.ensures.whole.1 in
    let grown : c.push.new.self ≡ c.loop-column.list ++ c.in-Some.entry ∷ [] =
    c.in_ok-push-in-Some.ensures.appended ∙ ap (λ (z : ℤ). c.loop-column.list ++ z ∷ []) seen in
    record {
      cleared = mapped_more (whole_at c.args.common) c.loop-column.list c.push.new.self c.in-Some.entry
          c.loop-column.column f c.loop-column.invariant.cleared grown
          (c.in-Some.ensures.whole.0 ∙ ap (whole_at c.args.common) c.number-number.ensures.value);
      fits = subst (λ (xs : List ℤ). Each (λ a. nat_abs a ≤ g.N.Exact.limit) xs)
          (sym grown)
          (each_push (λ a. nat_abs a ≤ g.N.Exact.limit) c.loop-column.list c.in-Some.entry
          c.loop-column.invariant.fits c.in-Some.ensures.whole.1);
      counted = record {
        ops = omega (arith, c.loop-column.invariant.counted.ops, c.number-number.ensures.counted.ops);
        wides = omega (arith, c.loop-column.invariant.counted.wides, c.number-number.ensures.counted.wides);
      };
    }

pub returns-clause-cleared : goal.returns-clause-cleared
returns-clause-cleared g c =
    let all : c.loop-column.column ≡ c.args.columns =
    omega (arith, c.loop-column-test.false, c.loop-column.auto.column-end) in
    c.loop-column.invariant.cleared
    ∙ ap (λ n. map (whole_at c.args.common) (tabulate n (numbers_of g.N.Exact.value c.args.table.now c.args.row))) all
