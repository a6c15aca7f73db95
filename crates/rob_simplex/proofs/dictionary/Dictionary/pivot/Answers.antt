use Rattle.std.proofs.Common.{◌≡◌, ◌∙◌, ℕ, ap, subst, arith, List, set}
use Rattle.rob_simplex.specs.Dictionaries.{positions, spare_column, IsExchanged}
use Rattle.rob_simplex.proofs.Pivoting.PivotLemmas.{set_twice, free_begun}
use Rattle.rob_simplex.proofs.Places.Sizes.{sized_after}
use Rattle.rob_simplex.proofs.dictionary.Dictionary.pivot.Goals as goal

pub replace-requires : goal.replace-requires
replace-requires g c =
    let a = c.requires.ready in
    let s = c.pivot_or_open.ensures.sized in
    record {
      row_in = omega (arith, a.row_in, s.positions);
      free =
          free_begun c.args.self.now c.pivot_or_open.new.self c.args.row c.args.column a.row_in a.free a.apart
          c.in-Err.ensures.begun s.columns;
    }

pub returns-in-Ok-clause-small : goal.returns-in-Ok-clause-small
returns-in-Ok-clause-small g c = c.in-Ok.ensures.pivoted.small

pub returns-in-Ok-clause-basis : goal.returns-in-Ok-clause-basis
returns-in-Ok-clause-basis g c = c.in-Ok.ensures.pivoted.basis

pub returns-in-Err-clause-basis : goal.returns-in-Err-clause-basis
returns-in-Err-clause-basis g c =
    c.replace.ensures.basis ∙ ap (λ (b : List ℕ). set b c.args.row c.args.column) c.in-Err.ensures.begun.basis
    ∙ set_twice c.args.self.now.basis c.args.row (spare_column c.args.self.now.columns (positions c.args.self.now))
    c.args.column

pub returns-in-Err-clause-broken : goal.returns-in-Err-clause-broken
returns-in-Err-clause-broken g c =
    let t = c.args.self.now in
    let half = c.pivot_or_open.new.self in
    let s = c.pivot_or_open.ensures.sized in
    let es : spare_column half.columns (positions half) ≡ spare_column t.columns (positions t) =
    omega (arith, s.positions, s.columns) in
    record {
      half = half;
      begun = c.in-Err.ensures.begun;
      columns_are = s.columns;
      told =
          subst (λ k. IsExchanged half c.replace.new.self c.args.row k c.args.column)
          (c.in-Err.ensures.begun.opened.spare ∙ es) c.replace.ensures.exchanged;
    }

pub returns-in-Err-clause-sized : goal.returns-in-Err-clause-sized
returns-in-Err-clause-sized g c = sized_after c.pivot_or_open.ensures.sized c.replace.ensures.sized
