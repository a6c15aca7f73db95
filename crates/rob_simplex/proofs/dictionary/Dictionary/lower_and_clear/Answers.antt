use Rattle.std.proofs.Common.{◌≡◌, ℕ, ◌+◌, ◌∙◌, ap, subst, arith, inl, to_z, of_z, w64}
use Rattle.std.proofs.lemmas.Int.{to_z-of_z}
use lib.IntN.{ℤ}
use Rattle.rob_table.specs.Lowering.{IsLowered, IsWideLowered}
use Rattle.rob_simplex.specs.Dictionaries.{Table, positions, width_of, rows_of, StopsTable}
use Rattle.rob_simplex.specs.Lowering.{amount_of}
use Rattle.rob_rows.proofs.Reductions.{on_err}
use Rattle.rob_simplex.proofs.Places.OwnEntries.{keeps_lowered}
use Rattle.rob_simplex.proofs.Rows.ReadRows.{basic_high}
use Rattle.rob_simplex.proofs.CostChange.ClearedObjective.{free2, open2, positive2, objective_cleared, objective_refused}
use Rattle.rob_simplex.proofs.Places.Sizes.{sized_after}
use Rattle.rob_simplex.proofs.dictionary.Dictionary.lower_and_clear.Goals as goal

pub lower-requires-clause-ready : goal.lower-requires-clause-ready
lower-requires-clause-ready g c =
    let t = c.args.self.now in
    let a = c.requires.ready.clears in
    record {
      way = c.requires.ready.way;
      own = λ z.
          a.own.rows (positions t) (omega arith) (omega arith) (λ e. absurd (omega (arith, e, a.row_in)))
          (ap (rows_of t (positions t)) (basic_high t.columns t.basis (positions t) (omega arith)) ∙ z);
    }

pub clear_others-requires : goal.clear_others-requires
clear_others-requires g c =
    let t = c.args.self.now in
    let t2 = c.lower.new.self in
    let a = c.requires.ready.clears in
    let l = c.lower.ensures in
    let em : c.len-m.result ≡ positions c.lower.new.self =
    c.len-m.ensures ∙ c.self.inside.basis.ok.0 ∙ ap (λ (t : Table). positions t) c.self.view_is in
    let seen : to_z w64 (of_z w64 c.args.factor) ≡ c.args.factor = to_z-of_z w64 c.args.factor c.ranges.factor in
    let lowered =
    subst (λ (z : ℤ). IsLowered (width_of t) c.args.column (amount_of t z) (rows_of t (positions t))
    (rows_of t2 (positions t))) seen c.in_ok-lower.ensures.lowered in
    record {
      ready = record {
        row_in = omega (arith, a.row_in, l.sized.positions);
        free = free2 a t2 l.basis l.sized.columns l.rows;
        opened = open2 a t2 l.basis l.sized.columns l.rows;
        below = omega (arith, em);
        positive = positive2 a t2 l.basis l.sized.columns l.rows;
        own =
            keeps_lowered c.args.i c.args.column (amount_of t c.args.factor) t t2 a.row_in a.free l.basis
            l.sized.columns l.rows lowered a.own (c.len-m.result + 1) (omega (arith, em, l.sized.positions));
      };
    }

pub returns-in-Ok-clause-cleared : goal.returns-in-Ok-clause-cleared
returns-in-Ok-clause-cleared g c =
    let t = c.args.self.now in
    let l = c.lower.ensures in
    let em : c.len-m.result ≡ positions c.lower.new.self =
    c.len-m.ensures ∙ c.self.inside.basis.ok.0 ∙ ap (λ (t : Table). positions t) c.self.view_is in
    let seen : to_z w64 (of_z w64 c.args.factor) ≡ c.args.factor = to_z-of_z w64 c.args.factor c.ranges.factor in
    let lowered =
    subst (λ (z : ℤ). IsLowered (width_of t) c.args.column (amount_of t z) (rows_of t (positions t))
    (rows_of c.lower.new.self (positions t))) seen c.in_ok-lower.ensures.lowered in
    objective_cleared c.requires.ready.clears c.lower.new.self l.basis l.sized.columns l.rows c.args.factor lowered
    (c.len-m.result + 1) (omega (arith, em, l.sized.positions))
    c.clear_others.new.self c.in-Ok.ensures.cleared

pub returns-in-Err-clause-wide : goal.returns-in-Err-clause-wide
returns-in-Err-clause-wide g c =
    let t = c.args.self.now in
    let l = c.lower.ensures in
    let em : c.len-m.result ≡ positions c.lower.new.self =
    c.len-m.ensures ∙ c.self.inside.basis.ok.0 ∙ ap (λ (t : Table). positions t) c.self.view_is in
    let seen : to_z w64 (of_z w64 c.args.factor) ≡ c.args.factor = to_z-of_z w64 c.args.factor c.ranges.factor in
    let lowered =
    subst (λ (z : ℤ). IsLowered (width_of t) c.args.column (amount_of t z) (rows_of t (positions t))
    (rows_of c.lower.new.self (positions t))) seen c.in_ok-lower.ensures.lowered in
    objective_refused c.requires.ready.clears c.lower.new.self l.basis l.sized.columns l.rows c.args.factor lowered
    (c.len-m.result + 1) (omega (arith, em, l.sized.positions))
    c.clear_others.new.self t.limit c.in-Err.field-0 c.requires.ready.alone c.requires.ready.small
    (subst (λ (l : ℕ). StopsTable l (c.len-m.result + 1) c.lower.new.self c.clear_others.new.self c.args.i c.args.column
    c.in-Err.field-0) l.sized.limit c.in-Err.ensures.stopped)

pub returns-in_err-lower-clause-wide : goal.returns-in_err-lower-clause-wide
returns-in_err-lower-clause-wide g c =
    let t = c.args.self.now in
    let seen : to_z w64 (of_z w64 c.args.factor) ≡ c.args.factor = to_z-of_z w64 c.args.factor c.ranges.factor in
    on_err c.from_residual.result
    (inl (subst (λ (z : ℤ). IsWideLowered t.limit (width_of t) c.args.column (amount_of t z) (rows_of t (positions t)))
    seen c.in_err-lower.ensures.wide))

pub returns-in-Ok-clause-sized : goal.returns-in-Ok-clause-sized
returns-in-Ok-clause-sized g c = sized_after c.lower.ensures.sized c.clear_others.ensures.sized

pub returns-in-Err-clause-sized : goal.returns-in-Err-clause-sized
returns-in-Err-clause-sized g c = sized_after c.lower.ensures.sized c.clear_others.ensures.sized
