use Rattle.std.proofs.Common.{◌≡◌, ◌+◌, suc, ◌∙◌, ap, sym, subst, arith, OnOk, OnErr, to_z, of_z, w64}
use Rattle.std.proofs.lemmas.Result.{on_ok_weaker, on_err_weaker}
use Rattle.std.proofs.lemmas.Int.{ints, to_z-of_z}
use lib.Signed.{◌<ℤ◌}
use Rattle.rob_table.specs.Lowering.{IsLowered, IsWideLowered}
use Rattle.rob_simplex.proofs.Telling.JudgingLemmas.{stands_own}
use lib.IntN.{ℤ, pos}
use Rattle.rob_linear.specs.Stages.{truncated}
use Rattle.rob_simplex.specs.Dictionaries.{positions, width_of, rows_of}
use Rattle.rob_simplex.specs.Lowering.{amount_of}
use Rattle.rob_simplex.proofs.Places.Positions.{position_is, position_not}
use Rattle.rob_simplex.proofs.Places.FreeColumns.{way_free, way_zero, column_free}
use Rattle.rob_simplex.proofs.CostChange.NewCosts.{nothing_put}
use Rattle.rob_simplex.proofs.CostChange.CostStages.{half_wide, next_lowered}
use Rattle.rob_simplex.proofs.dictionary.Dictionary.put_in.Goals as goal

pub lower-requires-clause-ready : goal.lower-requires-clause-ready
lower-requires-clause-ready g c =
    let h = c.requires.stands.1 in
    let o : pos 0 <ℤ rows_of c.args.self.now (positions c.args.self.now)
    (suc (c.args.self.now.columns + positions c.args.self.now)) =
    (stands_own (truncated c.requires.stands.0 c.args.column) c.args.self.now c.requires.stands.1).objective in
    record {
      way = record {
        free =
            column_free h c.args.column c.requires.column_in
            (position_not c.args.self.now.basis c.args.column c.in-None.ensures.position);
        way = way_free h;
        other = λ e. absurd (omega (arith, e, c.requires.column_in));
        zero = way_zero h;
      };
      own = λ z. absurd (omega (arith, ints));
    }

pub put_in_basic-requires-clause-basic : goal.put_in_basic-requires-clause-basic
put_in_basic-requires-clause-basic g c =
    let found = position_is c.args.self.now.basis c.args.column c.in-Some.i c.in-Some.ensures.position in
    record { column_in = c.requires.column_in; row_in = found.0; column_is = found.1 }

pub returns-then-factor-eq0-clause-put : goal.returns-then-factor-eq0-clause-put
returns-then-factor-eq0-clause-put g c P ef h =
    let zero : c.args.factor ≡ pos 0 =
    sym (to_z-of_z w64 c.args.factor c.ranges.factor) ∙ ap (to_z w64) c.if-factor-eq0.true in
    nothing_put P c.args.column (omega (arith, c.requires.column_in, h.columns_are)) c.args.self.now h (ef ∙ zero)

pub returns-in-None-clause-put : goal.returns-in-None-clause-put
returns-in-None-clause-put g c P ef h =
    let seen : to_z w64 (of_z w64 c.args.factor) ≡ c.args.factor = to_z-of_z w64 c.args.factor c.ranges.factor in
    on_ok_weaker c.lower.result
    (next_lowered P c.args.column (omega (arith, c.requires.column_in, h.columns_are)) c.args.self.now h c.args.factor
    ef c.lower.new.self c.lower.ensures.basis c.lower.ensures.sized.columns
    (position_not c.args.self.now.basis c.args.column c.in-None.ensures.position) c.lower.ensures.rows)
    (subst (λ (z : ℤ). OnOk c.lower.result
    (IsLowered (width_of c.args.self.now) c.args.column (amount_of c.args.self.now z)
    (rows_of c.args.self.now (positions c.args.self.now)) (rows_of c.lower.new.self (positions c.args.self.now)))) seen
    c.lower.ensures.lowered)

pub returns-in-None-clause-wide : goal.returns-in-None-clause-wide
returns-in-None-clause-wide g c P ef h =
    let seen : to_z w64 (of_z w64 c.args.factor) ≡ c.args.factor = to_z-of_z w64 c.args.factor c.ranges.factor in
    on_err_weaker c.lower.result
    (half_wide P c.args.column (omega (arith, c.requires.column_in, h.columns_are)) c.args.self.now h
    c.args.self.now.limit c.args.factor ef)
    (subst (λ (z : ℤ). OnErr c.lower.result
    (IsWideLowered c.args.self.now.limit (width_of c.args.self.now) c.args.column (amount_of c.args.self.now z)
    (rows_of c.args.self.now (positions c.args.self.now)))) seen c.lower.ensures.wide)

pub returns-in-Some-clause-put : goal.returns-in-Some-clause-put
returns-in-Some-clause-put g c P ef h =
    let seen : to_z w64 (of_z w64 c.args.factor) ≡ c.args.factor = to_z-of_z w64 c.args.factor c.ranges.factor in
    c.put_in_basic.ensures.put P (ef ∙ sym seen) h

pub returns-in-Some-clause-wide : goal.returns-in-Some-clause-wide
returns-in-Some-clause-wide g c P ef h =
    let seen : to_z w64 (of_z w64 c.args.factor) ≡ c.args.factor = to_z-of_z w64 c.args.factor c.ranges.factor in
    c.put_in_basic.ensures.wide P (ef ∙ sym seen) h
