use Rattle.std.proofs.Common.{◌≡◌, ℕ, ◌+◌, ◌^◌, ◌<◌, ◌∙◌, sym, subst, nat_abs, to_z, of_z, w64}
use Rattle.std.proofs.lemmas.Result.{on_ok_weaker, on_err_weaker}
use Rattle.std.proofs.lemmas.Int.{to_z-of_z}
use lib.IntN.{ℤ}
use Rattle.rob_simplex.specs.Lowering.{HasRefusedCost}
use Rattle.rob_simplex.proofs.Places.FreeColumns.{spare_free}
use Rattle.rob_simplex.proofs.CostChange.BasicColumns.{next_cleared, refused_wide, free1, alone1, clears1, has_way, basis_back, refused_back, cleared_in_place}
use Rattle.rob_simplex.proofs.Places.Sizes.{sized_after}
use Rattle.rob_simplex.proofs.Places.Views.{spare_told, free_as}
use Rattle.rob_simplex.proofs.dictionary.Dictionary.put_in_basic.Goals as goal

pub replace-requires-clause-free : goal.replace-requires-clause-free
replace-requires-clause-free g c =
    spare_free c.requires.stands.1 (c.columns-n.result + c.positions-m.result + 3)
    (spare_told c.args.self.now c.columns-n.ensures.columns c.positions-m.ensures.positions)

-- its position is open
pub lower_and_clear-cleared-requires : goal.lower_and_clear-cleared-requires
lower_and_clear-cleared-requires g c =
    let P = c.requires.stands.0 in
    let h = c.requires.stands.1 in
    let es = spare_told c.args.self.now c.columns-n.ensures.columns c.positions-m.ensures.positions in
    let basic = c.requires.basic in
    let t1 = c.replace.new.self in
    let r = c.replace.ensures in
    let seen : to_z w64 (of_z w64 c.args.factor) ≡ c.args.factor = to_z-of_z w64 c.args.factor c.ranges.factor in
    record {
      ready = record {
        clears = clears1 P c.args.column h basic es t1 r.basis r.sized.columns r.rows r.kept;
        way = has_way P c.args.column h basic es t1 r.basis r.sized.columns r.rows;
        alone = alone1 P c.args.column h basic es t1 r.basis r.sized.columns r.rows;
        small = r.small;
        low = subst (λ (z : ℤ). nat_abs z < 2 ^ 62) (sym seen) c.requires.factor;
      };
    }

pub replace-requires-2-clause-free : goal.replace-requires-2-clause-free
replace-requires-2-clause-free g c =
    let h = c.requires.stands.1 in
    let t = c.args.self.now in
    let es = spare_told t c.columns-n.ensures.columns c.positions-m.ensures.positions in
    let r = c.replace.ensures in
    free_as c.lower_and_clear-cleared.ensures.sized.columns c.lower_and_clear-cleared.ensures.basis
    (free1 c.requires.stands.0 c.args.column h c.requires.basic es c.replace.new.self r.basis r.sized.columns r.rows)

pub returns-clause-put : goal.returns-clause-put
returns-clause-put g c P ef h =
    let t = c.args.self.now in
    let es = spare_told t c.columns-n.ensures.columns c.positions-m.ensures.positions in
    let basic = c.requires.basic in
    let t1 = c.replace.new.self in
    let r = c.replace.ensures in
    let t3 = c.lower_and_clear-cleared.new.self in
    let e3 = c.lower_and_clear-cleared.ensures in
    let t4 = c.replace-2.new.self in
    let e4 = c.replace-2.ensures in
    let factor = to_z w64 (of_z w64 c.args.factor) in
    on_ok_weaker c.lower_and_clear-cleared.result
    (λ x. next_cleared P c.args.column h basic factor (ef ∙ sym (to_z-of_z w64 c.args.factor c.ranges.factor)) t4
    (basis_back P c.args.column h basic es t1 r.basis r.sized.columns r.rows t3 t4 e3.basis e4.basis)
    (e4.sized.columns ∙ e3.sized.columns ∙ r.sized.columns)
    (cleared_in_place P c.args.column h basic es t1 r.basis r.sized.columns r.rows factor t3 t4 e3.basis
    e3.sized.columns x e4.rows))
    e3.cleared

pub returns-clause-wide : goal.returns-clause-wide
returns-clause-wide g c P ef h =
    let t = c.args.self.now in
    let es = spare_told t c.columns-n.ensures.columns c.positions-m.ensures.positions in
    let basic = c.requires.basic in
    let t1 = c.replace.new.self in
    let r = c.replace.ensures in
    let factor = to_z w64 (of_z w64 c.args.factor) in
    on_err_weaker c.lower_and_clear-cleared.result
    (λ x. refused_wide P c.args.column h basic factor (ef ∙ sym (to_z-of_z w64 c.args.factor c.ranges.factor)) t.limit
    (refused_back P c.args.column h basic es t1 r.basis r.sized.columns r.rows factor t.limit
    (subst (λ (l : ℕ). HasRefusedCost l t1 c.args.i c.args.column factor) r.sized.limit x)))
    c.lower_and_clear-cleared.ensures.wide

pub returns-clause-basis : goal.returns-clause-basis
returns-clause-basis g c =
    let h = c.requires.stands.1 in
    let t = c.args.self.now in
    let es = spare_told t c.columns-n.ensures.columns c.positions-m.ensures.positions in
    let r = c.replace.ensures in
    basis_back c.requires.stands.0 c.args.column h c.requires.basic es c.replace.new.self r.basis r.sized.columns r.rows
    c.lower_and_clear-cleared.new.self c.replace-2.new.self c.lower_and_clear-cleared.ensures.basis
    c.replace-2.ensures.basis

pub returns-clause-sized : goal.returns-clause-sized
returns-clause-sized g c =
    sized_after c.replace.ensures.sized (sized_after c.lower_and_clear-cleared.ensures.sized c.replace-2.ensures.sized)
