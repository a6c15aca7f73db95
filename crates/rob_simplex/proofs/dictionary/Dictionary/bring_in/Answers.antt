use Rattle.std.proofs.Common.{◌≡◌, ℕ, ◌+◌, ◌∙◌, sym, ap, subst, arith, min}
use Rattle.rob_simplex.specs.Dictionaries.{positions, columns_of}
use Rattle.rob_simplex.specs.Explicit.{IsPrepared, StopsFirst}
use Rattle.rob_simplex.proofs.Turns.Prepared.{prepared}
use Rattle.rob_simplex.proofs.Turns.ExplicitStart.{open_free, open_size, ready_free, begins_back, begins_refused, back_basis, back_columns}
use Rattle.rob_simplex.proofs.Places.OwnEntries.{clears_prepared}
use Rattle.rob_simplex.proofs.Places.Sizes.{sized_after}
use Rattle.rob_simplex.proofs.Places.Views.{auxiliary_told, auxiliary_free, free_as}
use Rattle.rob_simplex.proofs.dictionary.Dictionary.bring_in.Given.{Over}
use Rattle.rob_simplex.proofs.dictionary.Dictionary.bring_in.Goals.{After-write_auxiliary}
use Rattle.rob_simplex.proofs.dictionary.Dictionary.bring_in.Goals as goal

-- the cost's row is kept, and the objective's is that of the auxiliary objective
prepared_here : (g : Over) (c : After-write_auxiliary g)
    → IsPrepared c.args.self.now.columns (positions c.args.self.now) c.args.self.now c.write_auxiliary.new.self
prepared_here g c =
    let k = c.keep_objective.ensures in
    let w = c.write_auxiliary.ensures in
    prepared c.args.self.now c.keep_objective.new.self c.write_auxiliary.new.self k.kept k.rows k.basis
    k.sized.columns w.auxiliary w.own w.zero w.rows w.kept w.basis w.sized.columns

pub write_auxiliary-requires : goal.write_auxiliary-requires
write_auxiliary-requires g c =
    let k = c.keep_objective.ensures in
    record { free = auxiliary_free k.sized.columns k.basis (open_free c.requires.opened.1) }

pub clear_others-cleared-requires : goal.clear_others-cleared-requires
clear_others-cleared-requires g c =
    let t = c.args.self.now in
    let em = c.positions-m.ensures.positions in
    let is = auxiliary_told t c.columns-n.ensures.columns em in
    let prep = prepared_here g (goal.at.clear_others-cleared-requires g c).After-write_auxiliary in
    record {
      ready =
          clears_prepared c.requires.opened.1 c.write_auxiliary.new.self prep
          (c.columns-n.result + c.positions-m.result) is (omega (arith, em));
    }

pub replace-requires : goal.replace-requires
replace-requires g c =
    let t = c.args.self.now in
    let h = c.requires.opened.1 in
    let k = c.keep_objective.ensures in
    let w = c.write_auxiliary.ensures in
    let e = c.clear_others-cleared.ensures in
    let is = auxiliary_told t c.columns-n.ensures.columns c.positions-m.ensures.positions in
    let prep = prepared_here g (goal.at.replace-requires g c).After-write_auxiliary in
    record {
      row_in =
          omega (arith, h.stood.holds.inside, open_size h, k.sized.positions, w.sized.positions, e.sized.positions);
      free = free_as e.sized.columns e.basis (ready_free h prep is);
    }

pub returns-in-Ok-clause-ended : goal.returns-in-Ok-clause-ended
returns-in-Ok-clause-ended g c P h =
    let t = c.args.self.now in
    let e3 = c.clear_others-cleared.ensures in
    let e4 = c.replace.ensures in
    let em = c.positions-m.ensures.positions in
    let is = auxiliary_told t c.columns-n.ensures.columns em in
    let prep = prepared_here g (goal.at.returns-in-Ok-clause-ended g c).After-write_auxiliary in
    begins_back h prep is c.clear_others-cleared.new.self c.replace.new.self e3.basis e3.sized.columns e4.basis
    e4.sized.columns e4.rows e4.kept (c.positions-m.result + 2) (omega (arith, em)) c.in-Ok.ensures.cleared

pub returns-in-Err-clause-ended : goal.returns-in-Err-clause-ended
returns-in-Err-clause-ended g c P h =
    let t = c.args.self.now in
    let k = c.keep_objective.ensures in
    let w = c.write_auxiliary.ensures in
    let em = c.positions-m.ensures.positions in
    let is = auxiliary_told t c.columns-n.ensures.columns em in
    let prep = prepared_here g (goal.at.returns-in-Err-clause-ended g c).After-write_auxiliary in
    let t3 = c.clear_others-cleared.new.self in
    let e3 = c.clear_others-cleared.ensures in
    let t4 = c.replace.new.self in
    let e4 = c.replace.ensures in
    let sp = c.in-Err.ensures.stopped in
    let e : min c.in-Err.i (positions t) ≡ c.min.result = ap (λ k. min c.in-Err.i k) (sym em) ∙ sym c.min.ensures in
    subst (λ v. StopsFirst t.limit P (columns_of t4.basis) v) e
    (subst (λ (l : ℕ). StopsFirst l P (columns_of t4.basis) (min c.in-Err.i (positions t)))
    (w.sized.limit ∙ k.sized.limit)
    (begins_refused h prep is t4
    (back_basis h prep is t3 t4 e3.basis e3.sized.columns e4.basis e4.sized.columns)
    (back_columns h prep is t3 t4 e3.basis e3.sized.columns e4.basis e4.sized.columns)
    c.write_auxiliary.new.self.limit c.in-Err.i (omega (arith, em, sp.inside)) sp.other sp.wide sp.wide_kept))

pub returns-in-Ok-clause-sized : goal.returns-in-Ok-clause-sized
returns-in-Ok-clause-sized g c =
    sized_after c.keep_objective.ensures.sized
    (sized_after c.write_auxiliary.ensures.sized
    (sized_after c.clear_others-cleared.ensures.sized c.replace.ensures.sized))

pub returns-in-Err-clause-sized : goal.returns-in-Err-clause-sized
returns-in-Err-clause-sized g c =
    sized_after c.keep_objective.ensures.sized
    (sized_after c.write_auxiliary.ensures.sized
    (sized_after c.clear_others-cleared.ensures.sized c.replace.ensures.sized))
