use Rattle.std.proofs.Common.{◌+◌, ◌<◌, ◌≤◌, refl, subst, arith}
use Rattle.rob_simplex.specs.Dictionaries.{positions}
use Rattle.rob_simplex.proofs.Turns.Ranks.{IsSmall}
use Rattle.rob_simplex.proofs.Turns.SecondPhase.{entering_free, not_spare, turn_second, turns_on, turns_fall, wide_second, ends_optimal}
use Rattle.rob_simplex.proofs.Places.EntryLemmas.{small_entries}
use Rattle.rob_simplex.proofs.Telling.JudgingLemmas.{stands_own}
use Rattle.rob_simplex.proofs.Places.OwnEntries.{own_positive, keeps_positive}
use Rattle.rob_simplex.proofs.Places.Views.{positions_told, first_told, none_told}
use Rattle.rob_simplex.proofs.dictionary.Dictionary.advance.Goals as goal

pub returns-in_default-clause-turned : goal.returns-in_default-clause-turned
returns-in_default-clause-turned g c P h =
    let t = c.args.self.now in
    let em = positions_told c.self.view_is c.len-m.ensures c.self.inside.basis.ok.0 in (
      refl,
      ends_optimal P t h (none_told t em c.in_default.ensures.first),
    )

pub pivot-requires : goal.pivot-requires
pivot-requires g c =
    let t = c.args.self.now in
    let em = positions_told c.self.view_is c.len-m.ensures c.self.inside.basis.ok.0 in
    let first = first_told t em c.in-Some.ensures.first in
    let h = c.requires.stands.1 in
    let leaves = c.in-Some-leaving.ensures.first in
    record {
      ready = record {
        row_in = leaves.inside;
        free = entering_free h first;
        apart = not_spare h first;
        closed = h.closed;
        all = omega (arith, em);
        below = omega (arith, em);
        positive = leaves.positive;
        own =
            keeps_positive (c.len-m.result + 1) c.in-Some-leaving.row t (omega (arith, em))
            (own_positive t (stands_own c.requires.stands.0 t h));
      };
    }

pub returns-in-Ok-clause-turned : goal.returns-in-Ok-clause-turned
returns-in-Ok-clause-turned g c P h =
    let t = c.args.self.now in
    let em = positions_told c.self.view_is c.len-m.ensures c.self.inside.basis.ok.0 in
    let first = first_told t em c.in-Some.ensures.first in
    let leaves = c.in-Some-leaving.ensures.first in
    let small : IsSmall t = subst IsSmall c.self.view_is (small_entries c.self.invariant) in
    let p = c.in-Ok.ensures.pivoted in
    let eb = c.pivot.ensures.basis in
    let sized = c.pivot.ensures.sized in (
      turn_second h first leaves c.pivot.new.self p.pivoted p.closed eb sized.columns,
      turns_on h first leaves c.pivot.new.self eb,
      turns_fall h first leaves c.pivot.new.self p.pivoted p.closed eb sized.columns sized.limit small
          c.pivot.ensures.small,
    )

pub returns-in-Err-clause-wide : goal.returns-in-Err-clause-wide
returns-in-Err-clause-wide g c P h =
    let t = c.args.self.now in
    let em = positions_told c.self.view_is c.len-m.ensures c.self.inside.basis.ok.0 in
    let first = first_told t em c.in-Some.ensures.first in
    let no = c.in-Err.ensures.refused in
    let below : c.in-Err.i < c.len-m.result + 1 = no.inside in
    let il : c.in-Err.i ≤ positions t = omega arith in
    wide_second h first c.in-Some-leaving.ensures.first t.limit c.in-Err.i il no.other (no.wide il) c.pivot.new.self
    c.pivot.ensures.basis

pub returns-in-Err-clause-position : goal.returns-in-Err-clause-position
returns-in-Err-clause-position g c =
    let em = positions_told c.self.view_is c.len-m.ensures c.self.inside.basis.ok.0 in
    let below : c.in-Err.i < c.len-m.result + 1 = c.in-Err.ensures.refused.inside in
    omega arith

pub returns-in-Err-clause-begun : goal.returns-in-Err-clause-begun
returns-in-Err-clause-begun g c =
    let t = c.args.self.now in
    let em = positions_told c.self.view_is c.len-m.ensures c.self.inside.basis.ok.0 in
    record {
      before = t;
      stood = refl;
      column = c.in-Some.column;
      enters = first_told t em c.in-Some.ensures.first;
      leaves = c.in-Some-leaving.ensures.first;
      broken = c.in-Err.ensures.broken;
    }
