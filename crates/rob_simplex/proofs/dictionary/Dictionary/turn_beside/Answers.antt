use Rattle.std.proofs.Common.{◌≡◌, ◌+◌, ◌∙◌, ap, subst, arith}
use Rattle.rob_simplex.specs.Dictionaries.{Table, positions}
use Rattle.rob_simplex.proofs.Places.OwnEntries.{keeps_rows, keeps_positive, beside_positive}
use Rattle.rob_simplex.proofs.Turns.Ranks.{IsSmall}
use Rattle.rob_simplex.proofs.Places.EntryLemmas.{small_entries}
use Rattle.rob_simplex.proofs.Turns.FirstPhase.{negated_free, negated_closed, negated_positive, leaves_beside, stays_beside, falls_beside, open_beside}
use Rattle.rob_simplex.proofs.Places.Sizes.{sized_after}
use Rattle.rob_simplex.proofs.Leaving.KnownRows.{forgotten, known_pivoted, known_exchanged}
use Rattle.rob_simplex.proofs.dictionary.Dictionary.turn_beside.Goals as goal

pub pivot_or_open-requires : goal.pivot_or_open-requires
pivot_or_open-requires g c =
    let t = c.args.self.now in
    let h = c.requires.stands.1 in
    let first = c.requires.first in
    let t1 = c.negate.new.self in
    let r = c.negate.ensures in
    let em : c.len-m.result ≡ positions t =
    c.len-m.ensures ∙ c.self.inside.basis.ok.0 ∙ ap (λ (t : Table). positions t) c.self.view_is in
    let e = r.sized.positions in
    record {
      ready = record {
        row_in = omega (arith, h.holds.inside, h.rows_are, e);
        free = negated_free h first t1 r.basis r.sized.columns r.row r.others;
        apart = λ x. absurd (omega (arith, x, first.inside, r.sized.columns, e));
        closed = negated_closed h first t1 r.basis r.sized.columns r.row r.others;
        all = omega (arith, em, e);
        below = omega (arith, em, e);
        positive = negated_positive h first t1 r.basis r.sized.columns r.row r.others;
        own = keeps_rows (c.len-m.result + 1) c.args.q t t1 r.basis r.sized.columns r.others r.kept
            (keeps_positive (c.len-m.result + 1) c.args.q t (omega (arith, em))
            (beside_positive c.requires.stands.0 c.args.q t h));
      };
    }

pub least-requires : goal.least-requires
least-requires g c =
    let t = c.args.self.now in
    let h = c.requires.stands.1 in
    let first = c.requires.first in
    let r = c.negate.ensures in
    record {
      known =
          known_pivoted t c.negate.new.self c.pivot_or_open.new.self c.args.known.now c.spare.new.known c.args.q
          c.args.column r.sized c.pivot_or_open.ensures.sized (omega (arith, first.inside))
          (negated_positive h first c.negate.new.self r.basis r.sized.columns r.row r.others) r.others
          c.in-Ok.ensures.pivoted.pivoted c.requires.known c.spare.ensures.spared;
    }

pub returns-in-None-clause-turned : goal.returns-in-None-clause-turned
returns-in-None-clause-turned g c P h =
    let r = c.negate.ensures in
    let p = c.in-Ok.ensures.pivoted in
    leaves_beside h c.requires.first c.negate.new.self r.basis r.sized.columns r.row r.others
    c.pivot_or_open.new.self p.pivoted p.closed p.basis c.pivot_or_open.ensures.sized.columns
    c.in-None.ensures.least

pub returns-in-Some-clause-turned : goal.returns-in-Some-clause-turned
returns-in-Some-clause-turned g c P h =
    let t1 = c.negate.new.self in
    let r = c.negate.ensures in
    let p = c.in-Ok.ensures.pivoted in
    let s = c.pivot_or_open.ensures.sized in
    let x = c.exchange.ensures in
    let small : IsSmall c.args.self.now = subst IsSmall c.self.view_is (small_entries c.self.invariant) in (
      stays_beside h c.requires.first t1 r.basis r.sized.columns r.row r.others c.pivot_or_open.new.self p.pivoted
          p.closed p.basis s.columns c.in-Some.p c.in-Some.ensures.least
          c.exchange.new.self x.rows x.basis x.sized.positions x.sized.columns,
      falls_beside h c.requires.first t1 r.basis r.sized.columns r.row r.others c.pivot_or_open.new.self p.pivoted
          p.closed p.basis s.columns c.in-Some.p c.in-Some.ensures.least
          c.exchange.new.self x.rows x.basis x.sized.positions x.sized.columns (s.limit ∙ r.sized.limit) x.sized.limit
          small p.small,
    )

pub returns-in-Some-clause-known : goal.returns-in-Some-clause-known
returns-in-Some-clause-known g c =
    let x = c.exchange.ensures in
    known_exchanged c.pivot_or_open.new.self c.exchange.new.self c.least.new.known c.forget-in-Some.new.known c.args.q
    c.in-Some.p x.sized x.rows
    (forgotten c.least.new.known c.forget.new.known c.forget-in-Some.new.known c.args.q c.in-Some.p c.forget.ensures.off
    c.forget.ensures.others c.forget-in-Some.ensures.off c.forget-in-Some.ensures.others) c.in-Some.ensures.known

pub returns-in-None-clause-known : goal.returns-in-None-clause-known
returns-in-None-clause-known g c = c.in-None.ensures.known

pub returns-in-Err-clause-opened : goal.returns-in-Err-clause-opened
returns-in-Err-clause-opened g c P h =
    let r = c.negate.ensures in
    open_beside h c.requires.first c.negate.new.self r.basis r.sized.columns r.row r.others c.pivot_or_open.new.self
    c.in-Err.ensures.begun c.pivot_or_open.ensures.sized.columns

pub returns-in-None-clause-sized : goal.returns-in-None-clause-sized
returns-in-None-clause-sized g c = sized_after c.negate.ensures.sized c.pivot_or_open.ensures.sized

pub returns-in-Some-clause-sized : goal.returns-in-Some-clause-sized
returns-in-Some-clause-sized g c =
    sized_after c.negate.ensures.sized (sized_after c.pivot_or_open.ensures.sized c.exchange.ensures.sized)

pub returns-in-Err-clause-sized : goal.returns-in-Err-clause-sized
returns-in-Err-clause-sized g c = sized_after c.negate.ensures.sized c.pivot_or_open.ensures.sized
