use Rattle.std.proofs.Common.{◌≡◌, ℕ, ◌+◌, ◌<◌, ◌∙◌, sym, ap, subst, arith, List, pos, min, nat_eq}
use Rattle.std.specs.Prelude.{◌≢◌}
use Rattle.std.proofs.lemmas.Bool.Decides.{nat_tests}
use lib.Signed.{◌≤ℤ◌}
use Rattle.rob_simplex.specs.Dictionaries.{Table, positions, columns_of, basic_columns, rows_of}
use Rattle.rob_simplex.specs.Explicit.{EndsExplicit, HasTurnedExplicit, StopsFirst}
use Rattle.rob_simplex.proofs.Turns.Ranks.{IsSmall}
use Rattle.rob_simplex.proofs.Places.EntryLemmas.{small_entries}
use Rattle.rob_simplex.proofs.Places.OwnEntries.{keeps_explicit}
use Rattle.rob_simplex.proofs.Turns.ExplicitTurns.{explicit_own, explicit_free, explicit_not_spare, explicit_bounded, explicit_turned, explicit_refused, kept_spare}
use Rattle.rob_simplex.proofs.Places.Views.{positions_told, first_told, none_told}
use Rattle.rob_simplex.proofs.dictionary.Dictionary.turn_explicit.Goals as goal

pub first_negative-requires-clause-own : goal.first_negative-requires-clause-own
first_negative-requires-clause-own g c =
    let t = c.args.self.now in
    let em = positions_told c.self.view_is c.len-m.ensures c.self.inside.basis.ok.0 in
    subst (λ (i : ℕ). pos 0 ≤ℤ rows_of t i (basic_columns t.columns t.basis i)) (sym em)
    (explicit_own c.requires.stands.1.holds)

pub returns-in_default-clause-turned : goal.returns-in_default-clause-turned
returns-in_default-clause-turned g c P h =
    let t = c.args.self.now in
    let em = positions_told c.self.view_is c.len-m.ensures c.self.inside.basis.ok.0 in
    let none = none_told t em c.in_default.ensures.first in
    let ends : EndsExplicit P t = record {
      stands = h;
      none =
          λ k l. subst (λ i. pos 0 ≤ℤ rows_of t i k) h.holds.rows_are
          (none k (omega (arith, h.holds.rows_are, h.holds.columns_are)));
    } in
    ends

pub returns-in_default-leaving-clause-turned : goal.returns-in_default-leaving-clause-turned
returns-in_default-leaving-clause-turned g c P h =
    let t = c.args.self.now in
    let em = positions_told c.self.view_is c.len-m.ensures c.self.inside.basis.ok.0 in
    let first = first_told t em c.in-Some.ensures.first in
    absurd (explicit_bounded h.holds first c.in_default-leaving.ensures.first)

pub pivot-requires : goal.pivot-requires
pivot-requires g c =
    let t = c.args.self.now in
    let em = positions_told c.self.view_is c.len-m.ensures c.self.inside.basis.ok.0 in
    let first = first_told t em c.in-Some.ensures.first in
    let he = c.requires.stands.1.holds in
    let leaves = c.in-Some-leaving.ensures.first in
    record {
      ready = record {
        row_in = leaves.inside;
        free = explicit_free he first;
        apart = explicit_not_spare he first;
        closed = he.closed;
        all = omega (arith, em);
        below = omega (arith, em);
        positive = leaves.positive;
        own = keeps_explicit c.requires.stands.0 (c.len-m.result + 2) c.in-Some-leaving.row t he;
      };
    }

pub returns-in-Ok-clause-turned : goal.returns-in-Ok-clause-turned
returns-in-Ok-clause-turned g c P h =
    let t = c.args.self.now in
    let em = positions_told c.self.view_is c.len-m.ensures c.self.inside.basis.ok.0 in
    let en : c.self.inside.columns ≡ t.columns = ap (λ (t : Table). t.columns) c.self.view_is in
    let first = first_told t em c.in-Some.ensures.first in
    let small : IsSmall t = subst IsSmall c.self.view_is (small_entries c.self.invariant) in
    let el : c.basic-left.result ≡ columns_of t.basis c.in-Some-leaving.row = c.basic-left.ensures.column in
    let er : t.columns ≡ P.n = h.holds.columns_are in
    let es : positions t ≡ P.m = h.holds.rows_are in
    let ea : c.self.inside.columns + c.len-m.result ≡ P.n + P.m = omega arith in
    let p = c.in-Ok.ensures.pivoted in
    let sized = c.pivot.ensures.sized in
    subst (λ v. HasTurnedExplicit P v t c.pivot.new.self) (sym c.after.ensures.turn)
    (explicit_turned h.holds first c.in-Some-leaving.ensures.first c.pivot.new.self p.pivoted p.closed
    (p.kept (kept_spare h.holds) (omega (arith, em))) c.pivot.ensures.basis sized.columns h.auxiliary
    sized.limit small c.pivot.ensures.small (nat_eq c.basic-left.result (c.self.inside.columns + c.len-m.result))
    (λ y. let z : c.basic-left.result ≡ c.self.inside.columns + c.len-m.result =
    grind (arith, nat_tests) in sym el ∙ z ∙ ea)
    (λ y w. let z : c.basic-left.result ≢ c.self.inside.columns + c.len-m.result =
    grind (arith, nat_tests) in z (el ∙ w ∙ sym ea)))

pub returns-in-Err-clause-wide : goal.returns-in-Err-clause-wide
returns-in-Err-clause-wide g c P h =
    let t = c.args.self.now in
    let em = positions_told c.self.view_is c.len-m.ensures c.self.inside.basis.ok.0 in
    let first = first_told t em c.in-Some.ensures.first in
    let no = c.in-Err.ensures.refused in
    let below : c.in-Err.i < c.len-m.result + 2 = no.inside in
    let e : min c.in-Err.i (positions t) ≡ c.min.result = ap (λ k. min c.in-Err.i k) (sym em) ∙ sym c.min.ensures in
    subst (λ v. StopsFirst t.limit P (columns_of c.pivot.new.self.basis) v) e
    (subst (λ (b : List ℕ). StopsFirst t.limit P (columns_of b) (min c.in-Err.i (positions t)))
    (sym c.pivot.ensures.basis)
    (explicit_refused h.holds first c.in-Some-leaving.ensures.first t.limit h.auxiliary c.in-Err.i
    (omega (arith, em, below)) no.other no.wide (no.wide_kept (kept_spare h.holds))))
