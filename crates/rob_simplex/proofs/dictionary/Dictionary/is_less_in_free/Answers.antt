use Rattle.std.proofs.Common.{◌≡◌, ◌≢◌, ℕ, ◌+◌, ◌<◌, ◌≤◌, sym, subst, arith, length, get_or, pos}
use Rattle.rob_simplex.specs.Dictionaries.{Table, positions, columns_of, rows_of}
use Rattle.rob_simplex.proofs.Places.EntryLemmas.{zero_beside}
use Rattle.rob_simplex.proofs.Leaving.Ties.{tied_more, tied_all, tied_below}
use Rattle.rob_simplex.proofs.dictionary.Dictionary.is_less_in_free.Goals as goal

pub loop-k-preserved : goal.loop-k-preserved
loop-k-preserved g c =
    tied_more c.args.self.now c.args.rows.i c.args.rows.e (g.E.Entry.value c.args.rows.p)
    (g.E.Entry.value c.args.rows.q) c.args.before
    c.args.free.slacks.now c.loop-k.k-index c.loop-k.invariant (λ l. c.in-None.ensures.order)

pub returns-in-Some : goal.returns-in-Some
returns-in-Some g c =
    let il = subst (λ (t : Table). c.args.rows.i < positions t) (sym c.self.view_is) c.requires.i_in in
    let el = subst (λ (t : Table). c.args.rows.e < positions t) (sym c.self.view_is) c.requires.e_in in
    let few : c.args.free.seen ≤ positions c.args.self.now = c.requires.free.within in
    let low : c.args.before ≤ c.args.free.seen = c.requires.before_in in
    let room : c.args.before ≤ length c.self.inside.basis.items =
    subst (λ (t : Table). c.args.before ≤ positions t) (sym c.self.view_is) (omega arith) in
    let zero_i =
    subst (λ (t : Table). ((k : ℕ) → k < c.args.before → columns_of t.basis c.args.rows.i ≢ t.columns + k) → (k : ℕ)
    → k < c.args.before → t.columns + 3 ≤ columns_of t.places (t.columns + k)
    → rows_of t c.args.rows.i (t.columns + k) ≡ pos 0) c.self.view_is
    (zero_beside c.self.invariant c.args.rows.i (omega arith) c.args.before il room) c.requires.not_i in
    let zero_e =
    subst (λ (t : Table). ((k : ℕ) → k < c.args.before → columns_of t.basis c.args.rows.e ≢ t.columns + k) → (k : ℕ)
    → k < c.args.before → t.columns + 3 ≤ columns_of t.places (t.columns + k)
    → rows_of t c.args.rows.e (t.columns + k) ≡ pos 0) c.self.view_is
    (zero_beside c.self.invariant c.args.rows.e (omega arith) c.args.before el room) c.requires.not_e in
    let there : c.loop-k.k-index < length c.args.free.slacks.now = omega arith in
    let k = get_or c.args.free.slacks.now c.loop-k.k-index 0 in
    let kl : get_or c.args.free.slacks.now c.loop-k.k-index 0 < c.args.before = omega (arith, c.if-before-k.false) in
    record {
      order = (
        k,
        omega arith,
        tied_below c.args.self.now c.args.rows.i c.args.rows.e (g.E.Entry.value c.args.rows.p)
            (g.E.Entry.value c.args.rows.q)
            c.args.free.seen c.args.before c.args.free.slacks.now c.requires.free low zero_i zero_e c.loop-k.k-index
            (get_or c.args.free.slacks.now c.loop-k.k-index 0) there (omega arith) (omega arith) c.loop-k.invariant,
        c.in-Some.ensures.order,
      );
    }

pub returns-then-before-k : goal.returns-then-before-k
returns-then-before-k g c =
    let il = subst (λ (t : Table). c.args.rows.i < positions t) (sym c.self.view_is) c.requires.i_in in
    let el = subst (λ (t : Table). c.args.rows.e < positions t) (sym c.self.view_is) c.requires.e_in in
    let few : c.args.free.seen ≤ positions c.args.self.now = c.requires.free.within in
    let low : c.args.before ≤ c.args.free.seen = c.requires.before_in in
    let room : c.args.before ≤ length c.self.inside.basis.items =
    subst (λ (t : Table). c.args.before ≤ positions t) (sym c.self.view_is) (omega arith) in
    let zero_i =
    subst (λ (t : Table). ((k : ℕ) → k < c.args.before → columns_of t.basis c.args.rows.i ≢ t.columns + k) → (k : ℕ)
    → k < c.args.before → t.columns + 3 ≤ columns_of t.places (t.columns + k)
    → rows_of t c.args.rows.i (t.columns + k) ≡ pos 0) c.self.view_is
    (zero_beside c.self.invariant c.args.rows.i (omega arith) c.args.before il room) c.requires.not_i in
    let zero_e =
    subst (λ (t : Table). ((k : ℕ) → k < c.args.before → columns_of t.basis c.args.rows.e ≢ t.columns + k) → (k : ℕ)
    → k < c.args.before → t.columns + 3 ≤ columns_of t.places (t.columns + k)
    → rows_of t c.args.rows.e (t.columns + k) ≡ pos 0) c.self.view_is
    (zero_beside c.self.invariant c.args.rows.e (omega arith) c.args.before el room) c.requires.not_e in
    let there : c.loop-k.k-index < length c.args.free.slacks.now = omega arith in
    let past : c.args.before ≤ get_or c.args.free.slacks.now c.loop-k.k-index 0 = omega (arith, c.if-before-k.true) in
    record {
      order =
          tied_below c.args.self.now c.args.rows.i c.args.rows.e (g.E.Entry.value c.args.rows.p)
          (g.E.Entry.value c.args.rows.q)
          c.args.free.seen c.args.before c.args.free.slacks.now c.requires.free low zero_i zero_e c.loop-k.k-index
          c.args.before
          there (omega arith) past c.loop-k.invariant;
    }

pub returns : goal.returns
returns g c =
    let il = subst (λ (t : Table). c.args.rows.i < positions t) (sym c.self.view_is) c.requires.i_in in
    let el = subst (λ (t : Table). c.args.rows.e < positions t) (sym c.self.view_is) c.requires.e_in in
    let few : c.args.free.seen ≤ positions c.args.self.now = c.requires.free.within in
    let low : c.args.before ≤ c.args.free.seen = c.requires.before_in in
    let room : c.args.before ≤ length c.self.inside.basis.items =
    subst (λ (t : Table). c.args.before ≤ positions t) (sym c.self.view_is) (omega arith) in
    let zero_i =
    subst (λ (t : Table). ((k : ℕ) → k < c.args.before → columns_of t.basis c.args.rows.i ≢ t.columns + k) → (k : ℕ)
    → k < c.args.before → t.columns + 3 ≤ columns_of t.places (t.columns + k)
    → rows_of t c.args.rows.i (t.columns + k) ≡ pos 0) c.self.view_is
    (zero_beside c.self.invariant c.args.rows.i (omega arith) c.args.before il room) c.requires.not_i in
    let zero_e =
    subst (λ (t : Table). ((k : ℕ) → k < c.args.before → columns_of t.basis c.args.rows.e ≢ t.columns + k) → (k : ℕ)
    → k < c.args.before → t.columns + 3 ≤ columns_of t.places (t.columns + k)
    → rows_of t c.args.rows.e (t.columns + k) ≡ pos 0) c.self.view_is
    (zero_beside c.self.invariant c.args.rows.e (omega arith) c.args.before el room) c.requires.not_e in
    let end : c.loop-k.k-index ≡ length c.args.free.slacks.now = omega arith in
    record {
      order =
          tied_all c.args.self.now c.args.rows.i c.args.rows.e (g.E.Entry.value c.args.rows.p)
          (g.E.Entry.value c.args.rows.q)
          c.args.free.seen c.args.before c.args.free.slacks.now c.requires.free low zero_i zero_e c.loop-k.k-index end
          c.loop-k.invariant;
    }
