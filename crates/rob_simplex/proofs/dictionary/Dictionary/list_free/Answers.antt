use Rattle.std.proofs.Common.{◌≡◌, ◌+◌, ◌≤◌, ◌∙◌, sym, subst, ap, arith, length, set}
use Rattle.rob_entries.proofs.Listing.{IsListedTo, skip_place, list_place}
use Rattle.rob_table.proofs.Places.{read_at}
use Rattle.rob_simplex.specs.Dictionaries.{Table, positions, columns_of}
use Rattle.rob_simplex.proofs.Leaving.Ties.{free_row, free_zero, of_listed}
use Rattle.rob_simplex.proofs.dictionary.Dictionary.list_free.Goals.{then-place-first, else-place-first}
use Rattle.rob_simplex.proofs.dictionary.Dictionary.list_free.Goals as goal

pub loop-k-preserved : goal.loop-k-preserved
loop-k-preserved g c =
    let row = free_row c.args.self.now in
    let k = c.loop-k.k in
    let few : c.loop-k.listed ≤ c.loop-k.k = c.loop-k.invariant.few in
    let en : c.self.inside.columns ≡ c.args.self.now.columns = ap (λ (t : Table). t.columns) c.self.view_is in
    let em : c.len-m.result ≡ length c.self.inside.basis.items = c.len-m.ensures ∙ c.self.inside.basis.ok.0 in
    let low : c.min-seen.result ≤ c.len-m.result = omega (arith, c.min-seen.ensures) in
    let room : c.min-seen.result ≤ length c.args.order.now = omega (arith, c.min-seen.ensures) in
    let place : c.index-place.result.now ≡ columns_of c.args.self.now.places (c.args.self.now.columns + c.loop-k.k) =
    read_at c.self.inside.places.items (c.self.inside.columns + c.loop-k.k) c.index-place.result.now
    (omega (arith, c.self.invariant.places_size)) c.index-place.ensures
    ∙ ap (λ (t : Table). columns_of t.places (t.columns + c.loop-k.k)) c.self.view_is in
    elim c.if-place-first.branch [
      | then-place-first w ↦
          subst (λ n. IsListedTo row (k + 1) (set c.loop-k.order c.loop-k.listed k) n) (sym w.listed-is)
          (list_place row k c.loop-k.order c.loop-k.listed c.loop-k.invariant (omega arith))
      | else-place-first w ↦
          let high : c.self.inside.columns + 3 ≤ c.index-place.result.now = omega (arith, w.if-place-first.false) in
          subst (λ n. IsListedTo row (k + 1) (set c.loop-k.order c.loop-k.listed k) n) (sym w.listed-is)
          (skip_place row k c.loop-k.order c.loop-k.listed c.loop-k.invariant
          (free_zero c.args.self.now k (omega arith)))
    ]

pub returns-clause-free : goal.returns-clause-free
returns-clause-free g c =
    let few : c.loop-k.listed ≤ c.loop-k.k = c.loop-k.invariant.few in
    let em : c.len-m.result ≡ positions c.args.self.now =
    c.len-m.ensures ∙ c.self.inside.basis.ok.0 ∙ ap (λ (t : Table). positions t) c.self.view_is in
    let seen : c.min-seen.result ≤ positions c.args.self.now = omega (arith, c.min-seen.ensures) in
    let room : c.min-seen.result ≤ length c.args.order.now = omega (arith, c.min-seen.ensures) in
    let end : c.loop-k.k ≡ c.min-seen.result = omega arith in
    of_listed c.args.self.now c.min-seen.result c.loop-k.listed c.loop-k.order seen (omega arith)
    (subst (λ n. IsListedTo (free_row c.args.self.now) n c.loop-k.order c.loop-k.listed) end c.loop-k.invariant)
