use Rattle.std.proofs.Common.{◌≡◌, ◌+◌, ◌≤◌, ◌∙◌, sym, subst, arith, rules, pos, map, length, set}
use Rattle.rob_linear.specs.Vectors.{at}
use Rattle.rob_entries.proofs.MappedRows.{number_read}
use Rattle.rob_entries.proofs.Listing.{IsListedTo, skip_place, list_place, all_listed}
use Rattle.rob_entries.proofs.clearing.list_places.Goals.{then-some, else-some}
use Rattle.rob_entries.proofs.clearing.list_places.Goals as goal

pub loop-k-preserved : goal.loop-k-preserved
loop-k-preserved g c =
    let row = at (map g.E.Entry.value c.args.row.now) in
    let k = c.loop-k.k in
    let few : c.loop-k.listed ≤ c.loop-k.k = c.loop-k.invariant.few in
    let e : g.E.Entry.value c.index-row-k.result ≡ at (map g.E.Entry.value c.args.row.now) c.loop-k.k =
    number_read g.E.Entry.value c.args.row.now k c.index-row-k.result c.loop-k-test.true c.index-row-k.is in
    elim c.if-some.branch [
      | then-some w ↦
          subst (λ n. IsListedTo row (k + 1) (set c.loop-k.places c.loop-k.listed k) n) (sym w.listed-is)
          (list_place row k c.loop-k.places c.loop-k.listed c.loop-k.invariant (omega arith))
      | else-some w ↦
          let z : g.E.Entry.value c.index-row-k.result ≡ pos 0 = search rules in
          subst (λ n. IsListedTo row (k + 1) (set c.loop-k.places c.loop-k.listed k) n) (sym w.listed-is)
          (skip_place row k c.loop-k.places c.loop-k.listed c.loop-k.invariant (sym e ∙ z))
    ]

pub returns-clause-listed : goal.returns-clause-listed
returns-clause-listed g c =
    let row = at (map g.E.Entry.value c.args.row.now) in
    let few : c.loop-k.listed ≤ c.loop-k.k = c.loop-k.invariant.few in
    let end : c.loop-k.k ≡ length c.args.row.now = omega arith in
    all_listed (length c.args.row.now) row c.loop-k.places c.loop-k.listed (omega arith)
    (subst (λ n. IsListedTo row n c.loop-k.places c.loop-k.listed) end c.loop-k.invariant)
