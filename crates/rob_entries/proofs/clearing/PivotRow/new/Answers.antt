use Rattle.std.proofs.Common.{◌≡◌, ◌∙◌, sym, length, map}
use Rattle.std.proofs.lemmas.List.{length-map}
use Rattle.rob_entries.proofs.Zeros.{zero_numbers, zeros_ready}
use Rattle.rob_entries.proofs.clearing.PivotRow.new.Goals as goal

pub invariant_of-result : goal.invariant_of-result
invariant_of-result g c =
    let value = g.E.Entry.value in
    let items = c.in_ok-vec.field-0.items in
    let wide : length (map g.E.Entry.value c.in_ok-vec.field-0.items) ≡ c.args.width =
    length-map items value ∙ sym c.in_ok-vec.field-0.ok.0 ∙ c.in_ok-vec.ensures.len in
    zeros_ready (map value items) c.in_ok-vec-2.field-0.items (length c.in_ok-vec-3.field-0.items)
    (zero_numbers value c.of.result items c.args.width
    (c.in_ok-vec.ensures.items_if_clones_equal (λ y h. g.met.E.Entry.clones c.of.result y h)) c.of.ensures.value)
    (sym c.in_ok-vec-2.field-0.ok.0 ∙ c.in_ok-vec-2.ensures.len ∙ sym wide)
    (sym c.in_ok-vec-3.field-0.ok.0 ∙ c.in_ok-vec-3.ensures.len ∙ sym wide)
