use Rattle.std.proofs.Common.{◌≡◌, ◌∙◌, sym, length, map}
use Rattle.std.proofs.lemmas.List.{length-map}
use Rattle.rob_entries.proofs.Zeros.{zero_numbers}
use Rattle.rob_entries.proofs.cells.Cells.new.Goals as goal

pub invariant_of-result : goal.invariant_of-result
invariant_of-result g c =
    let value = g.E.Entry.value in
    let items = c.in_ok-vec.field-0.items in
    let wide : length (map g.E.Entry.value c.in_ok-vec.field-0.items) ≡ c.args.count =
    length-map items value ∙ sym c.in_ok-vec.field-0.ok.0 ∙ c.in_ok-vec.ensures.len in
    record {
      size = sym c.in_ok-vec-2.field-0.ok.0 ∙ c.in_ok-vec-2.ensures.len ∙ sym wide;
      zeros = λ k l off. zero_numbers value c.of.result items c.args.count
          (c.in_ok-vec.ensures.items_if_clones_equal (λ y h. g.met.E.Entry.clones c.of.result y h)) c.of.ensures.value
          k;
    }

pub returns-clause-zeros : goal.returns-clause-zeros
returns-clause-zeros g c =
    zero_numbers g.E.Entry.value c.of.result c.in_ok-vec.field-0.items c.args.count
    (c.in_ok-vec.ensures.items_if_clones_equal (λ y h. g.met.E.Entry.clones c.of.result y h)) c.of.ensures.value
