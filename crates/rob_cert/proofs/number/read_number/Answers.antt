use Rattle.std.proofs.Common.{◌≡◌, ap, sym, ◌∙◌, Some, w64, true, false}
use mir.Val.{to_z, of_z}
use Rattle.std.specs.Prelude.{pos}
use Rattle.rob_number.proofs.CastLemmas.{seen}
use Rattle.rob_cert.proofs.Words.NumberLemmas.{limit_small, read_refused, read_answered}
use Rattle.rob_cert.specs.declared.number.Parts.{Parts}
use Rattle.rob_cert.specs.Spelling.{number_text}
use Rattle.rob_cert.proofs.number.read_number.Goals as goal

pub returns-in-Err-clause-number : goal.returns-in-Err-clause-number
returns-in-Err-clause-number g c q fits is =
    let small = limit_small g.N.Exact.limit q g.met.N.Exact.limit_high fits in
    let p : Some c.in-Some.parts ≡ Some (record { num = q.num; den = pos q.den }) =
    c.in-Some.ensures.parts q small.0 small.1 is in
    let e : c.in-Some.parts ≡ (let r : Parts = record { num = q.num; den = pos q.den } in r) = cc in
    read_refused g.N.Exact.limit q (to_z w64 (of_z w64 c.in-Some.parts.num))
    (to_z w64 (of_z w64 c.in-Some.parts.den)) fits
    (ap (λ (r : Parts). to_z w64 (of_z w64 r.num)) e ∙ seen q.num small.0)
    (ap (λ (r : Parts). to_z w64 (of_z w64 r.den)) e ∙ seen (pos q.den) small.1) c.in-Err.ensures.exact

pub returns-else-spells-clause-number : goal.returns-else-spells-clause-number
returns-else-spells-clause-number g c q fits is =
    let small = limit_small g.N.Exact.limit q g.met.N.Exact.limit_high fits in
    let p : Some c.in-Some.parts ≡ Some (record { num = q.num; den = pos q.den }) =
    c.in-Some.ensures.parts q small.0 small.1 is in
    let e : c.in-Some.parts ≡ (let r : Parts = record { num = q.num; den = pos q.den } in r) = cc in
    let x = read_answered g.N.Exact.limit q (g.N.Exact.value c.in-Ok.number) (to_z w64 (of_z w64 c.in-Some.parts.num))
    (to_z w64 (of_z w64 c.in-Some.parts.den)) fits
    (ap (λ (r : Parts). to_z w64 (of_z w64 r.num)) e ∙ seen q.num small.0)
    (ap (λ (r : Parts). to_z w64 (of_z w64 r.den)) e ∙ seen (pos q.den) small.1) c.in-Ok.ensures.exact in
    let t : false ≡ true = c.if-spells.ensures.spells.1 (is ∙ ap number_text (sym x)) in cc
