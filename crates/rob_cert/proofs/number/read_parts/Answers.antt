use Rattle.std.proofs.Common.{◌≡◌, ap, sym, ◌∙◌, Some, w64}
use Rattle.std.specs.Prelude.{ℤ, pos}
use Rattle.rob_algebra.specs.Fraction.{den_pos}
use mir.Val.{to_z, of_z}
use Rattle.rob_number.proofs.CastLemmas.{seen}
use Rattle.rob_cert.proofs.Words.NumberLemmas.{without_slash, with_slash}
use Rattle.rob_cert.specs.declared.number.Parts.{Parts}
use Rattle.rob_cert.proofs.number.read_parts.Goals as goal

pub returns-in-None-read_whole-clause-parts : goal.returns-in-None-read_whole-clause-parts
returns-in-None-read_whole-clause-parts c q hn hd is =
    let w = without_slash q c.args.word.now hn hd is c.in-None.ensures.cut in
    let p = c.in-None-read_whole.ensures.whole q.num hn w.1 in cc

pub returns-in-Some-read_whole-clause-parts : goal.returns-in-Some-read_whole-clause-parts
returns-in-Some-read_whole-clause-parts c q hn hd is =
    let w = without_slash q c.args.word.now hn hd is c.in-None.ensures.cut in
    let p : Some c.in-Some-read_whole.num ≡ Some q.num = c.in-Some-read_whole.ensures.whole q.num hn w.1 in
    let num : c.in-Some-read_whole.num ≡ q.num = cc in
    ap (λ (x : ℤ). Some (let p : Parts = record { num = to_z w64 (of_z w64 x); den = pos 1 } in p)) num
    ∙ ap (λ (x : ℤ). Some (let p : Parts = record { num = x; den = pos 1 } in p)) (seen q.num hn)
    ∙ ap (λ d. Some (let p : Parts = record { num = q.num; den = pos d } in p)) (sym w.0)

pub returns-in-Some-clause-parts : goal.returns-in-Some-clause-parts
returns-in-Some-clause-parts c q hn hd is =
    let w = with_slash q c.args.word.now hn hd is c.in-Some.split.front.now c.in-Some.split.back.now
    c.in-Some.ensures.cut.0 c.in-Some.ensures.cut.1 in
    c.read_quotient.ensures.parts q.num q.den hn (den_pos q) hd w.0 w.1
