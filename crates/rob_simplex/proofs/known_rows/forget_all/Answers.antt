use Rattle.std.proofs.Common.{◌∙◌, ap, arith, inl, inr, length, false, set, get_or}
use Rattle.std.proofs.lemmas.Bool.{cases_lt, cases_eq}
use Rattle.std.proofs.lemmas.List.{get_or-set_same, get_or-set_other, get_or_past}
use Rattle.rob_simplex.proofs.known_rows.forget_all.Goals as goal

pub loop-k-preserved : goal.loop-k-preserved
loop-k-preserved c j l =
    let known = c.loop-k.known in
    elim (cases_eq j c.loop-k.k) [
      | inl e ↦
          ap (λ i. get_or (set c.loop-k.known c.loop-k.k false) i false) e
          ∙ get_or-set_same known c.loop-k.k false false (omega arith)
      | inr d ↦ get_or-set_other known c.loop-k.k j false false d ∙ c.loop-k.invariant j (omega arith)
    ]

pub returns : goal.returns
returns c = record {
  off = λ j. elim (cases_lt j (length c.loop-k.known)) [
    | inl l ↦ c.loop-k.invariant j (omega arith)
    | inr l ↦ get_or_past c.loop-k.known j false l
  ];
}
