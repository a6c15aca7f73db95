use Rattle.std.proofs.Common.{◌≡◌, ◌∙◌, refl, ap, sym, subst, arith, inl, inr, pos, true, false, get_or}
use Rattle.std.proofs.lemmas.Bool.{cases_eq}
use Rattle.rob_simplex.specs.Dictionaries.{Table, positions, rows_of}
use Rattle.rob_simplex.proofs.Leaving.KnownRows.{not_off}
use Rattle.rob_simplex.proofs.dictionary.Dictionary.spare.Goals as goal

pub returns-then-not-is_any_known : goal.returns-then-not-is_any_known
returns-then-not-is_any_known g c = record {
  spared = λ i il on. absurd (let off = c.if-not-is_any_known.ensures.none refl i in cc);
}

pub loop-i-init : goal.loop-i-init
loop-i-init g c = λ j on. (on, λ l. absurd (omega arith))

pub loop-i-preserved : goal.loop-i-preserved
loop-i-preserved g c = λ j on. elim (cases_eq j c.loop-i.i) [
  | inl e ↦
      let s = c.spare_row.ensures.spared (subst (λ k. get_or c.spare_row.new.known k false ≡ true) e on) in (
        subst (λ k. get_or c.args.known.now k false ≡ true) (sym e) (c.loop-i.invariant c.loop-i.i s.0).0,
        λ l. subst (λ k. rows_of c.args.self.now k c.args.column ≡ pos 0) (sym e) s.1,
      )
  | inr d ↦
      let h = c.loop-i.invariant j (sym (c.spare_row.ensures.others j d) ∙ on) in
      (h.0, λ l. h.1 (omega arith))
]

pub returns : goal.returns
returns g c =
    let em : c.len-i-end.result ≡ positions c.args.self.now =
    c.len-i-end.ensures ∙ c.self.inside.basis.ok.0 ∙ ap (λ (t : Table). positions t) c.self.view_is in
    record {
      spared = λ i il on.
          let iq = not_off c.forget.new.known c.args.q i c.forget.ensures.off on in
          let h = c.loop-i.invariant i (sym (c.forget.ensures.others i iq) ∙ on) in
          (h.0, iq, h.1 (omega arith));
    }
