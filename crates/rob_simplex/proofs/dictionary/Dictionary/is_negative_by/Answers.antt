use Rattle.std.proofs.Common.{◌≡◌, ◌∙◌, refl, sym, subst, inl, inr, suc, true, false}
use Rattle.std.proofs.lemmas.Bool.{cases_eq}
use Rattle.rob_linear.specs.Turns.{key}
use Rattle.rob_linear.specs.Beside.{IsLexNegative}
use Rattle.rob_simplex.specs.Dictionaries.{positions, rows_of, shape}
use Rattle.rob_simplex.proofs.dictionary.Dictionary.is_negative_by.Goals as goal

pub returns-then-is_known-clause-decides : goal.returns-then-is_known-clause-decides
returns-then-is_known-clause-decides g c = (
  (λ h. absurd (cc)),
  λ x. absurd (c.requires.known c.args.i c.requires.row_in (c.is_known.ensures.marked.0 c.if-is_known.true) x),
)

pub returns-then-is_negative-clause-decides : goal.returns-then-is_negative-clause-decides
returns-then-is_negative-clause-decides g c = ((λ h. c.is_negative.ensures.decides.0 c.if-is_negative.true), λ x. refl)

pub returns-clause-decides : goal.returns-clause-decides
returns-clause-decides g c = (
  (λ h. absurd (cc)),
  λ x. let y : c.is_negative.result ≡ true = c.is_negative.ensures.decides.1 x in
      let f : c.is_negative.result ≡ false = c.if-is_negative.false in cc,
)

pub returns-clause-known : goal.returns-clause-known
returns-clause-known g c = λ j l on. elim (cases_eq j c.args.i) [
  | inl e ↦
      (λ x. let f : c.is_negative.result ≡ false = c.if-is_negative.false in
      let y : c.is_negative.result ≡ true = c.is_negative.ensures.decides.1
      (subst (λ r. IsLexNegative (suc (positions c.args.self.now))
      (key (shape c.args.self.now.columns (positions c.args.self.now)) (rows_of c.args.self.now r))) e x) in cc)
  | inr d ↦ c.requires.known j l (sym (c.mark_known.ensures.others j d) ∙ on)
]
