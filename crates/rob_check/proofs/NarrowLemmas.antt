-- Where no number of a check is wide, the verdict says whether the certificate proves.
use Rattle.std.proofs.Common.{◌≡◌, ℕ, Bool, true, false, List, [], ◌∷◌, refl, ◌∙◌, ap, subst, inl, inr, ◌⊎◌}
use Rattle.std.specs.Prelude.{Option, Some, None}
use Rattle.rob_cert.specs.Shape.{HasShape}
use Rattle.rob_meaning.specs.Certificates.{Certificate}
use Rattle.rob_meaning.specs.Places.{Each}
use Rattle.rob_meaning.specs.Proves.{Proves}
use Rattle.rob_meaning.specs.RobustModel.{RobustModel}
use Rattle.rob_meaning.specs.WellFormed.{IsModel}
use Rattle.rob_model.specs.declared.place.Place.{Place}
use Rattle.rob_check.specs.Conditions.{conditions_as, verdict_of}
use Rattle.rob_check.specs.Narrow.{IsDecided, IsFirstFailing, IsFirstFailure, IsNarrow, NoneWide}
use Rattle.rob_check.specs.Verdicts.{Condition, Judges, decided, verdict}
use Rattle.rob_check.specs.declared.verdict.Verdict.{Verdict}
use Rattle.rob_check.specs.declared.verdict.Verdict.TheVariants.{Accepted, Rejected}
use Rattle.rob_check.proofs.ProofLaws.{proves_judged}

-- what the verdict on conditions without a wide number is: each holds, or the first that fails is named
abbrev IsTold : List Condition → Type 0
IsTold cs = (verdict cs ≡ Accepted) ⊎ ((place : Place) × IsFirstFailure cs place × (verdict cs ≡ Rejected place))

narrow_told : (cs : List Condition) → Each IsNarrow cs → IsTold cs
narrow_told [] h = inl refl
narrow_told (c ∷ cs) h = by c.holds refl (narrow_told cs h.1)
  where
    is : (o : Option Bool) → c.holds ≡ o → verdict (c ∷ cs) ≡ decided c.place o (verdict cs)
    is o e = ap (λ (x : Option Bool). decided c.place x (verdict cs)) e

    by : (o : Option Bool) → c.holds ≡ o → IsTold cs → IsTold (c ∷ cs)
    by (Some true) e (inl all) = inl (is (Some true) e ∙ all)
    by (Some true) e (inr fails) =
        let first = fails.1 in
        inr (
          fails.0,
          record {
            before = c ∷ first.before;
            here = first.here;
            after = first.after;
            order = ap (λ (rest : List Condition). c ∷ rest) first.order;
            hold_before = (e, first.hold_before);
            fails = first.fails;
            named = first.named;
          },
          is (Some true) e ∙ fails.2,
        )
    by (Some false) e rest = inr (
      c.place,
      record { before = []; here = c; after = cs; order = refl; hold_before = tt; fails = e; named = refl },
      is (Some false) e,
    )
    by None e rest = absurd (h.0 e)

module _ (limit : ℕ) (m : RobustModel) (model : IsModel m) (c : Certificate) (shape : HasShape m c) where
  verdict_proves : verdict_of limit m c ≡ Accepted → Proves m c
  verdict_proves e = subst (λ (v : Verdict). Judges (Proves m c) v) e (proves_judged limit m model c shape)

  verdict_refutes : (place : Place) → verdict_of limit m c ≡ Rejected place → Proves m c → ⊥
  verdict_refutes place e = subst (λ (v : Verdict). Judges (Proves m c) v) e (proves_judged limit m model c shape)

  pub narrow_decided : NoneWide limit m c → IsDecided limit m c
  narrow_decided narrow = record { accepted = (verdict_proves, accepts told); rejected = rejects told }
    where
      told : IsTold (conditions_as limit m c.status c)
      told = narrow_told (conditions_as limit m c.status c) narrow

      accepts : IsTold (conditions_as limit m c.status c) → Proves m c → verdict_of limit m c ≡ Accepted
      accepts (inl all) proves = all
      accepts (inr fails) proves = absurd (verdict_refutes fails.0 fails.2 proves)

      rejects : IsTold (conditions_as limit m c.status c) → (Proves m c → ⊥)
          → (place : Place) × IsFirstFailing limit m c place × (verdict_of limit m c ≡ Rejected place)
      rejects (inl all) not = absurd (not (verdict_proves all))
      rejects (inr fails) not = fails
