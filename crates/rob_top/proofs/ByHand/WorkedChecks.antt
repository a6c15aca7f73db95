-- Checks worked by hand: a certificate that proves and one that doesn't, neither with a wide number on the way, and so
-- how a call of `check` on them must end.
use Rattle.std.proofs.Common.{arith, refl, subst, inr}
use Rattle.std.specs.Fmt.{digits}
use Rattle.std.specs.Prelude.{◌≡◌, ◌≢◌, Bool, Option, Some, None, List, [], ◌∷◌, codes}
use Rattle.rob_algebra.proofs.Parts.{one_not_zero}
use Rattle.rob_algebra.specs.Fraction.{ratio}
use Rattle.rob_cert.specs.Apart.{FitsLines}
use Rattle.rob_cert.specs.Shape.{HasShape}
use Rattle.rob_cert.specs.Spelling.{cert_text}
use Rattle.rob_check.proofs.ProofLaws.{proves_judged}
use Rattle.rob_check.specs.Conditions.{conditions_as, verdict_of}
use Rattle.rob_check.specs.Narrow.{IsFirstFailing, IsNarrow, NoneWide}
use Rattle.rob_check.specs.Verdicts.{Condition, Judges}
use Rattle.rob_check.specs.declared.verdict.Verdict.{Verdict}
use Rattle.rob_check.specs.declared.verdict.Verdict.TheVariants as verdicts
use Rattle.rob_meaning.proofs.ByHand.WorkedNotation.{int}
use Rattle.rob_meaning.proofs.ByHand.WorkedTests.{found}
use Rattle.rob_dualize.proofs.NarrowModels.{one_demand_model}
use Rattle.rob_dualize.specs.SmallestModel.{one_demand}
use Rattle.rob_meaning.specs.Certificates.{Certificate, optimal}
use Rattle.rob_meaning.specs.Places.{1ℚ, Each}
use Rattle.rob_meaning.specs.Proves.{Proves}
use Rattle.rob_model.specs.declared.place.Place.{Place}
use Rattle.rob_model.specs.declared.place.Place.TheVariants as At
use Rattle.rob_outside.specs.Files.{file_of, found_at, whole}
use Rattle.rob_write.specs.Canonical.{model_text}
use Rattle.rob_top.proofs.ByHand.WorkedCalls.{fits_by, one_demand_narrow, one_demand_reads}
use Rattle.rob_top.specs.Completeness.{MustEnd}
use Rattle.rob_top.specs.Endings.{EndsAs}
use Rattle.rob_top.specs.Inputs.{HasCertificate}
use Rattle.rob_top.specs.WorkedCalls.{certificate_name, certificate_request, check_call, model_name, model_request}
use Rattle.rob_top.specs.WorkedModels.{greatest, order_11, order_12}
use Rattle.rob_commands.specs.declared.ended.Ended.{Ended}
use Rattle.rob_commands.specs.declared.ended.Ended.TheVariants.{Accepted, Rejected}
use Rattle.rob_words.specs.Commands.{Line, own, IsSpelled}
use Rattle.rob_words.specs.declared.route.Route.TheVariants.{Dual}
use Rattle.rob_words.specs.declared.verb.Verb.TheVariants.{Check}
use Rattle.rob_words.specs.declared.width.Width.TheVariants.{SixtyTwo}
use Rattle.rob_words.specs.declared.verb.Verb.TheVariants as verbs

-- ---- check one.rob one.cert, where the shelf tells both files
abbrev line : Line
line = record { verb = Check; own = model_name ∷ certificate_name ∷ []; way = Dual; width = SixtyTwo }

line_spelled : IsSpelled (codes "check" ∷ model_name ∷ certificate_name ∷ []) line
line_spelled = (
  own model_name ∷ own certificate_name ∷ [],
  record {
    spelled = refl;
    own = refl;
    count = refl;
    names = ((λ e. cc), ((λ e. cc), tt));
    kinds = (tt, (tt, tt));
    width = inr (refl, refl);
    route = (refl, refl);
  },
)

-- both files come whole
record Come (c : Certificate) : Type 0 where
  model : found_at model_name 65536
      (file_of model_name (model_text one_demand) ∷ file_of certificate_name (cert_text one_demand c) ∷ [])
      ≡ whole (model_text one_demand)
  certificate : found_at certificate_name 4194304
      (file_of model_name (model_text one_demand) ∷ file_of certificate_name (cert_text one_demand c) ∷ [])
      ≡ whole (cert_text one_demand c)

certificate_on : (c : Certificate) → Come c → HasShape one_demand c → FitsLines greatest one_demand c
    → HasCertificate (check_call c) verbs.Check line one_demand c
certificate_on c come shape fits = record {
  bytes = cert_text one_demand c;
  file = record {
    read = record {
      model = record {
        spelled = line_spelled;
        came = ((model_text one_demand, (come.model, tt)), ((cert_text one_demand c, (come.certificate, tt)), tt));
        bytes = model_text one_demand;
        file = record {
          request = model_request;
          named = refl;
          found = (come.model, tt);
        };
        reads = one_demand_reads;
      };
      none_wide = one_demand_narrow;
    };
    is_verb = refl;
    file = record {
      request = certificate_request;
      named = refl;
      found = (come.certificate, tt);
    };
  };
  text = record { shape = shape; spelled = refl };
  fits = fits;
}

-- ---- each condition holds or fails
abbrev test_told : (o : Option Bool) → Option (o ≢ None)
test_told None = None
test_told (Some b) = Some (λ e. cc)

abbrev and_more : {A B : Type 0} → Option A → Option B → Option (A × B)
and_more None b = None
and_more (Some x) None = None
and_more (Some x) (Some y) = Some (x, y)

abbrev test_narrow : (cs : List Condition) → Option (Each IsNarrow cs)
test_narrow [] = Some tt
test_narrow (c ∷ cs) = and_more (test_told c.holds) (test_narrow cs)

-- ---- the optimum 12
pub order_12_shape : HasShape one_demand order_12
unfolding ratio
order_12_shape = record {
  inside = refl;
  parts = record { plan = refl; step = refl; step_bound = refl; holds = refl };
  covers = record {
    each = (record { form = omega arith; set_row = omega arith; amount = one_not_zero }, tt);
    ordered = (tt, tt);
  };
  holds = record { each = tt; ordered = tt };
  items = record {
    each = (record { form = omega arith; numbers = refl }, (record { form = omega arith; numbers = refl }, tt));
    ordered = ((omega arith, tt), (tt, tt));
    few = omega arith;
  };
}

pub order_12_fits : FitsLines greatest one_demand order_12
unfolding ratio
order_12_fits = (
  tt,
  (
    fits_by (int 12) refl refl,
    (
      fits_by 1ℚ refl refl,
      (
        fits_by (int 8) refl refl,
        (
          fits_by (int 12) refl refl,
          (
            fits_by 1ℚ refl refl,
            (
              (fits_by 1ℚ refl refl, fits_by 1ℚ refl refl),
              (
                fits_by (int 12) refl refl,
                ((fits_by 1ℚ refl refl, fits_by 1ℚ refl refl), (fits_by (int 12) refl refl, (tt, tt))),
              ),
            ),
          ),
        ),
      ),
    ),
  ),
)

order_12_comes : Come order_12
unfolding ratio digits
order_12_comes = record { model = refl; certificate = refl }

order_12_narrow : NoneWide greatest one_demand order_12
unfolding ratio
order_12_narrow = found (test_narrow (conditions_as greatest one_demand optimal order_12)) tt

order_12_verdict : verdict_of greatest one_demand order_12 ≡ verdicts.Accepted
unfolding ratio
order_12_verdict = refl

order_12_proves : Proves one_demand order_12
order_12_proves =
    subst (λ (v : Verdict). Judges (Proves one_demand order_12) v) order_12_verdict
    (proves_judged greatest one_demand one_demand_model order_12 order_12_shape)

-- this call has to answer `accepted`
pub order_12_is_accepted : (result : Ended) → MustEnd (check_call order_12) result → EndsAs Accepted result
order_12_is_accepted result must =
    must.accepted line one_demand order_12 (certificate_on order_12 order_12_comes order_12_shape order_12_fits)
    order_12_narrow order_12_proves

-- ---- 11 is claimed, and the items show 12
order_11_shape : HasShape one_demand order_11
unfolding ratio
order_11_shape = record {
  inside = refl;
  parts = record { plan = refl; step = refl; step_bound = refl; holds = refl };
  covers = record {
    each = (record { form = omega arith; set_row = omega arith; amount = one_not_zero }, tt);
    ordered = (tt, tt);
  };
  holds = record { each = tt; ordered = tt };
  items = order_12_shape.items;
}

order_11_fits : FitsLines greatest one_demand order_11
unfolding ratio
order_11_fits = (
  tt,
  (
    fits_by (int 11) refl refl,
    (
      fits_by 1ℚ refl refl,
      (
        fits_by (int 8) refl refl,
        (
          fits_by (int 11) refl refl,
          (
            fits_by 1ℚ refl refl,
            (
              (fits_by 1ℚ refl refl, fits_by 1ℚ refl refl),
              (
                fits_by (int 12) refl refl,
                ((fits_by 1ℚ refl refl, fits_by 1ℚ refl refl), (fits_by (int 12) refl refl, (tt, tt))),
              ),
            ),
          ),
        ),
      ),
    ),
  ),
)

order_11_comes : Come order_11
unfolding ratio digits
order_11_comes = record { model = refl; certificate = refl }

order_11_narrow : NoneWide greatest one_demand order_11
unfolding ratio
order_11_narrow = found (test_narrow (conditions_as greatest one_demand optimal order_11)) tt

-- the items sum to 12 in the constant, and not to 11
order_11_verdict : verdict_of greatest one_demand order_11 ≡ verdicts.Rejected (At.Sum 0)
unfolding ratio
order_11_verdict = refl

order_11_proves_not : Proves one_demand order_11 → ⊥
order_11_proves_not =
    subst (λ (v : Verdict). Judges (Proves one_demand order_11) v) order_11_verdict
    (proves_judged greatest one_demand one_demand_model order_11 order_11_shape)

-- this call has to answer `rejected`, at the first place that fails
pub order_11_is_rejected : (result : Ended) → MustEnd (check_call order_11) result
    → (place : Place) × IsFirstFailing greatest one_demand order_11 place × EndsAs (Rejected place) result
order_11_is_rejected result must =
    must.rejected line one_demand order_11 (certificate_on order_11 order_11_comes order_11_shape order_11_fits)
    order_11_narrow order_11_proves_not
