-- A call of `worst` worked by hand, on a model without a scenario, and so how it must end.
use Rattle.std.proofs.Common.{◌≡◌, List, [], ◌∷◌, refl, inr, arith}
use Rattle.std.specs.Fmt.{digits}
use Rattle.std.specs.Prelude.{codes}
use Rattle.rob_algebra.specs.Fraction.{ratio}
use Rattle.rob_cert.specs.Apart.{FitsLines}
use Rattle.rob_cert.specs.Shape.{HasShape}
use Rattle.rob_cert.specs.Spelling.{cert_text}
use Rattle.rob_meaning.specs.Places.{0ℚ, 1ℚ}
use Rattle.rob_outside.specs.Files.{File, file_of, found_at, whole}
use Rattle.rob_write.specs.Canonical.{model_text}
use Rattle.rob_top.proofs.ByHand.WorkedCalls.{empty_interval_admits_none, empty_interval_none_wide, empty_interval_reads, fits_by}
use Rattle.rob_top.specs.Completeness.{MustEnd}
use Rattle.rob_top.specs.Endings.{IsEmptyAnswer}
use Rattle.rob_top.specs.Inputs.{HasForms, HasSought}
use Rattle.rob_top.specs.WorkedCalls.{certificate_name, certificate_request, model_name, model_request, worst_on}
use Rattle.rob_top.specs.WorkedModels.{empty_interval, greatest, order_0}
use Rattle.rob_commands.specs.declared.ended.Ended.{Ended}
use Rattle.rob_words.specs.Commands.{Line, own, IsSpelled}
use Rattle.rob_words.specs.Values.{Word}
use Rattle.rob_words.specs.declared.route.Route.TheVariants.{Dual}
use Rattle.rob_words.specs.declared.verb.Verb.TheVariants.{Worst}
use Rattle.rob_words.specs.declared.width.Width.TheVariants.{SixtyTwo}

-- ---- worst one.rob one.cert objective, where the shelf tells both files
abbrev form : Word
form = codes "objective"

abbrev line : Line
line = record { verb = Worst; own = model_name ∷ certificate_name ∷ form ∷ []; way = Dual; width = SixtyTwo }

line_spelled : IsSpelled (codes "worst" ∷ model_name ∷ certificate_name ∷ form ∷ []) line
line_spelled = (
  own model_name ∷ own certificate_name ∷ own form ∷ [],
  record {
    spelled = refl;
    own = refl;
    count = refl;
    names = ((λ e. cc), ((λ e. cc), ((λ e. cc), tt)));
    kinds = (tt, (tt, (tt, tt)));
    width = inr (refl, refl);
    route = (refl, refl);
  },
)

abbrev files : List File
files = file_of model_name (model_text empty_interval)
    ∷ file_of certificate_name (cert_text empty_interval order_0) ∷ []

-- both come whole
record Come : Type 0 where
  model : found_at model_name 65536 files ≡ whole (model_text empty_interval)
  certificate : found_at certificate_name 4194304 files ≡ whole (cert_text empty_interval order_0)

they_come : Come
unfolding ratio digits
they_come = record { model = refl; certificate = refl }

-- ---- the certificate
order_0_shape : HasShape empty_interval order_0
unfolding ratio
order_0_shape = record {
  inside = refl;
  parts = record { plan = refl; step = refl; step_bound = refl; holds = refl };
  covers = record { each = tt; ordered = tt };
  holds = record { each = tt; ordered = tt };
  items = record { each = tt; ordered = tt; few = omega arith };
}

order_0_fits : FitsLines greatest empty_interval order_0
unfolding ratio
order_0_fits = (tt, (fits_by 0ℚ refl refl, (fits_by 1ℚ refl refl, (tt, tt))))

-- ---- the objective of an order of 0
its_forms : HasForms (worst_on empty_interval order_0 form) line empty_interval
its_forms = record {
  model = record {
    spelled = line_spelled;
    came = (
      (model_text empty_interval, (they_come.model, tt)),
      ((cert_text empty_interval order_0, (they_come.certificate, tt)), tt),
    );
    bytes = model_text empty_interval;
    file = record {
      request = model_request;
      named = refl;
      found = (they_come.model, tt);
    };
    reads = empty_interval_reads;
  };
  none_wide = empty_interval_none_wide;
}

sought : HasSought (worst_on empty_interval order_0 form) line empty_interval order_0 0
sought = record {
  plan = record {
    certificate = record {
      bytes = cert_text empty_interval order_0;
      file = record {
        read = its_forms;
        is_verb = refl;
        file = record {
          request = certificate_request;
          named = refl;
          found = (they_come.certificate, tt);
        };
      };
      text = record { shape = order_0_shape; spelled = refl };
      fits = order_0_fits;
    };
    has_plan = λ e. cc;
  };
  is_form = omega arith;
  told = refl;
}

-- this call has to answer that the set is empty, or name a row of the set's program
pub empty_interval_has_no_worst_case : (result : Ended) → MustEnd (worst_on empty_interval order_0 form) result
    → IsEmptyAnswer greatest empty_interval result
empty_interval_has_no_worst_case result must =
    must.worst_empty line empty_interval order_0 0 sought empty_interval_admits_none
