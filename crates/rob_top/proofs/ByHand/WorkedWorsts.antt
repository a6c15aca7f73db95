-- Calls of `worst` worked by hand: a row of a plan, a word that is no form's
-- name, and a certificate without a plan; and so how each must end.
use Rattle.std.proofs.Common.{◌≡◌, ℕ, zero, suc, ◌<◌, List, [], ◌∷◌, length, refl, inl, inr, ◌⊎◌, arith}
use Rattle.std.specs.Fmt.{digits}
use Rattle.std.specs.Prelude.{◌≢◌, codes}
use Rattle.rob_algebra.specs.Fraction.{ratio}
use Rattle.rob_cert.specs.Apart.{FitsLines}
use Rattle.rob_cert.specs.Shape.{HasShape}
use Rattle.rob_cert.specs.Spelling.{cert_text, name_at}
use Rattle.rob_dualize.proofs.NarrowModels.{one_demand_admitted}
use Rattle.rob_dualize.specs.SmallestModel.{one_demand}
use Rattle.rob_meaning.proofs.ByHand.WorkedNotation.{int}
use Rattle.rob_meaning.specs.Certificates.{Certificate}
use Rattle.rob_meaning.specs.Names.{form_names}
use Rattle.rob_model.specs.declared.place.Spot.{Spot}
use Rattle.rob_outside.specs.Files.{File, file_of, found_at, whole}
use Rattle.rob_write.specs.Canonical.{model_text}
use Rattle.rob_top.proofs.ByHand.WorkedCalls.{differ, one_demand_narrow, one_demand_reads}
use Rattle.rob_top.proofs.ByHand.WorkedChecks.{order_12_fits, order_12_shape}
use Rattle.rob_top.proofs.ByHand.WorkedReplays.{no_order_fits, no_order_shape}
use Rattle.rob_top.specs.Completeness.{MustEnd}
use Rattle.rob_top.specs.Endings.{EndsAs, IsWorstAnswer}
use Rattle.rob_top.specs.Inputs.{HasPlan, HasSought, HasCertificate, planless}
use Rattle.rob_top.specs.Searched.{IsWideSought, certificate_vector}
use Rattle.rob_top.specs.WorkedCalls.{certificate_name, certificate_request, model_name, model_request, worst_call}
use Rattle.rob_top.specs.WorkedModels.{greatest, no_order, order_12}
use Rattle.rob_commands.specs.declared.ended.Ended.{Ended}
use Rattle.rob_commands.specs.declared.ended.Ended.TheVariants.{Optimal, Infeasible, Unbounded, Printed, Accepted, Rejected, Words, Missing, TooLong, Model, EmptySet, TooWide, WideNode, WideBudget, Cert, Scenarios, Whole, Sweep, Cells, NoRow, Tree, TreeRejected, ReadFault, WriteFault, Memory}
use Rattle.rob_words.specs.Commands.{Line, own, IsSpelled}
use Rattle.rob_words.specs.Values.{Word}
use Rattle.rob_words.specs.declared.route.Route.TheVariants.{Dual}
use Rattle.rob_words.specs.declared.verb.Verb.TheVariants.{Worst}
use Rattle.rob_words.specs.declared.width.Width.TheVariants.{SixtyTwo}
use Rattle.rob_words.specs.declared.verb.Verb.TheVariants as verbs

-- ---- worst one.rob one.cert FORM, where the shelf tells both files
abbrev pub line : Word → Line
line form = record { verb = Worst; own = model_name ∷ certificate_name ∷ form ∷ []; way = Dual; width = SixtyTwo }

abbrev pub Spelled : Word → Type 0
Spelled form = IsSpelled (codes "worst" ∷ model_name ∷ certificate_name ∷ form ∷ []) (line form)

r_spelled : Spelled (codes "r")
r_spelled = (
  own model_name ∷ own certificate_name ∷ own (codes "r") ∷ [],
  record {
    spelled = refl;
    own = refl;
    count = refl;
    names = ((λ e. cc), ((λ e. cc), ((λ e. cc), tt)));
    kinds = (tt, (tt, (tt, tt)));
    width = inr (refl, refl);
    route = (refl, refl);
  },
)

q_spelled : Spelled (codes "q")
q_spelled = (
  own model_name ∷ own certificate_name ∷ own (codes "q") ∷ [],
  record {
    spelled = refl;
    own = refl;
    count = refl;
    names = ((λ e. cc), ((λ e. cc), ((λ e. cc), tt)));
    kinds = (tt, (tt, (tt, tt)));
    width = inr (refl, refl);
    route = (refl, refl);
  },
)

abbrev files_of : Certificate → List File
files_of c = file_of model_name (model_text one_demand) ∷ file_of certificate_name (cert_text one_demand c) ∷ []

-- both come whole
pub record Come (c : Certificate) : Type 0 where
  pub model : found_at model_name 65536 (files_of c) ≡ whole (model_text one_demand)
  pub certificate : found_at certificate_name 4194304 (files_of c) ≡ whole (cert_text one_demand c)

pub certificate_on : (c : Certificate) (form : Word) → Spelled form → Come c → HasShape one_demand c
    → FitsLines greatest one_demand c
    → HasCertificate (worst_call c form) verbs.Worst (line form) one_demand c
certificate_on c form spelled come shape fits = record {
  bytes = cert_text one_demand c;
  file = record {
    read = record {
      model = record {
        spelled = spelled;
        came = ((model_text one_demand, (come.model, tt)), ((cert_text one_demand c, (come.certificate, tt)), tt));
        bytes = model_text one_demand;
        file = record {
          request = model_request;
          named = refl;
          found = (come.model, tt);
        };
        reads = one_demand_reads;
      };
      none_wide = one_demand_narrow;
    };
    is_verb = refl;
    file = record {
      request = certificate_request;
      named = refl;
      found = (come.certificate, tt);
    };
  };
  text = record { shape = shape; spelled = refl };
  fits = fits;
}

order_12_comes : Come order_12
unfolding ratio digits
order_12_comes = record { model = refl; certificate = refl }

pub order_12_plan : (form : Word) → Spelled form
    → HasPlan (worst_call order_12 form) verbs.Worst (line form) one_demand order_12
order_12_plan form spelled = record {
  certificate = certificate_on order_12 form spelled order_12_comes order_12_shape order_12_fits;
  has_plan = λ e. cc;
}

-- ---- the row of an order of 12
r_sought : HasSought (worst_call order_12 (codes "r")) (line (codes "r")) one_demand order_12 1
r_sought = record { plan = order_12_plan (codes "r") r_spelled; is_form = omega arith; told = refl }

-- the worst case is printed, or a number on the way is wide
abbrev IsPrintedOrWide : Ended → Type 0
IsPrintedOrWide result =
    EndsAs Printed result
    ⊎ ((spot : Spot) × IsWideSought greatest one_demand 1 (certificate_vector order_12) spot
    × (result ≡ TooWide spot))

its_answer : (result : Ended) → IsWorstAnswer greatest one_demand 1 (certificate_vector order_12) result
    → IsPrintedOrWide result
its_answer Printed h = inl (inl refl)
its_answer (EmptySet weights) h = absurd (h (int 8 ∷ []) one_demand_admitted)
its_answer (TooWide spot) h = inr (spot, h, refl)
its_answer Optimal h = inl (inr h)
its_answer Infeasible h = inl (inr h)
its_answer Unbounded h = inl (inr h)
its_answer (WideNode path spot) h = inl (inr h)
its_answer (WideBudget number spot) h = inl (inr h)
its_answer (Sweep rule) h = inl (inr h)
its_answer (Cells rule) h = inl (inr h)
its_answer Accepted h = inl (inr h)
its_answer (Rejected place) h = inl (inr h)
its_answer Words h = inl (inr h)
its_answer Missing h = inl (inr h)
its_answer TooLong h = inl (inr h)
its_answer (Model rule place) h = inl (inr h)
its_answer (Cert rule place) h = inl (inr h)
its_answer (Scenarios rule place) h = inl (inr h)
its_answer (Whole rule) h = inl (inr h)
its_answer NoRow h = inl (inr h)
its_answer (Tree rule place) h = inl (inr h)
its_answer (TreeRejected number fault) h = inl (inr h)
its_answer ReadFault h = inl (inr h)
its_answer WriteFault h = inl (inr h)
its_answer Memory h = inl (inr h)

pub r_has_a_worst_case : (result : Ended) → MustEnd (worst_call order_12 (codes "r")) result → IsPrintedOrWide result
r_has_a_worst_case result must = its_answer result (must.worst (line (codes "r")) one_demand order_12 1 r_sought)

-- ---- a word that is no form's name
no_q : (form : ℕ) → form < length (form_names one_demand) → name_at (form_names one_demand) form ≢ codes "q"
no_q zero h e = differ (codes "objective") (codes "q") tt e
no_q (suc zero) h e = differ (codes "r") (codes "q") tt e
no_q (suc (suc k)) h e = omega (arith, h)

-- this call has to say so
pub q_is_no_form : (result : Ended) → MustEnd (worst_call order_12 (codes "q")) result → EndsAs NoRow result
q_is_no_form result must =
    must.no_row (line (codes "q")) one_demand order_12 (codes "q")
    (record { plan = order_12_plan (codes "q") q_spelled; told = refl; none = no_q })

-- ---- a certificate without a plan
no_order_comes : Come no_order
unfolding ratio digits
no_order_comes = record { model = refl; certificate = refl }

-- this call has to say so
pub no_order_has_no_plan : (result : Ended) → MustEnd (worst_call no_order (codes "r")) result
    → EndsAs (Cert 34 1) result
no_order_has_no_plan result must =
    must.no_plan (line (codes "r")) one_demand 34 1
    (planless no_order (certificate_on no_order (codes "r") r_spelled no_order_comes no_order_shape no_order_fits)
    refl refl refl)
