-- Calls of `replay` worked by hand: a table and its text, a wide slack, a certificate without a plan, and a file whose
-- header names no parameter; and so how each call must end.
use Rattle.csv.specs.Reading.{strip_bom}
use Rattle.std.proofs.Common.{◌≡◌, ◌++◌, ℕ, List, [], ◌∷◌, Ok, true, refl, sym, ◌∙◌, ap, subst, inl, inr, arith}
use Rattle.std.specs.Fmt.{digits}
use Rattle.std.specs.Prelude.{◌≢◌, codes}
use Rattle.rob_algebra.specs.Fraction.{neg_ℚ, ratio}
use Rattle.rob_cert.specs.Apart.{FitsLines}
use Rattle.rob_cert.specs.Shape.{HasShape}
use Rattle.rob_cert.specs.Spelling.{cert_text}
use Rattle.rob_dualize.specs.SmallestModel.{one_demand}
use Rattle.rob_meaning.proofs.ByHand.WorkedNotation.{int}
use Rattle.rob_meaning.specs.Certificates.{Certificate, infeasible}
use Rattle.rob_meaning.specs.Places.{1ℚ}
use Rattle.rob_model.specs.declared.place.Spot.TheVariants.{Replay as ReplaySpot}
use Rattle.rob_outside.specs.Files.{File, file_of, found_at, whole}
use Rattle.rob_write.specs.Canonical.{model_text}
use Rattle.rob_replay.specs.Files.{BeginsRecord, IsFile, IsUnquoted, IsWithin, NextRecord}
use Rattle.rob_replay.specs.Lines as replay
use Rattle.rob_replay.specs.Lines.{line_outside}
use Rattle.rob_replay.specs.Outcome.{outcome}
use Rattle.rob_report.specs.Tables.{table_of}
use Rattle.rob_top.proofs.Relations.OneTable.{lines_are, text_is}
use Rattle.rob_top.proofs.Meaning.SoughtLemmas.{forms_sought}
use Rattle.rob_top.proofs.ByHand.WorkedCalls.{fits_by, one_demand_reads}
use Rattle.rob_top.proofs.ByHand.WorkedChecks.{order_12_fits, order_12_shape}
use Rattle.rob_top.specs.Calls.{Call, Known, by_files}
use Rattle.rob_top.specs.Commands as works
use Rattle.rob_top.specs.Commands.{Work, work_of}
use Rattle.rob_top.specs.Completeness.{MustEnd}
use Rattle.rob_top.specs.Endings.{EndsAs}
use Rattle.rob_top.specs.Headline.{Means}
use Rattle.rob_top.specs.Inputs.{HasScenarioFile, HasCertificate, planless}
use Rattle.rob_top.specs.Replayed.{replay_ended}
use Rattle.rob_top.specs.WorkedCalls.{certificate_name, certificate_request, model_name, model_request, replay_call, scenarios_name, two_demands_table}
use Rattle.rob_top.specs.WorkedModels.{greatest, no_demand, no_order, order_12, order_least, two_demands}
use Rattle.rob_top.specs.Ways.{rows, replayed, generated, compared, worst_found, priced, limited, narrowed, split_written}
use Rattle.rob_commands.specs.declared.ended.Ended.{Ended}
use Rattle.rob_commands.specs.declared.ended.Ended.TheVariants.{Cert, Printed, Scenarios, TooWide}
use Rattle.rob_words.proofs.Spellings.{one_line}
use Rattle.rob_words.specs.Commands.{Line, own, IsSpelled}
use Rattle.rob_words.specs.declared.route.Route.TheVariants.{Dual}
use Rattle.rob_words.specs.declared.verb.Verb.TheVariants.{Replay}
use Rattle.rob_words.specs.declared.width.Width.TheVariants.{SixtyTwo}
use Rattle.rob_words.specs.declared.verb.Verb.TheVariants as verbs

-- ---- replay one.rob one.cert one.csv, where the shelf tells the three files
abbrev line : Line
line = record { verb = Replay; own = model_name ∷ certificate_name ∷ scenarios_name ∷ []; way = Dual; width = SixtyTwo }

line_spelled : IsSpelled (codes "replay" ∷ model_name ∷ certificate_name ∷ scenarios_name ∷ []) line
line_spelled = (
  own model_name ∷ own certificate_name ∷ own scenarios_name ∷ [],
  record {
    spelled = refl;
    own = refl;
    count = refl;
    names = ((λ e. cc), ((λ e. cc), ((λ e. cc), tt)));
    kinds = (tt, (tt, (tt, tt)));
    width = inr (refl, refl);
    route = (refl, refl);
  },
)

abbrev files_of : Certificate → List ℕ → List File
files_of c bytes =
    file_of model_name (model_text one_demand) ∷ file_of certificate_name (cert_text one_demand c)
    ∷ file_of scenarios_name bytes ∷ []

-- each of them comes whole
record Come (c : Certificate) (bytes : List ℕ) : Type 0 where
  model : found_at model_name 65536 (files_of c bytes) ≡ whole (model_text one_demand)
  certificate : found_at certificate_name 4194304 (files_of c bytes) ≡ whole (cert_text one_demand c)
  scenarios : found_at scenarios_name 4194304 (files_of c bytes) ≡ whole bytes

certificate_on : (c : Certificate) (bytes : List ℕ) → Come c bytes → HasShape one_demand c
    → FitsLines greatest one_demand c
    → HasCertificate (replay_call c bytes) verbs.Replay line one_demand c
certificate_on c bytes come shape fits = record {
  bytes = cert_text one_demand c;
  file = record {
    read = record {
      spelled = line_spelled;
      came = (
        (model_text one_demand, (come.model, tt)),
        ((cert_text one_demand c, (come.certificate, tt)), ((bytes, (come.scenarios, tt)), tt)),
      );
      bytes = model_text one_demand;
      file = record {
        request = model_request;
        named = refl;
        found = (come.model, tt);
      };
      reads = one_demand_reads;
    };
    is_verb = refl;
    file = record {
      request = certificate_request;
      named = refl;
      found = (come.certificate, tt);
    };
  };
  text = record { shape = shape; spelled = refl };
  fits = fits;
}

scenarios_on : (c : Certificate) (bytes : List ℕ) → Come c bytes → HasShape one_demand c
    → FitsLines greatest one_demand c
    → c.status ≢ infeasible → HasScenarioFile (replay_call c bytes) line one_demand c bytes
scenarios_on c bytes come shape fits planned = record {
  plan = record { certificate = certificate_on c bytes come shape fits; has_plan = planned };
  file = record {
    request = record { place = 2; name = scenarios_name; most = 4194304 };
    named = refl;
    found = (come.scenarios, tt);
  };
}

-- of an order of 12
order_12_on : (bytes : List ℕ) → Come order_12 bytes
    → HasScenarioFile (replay_call order_12 bytes) line one_demand order_12 bytes
order_12_on bytes come = scenarios_on order_12 bytes come order_12_shape order_12_fits (λ e. cc)

-- ---- records of one field
one_field : (field behind : List ℕ) → IsUnquoted (field ++ 10 ∷ behind)
    → BeginsRecord (field ++ 10 ∷ behind) → IsWithin field
    → NextRecord (field ++ 10 ∷ behind) (field ∷ []) behind
one_field field behind unquoted begins within = record {
  empty_lines = [];
  rest = field ++ 10 ∷ behind;
  split = refl;
  empty = tt;
  begins = begins;
  fields = (
    10 ∷ behind,
    inl (record { split = refl; unquoted = unquoted; within = within; ended = refl }),
    (refl, refl),
  );
}

-- ---- a file with two records, one of them outside the set
abbrev demands : List (List (List ℕ))
demands = (codes "d" ∷ []) ∷ (codes "9" ∷ []) ∷ (codes "13" ∷ []) ∷ []

two_demands_come : Come order_12 two_demands
unfolding ratio digits
two_demands_come = record { model = refl; certificate = refl; scenarios = refl }

abbrev behind_9 : List ℕ
behind_9 = codes "13" ++ 10 ∷ []

abbrev behind_d : List ℕ
behind_d = codes "9" ++ 10 ∷ behind_9

two_demands_file : IsFile two_demands demands
unfolding strip_bom
two_demands_file = (
  behind_d,
  one_field (codes "d") behind_d refl refl (refl, tt),
  (
    behind_9,
    one_field (codes "9") behind_9 refl refl (refl, tt),
    ([], one_field (codes "13") [] refl refl (refl, (refl, tt)), tt),
  ),
)

two_demands_ended : replay_ended (outcome greatest one_demand order_12.plan demands) ≡ Printed
unfolding ratio
two_demands_ended = refl

-- this call has to print the table
pub two_demands_are_replayed : (result : Ended)
    → MustEnd (replay_call order_12 two_demands) result → EndsAs Printed result
two_demands_are_replayed result must =
    subst (λ (ended : Ended). EndsAs ended result) two_demands_ended
    (must.replayed line one_demand order_12 two_demands demands
    (order_12_on two_demands two_demands_come) two_demands_file)

-- its lines
abbrev two_demands_lines : List replay.Line
two_demands_lines =
    record { number = 2; inside = true; values = record { adaptives = []; objective = int 12; slacks = int 3 ∷ [] } }
    ∷ line_outside 3 ∷ []

two_demands_outcome : outcome greatest one_demand order_12.plan demands ≡ Ok two_demands_lines
unfolding ratio
two_demands_outcome = refl

two_demands_text : table_of one_demand two_demands_lines ≡ two_demands_table
unfolding ratio digits
two_demands_text = refl

abbrev table_call : Call
table_call = replay_call order_12 two_demands

table_line : (l : Line) → IsSpelled table_call.words l → l ≡ line
table_line l spelled = one_line table_call.words l line spelled line_spelled

-- and what it prints is that table
pub two_demands_are_printed : (text : List ℕ) → Means (replay_call order_12 two_demands) Printed text
    → text ≡ two_demands_table
two_demands_are_printed text means = by means
  where
    -- no other work prints it
    work_here : (w : Work) (l : Line) → IsSpelled table_call.words l → work_of l.verb ≡ w → works.replaying ≡ w
    work_here w l spelled is = ap (λ (k : Line). work_of k.verb) (sym (table_line l spelled)) ∙ is

    by : Means table_call Printed text → text ≡ two_demands_table
    by (rows h) =
        absurd (let no : works.replaying ≡ works.rows =
        work_here works.rows h.line h.forms.model.spelled (ap work_of h.is_rows) in cc)
    by (generated h) =
        absurd (let no : works.replaying ≡ works.generating =
        work_here works.generating h.line h.spelled (ap work_of h.is_text) in cc)
    by (compared h) =
        absurd (let no : works.replaying ≡ works.generating =
        work_here works.generating h.line h.asks.spelled (ap work_of h.asks.is_gen) in cc)
    by (worst_found h) =
        let forms = forms_sought table_call h.line h.m h.c h.form h.has in
        absurd (let no : works.replaying ≡ works.searching =
        work_here works.searching h.line forms.model.spelled (ap work_of h.has.plan.certificate.file.is_verb) in cc)
    by (priced h) =
        absurd (let no : works.replaying ≡ works.sweeping =
        work_here works.sweeping h.line h.has.model.spelled (ap work_of h.has.is_sweep) in cc)
    by (limited h) =
        absurd (let no : works.replaying ≡ works.sweeping =
        work_here works.sweeping h.line h.has.model.spelled (ap work_of h.has.is_text) in cc)
    by (narrowed h) =
        absurd (let no : works.replaying ≡ works.narrowing =
        work_here works.narrowing h.line h.forms.model.spelled (ap work_of h.is_narrow) in cc)
    by (split_written h) =
        let has = h.has.has_cuts.has_word in
        absurd (let no : works.replaying ≡ works.splitting =
        work_here works.splitting h.line has.model.spelled has.is_splitting in cc)
    by (replayed h) =
        let has = order_12_on two_demands two_demands_come in
        let known : Known table_call.source = by_files (files_of order_12 two_demands) refl in
        let lines : Ok h.lines ≡ Ok two_demands_lines =
        sym (lines_are table_call known line one_demand order_12 two_demands demands has two_demands_file text h)
        ∙ two_demands_outcome
        in
        let same : h.lines ≡ two_demands_lines = cc in
        text_is table_call known line one_demand order_12 two_demands demands has two_demands_file text h
        ∙ ap (table_of one_demand) same
        ∙ two_demands_text

-- ---- a plan of which a slack is wide
order_least_comes : Come order_least two_demands
unfolding ratio digits
order_least_comes = record { model = refl; certificate = refl; scenarios = refl }

pub order_least_shape : HasShape one_demand order_least
unfolding ratio
order_least_shape = record {
  inside = refl;
  parts = record { plan = refl; step = refl; step_bound = refl; holds = refl };
  covers = order_12_shape.covers;
  holds = order_12_shape.holds;
  items = order_12_shape.items;
}

pub order_least_fits : FitsLines greatest one_demand order_least
unfolding ratio
order_least_fits = (
  tt,
  (
    fits_by (int 12) refl refl,
    (
      fits_by 1ℚ refl refl,
      (
        fits_by (int 8) refl refl,
        (
          fits_by (neg_ℚ (int greatest)) refl refl,
          (
            fits_by 1ℚ refl refl,
            (
              (fits_by 1ℚ refl refl, fits_by 1ℚ refl refl),
              (
                fits_by (int 12) refl refl,
                ((fits_by 1ℚ refl refl, fits_by 1ℚ refl refl), (fits_by (int 12) refl refl, (tt, tt))),
              ),
            ),
          ),
        ),
      ),
    ),
  ),
)

order_least_ended : replay_ended (outcome greatest one_demand order_least.plan demands) ≡ TooWide (ReplaySpot 2)
unfolding ratio
order_least_ended = refl

-- this call has to name the record
pub order_least_is_wide : (result : Ended) → MustEnd (replay_call order_least two_demands) result
    → EndsAs (TooWide (ReplaySpot 2)) result
order_least_is_wide result must =
    subst (λ (ended : Ended). EndsAs ended result) order_least_ended
    (must.replayed line one_demand order_least two_demands demands
    (scenarios_on order_least two_demands order_least_comes order_least_shape order_least_fits (λ e. cc))
    two_demands_file)

-- ---- a certificate without a plan
no_order_comes : Come no_order two_demands
unfolding ratio digits
no_order_comes = record { model = refl; certificate = refl; scenarios = refl }

pub no_order_shape : HasShape one_demand no_order
unfolding ratio
no_order_shape = record {
  inside = refl;
  parts = record {
    value = refl;
    scale = refl;
    plan = refl;
    step = refl;
    step_bound = refl;
    covers = refl;
    holds = refl;
  };
  covers = record { each = tt; ordered = tt };
  holds = record { each = tt; ordered = tt };
  items = record { each = tt; ordered = tt; few = omega arith };
}

pub no_order_fits : FitsLines greatest one_demand no_order
unfolding ratio
no_order_fits = (tt, (fits_by (int 8) refl refl, (tt, tt)))

-- this call has to say so
pub no_order_is_planless : (result : Ended) → MustEnd (replay_call no_order two_demands) result
    → EndsAs (Cert 34 1) result
no_order_is_planless result must =
    must.planless line one_demand 34 1
    (planless no_order (certificate_on no_order two_demands no_order_comes no_order_shape no_order_fits) refl refl refl)

-- ---- a header that names no parameter
no_demand_comes : Come order_12 no_demand
unfolding ratio digits
no_demand_comes = record { model = refl; certificate = refl; scenarios = refl }

no_demand_file : IsFile no_demand ((codes "e" ∷ []) ∷ [])
unfolding strip_bom
no_demand_file = ([], one_field (codes "e") [] refl refl (refl, tt), tt)

-- this call has to name the header's rule
pub no_demand_is_refused : (result : Ended) → MustEnd (replay_call order_12 no_demand) result
    → EndsAs (Scenarios 41 1) result
no_demand_is_refused result must =
    must.replayed line one_demand order_12 no_demand ((codes "e" ∷ []) ∷ [])
    (order_12_on no_demand no_demand_comes) no_demand_file
