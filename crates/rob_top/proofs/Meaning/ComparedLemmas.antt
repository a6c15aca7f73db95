-- The answers of `gen`: what its summary means, from what the two routes told.
use Rattle.std.proofs.Common.{◌≡◌, ℕ, List, ◌++◌, Option, Some, None, Result, Ok, Err, IfOk, refl, sym, subst}
use Rattle.rob_algebra.specs.Fraction.{Fraction}
use Rattle.rob_cert.specs.Apart.{FitsLines}
use Rattle.rob_cert.specs.declared.trace.Round.{Round}
use Rattle.rob_cuts.specs.Rounds.{RoundFits}
use Rattle.rob_gen.specs.Generated.{generated}
use Rattle.rob_meaning.proofs.Proving.ProvesLemmas.{certificate_true}
use Rattle.rob_meaning.proofs.Proving.StatusLemmas.{one_optimum}
use Rattle.rob_meaning.specs.Certificates.{Certificate, Status, optimal}
use Rattle.rob_meaning.specs.Places.{Each}
use Rattle.rob_meaning.specs.Proves.{HasStatus}
use Rattle.rob_meaning.specs.RobustModel.{RobustModel}
use Rattle.rob_meaning.specs.WellFormed.{IsModel}
use Rattle.rob_model.specs.declared.place.Spot.{Spot}
use Rattle.rob_number.specs.declared.memory.Memory.{Memory as Want}
use Rattle.rob_top.proofs.Origins.ProgressLemmas.{same_status}
use Rattle.rob_top.specs.Calls.{Call, Count, WasRaised, limit_of}
use Rattle.rob_top.specs.Compared.{AsksFor, TellsEither, TellsStatus, TellsWide, a_spot, a_status, by_counterpart, by_cutting, heading, status_line, wide_line}
use Rattle.rob_top.specs.ComparedWork.{AnswersNumber, RoseAtSpot, RepliesCompared, IsLineOf, first_ended}
use Rattle.rob_top.specs.Generated.{TellsNumber}
use Rattle.rob_top.specs.Headline.{Means}
use Rattle.rob_top.specs.Routes.{IsFound, IsWideBy, with_rounds}
use Rattle.rob_top.specs.Ways.{compared, in_summary}
use Rattle.rob_commands.specs.declared.ended.Ended.{Ended}
use Rattle.rob_commands.specs.declared.reply.Reply.{Reply}
use Rattle.rob_words.specs.Commands.{Line, IsSpelled}
use Rattle.rob_words.specs.declared.route.Route.{Route}
use Rattle.rob_words.specs.declared.route.Route.TheVariants.{Dual, Cuts}
use Rattle.rob_words.specs.declared.verb.Verb.TheVariants.{Gen}

module _ (limit : ℕ) (m : RobustModel) where
  -- ---- what a route tells
  pub tells_found : (way : Route) (c : Certificate) (rounds : List Round) (spot : Option Spot) (text : List ℕ)
      → IsModel m
      → IsFound way m c rounds → FitsLines limit m c → spot ≡ None → text ≡ status_line way c.status c.value
      → IsLineOf limit m way spot text
  tells_found way c rounds spot text model found fits e is =
      subst (λ (o : Option Spot). IsLineOf limit m way o text) (sym e) (
        c.status,
        record {
          c = c;
          status_is = refl;
          holds = certificate_true m model c found.proves;
          rounds = rounds;
          found = found;
          fits = fits;
          printed = is;
        },
      )

  pub tells_spot : (way : Route) (spot : Spot) (told : Option Spot) (text : List ℕ)
      → TellsWide limit m way spot text → told ≡ Some spot
      → IsLineOf limit m way told text
  tells_spot way spot told text h e = subst (λ (o : Option Spot). IsLineOf limit m way o text) (sym e) h

  -- the result of a route: with a certificate, or with a wide number
  pub found_tells : {T : Type 0} (way : Route) (c : Certificate) (rounds : List Round)
      (spot : T → Option Spot) (text : T → List ℕ)
      (r : Result T Want) → IsModel m → IsFound way m c rounds → FitsLines limit m c
      → IfOk r (λ told. text told ≡ status_line way c.status c.value)
      → IfOk r (λ told. spot told ≡ None) → IfOk r (λ told. IsLineOf limit m way (spot told) (text told))
  found_tells way c rounds spot text (Err want) model found fits is none = tt
  found_tells way c rounds spot text (Ok told) model found fits is none =
      tells_found way c rounds (spot told) (text told) model found fits none is

  pub wide_tells : {T : Type 0} (way : Route) (place : Spot) (rounds : List Round) (spot : T → Option Spot)
      (text : T → List ℕ) (r : Result T Want)
      → IsWideBy way limit m place rounds → Each (RoundFits limit) rounds
      → IfOk r (λ told. text told ≡ with_rounds way m rounds (wide_line way m place))
      → IfOk r (λ told. spot told ≡ Some place) → IfOk r (λ told. IsLineOf limit m way (spot told) (text told))
  wide_tells way place rounds spot text (Err want) wide fits is some = tt
  wide_tells way place rounds spot text (Ok told) wide fits is some =
      tells_spot way place (spot told) (text told) (record {
        rounds = rounds;
        wide = wide;
        rounds_fit = fits;
        printed = is;
      }) some

  either_of : (way : Route) (told : Option Spot) (text : List ℕ) → IsLineOf limit m way told text
      → TellsEither limit m way text
  either_of way None text h = a_status h.0 h.1
  either_of way (Some spot) text h = a_spot spot h

  -- ---- both have one status, and an optimum one value
  one_status : (a b : Status) (v w : Fraction) → HasStatus m a v → HasStatus m b w → a ≡ b
  one_status a b v w h k = same_status m a b v w h k

  pub one_value : (a : Status) (v w : Fraction) → HasStatus m a v → HasStatus m a w → a ≡ optimal → v ≡ w
  one_value a v w h k is =
      one_optimum m v w (subst (λ (s : Status). HasStatus m s v) is h) (subst (λ (s : Status). HasStatus m s w) is k)

  pub same_told : (way : Route) (a b : Status) (text : List ℕ) → a ≡ b → TellsStatus limit m way a text
      → TellsStatus limit m way b text
  same_told way a b text e h = subst (λ (s : Status). TellsStatus limit m way s text) e h

-- ---- the summary
module _ (line : Line) (number : ℕ) (is_gen : line.verb ≡ Gen) (told : TellsNumber line number) (wides : Count) where
  abbrev m : RobustModel
  m = generated number

  abbrev limit : ℕ
  limit = limit_of line

  module _ (call : Call) (spelled : IsSpelled call.words line) (same : call.wides ≡ wides) where
    asks : AsksFor call line number
    asks = record { spelled = spelled; is_gen = is_gen; told = told }

    means_first : (dual cuts : Option Spot) (by_dual by_cuts text : List ℕ) → IsLineOf limit m Dual dual by_dual
        → IsLineOf limit m Cuts cuts by_cuts
        → RoseAtSpot wides dual → RoseAtSpot wides cuts → text ≡ heading number ++ (by_dual ++ by_cuts)
        → Means call (first_ended dual cuts) text
    means_first (Some spot) cuts by_dual by_cuts text h k raised other is =
        in_summary (record {
          line = line;
          number = number;
          asks = asks;
          by_dual = by_dual;
          by_cuts = by_cuts;
          first = by_counterpart h (either_of limit m Cuts cuts by_cuts k);
          raised = subst (λ (c : Count). WasRaised c) (sym same) raised;
          printed = is;
        })
    means_first None (Some spot) by_dual by_cuts text h k none raised is =
        in_summary (record {
          line = line;
          number = number;
          asks = asks;
          by_dual = by_dual;
          by_cuts = by_cuts;
          first = by_cutting h.0 h.1 k;
          raised = subst (λ (c : Count). WasRaised c) (sym same) raised;
          printed = is;
        })
    means_first None None by_dual by_cuts text h k none nothing is =
        let alike = one_status limit m k.0 h.0 k.1.c.value h.1.c.value k.1.holds h.1.holds in
        let cuts = same_told limit m Cuts k.0 h.0 by_cuts alike k.1 in
        compared (record {
          line = line;
          number = number;
          asks = asks;
          status = h.0;
          by_dual = by_dual;
          by_cuts = by_cuts;
          dual = h.1;
          cuts = cuts;
          one_value = one_value limit m h.0 h.1.c.value cuts.c.value h.1.holds cuts.holds;
          printed = is;
        })

  summary_means : (reply : Reply) → RepliesCompared limit wides number reply → AnswersNumber line wides reply
  summary_means reply h call spelled same =
      subst (λ (ended : Ended). Means call ended reply.text) (sym h.replies.0)
      (means_first call spelled same h.dual h.cuts h.by_dual h.by_cuts reply.text h.dual_told h.cuts_told
      h.dual_counted h.cuts_counted
      h.replies.1)

  pub compared_answers : (r : Result Reply Want) → IfOk r (RepliesCompared limit wides number)
      → IfOk r (AnswersNumber line wides)
  compared_answers (Err want) h = tt
  compared_answers (Ok reply) h = summary_means reply h
