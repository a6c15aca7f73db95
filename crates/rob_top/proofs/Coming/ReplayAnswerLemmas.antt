-- Which answer has to come at `replay`, where what is known of the files decides.
use Rattle.std.proofs.Common.{◌≡◌, ℕ, List, refl, sym, ◌∙◌, ap, subst, ◌⊎◌}
use Rattle.rob_meaning.specs.Certificates.{Certificate}
use Rattle.rob_meaning.specs.Places.{Each}
use Rattle.rob_meaning.specs.Proves.{Proves}
use Rattle.rob_meaning.specs.RobustModel.{RobustModel}
use Rattle.rob_replay.proofs.OneFileLemmas.{one_file}
use Rattle.rob_replay.specs.Files.{IsFile}
use Rattle.rob_replay.specs.Outcome.{outcome}
use Rattle.rob_replay.specs.Replayed.{ShowsBound}
use Rattle.rob_top.proofs.Origins.OriginLemmas.{ReplayOrigin, lacks_plan, replays}
use Rattle.rob_top.proofs.Origins.ReadOnceLemmas.{one_certificate, some_plan, one_lack, well}
use Rattle.rob_commands.proofs.PlanLemmas.{proved_bound}
use Rattle.rob_top.proofs.Meaning.SoughtLemmas.{lacking_model, lacking_verb}
use Rattle.rob_top.proofs.Origins.ProgressLemmas.{file_once}
use Rattle.rob_top.proofs.Coming.TrueAnswerLemmas.{first_of_two, unformed_origin}
use Rattle.rob_top.specs.Calls.{Call, Known, limit_of}
use Rattle.rob_top.specs.Commands as works
use Rattle.rob_top.specs.Commands.{work_of}
use Rattle.rob_top.specs.Headline.{Means}
use Rattle.rob_top.specs.Inputs.{HasScenarioFile, LacksPlan}
use Rattle.rob_top.specs.Replayed.{IsReplayed, replay_ended}
use Rattle.rob_commands.specs.declared.ended.Ended.{Ended}
use Rattle.rob_commands.specs.declared.ended.Ended.TheVariants.{Cert, ReadFault, Memory}
use Rattle.rob_words.specs.Commands.{Line}
use Rattle.rob_words.specs.declared.verb.Own.TheVariants as own
use Rattle.rob_words.specs.declared.verb.Verb.TheVariants as verbs

module _ (call : Call) (known : Known call.source) (line : Line) (m : RobustModel) where
  same_records : (c d : Certificate) (bytes list : List ℕ) (rows others : List (List (List ℕ)))
      → HasScenarioFile call line m c bytes
      → HasScenarioFile call line m d list → IsFile bytes rows → IsFile list others
      → replay_ended (outcome (limit_of line) m d.plan others) ≡ replay_ended (outcome (limit_of line) m c.plan rows)
  same_records c d bytes list rows others h k file other =
      let one : d ≡ c = one_certificate call known line m verbs.Replay d c k.plan.certificate h.plan.certificate in
      let same : list ≡ bytes = file_once call line own.Scenarios list bytes known k.file h.file in
      let records : others ≡ rows =
      one_file bytes others rows (subst (λ (b : List ℕ). IsFile b others) same other) file in
      ap (λ (x : Certificate). replay_ended (outcome (limit_of line) m x.plan others)) one
      ∙ ap (λ (list : List (List (List ℕ))). replay_ended (outcome (limit_of line) m c.plan list)) records

  pub replay_decides : (c : Certificate) (bytes : List ℕ) (rows : List (List (List ℕ)))
      → HasScenarioFile call line m c bytes → IsFile bytes rows
      → (ended : Ended) (text : List ℕ) → Means call ended text
      → (ended ≡ replay_ended (outcome (limit_of line) m c.plan rows)) ⊎ ((ended ≡ ReadFault) ⊎ (ended ≡ Memory))
  replay_decides c bytes rows has file ended text means =
      first_of_two by
      (unformed_origin call known line m has.plan.certificate.file.read works.replaying refl
      (ap work_of has.plan.certificate.file.is_verb) ended text means)
    where
      by : ReplayOrigin call line m ended → ended ≡ replay_ended (outcome (limit_of line) m c.plan rows)
      by (replays d list others h other e) = e ∙ same_records c d bytes list rows others has h file other
      by (lacks_plan rule number h e) = absurd (some_plan call known line m verbs.Replay rule number c h has.plan)

  pub planless_decides : (rule number : ℕ) → LacksPlan call verbs.Replay line m rule number
      → (ended : Ended) (text : List ℕ) → Means call ended text
      → (ended ≡ Cert rule number) ⊎ ((ended ≡ ReadFault) ⊎ (ended ≡ Memory))
  planless_decides rule number has ended text means =
      first_of_two by
      (unformed_origin call known line m (lacking_model call line m verbs.Replay rule number has) works.replaying refl
      (ap work_of (lacking_verb call line m verbs.Replay rule number has)) ended text means)
    where
      by : ReplayOrigin call line m ended → ended ≡ Cert rule number
      by (replays d list others h other e) = absurd (some_plan call known line m verbs.Replay rule number d has h.plan)
      by (lacks_plan r n h e) =
          let one = one_lack call known line m verbs.Replay rule number r n has h in
          e ∙ ap (λ k. Cert k n) one.0 ∙ ap (λ k. Cert rule k) one.1

-- ---- the plan of a certificate that proves has its bound, and each inside line of its table shows it
pub proved_shows : (call : Call) (shown : List ℕ) (r : IsReplayed call shown) (m : RobustModel) (c : Certificate)
    → r.m ≡ m → r.c ≡ c
    → Proves m c → Each (ShowsBound r.m r.c.value) r.lines
proved_shows call shown r m c same alike proves =
    let proves_here : Proves r.m r.c =
    subst (λ (x : RobustModel). Proves x r.c) (sym same) (subst (λ (d : Certificate). Proves m d) (sym alike) proves)
    in
    r.bounded (proved_bound r.m (well call r.line r.m r.has.plan.certificate.file.read) r.c
    proves_here r.has.plan.has_plan)
