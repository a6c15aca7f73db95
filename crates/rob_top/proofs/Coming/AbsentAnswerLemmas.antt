-- The first file that doesn't come decides which answer has to come.
use Rattle.std.proofs.Common.{◌≡◌, ℕ, List, ◌∷◌, ◌++◌, sym, ◌∙◌, ap, subst, inl, inr, ◌⊎◌}
use Rattle.rob_outside.specs.Files.{Found, whole, missing, too_long}
use Rattle.rob_branch.proofs.OneSpotLemmas.{split_once}
use Rattle.rob_top.proofs.Origins.ProgressLemmas.{Progress, absent, answers_number, broken, failed, found_once, none_absent, number_none_absent, over, read, progress_of, wanting, wordless}
use Rattle.rob_top.specs.Calls.{Call, Known}
use Rattle.rob_top.specs.Files.{Came, IsFirstAbsent, IsFound, Request, requests}
use Rattle.rob_top.specs.Headline.{Means}
use Rattle.rob_commands.specs.declared.ended.Ended.{Ended}
use Rattle.rob_commands.specs.declared.ended.Ended.TheVariants.{Missing, TooLong, ReadFault, Memory}
use Rattle.rob_words.specs.Commands.{Line}
use Rattle.rob_words.specs.Values.{Word}
use Rattle.rob_words.proofs.Spellings.{one_line}

module _ (call : Call) (known : Known call.source) where
  -- ---- one file is the first that doesn't come
  abbrev Lacks : Request → Type 0
  Lacks r = (found : Found) × ((bytes : List ℕ) → found ≡ whole bytes → ⊥) × IsFound call r found

  one_absent : (a b : Found) (name other : Word) → ((bytes : List ℕ) → a ≡ whole bytes → ⊥)
      → ((bytes : List ℕ) → b ≡ whole bytes → ⊥) → IsFirstAbsent call a name → IsFirstAbsent call b other → a ≡ b
  one_absent a b name other no_a no_b h k =
      found_once call k.request a b known (subst (λ (r : Request). IsFound call r a) request h.absent) k.absent
    where
      excludes : (r : Request) → Came call r → Lacks r → ⊥
      excludes r came lacks = lacks.1 came.0 (found_once call r lacks.0 (whole came.0) known lacks.2 came.1)

      order : h.before ++ h.request ∷ h.behind ≡ k.before ++ k.request ∷ k.behind
      order = sym h.order ∙ ap (λ (x : Line). requests x) (one_line call.words h.line k.line h.spelled k.spelled)
          ∙ k.order

      request : h.request ≡ k.request
      request = split_once (Came call) Lacks excludes h.before k.before h.request k.request h.behind k.behind order
          h.came k.came (a, no_a, h.absent) (b, no_b, k.absent)

  pub no_missing : (bytes : List ℕ) → missing ≡ whole bytes → ⊥
  no_missing bytes e = cc

  pub no_too_long : (bytes : List ℕ) → too_long ≡ whole bytes → ⊥
  no_too_long bytes e = cc

  pub missing_decides : (name : Word) → IsFirstAbsent call missing name
      → (ended : Ended) (text : List ℕ) → Means call ended text
      → (ended ≡ Missing) ⊎ ((ended ≡ ReadFault) ⊎ (ended ≡ Memory))
  missing_decides name h ended text means = by (progress_of call ended text means)
    where
      by : Progress call ended → (ended ≡ Missing) ⊎ ((ended ≡ ReadFault) ⊎ (ended ≡ Memory))
      by (wordless none) = absurd (none (h.line, h.spelled))
      by (absent other k e) = inl e
      by (over other k e) =
          absurd (let same : missing ≡ too_long =
          one_absent missing too_long name other no_missing no_too_long h k in cc)
      by (broken rule number t k e) = absurd (none_absent call known k.line k.spelled missing name k.came no_missing h)
      by (read l m k origin) = absurd (none_absent call known l k.spelled missing name k.came no_missing h)
      by (answers_number l sp none origin) =
          absurd (number_none_absent call known h.line h.spelled l sp none h.before h.request h.behind h.order)
      by (failed names e) = inr (inl e)
      by (wanting e) = inr (inr e)

  pub too_long_decides : (name : Word) → IsFirstAbsent call too_long name
      → (ended : Ended) (text : List ℕ) → Means call ended text
      → (ended ≡ TooLong) ⊎ ((ended ≡ ReadFault) ⊎ (ended ≡ Memory))
  too_long_decides name h ended text means = by (progress_of call ended text means)
    where
      by : Progress call ended → (ended ≡ TooLong) ⊎ ((ended ≡ ReadFault) ⊎ (ended ≡ Memory))
      by (wordless none) = absurd (none (h.line, h.spelled))
      by (absent other k e) =
          absurd (let same : too_long ≡ missing =
          one_absent too_long missing name other no_too_long no_missing h k in cc)
      by (over other k e) = inl e
      by (broken rule number t k e) =
          absurd (none_absent call known k.line k.spelled too_long name k.came no_too_long h)
      by (read l m k origin) = absurd (none_absent call known l k.spelled too_long name k.came no_too_long h)
      by (answers_number l sp none origin) =
          absurd (number_none_absent call known h.line h.spelled l sp none h.before h.request h.behind h.order)
      by (failed names e) = inr (inl e)
      by (wanting e) = inr (inr e)
