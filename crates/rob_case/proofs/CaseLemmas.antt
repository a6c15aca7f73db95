-- What a case is once bytes stand behind its own.
use Rattle.std.proofs.Common.{◌≡◌, List, ℕ, ◌++◌, Option, Some, None, Result, Ok, Err, refl, ap, ◌∙◌, subst}
use Rattle.std.specs.Prelude.{option_map}
use Rattle.rob_case.specs.Answers.{Answers, Appends}
use Rattle.rob_case.specs.Cases.{CaseState, with_bytes}
use Rattle.rob_case.specs.declared.trouble.Trouble.{Trouble}

-- the case with other bytes
abbrev pub rebuilt : CaseState → List ℕ → CaseState
rebuilt case bytes = record case { bytes = bytes }

parts : (case : CaseState) (wanted : Option (List ℕ))
    → with_bytes case wanted ≡ option_map (rebuilt case) (option_map (λ more. case.bytes ++ more) wanted)
parts case None = refl
parts case (Some more) = refl

of_parts : {T : Type 0} (case : CaseState) (wanted : Option (List ℕ)) (bytes : List ℕ) (r : Result T Trouble)
    → Appends case.bytes wanted bytes r → Answers (with_bytes case wanted) (λ _. rebuilt case bytes) r
of_parts case wanted bytes (Ok x) h = parts case wanted ∙ ap (option_map (rebuilt case)) h
of_parts case wanted bytes (Err e) h = (λ line. parts case wanted ∙ ap (option_map (rebuilt case)) (h.0 line), h.1)

-- where bytes were appended, the case as it was before has those more
pub with_more : {T : Type 0} (case before : CaseState) → case ≡ before
    → (wanted : Option (List ℕ)) (bytes : List ℕ) (r : Result T Trouble)
    → Appends case.bytes wanted bytes r → Answers (with_bytes before wanted) (λ _. rebuilt case bytes) r
with_more case before e wanted bytes r h =
    subst (λ (v : CaseState). Answers (with_bytes v wanted) (λ _. rebuilt case bytes) r) e
    (of_parts case wanted bytes r h)
