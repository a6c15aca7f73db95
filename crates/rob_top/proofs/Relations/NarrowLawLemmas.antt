-- What `narrow yes` says of `solve` and `prove` on the same model at the same width.
use Rattle.std.proofs.Common.{◌≡◌, ◌++◌, ◌-◌, ◌^◌, ℕ, Bool, true, false, List, [], ◌∷◌, codes, append_assoc, arith, refl, sym, ◌∙◌, ap, subst}
use Rattle.rob_counterpart.specs.Counterpart.{set_program, counterpart}
use Rattle.rob_dualize.specs.Solving.{IsNarrowModel}
use Rattle.rob_algebra.specs.Fraction.{Fraction}
use Rattle.rob_meaning.specs.Certificates.{Status}
use Rattle.rob_meaning.specs.Proves.{HasStatus}
use Rattle.rob_meaning.specs.UncertaintySet.{Admits, IsEmptySet}
use Rattle.rob_model.specs.declared.place.Spot.{Spot}
use Rattle.rob_report.specs.NarrowText.{narrow_line}
use Rattle.rob_sets.specs.FirstWide.{NothingWide}
use Rattle.rob_syntax.specs.Symbols.{first_of}
use Rattle.rob_top.specs.Calls.{Call, Known, known_call, limit_of}
use Rattle.rob_top.specs.Commands.{IsSolving}
use Rattle.rob_top.specs.Completeness.{MustEnd}
use Rattle.rob_top.specs.Endings.{EndsAs, IsShownAnswer}
use Rattle.rob_top.specs.Inputs.{HasForms, HasModel}
use Rattle.rob_top.specs.Narrowed.{IsNarrowed, program_line}
use Rattle.rob_commands.specs.Replies.{ended_of}
use Rattle.rob_commands.specs.declared.ended.Ended.{Ended}
use Rattle.rob_commands.specs.declared.ended.Ended.TheVariants.{TooWide}
use Rattle.rob_words.specs.Commands.{Line}
use Rattle.rob_words.specs.Values.{bits_of}
use Rattle.rob_words.specs.declared.route.Route.TheVariants.{Dual}
use Rattle.rob_words.specs.declared.width.Width.{Width}
use Rattle.rob_elab.specs.Written.{judged}

-- ---- the end of a text
-- the last two bytes, where there are as many
abbrev last_two : List ℕ → List ℕ
last_two [] = []
last_two (a ∷ []) = []
last_two (a ∷ b ∷ []) = a ∷ b ∷ []
last_two (a ∷ b ∷ c ∷ rest) = last_two (b ∷ c ∷ rest)

ends_alike : (front : List ℕ) (a b : ℕ) → last_two (front ++ a ∷ b ∷ []) ≡ a ∷ b ∷ []
ends_alike [] a b = refl
ends_alike (x ∷ []) a b = refl
ends_alike (x ∷ y ∷ []) a b = refl
ends_alike (x ∷ y ∷ z ∷ front) a b = ends_alike (y ∷ z ∷ front) a b

yes_or_no : (front rest : List ℕ) (answer : Bool)
    → rest ++ narrow_line answer ≡ front ++ narrow_line true → answer ≡ true
yes_or_no front rest true e = refl
yes_or_no front rest false e =
    let no : last_two (rest ++ narrow_line false) ≡ 111 ∷ 10 ∷ [] =
    ap last_two (sym (append_assoc rest (codes "narrow n") (111 ∷ 10 ∷ [])))
    ∙ ends_alike (rest ++ codes "narrow n") 111 10
    in
    let ok : last_two (front ++ narrow_line true) ≡ 115 ∷ 10 ∷ [] =
    ap last_two (sym (append_assoc front (codes "narrow ye") (115 ∷ 10 ∷ [])))
    ∙ ends_alike (front ++ codes "narrow ye") 115 10
    in
    let n : ℕ = 111 in
    let differ : n ≡ 115 = ap first_of (sym no ∙ ap last_two e ∙ ok) in
    absurd (omega arith)

-- ---- the model is narrow
module _ (narrowing : Call) (text : List ℕ) (narrowed : IsNarrowed narrowing text) (front : List ℕ)
    (says : text ≡ front ++ narrow_line true) where
  pub says_narrow : IsNarrowModel (limit_of narrowed.line) narrowed.m
  says_narrow =
      let t = narrowed.told in
      let set = program_line (limit_of narrowed.line) (codes "set") (set_program narrowed.m) t.set_size in
      let reform = program_line (limit_of narrowed.line) (codes "reform") (counterpart narrowed.m) t.counterpart_size in
      t.narrow.0 (yes_or_no front (set ++ reform) t.yes
      (append_assoc set reform (narrow_line t.yes) ∙ sym t.printed ∙ says))

  -- and nothing is wide in its set rows and forms, at each line of the same width
  pub forms_again : (call : Call) (line : Line) → line.width ≡ narrowed.line.width → HasModel call line narrowed.m
      → HasForms call line narrowed.m
  forms_again call line width has = record {
    model = has;
    none_wide =
        subst (λ (w : Width). NothingWide (2 ^ bits_of w - 1) narrowed.m
        (judged narrowed.m)) (sym width)
        narrowed.forms.none_wide;
  }

  pub narrow_again : (line : Line) → line.width ≡ narrowed.line.width → IsNarrowModel (limit_of line) narrowed.m
  narrow_again line width = subst (λ (w : Width). IsNarrowModel (2 ^ bits_of w - 1) narrowed.m) (sym width) says_narrow

-- so no wide number is named
pub narrow_refuses_none : (narrowing : Call) (text : List ℕ) (narrowed : IsNarrowed narrowing text) (front : List ℕ)
    → text ≡ front ++ narrow_line true
    → (solving : Call) (known : Known solving.source) (line : Line)
    → line.width ≡ narrowed.line.width → IsSolving line.verb
    → line.way ≡ Dual → HasModel (known_call solving known) line narrowed.m → (ended : Ended)
    → MustEnd (known_call solving known) ended → (spot : Spot)
    → ended ≡ TooWide spot → ⊥
narrow_refuses_none narrowing text narrowed front says solving known line width solves by_dual has ended must spot =
    must.narrow_spot line narrowed.m spot
    (forms_again narrowing text narrowed front says (known_call solving known) line width has) solves by_dual
    (narrow_again narrowing text narrowed front says line width)

-- and where a scenario is admitted, the status is answered
pub narrow_has_status : (narrowing : Call) (text : List ℕ) (narrowed : IsNarrowed narrowing text) (front : List ℕ)
    → text ≡ front ++ narrow_line true
    → (solving : Call) (known : Known solving.source) (line : Line)
    → line.width ≡ narrowed.line.width → IsSolving line.verb
    → line.way ≡ Dual → HasModel (known_call solving known) line narrowed.m → (ended : Ended)
    → MustEnd (known_call solving known) ended → (u : List Fraction)
    → Admits narrowed.m u → (status : Status) × (v : Fraction) × HasStatus narrowed.m status v
    × EndsAs (ended_of status) ended
narrow_has_status narrowing text narrowed front says solving known line width solves by_dual has ended must u =
    must.narrow_status line narrowed.m u
    (forms_again narrowing text narrowed front says (known_call solving known) line width has) solves by_dual
    (narrow_again narrowing text narrowed front says line width)

-- where none is, that the set is empty
pub narrow_shows_empty : (narrowing : Call) (text : List ℕ) (narrowed : IsNarrowed narrowing text) (front : List ℕ)
    → text ≡ front ++ narrow_line true
    → (solving : Call) (known : Known solving.source) (line : Line)
    → line.width ≡ narrowed.line.width → IsSolving line.verb
    → HasModel (known_call solving known) line narrowed.m → (ended : Ended) → MustEnd (known_call solving known) ended
    → IsEmptySet narrowed.m → IsShownAnswer narrowed.m ended
narrow_shows_empty narrowing text narrowed front says solving known line width solves has ended must =
    must.narrow_empty line narrowed.m
    (forms_again narrowing text narrowed front says (known_call solving known) line width has) solves
    (narrow_again narrowing text narrowed front says line width)
