-- The answers of a sweep, one limit after another.
use Rattle.std.proofs.Common.{◌≡◌, ℕ, ◌+◌, ◌<◌, ◌≤◌, List, [], ◌∷◌, ◌++◌, map, length, get_or, drop, sym, subst, ◌∙◌, arith, append_assoc, length-append}
use Rattle.std.proofs.lemmas.List.{append-nil}
use Rattle.rob_algebra.specs.Fraction.{Fraction}
use Rattle.rob_dualize.specs.Models.{IsWideIn}
use Rattle.rob_meaning.specs.RobustModel.{RobustModel}
use Rattle.rob_model.proofs.PartLemmas.{drop_at, drop_all}
use Rattle.rob_model.specs.declared.place.Spot.{Spot}
use Rattle.rob_reach.specs.Sweeps.{Answers, SweepAnswer, Swept, with_budget}
use Rattle.rob_sweep.specs.Answering.{AreWritten, EachAnswer, NamesEmpty}
use Rattle.rob_sweep.specs.Stops.{HasCause, IsLimitStop, IsWideAtLimit, KeepsRules}
use Rattle.rob_sweep.specs.declared.answer.SweepStop.{SweepStop}
use Rattle.rob_sweep.specs.declared.answer.SweepStop.TheVariants.{Rule, Wide, Memory}
use Rattle.rob_elab.specs.Written.{IsWritten}

-- what was answered of one model
pub record IsAnswered (limit : ℕ) (m : RobustModel) (a : SweepAnswer) : Type 0 where
  pub written : IsWritten limit m
  pub answers : Answers m a
  pub names : NamesEmpty m a

-- how far a sweep is: of all limits, those before the others have their answers
pub record HasSwept (limit : ℕ) (m : RobustModel) (n : ℕ) (all others : List Fraction) (number : ℕ)
    (answers : List SweepAnswer) : Type 0 where
  pub before : List Fraction
  pub order : all ≡ before ++ others
  pub count : number ≡ length before
  pub swept : EachAnswer (IsAnswered limit) m n before answers

module _ (limit : ℕ) (m : RobustModel) (n : ℕ) where
  each_more : (P : RobustModel → SweepAnswer → Type 0) (before : List Fraction) (answers : List SweepAnswer)
      (g : Fraction) (a : SweepAnswer)
      → EachAnswer P m n before answers → P (with_budget m n g) a
      → EachAnswer P m n (before ++ g ∷ []) (answers ++ a ∷ [])
  each_more P [] [] g a h p = (p, tt)
  each_more P [] (b ∷ answers) g a h p = absurd h
  each_more P (f ∷ before) [] g a h p = absurd h
  each_more P (f ∷ before) (b ∷ answers) g a h p = (h.0, each_more P before answers g a h.1 p)

  pub swept_of : (limits : List Fraction) (answers : List SweepAnswer)
      → EachAnswer (IsAnswered limit) m n limits answers → Swept m n limits answers
  swept_of [] [] h = tt
  swept_of [] (a ∷ answers) h = absurd h
  swept_of (g ∷ limits) [] h = absurd h
  swept_of (g ∷ limits) (a ∷ answers) h = (h.0.answers, swept_of limits answers h.1)

  pub names_of : (limits : List Fraction) (answers : List SweepAnswer)
      → EachAnswer (IsAnswered limit) m n limits answers → EachAnswer NamesEmpty m n limits answers
  names_of [] [] h = tt
  names_of [] (a ∷ answers) h = absurd h
  names_of (g ∷ limits) [] h = absurd h
  names_of (g ∷ limits) (a ∷ answers) h = (h.0.names, names_of limits answers h.1)

  pub written_of : (limits : List Fraction) (answers : List SweepAnswer)
      → EachAnswer (IsAnswered limit) m n limits answers → AreWritten limit m n limits
  written_of [] [] h = tt
  written_of [] (a ∷ answers) h = absurd h
  written_of (g ∷ limits) [] h = absurd h
  written_of (g ∷ limits) (a ∷ answers) h = (h.0.written, written_of limits answers h.1)

  -- all limits
  pub has_swept_all : (all : List Fraction) (number : ℕ) (answers : List SweepAnswer)
      → HasSwept limit m n all [] number answers
      → EachAnswer (IsAnswered limit) m n all answers
  has_swept_all all number answers h =
      subst (λ (limits : List Fraction). EachAnswer (IsAnswered limit) m n limits answers)
      (sym (h.order ∙ append-nil h.before)) h.swept

  -- of the limits that are left the first one is next
  pub next_at : {X : Type 0} (value : X → Fraction) (limits : List X) (i : ℕ) (x : X) (all : List Fraction) (number : ℕ)
      (answers : List SweepAnswer)
      → i < length limits → x ≡ get_or limits i x → HasSwept limit m n all (map value (drop i limits)) number answers
      → HasSwept limit m n all (value x ∷ map value (drop (i + 1) limits)) number answers
  next_at {X} value limits i x all number answers h e =
      subst (λ (xs : List X). HasSwept limit m n all (map value xs) number answers) (drop_at limits i x h e)

  -- none is left
  pub none_left : {X : Type 0} (value : X → Fraction) (limits : List X) (i : ℕ) (all : List Fraction) (number : ℕ)
      (answers : List SweepAnswer)
      → length limits ≤ i → HasSwept limit m n all (map value (drop i limits)) number answers
      → EachAnswer (IsAnswered limit) m n all answers
  none_left {X} value limits i all number answers h swept =
      has_swept_all all number answers
      (subst (λ (xs : List X). HasSwept limit m n all (map value xs) number answers) (drop_all i limits h) swept)

  -- one limit more
  pub has_swept_more : (all others : List Fraction) (g : Fraction) (number next : ℕ)
      (answers more : List SweepAnswer) (a : SweepAnswer)
      → HasSwept limit m n all (g ∷ others) number answers → next ≡ number + 1 → more ≡ answers ++ a ∷ []
      → IsWritten limit (with_budget m n g)
      → Answers (with_budget m n g) a → NamesEmpty (with_budget m n g) a → HasSwept limit m n all others next more
  has_swept_more all others g number next answers more a h e pushed whole answered names = record {
    before = h.before ++ g ∷ [];
    order = h.order ∙ sym (append_assoc h.before (g ∷ []) others);
    count = omega (arith, e, h.count, length-append h.before (g ∷ []));
    swept = subst (EachAnswer (IsAnswered limit) m n (h.before ++ g ∷ [])) (sym pushed)
        (each_more (IsAnswered limit) h.before answers g a h.swept
        (record { written = whole; answers = answered; names = names }));
  }

  -- the next one has a wide number
  pub has_swept_wide : (all others : List Fraction) (g : Fraction) (number next : ℕ)
      (answers : List SweepAnswer) (spot : Spot)
      → HasSwept limit m n all (g ∷ others) number answers → next ≡ number + 1 → IsWideIn limit (with_budget m n g) spot
      → IsWideAtLimit limit m n all next spot
  has_swept_wide all others g number next answers spot h e wide = record {
    before = h.before;
    here = g;
    after = others;
    order = h.order;
    counted = omega (arith, e, h.count);
    written_before = written_of h.before answers h.swept;
    wide = wide;
  }

  -- why the next one has no answer is why the sweep has none
  pub stops_there : (all others : List Fraction) (g : Fraction) (number next : ℕ)
      (answers : List SweepAnswer) (stop : SweepStop)
      → KeepsRules m.set_lines n all → HasSwept limit m n all (g ∷ others) number answers → next ≡ number + 1
      → IsLimitStop limit (with_budget m n g) next stop → HasCause limit m n all stop
  stops_there all others g number next answers (Rule rule) rules h e c = absurd c
  stops_there all others g number next answers (Wide other spot) rules h e c =
      (rules, has_swept_wide all others g number other answers spot h (c.0 ∙ e) c.1)
  stops_there all others g number next answers Memory rules h e c = rules
