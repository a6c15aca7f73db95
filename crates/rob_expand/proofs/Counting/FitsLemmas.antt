-- What is left behind all that a statement stands for, whatever its words are.
use Rattle.std.proofs.Common.{◌≡◌, ℕ, List, Option, Some, None, sym, ap, ◌∙◌, subst}
use Rattle.std.specs.Prelude.{Result, MatchResult, Ok, Err}
use Rattle.rob_settings.specs.declared.room.Stop.{Stop}
use Rattle.rob_settings.specs.Room.{HasStop}
use Rattle.rob_settings.specs.Settings.{all_left}
use Rattle.rob_settings.proofs.AnswerLemmas.{stopped}

-- what is said of one count is said of all that are equal to it
pub moved_all : {A W : Type 0} (r : Result A Stop) (o : Option A) (w : W → Option A)
    → MatchResult r (λ c. o ≡ Some c) (λ e. HasStop o e) → ((x : W) → o ≡ w x)
    → MatchResult r (λ c. (x : W) → w x ≡ Some c) (λ e. (x : W) → HasStop (w x) e)
moved_all (Ok c) o w given same = λ x. sym (same x) ∙ given
moved_all {A} (Err e) o w given same = λ x. subst (λ (y : Option A). HasStop y e) (same x) given

-- the same settings
pub settings_left : {A : Type 0} (f : A → ℕ → Option ℕ) (xs ys : List A) → xs ≡ ys → (room : ℕ)
    → all_left f xs room ≡ all_left f ys room
settings_left {A} f xs ys same room = ap (λ (l : List A). all_left f l room) same

-- a part that stops the count stops all of these
pub refused_all : {A B V W : Type 0} (r : Result V Stop) (P : V → Type 0) (o : Option A) (w : W → Option B) (e f : Stop)
    → r ≡ Err f → f ≡ e → ((x : W) → o ≡ None → w x ≡ None) → HasStop o e
    → MatchResult r P (λ e. (x : W) → HasStop (w x) e)
refused_all r P o w e f is same up cause =
    rw is (λ x. subst (HasStop (w x)) (sym same) (stopped o (w x) e (up x) cause))
