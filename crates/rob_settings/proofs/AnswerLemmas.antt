-- What is said of one count is said of an equal one, and what stops a part stops the whole.
use Rattle.std.proofs.Common.{◌≡◌, List, Option, Some, None, sym, ap, ◌∙◌, subst}
use Rattle.std.specs.Prelude.{ℤ, Result, Err, MatchResult}
use Rattle.rob_settings.specs.declared.room.Stop.{Stop}
use Rattle.rob_settings.specs.declared.room.Stop.TheVariants.{TooMuch, Memory}
use Rattle.rob_index.specs.Forms.{Form, value_of}
use Rattle.rob_settings.specs.Room.{HasStop}

-- a part that stops the count stops the whole
pub stopped : {A B : Type 0} (o : Option A) (w : Option B) (e : Stop) → (o ≡ None → w ≡ None) → HasStop o e
    → HasStop w e
stopped o w TooMuch h is = h is
stopped o w Memory h is = tt

-- at the exit of a `?`
pub refused : {A B V : Type 0} (r : Result V Stop) (P : V → Type 0) (o : Option A) (w : Option B) (e f : Stop)
    → r ≡ Err f → f ≡ e → (o ≡ None → w ≡ None) → HasStop o e → MatchResult r P (λ e. HasStop w e)
refused r P o w e f is same up cause = rw is (subst (HasStop w) (sym same) (stopped o w e up cause))

-- what is said of one count is said of an equal one
pub moved : {A : Type 0} (r : Result A Stop) (o w : Option A) → o ≡ w
    → MatchResult r (λ c. o ≡ Some c) (λ e. HasStop o e) → MatchResult r (λ c. w ≡ Some c) (λ e. HasStop w e)
moved {A} r o w same given = subst (λ (x : Option A). MatchResult r (λ c. x ≡ Some c) (λ e. HasStop x e)) same given

-- the value of a form that is told otherwise
pub value_read : (vs : List ℤ) {n : ℤ} {f g : Form} → n ≡ value_of f vs → f ≡ g → n ≡ value_of g vs
value_read vs n_is same = n_is ∙ ap (λ (f : Form). value_of f vs) same
