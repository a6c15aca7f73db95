-- What is said of the answer of a call that gives an error on.
use Rattle.std.specs.Prelude.{◌≡◌, Result, Ok, Err, IfOk, IfErr, OnOk, IsErrAnd}
use Rattle.std.proofs.Common.{sym, subst}

module _ {T E : Type 0} where
  pub on_error : (r : Result T E) (P : E → Type 0) (e : E) → IsErrAnd r (λ d. d ≡ e) → P e → IfErr r P
  on_error (Ok x) P e is h = absurd is
  on_error (Err d) P e is h = subst P (sym is) h

  pub no_answer : (r : Result T E) (P : T → Type 0) (e : E) → IsErrAnd r (λ d. d ≡ e) → IfOk r P
  no_answer (Ok x) P e is = absurd is
  no_answer (Err d) P e is = tt

  pub none_answered : (r : Result T E) (P : Type 0) (e : E) → IsErrAnd r (λ d. d ≡ e) → OnOk r P
  none_answered (Ok x) P e is = absurd is
  none_answered (Err d) P e is = tt
