-- A program's numbers as lists, and when the counterpart can be told row by row.
use Rattle.std.proofs.Common.{◌≡◌, ℕ, zero, suc, length, refl, sym, ap, ◌∙◌, arith}
use Rattle.std.specs.Prelude.{All}
use Rattle.rob_linear.specs.Programs.{Program}
use Rattle.rob_meaning.specs.Places.{tabulate}
use Rattle.rob_rows.specs.declared.program.Lp.{Lp}
use Rattle.rob_rows.specs.LinearPrograms.{IsShaped}
use Rattle.rob_sets.specs.declared.set_form.SetForm.{SetForm}
use Rattle.rob_elab.specs.declared.forms.Forms.{Forms}
use Rattle.rob_dualize.specs.Wholes.{counterpart_of, IsFew, AreSound, IsSound}

-- the program's rows, right sides and costs as lists
abbrev pub listed : Program → Lp
listed P = record { a = tabulate P.m (λ t. tabulate P.n (P.a t)); b = tabulate P.m P.b; c = tabulate P.n P.c }

-- what the counterpart's numbers are read by, where it is as few as a solver takes
pub record CanBeTold (forms : Forms) (set : SetForm) : Type 0 where
  pub sound_forms : AreSound forms
  pub sound_set : IsSound set
  pub few : IsFew (counterpart_of forms set)

-- ---- the law of what is told: lists of a program's numbers have its shape
length_of : {A : Type 0} (n : ℕ) (f : ℕ → A) → length (tabulate n f) ≡ n
length_of zero f = refl
length_of (suc n) f = ap suc (length_of n (λ k. f (suc k)))

all_of : {A : Type 0} (Q : A → Type 0) (n : ℕ) (f : ℕ → A) → ((k : ℕ) → Q (f k)) → All Q (tabulate n f)
all_of Q zero f h k d l = absurd (omega arith)
all_of Q (suc n) f h zero d l = h zero
all_of Q (suc n) f h (suc k) d l = all_of Q n (λ j. f (suc j)) (λ j. h (suc j)) k d (omega arith)

pub listed_is_shaped : (P : Program) → IsShaped (listed P)
listed_is_shaped P = record {
  rows = length_of P.m (λ t. tabulate P.n (P.a t)) ∙ sym (length_of P.m P.b);
  columns =
      all_of (λ row. length row ≡ length (tabulate P.n P.c)) P.m (λ t. tabulate P.n (P.a t))
      (λ t. length_of P.n (P.a t) ∙ sym (length_of P.n P.c));
}
