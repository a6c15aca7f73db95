-- The bound of a program's rows is what is told of it, and it is within the limit exactly where the program is narrow.
use Rattle.std.proofs.Common.{◌≡◌, ◌≢◌, ℕ, suc, ◌<◌, ◌≤◌, sym, ap, ◌∙◌, subst, arith, inl, inr, List, [], length, get_or, nat_abs, if◌then◌else◌, Bool, Option, Some, None, MatchOption, ◌↔◌}
use Rattle.std.proofs.Math.Nat.{mul-le-mul_left, pow-le-pow_left}
use Rattle.std.proofs.lemmas.Bool.{cases_lt, le-leb, lt-leb}
use Rattle.std.proofs.lemmas.List.{get_or_default}
use Rattle.std.specs.Int.RustNames.{unsigned_abs}
use lib.IntN.{ℤ, pos}
use Rattle.rob_linear.specs.Programs.{Program}
use Rattle.rob_linear.specs.Vectors.{at}
use Rattle.rob_bounds.specs.Bounds.{IsOfSize, IsNarrow, row_bound}
use Rattle.rob_counterpart.specs.Reform.{reform}
use Rattle.rob_counterpart.specs.RobustProgram.{RobustProgram}
use Rattle.rob_counterpart.specs.SamePrograms.{AreSame}
use Rattle.rob_counterpart.proofs.Positions.SamePaths.{same_back}
use Rattle.rob_narrow.specs.NarrowPrograms.{IsGreatest}
use Rattle.rob_narrow.proofs.Numbers.{program_sized}
use Rattle.rob_rows.specs.declared.program.Lp.{Lp}
use Rattle.rob_rows.specs.LinearPrograms.{HasNumbersWithin, IsShaped, program_of}
use Rattle.rob_rows.specs.PrimitiveParts.{IsWithin}
use Rattle.rob_meaning.specs.RobustModel.{RobustModel}
use Rattle.rob_counterpart.specs.Counterpart.{set_program, counterpart}
use Rattle.rob_sets.specs.SetForm.{IsSetForm}
use Rattle.rob_sets.specs.declared.set_form.SetForm.{SetForm}
use Rattle.rob_elab.specs.Forms.{IsForms}
use Rattle.rob_elab.specs.declared.forms.Forms.{Forms}
use Rattle.rob_dualize.specs.RowBounds.{AreBothWithin, IsGreatestSize, TellsBound, TellsBounds, up_to}
use Rattle.rob_dualize.specs.Solving.{IsNarrowModel}
use Rattle.rob_dualize.specs.SetSolving.{program_of_set}
use Rattle.rob_dualize.specs.Wholes.{counterpart_of}
use Rattle.rob_dualize.proofs.SetLemmas.{set_same}
use Rattle.rob_dualize.proofs.Soundness.{wholes_are}
use Rattle.rob_dualize.specs.declared.bounds.ModelBounds.{ModelBounds}
use Rattle.rob_dualize.specs.declared.bounds.RowBound.{RowBound}

-- ---- numbers of a program as data
-- an entry of a list that isn't past its end
entry_within : (a : ℕ) (row : List ℤ) → ((k : ℕ) → k < length row → unsigned_abs (at row k) ≤ a) → IsWithin a row
entry_within a row h k d kl = subst (λ v. nat_abs v ≤ a) (get_or_default row k (pos 0) d kl) (h k kl)

-- the program's numbers are those of the data, so these are no greater
pub numbers_sized : (a : ℕ) (lp : Lp) → IsShaped lp → IsOfSize a (program_of lp) → HasNumbersWithin a lp
numbers_sized a lp s h =
    let rows : length lp.a ≡ length lp.b = s.rows in
    record {
      a = λ k d kl.
          let width : length (get_or lp.a k d) ≡ length lp.c = s.columns k d kl in
          entry_within a (get_or lp.a k d)
          (λ j jl.
          subst (λ row. unsigned_abs (at row j) ≤ a) (get_or_default lp.a k [] d kl)
          (h.left k j (omega arith) (omega arith)));
      b = entry_within a lp.b h.right;
      c = entry_within a lp.c h.cost;
    }

pub greatest_size : (a : ℕ) (lp : Lp) → IsShaped lp → IsGreatest a lp → IsGreatestSize a (program_of lp)
greatest_size a lp s g = record {
  positive = g.positive;
  sized = program_sized a lp g.within;
  least = λ h p o. g.least h p (numbers_sized h lp s o);
}

-- ---- programs with the same numbers
pub sized_same : (a : ℕ) (P Q : Program) → AreSame P Q → IsOfSize a P → IsOfSize a Q
sized_same a P Q s h =
    let height : P.m ≡ Q.m = s.height in
    let width : P.n ≡ Q.n = s.width in
    record {
      left = λ i j il jl. subst (λ v. unsigned_abs v ≤ a) (s.rows i j (omega arith) (omega arith))
          (h.left i j (omega arith) (omega arith));
      right = λ i l. subst (λ v. unsigned_abs v ≤ a) (s.rights i (omega arith)) (h.right i (omega arith));
      cost = λ j l. subst (λ v. unsigned_abs v ≤ a) (s.costs j (omega arith)) (h.cost j (omega arith));
    }

pub greatest_same : (a : ℕ) (P Q : Program) → AreSame P Q → IsGreatestSize a P → IsGreatestSize a Q
greatest_same a P Q s g = record {
  positive = g.positive;
  sized = sized_same a P Q s g.sized;
  least = λ h p o. g.least h p (sized_same h Q P (same_back P Q s) o);
}

pub told_same : (limit : ℕ) (P Q : Program) (told : RowBound) → AreSame P Q → TellsBound limit P told
    → TellsBound limit Q told
told_same limit P Q told s h = record {
  rows = h.rows ∙ s.height;
  greatest = greatest_same told.greatest P Q s h.greatest;
  bound = h.bound ∙ ap (λ m. up_to limit (row_bound m told.greatest)) s.height;
}

-- ---- what is told
up_to_low : (limit n : ℕ) → n ≤ limit → up_to limit n ≡ Some n
up_to_low limit n l = ap (λ (b : Bool). if b then Some n else None) (le-leb n limit l)

up_to_high : (limit n : ℕ) → limit < n → up_to limit n ≡ None
up_to_high limit n l = ap (λ (b : Bool). if b then Some n else None) (lt-leb n limit l)

bound_told : (limit n : ℕ) (answer : Option ℕ) → MatchOption answer (limit < n) (λ bound. (bound ≡ n) × (bound ≤ limit))
    → answer ≡ up_to limit n
bound_told limit n None h = sym (up_to_high limit n h)
bound_told limit n (Some bound) h =
    ap (λ (v : ℕ). Some v) h.0 ∙ sym (up_to_low limit n (subst (λ v. v ≤ limit) h.0 h.1))

-- what is told of a program
pub told_of : (limit most a rows : ℕ) (lp : Lp) (answer : Option ℕ) → most ≡ limit → IsShaped lp → IsGreatest a lp
    → rows ≡ length lp.b
    → MatchOption answer (most < row_bound rows a) (λ bound. (bound ≡ row_bound rows a) × (bound ≤ most))
    → TellsBound limit (program_of lp) (record { rows = rows; greatest = a; bound = answer })
told_of limit most a rows lp answer e s g r h = record {
  rows = r;
  greatest = greatest_size a lp s g;
  bound = bound_told most (row_bound rows a) answer h
      ∙ ap (λ v. up_to v (row_bound rows a)) e ∙ ap (λ v. up_to limit (row_bound v a)) r;
}

-- ---- narrow programs
pub narrow_of_bound : (limit : ℕ) (P : Program) (told : RowBound) → TellsBound limit P told → told.bound ≢ None
    → IsNarrow limit P
narrow_of_bound limit P told h some =
    elim (cases_lt limit (row_bound P.m told.greatest)) [
      | inl l ↦ absurd (some (h.bound ∙ up_to_high limit (row_bound P.m told.greatest) l))
      | inr l ↦ record {
        size = told.greatest;
        positive = h.greatest.positive;
        sized = h.greatest.sized;
        bound = omega arith;
      }
    ]

-- greater numbers have no smaller bound
row_bound_up : (m a b : ℕ) → a ≤ b → row_bound m a ≤ row_bound m b
row_bound_up m a b l = pow-le-pow_left (mul-le-mul_left (suc m) l) (suc m)

pub bound_of_narrow : (limit : ℕ) (P : Program) (told : RowBound) → TellsBound limit P told → IsNarrow limit P
    → told.bound ≢ None
bound_of_narrow limit P told h n none =
    let size : told.greatest ≤ n.size = h.greatest.least n.size n.positive n.sized in
    let up : row_bound P.m told.greatest ≤ row_bound P.m n.size = row_bound_up P.m told.greatest n.size size in
    let low : row_bound P.m n.size ≤ limit = n.bound in
    let some : None ≡ Some (row_bound P.m told.greatest) =
    sym none ∙ h.bound ∙ up_to_low limit (row_bound P.m told.greatest) (omega arith) in
    cc

-- ---- the two programs of a model
pub both_narrow : (limit : ℕ) (m : RobustModel) (told : ModelBounds) → TellsBounds limit m told
    → AreBothWithin told ↔ IsNarrowModel limit m
both_narrow limit m told h = (
  λ both. record {
    set = narrow_of_bound limit (set_program m) told.set h.set both.0;
    counterpart = narrow_of_bound limit (counterpart m) told.counterpart h.counterpart both.1;
  },
  λ narrow. (
    bound_of_narrow limit (set_program m) told.set h.set narrow.set,
    bound_of_narrow limit (counterpart m) told.counterpart h.counterpart narrow.counterpart,
  ),
)

pub told_of_model : (limit : ℕ) (m : RobustModel) (forms : Forms) (set : SetForm) → IsForms m forms → IsSetForm m set
    → (of_set of_counterpart : RowBound) → TellsBound limit (program_of_set set) of_set
    → TellsBound limit (counterpart_of forms set) of_counterpart
    → TellsBounds limit m (record { set = of_set; counterpart = of_counterpart })
told_of_model limit m forms set f st of_set of_counterpart h k = record {
  set = told_same limit (program_of_set set) (set_program m) of_set (set_same m set st) h;
  counterpart = subst (λ (q : RobustProgram). TellsBound limit (reform q) of_counterpart)
      (wholes_are m forms set f st) k;
}
