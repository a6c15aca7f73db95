-- A solver that stands as another one does, over rows of another limit.
use Rattle.std.proofs.Common.{◌≡◌, ℕ, ◌∙◌, sym, refl, ap, subst, Option, List, length}
use lib.IntN.{ℤ}
use Rattle.rob_linear.specs.Programs.{Program}
use Rattle.rob_linear.specs.Vectors.{Columns}
use Rattle.rob_simplex.specs.Dictionaries.{Table, positions as rows_count, with_limit}
use Rattle.rob_simplex.specs.Judging.{Tells}
use Rattle.rob_simplex.specs.Phases.{StandsFor}
use Rattle.rob_simplex.specs.Resuming.{CanResume}
use Rattle.rob_simplex.specs.Endings.{IsPointAt}
use Rattle.rob_simplex.specs.Solvers.{Solver, HasWeights, growing_of, IsSound, StandsAs}
use Rattle.rob_simplex.specs.declared.state.State.{State}
use Rattle.rob_simplex.proofs.Rows.CopiedTables.{solver_of}

-- ---- what its rows tell
pub tells_with : (top limit : ℕ) (growing : Option ℕ) (t : Table) → Tells limit growing t
    → Tells limit growing (with_limit top t)
tells_with top limit growing t h = record {
  rows = λ i l. let x = h.rows i l in record { point = x.point; ray = x.ray };
  objective = λ e. let x = h.objective e in record { dual = x.dual; value = x.value };
}

-- ---- the invariant
pub deepened_sound : (low top limit : ℕ) (v : Solver) → IsSound low limit v → (HasWeights v → ⊥) → (t : Table)
    → t ≡ with_limit top v.dictionary → (w : List ℤ) → length w ≡ rows_count t
    → IsSound top limit (record { state = v.state; dictionary = t; weights = w })
deepened_sound low top limit v h none t e w size =
    subst (λ (u : Table). (x : List ℤ) → length x ≡ rows_count u
    → IsSound top limit (record { state = v.state; dictionary = u; weights = x })) (sym e)
    (λ x s. record {
      limit_is = refl;
      few = h.few;
      weights_size = s;
      weights_within = λ y. absurd (none y);
      own = h.own;
      column = h.column;
      growing = h.growing;
      objective = h.objective;
      told = λ y. tells_with top limit (growing_of v.state) v.dictionary (h.told y);
    }) w size

-- ---- what it stands for
pub stands_with : (top : ℕ) (P : Program) (t : Table) → StandsFor P t → StandsFor P (with_limit top t)
stands_with top P t h = record {
  rows_are = h.rows_are;
  columns_are = h.columns_are;
  stands = h.stands;
  empty = h.empty;
  closed = record { free = h.closed.free; zero = h.closed.zero };
}

module _ (top : ℕ) (s s' : Solver) (h : StandsAs top s s') where
  abbrev pub deep : Solver
  deep = record { state = s.state; dictionary = with_limit top s.dictionary; weights = s'.weights }

  pub deep_is : deep ≡ s'
  deep_is =
      ap (λ (x : State). solver_of x (with_limit top s.dictionary) s'.weights) (sym h.state)
      ∙ ap (λ (t : Table). solver_of s'.state t s'.weights) (sym h.dictionary)

  -- another cost can be put on its rows too
  pub can_resume : (P : Program) → CanResume P s → CanResume P s'
  can_resume P r =
      subst (λ (x : Solver). CanResume P x) deep_is
      (record { point = r.point; own = stands_with top P s.dictionary r.own })

  -- and it is at the same point
  pub same_point : (IsEnd : Columns → Type 0) (P : Program) → IsPointAt IsEnd P s → IsPointAt IsEnd P s'
  same_point IsEnd P p =
      subst (λ (x : Solver). IsPointAt IsEnd P x) deep_is (record { last = p.last; basis = p.basis; basic = p.basic })
