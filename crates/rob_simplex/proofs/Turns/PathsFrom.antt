-- Paths that go on from the basis of a dictionary.
use Rattle.std.proofs.Common.{◌≡◌, ℕ, zero, suc, sym, refl, subst, inl, inr, Option}
use Rattle.rob_linear.specs.Vectors.{Columns, Matrix}
use Rattle.rob_linear.specs.Programs.{Program, system_of}
use Rattle.rob_linear.specs.Turns.{own_of}
use Rattle.rob_linear.specs.Paths.{HasAuxiliary, Reached, IsFeasibleBasis, ReachedFrom}
use Rattle.rob_linear.specs.WideRows.{HasWideRow, HasWideRowFrom}
use Rattle.rob_linear.specs.Multiples.{StandsMultiple}
use Rattle.rob_linear.specs.Beside.{without_column}
use Rattle.rob_linear.proofs.BasisPaths.Starts.{system_tagged}
use Rattle.rob_linear.proofs.RowForms.Multiples.{multiple_rows_exist, rows_parallel, order_parallel}
use Rattle.rob_linear.proofs.CostChange.OtherCosts.{turned_on}
use Rattle.rob_simplex.specs.Dictionaries.{Table, rows_of, columns_of}
use Rattle.rob_simplex.specs.Phases.{StandsFor, InSecond, TurnsOn, HasRefused, EndsFrom, EndsIn}

-- a path may begin at a basis whose rows stand, up to positive factors
pub feasible_of : (P : Program) (basis : Columns) (rows : Matrix) → StandsMultiple (system_of P) basis rows
    → IsFeasibleBasis P basis
feasible_of P basis rows h =
    let b = multiple_rows_exist (system_of P) (own_of (system_of P) basis) rows (system_tagged P) h.multiples in
    let par = rows_parallel (system_of P) (own_of (system_of P) basis) b.0 rows b.1 h.multiples in
    record {
      rows = b.0;
      stands =
          record { is_basis = b.1; feasible = order_parallel (system_of P) rows b.0 (system_tagged P) par h.feasible };
    }

pub from_here : (P : Program) (t : Table) → StandsFor P t → ReachedFrom P (columns_of t.basis) (columns_of t.basis)
from_here P t h =
    record {
      feasible = feasible_of P (columns_of t.basis) (without_column P (rows_of t)) h.stands;
      turns =
          zero;
      turned = λ i l. refl;
    }

pub one_turn : (P : Program) (start : Columns) (t t' : Table) → ReachedFrom P start (columns_of t.basis)
    → TurnsOn P t t' → ReachedFrom P start (columns_of t'.basis)
one_turn P start t t' r x =
    record { feasible = r.feasible; turns = suc r.turns; turned = (columns_of t.basis, r.turned, x) }

-- it ends at this basis
pub ends_from : (P : Program) (start : Columns) (e : Option ℕ) (t t' : Table) → StandsFor P t
    → ReachedFrom P start (columns_of t.basis) → t' ≡ t → EndsIn P e t' → EndsFrom P start e t'
ends_from P start e t t' h r s x = record {
  own = subst (λ (u : Table). StandsFor P u) (sym s) h;
  reached = subst (λ (u : Table). ReachedFrom P start (columns_of u.basis)) (sym s) r;
  ends = x;
}

pub refused_from : (limit : ℕ) (P : Program) (start : Columns) (t t' : Table) (i : ℕ)
    → ReachedFrom P start (columns_of t.basis) → HasRefused limit P i t t'
    → HasWideRowFrom limit P start (columns_of t'.basis) i
refused_from limit P start t t' i r x = record { reached = one_turn P start t t' r x.0; wide = inl x.1 }

-- ---- from a basis on the program's path
pub second_from : (P : Program) (t t' : Table) (e : Option ℕ) → InSecond P t → EndsFrom P (columns_of t.basis) e t'
    → InSecond P t' × EndsIn P e t'
second_from P t t' e h f =
    let w : Reached P (columns_of t'.basis) × ¬ (HasAuxiliary P (columns_of t'.basis)) =
    turned_on P f.reached.turns (columns_of t.basis) (columns_of t'.basis) h.reached h.without f.reached.turned in
    (record { own = f.own; reached = w.0; without = w.1 }, f.ends)

pub wide_from : (limit : ℕ) (P : Program) (t : Table) (basis : Columns) (i : ℕ) → InSecond P t
    → HasWideRowFrom limit P (columns_of t.basis) basis i → HasWideRow limit P basis i
wide_from limit P t basis i h f = record {
  reached = (turned_on P f.reached.turns (columns_of t.basis) basis h.reached h.without f.reached.turned).0;
  wide = elim f.wide [ inl a ↦ inl a | inr b ↦ inr (inl b) ];
}
