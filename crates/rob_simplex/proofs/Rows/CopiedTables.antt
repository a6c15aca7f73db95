-- A dictionary, and a solver, that are made like others.
use Rattle.std.proofs.Common.{◌≡◌, ℕ, ◌+◌, ◌-◌, ◌<◌, ◌≤◌, ◌∙◌, sym, ap, subst, arith, List, length}
use lib.IntN.{ℤ, nat_abs}
use Rattle.rob_algebra.proofs.WholeNumbers.{at_block}
use Rattle.rob_linear.specs.Vectors.{at}
use Rattle.rob_table.specs.Tables.{HasBounds}
use Rattle.rob_simplex.specs.declared.state.State.{State}
use Rattle.rob_simplex.specs.Dictionaries.{Table, IsSound}
use Rattle.rob_simplex.specs.Solvers.{Solver}

abbrev pub table_of : ℕ → ℕ → List ℕ → List ℕ → List ℤ → Table
table_of l n b p t = record { limit = l; columns = n; basis = b; places = p; table = t }

pub same_table : (l l' n n' : ℕ) (b b' p p' : List ℕ) (t t' : List ℤ) → l ≡ l' → n ≡ n' → b ≡ b' → p ≡ p' → t ≡ t'
    → table_of l n b p t ≡ table_of l' n' b' p' t'
same_table l l' n n' b b' p p' t t' el en eb ep et =
    ap (λ v. table_of v n b p t) el ∙ ap (λ v. table_of l' v b p t) en ∙ ap (λ v. table_of l' n' v p t) eb
    ∙ ap (λ v. table_of l' n' b' v t) ep ∙ ap (λ v. table_of l' n' b' p' v) et

pub copied_sound : (l l' n n' : ℕ) (b b' p p' k k' : List ℕ) (t t' : List ℤ) (u u' : List ℕ) (workspace workspace' : ℕ)
    → l ≡ l' → n ≡ n' → b ≡ b' → p ≡ p' → k ≡ k' → t ≡ t' → u ≡ u' → workspace ≡ workspace'
    → IsSound l' n' b' p' k' t' u' workspace' → IsSound l n b p k t u workspace
copied_sound l l' n n' b b' p p' k k' t t' u u' workspace workspace' el en eb ep ek et eu er h =
    subst (λ v. IsSound v n b p k t u workspace) (sym el)
    (subst (λ v. IsSound l' v b p k t u workspace) (sym en)
    (subst (λ v. IsSound l' n' v p k t u workspace) (sym eb)
    (subst (λ v. IsSound l' n' b' v k t u workspace) (sym ep)
    (subst (λ v. IsSound l' n' b' p' v t u workspace) (sym ek)
    (subst (λ v. IsSound l' n' b' p' k' v u workspace) (sym et)
    (subst (λ v. IsSound l' n' b' p' k' t' v workspace) (sym eu)
    (subst (λ v. IsSound l' n' b' p' k' t' u' v) (sym er) h)))))))

abbrev pub solver_of : State → Table → List ℤ → Solver
solver_of s t w = record { state = s; dictionary = t; weights = w }

pub same_solver : (s : State) (t t' : Table) (w w' : List ℤ) → t ≡ t' → w ≡ w' → solver_of s t w ≡ solver_of s t' w'
same_solver s t t' w w' et ew = ap (λ v. solver_of s v w) et ∙ ap (λ v. solver_of s t' v) ew

-- ---- rows of a greater limit
pub raised_sound : (l l' n : ℕ) (b p k : List ℕ) (t : List ℤ) (u : List ℕ) (workspace workspace' : ℕ) → l ≤ l'
    → workspace' ≡ n + 4 → IsSound l n b p k t u workspace → IsSound l' n b p k t u workspace'
raised_sound l l' n b p k t u workspace workspace' up er h = record {
  few = h.few;
  limit_low = omega (arith, h.limit_low);
  count = h.count;
  bounded =
      record {
        size = h.bounded.size;
        within = h.bounded.within;
        low = λ i il. let x =
            h.bounded.low i il in omega arith;
      };
  places_size = h.places_size;
  near_size = h.near_size;
  placed = h.placed;
  right_at = h.right_at;
  workspace_is = er;
}

-- each number is within the limit, since its place stands in a row
pub place_within : (limit width : ℕ) (table : List ℤ) (bounds : List ℕ) → HasBounds limit width table bounds → (k : ℕ)
    → k < length table → nat_abs (at table k) ≤ limit
place_within limit width table bounds h k l =
    let r = at_block (length bounds) width k (subst (λ n. k < n) h.size l) in
    let w = h.within r.0 r.1 r.2 r.3 in
    let b = h.low r.0 r.2 in
    subst (λ n. nat_abs (at table n) ≤ limit) (sym r.4) (omega (arith, w, b))
