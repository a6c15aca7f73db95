-- The dictionary at the start, from what was told while it was written, and from lists that were lent and written back.
use Rattle.std.proofs.Common.{◌≡◌, ℕ, ◌+◌, ◌<◌, sym, ap, ◌∙◌, subst, arith, List, length}
use lib.IntN.{ℤ, pos, neg_ℤ}
use Rattle.rob_table.specs.Tables.{row_at}
use Rattle.rob_simplex.specs.Dictionaries.{columns_of, IsSound}
use Rattle.rob_simplex.specs.Starts.{start_place, start_column, start_entry, IsStartingTable}
use Rattle.rob_simplex.proofs.Turns.StartLemmas.{IsNumbered, starting}

-- the maps, where the lists that were numbered had these lengths
pub numbered_told : {n m lb lp ln : ℕ} {basis places near : List ℕ} → length basis ≡ lb → lb ≡ m → lp ≡ n + m + 4
    → ln ≡ n + 3 → ((i : ℕ) → i < lb → columns_of basis i ≡ n + i)
    → ((c : ℕ) → c < lp → columns_of places c ≡ start_place n m c)
    → ((k : ℕ) → k < ln → columns_of near k ≡ start_column n m k) → IsNumbered n basis places near
numbered_told {n = n} {places = places} {near = near} kept eb ep en slacks placed nears =
    let em = kept ∙ eb in
    record {
      slacks = λ i l. slacks i (omega (arith, kept));
      placed = λ k l.
          subst (λ x. columns_of places k ≡ start_place n x k) (sym em) (placed k (omega (arith, em, ep)));
      nears = λ k l. subst (λ x. columns_of near k ≡ start_column n x k) (sym em) (nears k (omega (arith, en)));
    }

-- the rows, for m positions and n' structural columns
module _ {n : ℕ} {basis places near : List ℕ} (numbered : IsNumbered n basis places near) {n' m : ℕ} (en : n' ≡ n)
    (em : length basis ≡ m) (a : ℕ → ℕ → ℤ) (b c : ℕ → ℤ) {table : List ℤ}
    (constraints : (i k : ℕ) → i < m → k < n' + 4
    → row_at table (n' + 4) i k ≡ start_entry n' (a i) (neg_ℤ (pos 1)) (b i) k)
    (objective : (k : ℕ) → k < n' + 4
    → row_at table (n' + 4) m k ≡ start_entry n' (λ j. neg_ℤ (c j)) (pos 0) (pos 0) k) where
  pub starting_told : (limit : ℕ) → IsStartingTable (record { m = length basis; n = n; a = a; b = b; c = c })
      (record { limit = limit; columns = n; basis = basis; places = places; table = table })
  starting_told =
      starting numbered a b c table
      (λ i k il kl. subst (λ x. row_at table (x + 4) i k ≡ start_entry x (a i) (neg_ℤ (pos 1)) (b i) k) en
      (constraints i k (omega (arith, em)) (omega (arith, en))))
      (λ k kl. ap (λ (i : ℕ). row_at table (n + 4) i k) em
      ∙ subst (λ x. row_at table (x + 4) m k ≡ start_entry x (λ j. neg_ℤ (c j)) (pos 0) (pos 0) k) en
      (objective k (omega (arith, en))))

-- ---- lists that were lent and written back, or copied
pub sound_carry : {limit n : ℕ} {b b' p p' r r' : List ℕ} {t t' : List ℤ} {s s' : List ℕ} {workspace : ℕ} → b' ≡ b
    → p' ≡ p → r' ≡ r → t' ≡ t → s' ≡ s → IsSound limit n b p r t s workspace → IsSound limit n b' p' r' t' s' workspace
sound_carry {limit = limit} {n = n} {b = b} {p = p} {p' = p'} {r = r} {r' = r'} {t = t} {t' = t'} {s' = s'}
    {workspace = workspace} eb ep er et es h =
    subst (λ (x : List ℕ). IsSound limit n x p' r' t' s' workspace) (sym eb)
    (subst (λ (x : List ℕ). IsSound limit n b x r' t' s' workspace) (sym ep)
    (subst (λ (x : List ℕ). IsSound limit n b p x t' s' workspace) (sym er)
    (subst (λ (x : List ℤ). IsSound limit n b p r x s' workspace) (sym et)
    (subst (λ (x : List ℕ). IsSound limit n b p r t x workspace) (sym es) h))))

pub starting_carry : (limit n : ℕ) (b b' p p' : List ℕ) (t : List ℤ) (m' n' : ℕ) (a : ℕ → ℕ → ℤ) (right cost : ℕ → ℤ)
    → b' ≡ b → p' ≡ p → length b ≡ m' → n ≡ n'
    → IsStartingTable (record { m = length b; n = n; a = a; b = right; c = cost })
    (record { limit = limit; columns = n; basis = b; places = p; table = t })
    → IsStartingTable (record { m = m'; n = n'; a = a; b = right; c = cost })
    (record { limit = limit; columns = n; basis = b'; places = p'; table = t })
starting_carry limit n b b' p p' t m' n' a right cost eb ep em en h =
    subst (λ (x : List ℕ). IsStartingTable (record { m = m'; n = n'; a = a; b = right; c = cost })
    (record { limit = limit; columns = n; basis = x; places = p'; table = t })) (sym eb)
    (subst (λ (x : List ℕ). IsStartingTable (record { m = m'; n = n'; a = a; b = right; c = cost })
    (record { limit = limit; columns = n; basis = b; places = x; table = t })) (sym ep)
    (subst (λ (x : ℕ). IsStartingTable (record { m = x; n = n'; a = a; b = right; c = cost })
    (record { limit = limit; columns = n; basis = b; places = p; table = t })) em
    (subst (λ (x : ℕ). IsStartingTable (record { m = length b; n = x; a = a; b = right; c = cost })
    (record { limit = limit; columns = n; basis = b; places = p; table = t })) en h)))
