-- A table of which one row has changed.
use Rattle.std.proofs.Common.{◌≡◌, ◌≢◌, ℕ, ◌+◌, ◌<◌, ◌≤◌, sym, ap, ◌∙◌, subst, arith, inl, inr, List, length, take, drop, ◌++◌, nat_abs}
use Rattle.std.proofs.lemmas.Bool.{cases_eq}
use Rattle.std.proofs.lemmas.Int.{ints}
use lib.IntN.{ℤ, neg_ℤ}
use Rattle.rob_entries.proofs.WrittenRows.{back_whole}
use Rattle.rob_table.specs.Tables.{row_at, bound_at, HasBounds}
use Rattle.rob_simplex.specs.Dictionaries.{IsSound}

-- the table and the bounds alone have changed
pub sound_with : (limit n : ℕ) (basis places near : List ℕ) (table table' : List ℤ) (bounds bounds' : List ℕ)
    (workspace : ℕ) → IsSound limit n basis places near table bounds workspace
    → HasBounds limit (n + 4) table' bounds' → length bounds' ≡ length bounds
    → IsSound limit n basis places near table' bounds' workspace
sound_with limit n basis places near table table' bounds bounds' workspace s h e = record {
  few = s.few;
  limit_low = s.limit_low;
  count = e ∙ s.count;
  bounded = h;
  places_size = s.places_size;
  near_size = s.near_size;
  placed = s.placed;
  right_at = s.right_at;
  workspace_is = s.workspace_is;
}

-- ---- the bounds were lent, and written back whole
pub bounds_back : {limit width len : ℕ} {table' : List ℤ} {bounds lent news : List ℕ} → len ≡ length bounds
    → lent ≡ bounds → length news ≡ length lent → HasBounds limit width table' news
    → HasBounds limit width table' (take len (news ++ drop (length news) bounds))
bounds_back {limit = limit} {width = w} {table' = t} ok value kept h =
    subst (HasBounds limit w t) (sym (back_whole ok value kept)) h

pub length_back : {len : ℕ} {bounds lent : List ℕ} (news : List ℕ) → len ≡ length bounds → lent ≡ bounds
    → length news ≡ length lent → length (take len (news ++ drop (length news) bounds)) ≡ length bounds
length_back news ok value kept = ap length (back_whole ok value kept) ∙ kept ∙ ap length value

module _ {limit n : ℕ} {basis places near : List ℕ} {table : List ℤ} {bounds : List ℕ} {workspace : ℕ}
    (sound : IsSound limit n basis places near table bounds workspace) where
  pub lent_bounds : {lent : List ℕ} → lent ≡ bounds → HasBounds limit (n + 4) table lent
  lent_bounds value = subst (HasBounds limit (n + 4) table) (sym value) sound.bounded

  pub sound_back : {len : ℕ} {table' : List ℤ} {lent news : List ℕ} → len ≡ length bounds → lent ≡ bounds
      → length news ≡ length lent → HasBounds limit (n + 4) table' news
      → IsSound limit n basis places near table' (take len (news ++ drop (length news) bounds)) workspace
  sound_back {len = len} {table' = t} {news = news} ok value kept h =
      sound_with limit n basis places near table t bounds (take len (news ++ drop (length news) bounds)) workspace sound
      (bounds_back ok value kept h) (length_back news ok value kept)

-- the row that clears has kept its length
pub sound_loaded : {limit n : ℕ} {basis places near : List ℕ} {table : List ℤ} {bounds : List ℕ}
    {workspace workspace' : ℕ} → workspace' ≡ workspace → IsSound limit n basis places near table bounds workspace
    → IsSound limit n basis places near table bounds workspace'
sound_loaded {limit = limit} {n = n} {basis = basis} {places = places} {near = near} {table = table}
    {bounds = bounds} e h = subst (IsSound limit n basis places near table bounds) (sym e) h

-- ---- a row changed, under its old bound
pub kept_bounds : (limit width : ℕ) (rows new : List ℤ) (bounds : List ℕ) (i : ℕ) → HasBounds limit width rows bounds
    → length new ≡ length rows → ((k : ℕ) → k < width → nat_abs (row_at new width i k) ≤ bound_at bounds i)
    → ((j k : ℕ) → j ≢ i → k < width → row_at new width j k ≡ row_at rows width j k) → HasBounds limit width new bounds
kept_bounds limit width rows new bounds i h ln here others = record {
  size = ln ∙ h.size;
  within = λ j k jl kl. elim (cases_eq j i) [
    | inl e ↦ subst (λ (t : ℕ). nat_abs (row_at new width t k) ≤ bound_at bounds t) (sym e) (here k kl)
    | inr d ↦ subst (λ t. nat_abs t ≤ bound_at bounds j) (sym (others j k d kl)) (h.within j k jl kl)
  ];
  low = h.low;
}

-- ---- a row negated, under its old bound
pub negated_bounds : (limit width : ℕ) (rows new : List ℤ) (bounds : List ℕ) (i : ℕ) → HasBounds limit width rows bounds
    → length new ≡ length rows → ((k : ℕ) → k < width → row_at new width i k ≡ neg_ℤ (row_at rows width i k))
    → ((j k : ℕ) → j ≢ i → k < width → row_at new width j k ≡ row_at rows width j k) → HasBounds limit width new bounds
negated_bounds limit width rows new bounds i h ln here others = record {
  size = ln ∙ h.size;
  within = λ j k jl kl. elim (cases_eq j i) [
    | inl e ↦
        let b : nat_abs (row_at rows width i k) ≤ bound_at bounds i =
        subst (λ (t : ℕ). nat_abs (row_at rows width t k) ≤ bound_at bounds t) e (h.within j k jl kl) in
        subst (λ (t : ℕ). nat_abs (row_at new width t k) ≤ bound_at bounds t) (sym e)
        (subst (λ t. nat_abs t ≤ bound_at bounds i) (sym (here k kl))
        (same_size (row_at rows width i k) (bound_at bounds i) b))
    | inr d ↦ subst (λ t. nat_abs t ≤ bound_at bounds j) (sym (others j k d kl)) (h.within j k jl kl)
  ];
  low = h.low;
}
  where
    same_size : (z : ℤ) (b : ℕ) → nat_abs z ≤ b → nat_abs (neg_ℤ z) ≤ b
    same_size z b l = omega (arith, ints)
