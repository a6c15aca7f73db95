-- A row of the cells that another row clears.
use Rattle.std.proofs.Common.{◌≡◌, ◌≢◌, ℕ, ◌+◌, ◌-◌, ◌<◌, ◌≤◌, sym, ap, ◌∙◌, subst, arith, List, length, map, Result, Ok, Err}
use Rattle.std.specs.Prelude.{IfOk}
use Rattle.std.proofs.lemmas.List.{length-map}
use Rattle.rob_algebra.specs.FractionPairs.{pos_lt}
use lib.IntN.{ℤ, pos, nat_abs, ◌*ℤ◌}
use Rattle.rob_linear.specs.Vectors.{Vector, at}
use Rattle.rob_linear.specs.Multiples.{IsClearedBy}
use Rattle.rob_rows.specs.PrimitiveParts.{IsPrimitivePart}
use Rattle.rob_entries.specs.Updates.{AreOwn, IsBounded, IsMultipleOf, IsWideCleared}
use Rattle.rob_entries.proofs.ClearingLemmas.{cleared_ext, wide_ext, part_multiple}
use Rattle.rob_entries.proofs.WrittenRows.{IsLent, part, row_length, row_at, numbers_length, stored, stored_here}

module _ {X : Type 0} {f : X → ℤ} {cells : List ℤ} {items now : List X} {len a w width : ℕ}
    (r : IsLent f cells items now len a w) (wide_is : w ≡ width) where
  part_width : length (part now a w) ≡ width
  part_width = row_length r ∙ wide_is

  entry_at : (k : ℕ) → k < width → at (map f (part now a w)) k ≡ at cells (a + k)
  entry_at k l = row_at r k (omega arith)

  -- as it is read
  pub loaded : (row : List ℤ) → IsPrimitivePart row (map f (part now a w))
      → IsMultipleOf width (λ k. at cells (a + k)) (at row)
  loaded row lowest =
      let n : length row ≡ w =
      sym (length-map row (λ entry. pos lowest.divisor *ℤ entry)) ∙ ap length lowest.same_direction
      ∙ numbers_length r in
      record {
        times = pos lowest.divisor;
        positive = pos_lt lowest.divisor lowest.positive;
        entries = λ k l. part_multiple row (map f (part now a w)) lowest k (omega arith) ∙ entry_at k l;
      }

  module _ {place : ℕ} (top : Vector) (pl : place < width) where
    pub own_here : AreOwn (λ k. at cells (a + k)) top (width - 1)
        → AreOwn (at (map f (part now a w))) top (length (part now a w) - 1)
    own_here own = record {
      zero = subst (λ n. top (n - 1) ≡ pos 0) (sym part_width) own.zero;
      some = subst (λ n. at (map f (part now a w)) (n - 1) ≢ pos 0) (sym part_width)
          (λ z. own.some (sym (entry_at (width - 1) (omega arith)) ∙ z));
    }

    pub wide_here : (limit : ℕ) → IsWideCleared limit (length (part now a w)) place (at (map f (part now a w))) top
        → IsWideCleared limit width place (λ k. at cells (a + k)) top
    wide_here limit h =
        wide_ext limit width place (at (map f (part now a w))) (λ k. at cells (a + k)) top entry_at pl
        (subst (λ n. IsWideCleared limit n place (at (map f (part now a w))) top) part_width h)

    -- as it is written back
    module _ (s : List X) (kept : length s ≡ length (part now a w)) where
      here : (k : ℕ) → k < width
          → at (map f (stored r s kept)) (a + k) ≡ at (map f s) k
      here k l = stored_here r s kept k (omega arith)

      cleared_here : IsClearedBy (length (part now a w)) place (at (map f (part now a w))) top (at (map f s))
          → IsClearedBy width place (λ k. at cells (a + k)) top
          (λ k. at (map f (stored r s kept)) (a + k))
      cleared_here h =
          cleared_ext width place (at (map f (part now a w))) (λ k. at cells (a + k)) top (at (map f s))
          (λ k. at (map f (stored r s kept)) (a + k)) entry_at
          (λ k l. sym (here k l)) pl
          (subst (λ n. IsClearedBy n place (at (map f (part now a w))) top (at (map f s))) part_width h)

      bounded_here : (limit sum : ℕ) → IsBounded limit (map f s) sum
          → (sum ≤ limit)
          × ((k : ℕ) → k < width
          → nat_abs (at (map f (stored r s kept)) (a + k)) ≤ sum)
      bounded_here limit sum h = (
        h.low,
        λ k l. subst (λ t. nat_abs t ≤ sum) (sym (here k l))
            (h.within k (pos 0) (let n : length (map f s) ≡ width = length-map s f ∙ kept ∙ part_width in omega arith)),
      )

      -- where it succeeds
      pub cleared_after : {T E : Type 0} (done : Result T E)
          → IfOk done (λ x. IsClearedBy (length (part now a w)) place (at (map f (part now a w))) top (at (map f s)))
          → IfOk done (λ x. IsClearedBy width place (λ k. at cells (a + k)) top
          (λ k. at (map f (stored r s kept)) (a + k)))
      cleared_after (Ok x) h = cleared_here h
      cleared_after (Err x) h = tt

      pub bounded_after : {E : Type 0} (limit : ℕ) (done : Result ℕ E)
          → IfOk done (λ sum. IsBounded limit (map f s) sum)
          → IfOk done (λ sum. (sum ≤ limit)
          × ((k : ℕ) → k < width → nat_abs (at (map f (stored r s kept)) (a + k)) ≤ sum))
      bounded_after limit (Ok sum) h = bounded_here limit sum h
      bounded_after limit (Err x) h = tt
