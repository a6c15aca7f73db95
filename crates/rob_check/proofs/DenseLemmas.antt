-- Multipliers as a list with one amount for each set row, and as the list of those that a form has.
use Rattle.std.proofs.Common.{◌≡◌, ◌≢◌, ℕ, zero, suc, ◌<◌, pos, Bool, true, false, List, [], ◌∷◌, map, length, arith, refl, sym, ◌∙◌, ap, ap₂, subst, inl, inr}
use Rattle.std.proofs.lemmas.Bool.Decides.{nat_tests}
use Rattle.std.specs.Prelude.{nat_eq, ◌&&◌, if◌then◌else◌}
use Rattle.rob_algebra.specs.Fraction.{Fraction, ◌+ℚ◌, ◌*ℚ◌, ◌≤ℚ◌}
use Rattle.rob_algebra.specs.FractionLaws as Q
use Rattle.rob_algebra.specs.FractionOrderLaws.{le_refl_ℚ}
use Rattle.rob_algebra.specs.FractionLists.{AllNonneg}
use Rattle.rob_algebra.specs.Polynomials.{lit, ◌:+◌, ◌:*◌, v0, v1, v2}
use Rattle.rob_meaning.specs.Certificates.{Cover, IsBefore}
use Rattle.rob_meaning.specs.Places.{0ℚ, at, Each, tabulate, InOrder}
use Rattle.rob_meaning.specs.Proves.{amount_at}
use Rattle.rob_meaning.specs.Vectors.{dot}
use Rattle.rob_check.specs.Covers.{covers_of}
use Rattle.rob_check.proofs.RunLemmas.{same_number, equal, unequal}
use Rattle.rob_check.proofs.SumLaws.{total}

both_false : (a b : Bool) → (a ≡ true → b ≡ false) → (a && b) ≡ false
both_false true b h = h refl
both_false false b h = refl

tabulate_same : (n : ℕ) (f g : ℕ → Fraction) → ((k : ℕ) → f k ≡ g k) → tabulate n f ≡ tabulate n g
tabulate_same zero f g h = refl
tabulate_same (suc n) f g h =
    ap₂ (λ (x : Fraction) (xs : List Fraction). x ∷ xs) (h zero)
    (tabulate_same n (λ k. f (suc k)) (λ k. g (suc k)) (λ k. h (suc k)))

dot-none : (n : ℕ) (v : List Fraction) → dot (tabulate n (λ k. 0ℚ)) v ≡ 0ℚ
dot-none zero v = refl
dot-none (suc n) [] = refl
dot-none (suc n) (y ∷ v) =
    ap (λ z. 0ℚ *ℚ y +ℚ z) (dot-none n v) ∙ Q.ring (y ∷ []) (lit (pos 0) :* v0 :+ lit (pos 0)) (lit (pos 0)) refl

-- a list with one entry, that was 0, set
put : ℕ → Fraction → (ℕ → Fraction) → ℕ → Fraction
put r a f k = if nat_eq r k then a else f k

dot-put : (n r : ℕ) (a : Fraction) (f : ℕ → Fraction) (v : List Fraction) → r < n → length v ≡ n → f r ≡ 0ℚ
    → dot (tabulate n (put r a f)) v ≡ a *ℚ at v r +ℚ dot (tabulate n f) v
unfolding put
dot-put zero r a f v inside len none = absurd (omega arith)
dot-put (suc n) r a f [] inside len none = cc
dot-put (suc n) zero a f (y ∷ v) inside len none =
    ap₂ (λ (x : Fraction) (xs : List Fraction). x *ℚ y +ℚ dot xs v)
    (ap (λ t. if t then a else f zero) (equal zero zero refl))
    (tabulate_same n (λ k. if nat_eq zero (suc k) then a else f (suc k)) (λ k. f (suc k))
    (λ k. ap (λ t. if t then a else f (suc k)) (unequal zero (suc k) (λ e. cc))))
    ∙ Q.ring (a ∷ y ∷ dot (tabulate n (λ k. f (suc k))) v ∷ []) (v0 :* v1 :+ v2)
    (v0 :* v1 :+ (lit (pos 0) :* v1 :+ v2)) refl
    ∙ ap (λ x. a *ℚ y +ℚ (x *ℚ y +ℚ dot (tabulate n (λ k. f (suc k))) v)) (sym none)
dot-put (suc n) (suc r) a f (y ∷ v) inside len none =
    ap₂ (λ (x : Fraction) (xs : List Fraction). x *ℚ y +ℚ dot xs v)
    (ap (λ t. if t then a else f zero) (unequal (suc r) zero (λ e. cc)))
    (tabulate_same n (λ k. if nat_eq (suc r) (suc k) then a else f (suc k)) (put r a (λ k. f (suc k)))
    (λ k. ap (λ t. if t then a else f (suc k)) (same_test r k)))
    ∙ ap (λ z. f zero *ℚ y +ℚ z) (dot-put n r a (λ k. f (suc k)) v (omega arith) (suc_inj (length v) n len) none)
    ∙ Q.ring ((f zero *ℚ y) ∷ (a *ℚ at v r) ∷ dot (tabulate n (λ k. f (suc k))) v ∷ [])
    (v0 :+ (v1 :+ v2)) (v1 :+ (v0 :+ v2)) refl
  where
    suc_inj : (m n : ℕ) → suc m ≡ suc n → m ≡ n
    suc_inj m n e = cc

    same_test : (r k : ℕ) → nat_eq (suc r) (suc k) ≡ nat_eq r k
    same_test r k = grind (arith, nat_tests)

module _ (i : ℕ) where
  -- no multiplier of the list is for that set row
  absent : (r : ℕ) (cs : List Cover)
      → Each (λ (d : Cover). (nat_eq d.form i && nat_eq d.set_row r) ≡ false) cs → amount_at cs i r ≡ 0ℚ
  absent r [] h = refl
  absent r (d ∷ cs) h = ap (λ t. if t then d.amount else amount_at cs i r) h.0 ∙ absent r cs h.1

  behind_absent : (c : Cover) (cs : List Cover) → c.form ≡ i → Each (IsBefore c) cs
      → Each (λ (d : Cover). (nat_eq d.form i && nat_eq d.set_row c.set_row) ≡ false) cs
  behind_absent c [] e h = tt
  behind_absent c (d ∷ cs) e h = (
    both_false (nat_eq d.form i) (nat_eq d.set_row c.set_row)
        (λ same. unequal d.set_row c.set_row (by h.0 (same_number d.form i same))),
    behind_absent c cs e h.1,
  )
    where
      by : IsBefore c d → d.form ≡ i → d.set_row ≢ c.set_row
      by (inl lt) is same = absurd (let k : c.form < d.form = lt in omega arith)
      by (inr eq) is same = absurd (let k : c.set_row < d.set_row = eq.1 in omega arith)

  no_amount : (c : Cover) (cs : List Cover) → c.form ≡ i → Each (IsBefore c) cs → amount_at cs i c.set_row ≡ 0ℚ
  no_amount c cs e h = absent c.set_row cs (behind_absent c cs e h)

  -- the amount with one multiplier more, of the form or of another
  amount_mine : (c : Cover) (cs : List Cover) (r : ℕ) → nat_eq c.form i ≡ true
      → amount_at (c ∷ cs) i r ≡ put c.set_row c.amount (λ r. amount_at cs i r) r
  unfolding put
  amount_mine c cs r e = ap (λ t. if t && nat_eq c.set_row r then c.amount else amount_at cs i r) e

  amount_other : (c : Cover) (cs : List Cover) (r : ℕ) → nat_eq c.form i ≡ false
      → amount_at (c ∷ cs) i r ≡ amount_at cs i r
  amount_other c cs r e = ap (λ t. if t && nat_eq c.set_row r then c.amount else amount_at cs i r) e

  module _ (n : ℕ) where
    abbrev amounts : List Cover → List Fraction
    amounts cs = tabulate n (λ r. amount_at cs i r)

    -- the products with the numbers of set rows, added up, are the same
    pub dense : (v : List Fraction) → length v ≡ n → (cs : List Cover)
        → Each (λ (c : Cover). c.set_row < n) cs → InOrder IsBefore cs
        → dot (amounts cs) v ≡ total (map (λ (c : Cover). c.amount *ℚ at v c.set_row) (covers_of i cs))
    dense v len [] inside ordered = dot-none n v
    dense v len (c ∷ cs) inside ordered = by (nat_eq c.form i) refl (dense v len cs inside.1 ordered.1)
      where
        by : (t : Bool) → nat_eq c.form i ≡ t
            → dot (amounts cs) v ≡ total (map (λ (c : Cover). c.amount *ℚ at v c.set_row) (covers_of i cs))
            → dot (amounts (c ∷ cs)) v
            ≡ total (map (λ (c : Cover). c.amount *ℚ at v c.set_row)
            (if t then c ∷ covers_of i cs else covers_of i cs))
        by true e rest =
            ap (λ (xs : List Fraction). dot xs v)
            (tabulate_same n (λ r. amount_at (c ∷ cs) i r) (put c.set_row c.amount (λ r. amount_at cs i r))
            (λ r. amount_mine c cs r e))
            ∙ dot-put n c.set_row c.amount (λ r. amount_at cs i r) v inside.0 len
            (no_amount c cs (same_number c.form i e) ordered.0)
            ∙ ap (λ z. c.amount *ℚ at v c.set_row +ℚ z) rest
        by false e rest =
            ap (λ (xs : List Fraction). dot xs v)
            (tabulate_same n (λ r. amount_at (c ∷ cs) i r) (λ r. amount_at cs i r) (λ r. amount_other c cs r e))
            ∙ rest

    -- ---- signs
    nonneg_at : (n : ℕ) (f : ℕ → Fraction) → AllNonneg (tabulate n f) → (r : ℕ) → r < n → 0ℚ ≤ℚ f r
    nonneg_at zero f h r inside = absurd (omega arith)
    nonneg_at (suc n) f h zero inside = h.0
    nonneg_at (suc n) f h (suc r) inside = nonneg_at n (λ k. f (suc k)) h.1 r (omega arith)

    nonneg_all : (n : ℕ) (f : ℕ → Fraction) → ((r : ℕ) → r < n → 0ℚ ≤ℚ f r) → AllNonneg (tabulate n f)
    nonneg_all zero f h = tt
    nonneg_all (suc n) f h = (h zero (omega arith), nonneg_all n (λ k. f (suc k)) (λ r inside. h (suc r) (omega arith)))

    each_nonneg : (cs : List Cover) → Each (λ (c : Cover). 0ℚ ≤ℚ c.amount) (covers_of i cs) → (r : ℕ)
        → 0ℚ ≤ℚ amount_at cs i r
    each_nonneg [] h r = le_refl_ℚ 0ℚ
    each_nonneg (c ∷ cs) h r = by (nat_eq c.form i) (nat_eq c.set_row r) h (λ k. each_nonneg cs k r)
      where
        by : (t u : Bool) → Each (λ (c : Cover). 0ℚ ≤ℚ c.amount) (if t then c ∷ covers_of i cs else covers_of i cs)
            → (Each (λ (c : Cover). 0ℚ ≤ℚ c.amount) (covers_of i cs) → 0ℚ ≤ℚ amount_at cs i r)
            → 0ℚ ≤ℚ (if t && u then c.amount else amount_at cs i r)
        by true true h more = h.0
        by true false h more = more h.1
        by false u h more = more h

    nonneg_each : (cs : List Cover) → Each (λ (c : Cover). c.set_row < n) cs → InOrder IsBefore cs
        → ((r : ℕ) → r < n → 0ℚ ≤ℚ amount_at cs i r)
        → Each (λ (c : Cover). 0ℚ ≤ℚ c.amount) (covers_of i cs)
    nonneg_each [] inside ordered h = tt
    nonneg_each (c ∷ cs) inside ordered h = by (nat_eq c.form i) refl (nonneg_each cs inside.1 ordered.1)
      where
        here : nat_eq c.form i ≡ true → 0ℚ ≤ℚ c.amount
        here e =
            subst (λ x. 0ℚ ≤ℚ x)
            (ap₂ (λ t u. if t && u then c.amount else amount_at cs i c.set_row) e (equal c.set_row c.set_row refl))
            (h c.set_row inside.0)

        rest_mine : nat_eq c.form i ≡ true → (r : ℕ) → r < n → 0ℚ ≤ℚ amount_at cs i r
        rest_mine e r low = at_row (nat_eq c.set_row r) refl
          where
            at_row : (u : Bool) → nat_eq c.set_row r ≡ u → 0ℚ ≤ℚ amount_at cs i r
            at_row true k =
                subst (λ x. 0ℚ ≤ℚ x)
                (sym (ap (λ r. amount_at cs i r) (sym (same_number c.set_row r k))
                ∙ no_amount c cs (same_number c.form i e) ordered.0)) (le_refl_ℚ 0ℚ)
            at_row false k =
                subst (λ x. 0ℚ ≤ℚ x) (ap₂ (λ t u. if t && u then c.amount else amount_at cs i r) e k) (h r low)

        rest_other : nat_eq c.form i ≡ false → (r : ℕ) → r < n → 0ℚ ≤ℚ amount_at cs i r
        rest_other e r low = subst (λ x. 0ℚ ≤ℚ x) (amount_other c cs r e) (h r low)

        by : (t : Bool) → nat_eq c.form i ≡ t
            → (((r : ℕ) → r < n → 0ℚ ≤ℚ amount_at cs i r) → Each (λ (c : Cover). 0ℚ ≤ℚ c.amount) (covers_of i cs))
            → Each (λ (c : Cover). 0ℚ ≤ℚ c.amount) (if t then c ∷ covers_of i cs else covers_of i cs)
        by true e more = (here e, more (rest_mine e))
        by false e more = more (rest_other e)

    pub signs_in : (cs : List Cover) → Each (λ (c : Cover). 0ℚ ≤ℚ c.amount) (covers_of i cs) → AllNonneg (amounts cs)
    signs_in cs h = nonneg_all n (λ r. amount_at cs i r) (λ r low. each_nonneg cs h r)

    pub signs_out : (cs : List Cover) → Each (λ (c : Cover). c.set_row < n) cs → InOrder IsBefore cs
        → AllNonneg (amounts cs) → Each (λ (c : Cover). 0ℚ ≤ℚ c.amount) (covers_of i cs)
    signs_out cs inside ordered h = nonneg_each cs inside ordered (λ r low. nonneg_at n (λ r. amount_at cs i r) h r low)
