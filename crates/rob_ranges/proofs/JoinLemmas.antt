-- Factors that are added from a place on, one after the other.
use Rattle.std.proofs.Common.{◌≡◌, ◌≢◌, ◌<◌, ◌≤◌, ◌+◌, ◌-◌, ◌==◌, ℕ, zero, suc, Bool, true, false, List, [], ◌∷◌, ◌++◌, length, set, drop, get_or, inl, inr, refl, sym, ap, ◌∙◌, subst, arith}
use Rattle.std.specs.Prelude.{Result, OnOk, ℤ, pos, ◌+ℤ◌, ◌*ℤ◌, if◌then◌else◌}
use Rattle.std.proofs.lemmas.Bool.Decides.{eqb_tells}
use Rattle.std.proofs.lemmas.Int.{ints}
use Rattle.std.proofs.lemmas.List.{at_drop_more, at_drop_all}
use Rattle.std.proofs.Math.IntN.{*ℤ-zero}
use Rattle.rob_index.specs.Forms.{Form, joined, plus_times}
use Rattle.rob_index.specs.Fast.{unit_at}
use Rattle.rob_ranges.specs.Joining.{joined_from}

-- ---- one product
-- at a place where a factor is
pub joined_at : (p : ℕ) (c b d : ℤ) (fs : List ℤ) → p < length fs
    → set fs p ((c *ℤ b) +ℤ get_or fs p d) ≡ joined_from p c (b ∷ []) fs
joined_at zero c b d [] h = absurd (omega (arith, h))
joined_at zero c b d (f ∷ fs) h = refl
joined_at (suc p) c b d [] h = absurd (omega (arith, h))
joined_at (suc p) c b d (f ∷ fs) h = ap (λ (ds : List ℤ). f ∷ ds) (joined_at p c b d fs (omega (arith, h)))

-- at the next
pub joined_next : (p : ℕ) (c b : ℤ) (fs : List ℤ) → p ≡ length fs
    → fs ++ (c *ℤ b) ∷ [] ≡ joined_from p c (b ∷ []) fs
joined_next zero c b [] e = refl
joined_next zero c b (f ∷ fs) e = absurd (omega (arith, e))
joined_next (suc p) c b [] e = absurd (omega (arith, e))
joined_next (suc p) c b (f ∷ fs) e = ap (λ (ds : List ℤ). f ∷ ds) (joined_next p c b fs (omega (arith, e)))

-- nothing, where a factor is
pub joined_nothing : (p : ℕ) (fs : List ℤ) → p < length fs → fs ≡ joined_from p (pos 0) (pos 0 ∷ []) fs
joined_nothing zero [] h = absurd (omega (arith, h))
joined_nothing zero (f ∷ fs) h = ap (λ (d : ℤ). d ∷ fs) (omega (arith, ints))
joined_nothing (suc p) [] h = absurd (omega (arith, h))
joined_nothing (suc p) (f ∷ fs) h = ap (λ (ds : List ℤ). f ∷ ds) (joined_nothing p fs (omega (arith, h)))

-- one factor more
pub joined_longer : (p : ℕ) (c b : ℤ) (fs : List ℤ) → p ≤ length fs → p < length (joined_from p c (b ∷ []) fs)
joined_longer zero c b [] h = omega arith
joined_longer zero c b (f ∷ fs) h = omega arith
joined_longer (suc p) c b [] h = absurd (omega (arith, h))
joined_longer (suc p) c b (f ∷ fs) h = let k = joined_longer p c b fs (omega (arith, h)) in omega (arith, k)

-- ---- one product, and the others behind it
pub joined_on : (p : ℕ) (c b : ℤ) (bs fs : List ℤ) → p ≤ length fs
    → joined_from (suc p) c bs (joined_from p c (b ∷ []) fs) ≡ joined_from p c (b ∷ bs) fs
joined_on zero c b bs [] h = refl
joined_on zero c b bs (f ∷ fs) h = refl
joined_on (suc p) c b bs [] h = absurd (omega (arith, h))
joined_on (suc p) c b bs (f ∷ fs) h = ap (λ (ds : List ℤ). f ∷ ds) (joined_on p c b bs fs (omega (arith, h)))

-- c times nothing is nothing
joined_past : (p : ℕ) (c : ℤ) (fs : List ℤ)
    → joined_from p (pos 0) (pos 0 ∷ []) fs ≡ joined_from p c (pos 0 ∷ []) fs
joined_past zero c [] = ap (λ (d : ℤ). d ∷ []) (omega (arith, ints, *ℤ-zero c))
joined_past zero c (f ∷ fs) = ap (λ (d : ℤ). d ∷ fs) (omega (arith, ints, *ℤ-zero c))
joined_past (suc p) c [] = ap (λ (d : ℤ). d ∷ []) (omega (arith, ints, *ℤ-zero c))
joined_past (suc p) c (f ∷ fs) = ap (λ (ds : List ℤ). f ∷ ds) (joined_past p c fs)

-- nothing is left to be added
pub joined_none : (p : ℕ) (c : ℤ) (fs : List ℤ) → joined_from p c [] fs ≡ fs
joined_none zero c fs = refl
joined_none (suc p) c [] = refl
joined_none (suc p) c (f ∷ fs) = ap (λ (ds : List ℤ). f ∷ ds) (joined_none p c fs)

-- nothing times as many as there are, or fewer
joined_by_zero : (bs fs : List ℤ) → length bs ≤ length fs → joined (pos 0) bs fs ≡ fs
joined_by_zero [] fs h = refl
joined_by_zero (b ∷ bs) [] h = absurd (omega (arith, h))
joined_by_zero (b ∷ bs) (f ∷ fs) h =
    let e : (pos 0 *ℤ b) +ℤ f ≡ f = omega (arith, ints) in
    λ i. e i ∷ joined_by_zero bs fs (omega (arith, h)) i

joined_zero_from : (p : ℕ) (bs fs : List ℤ) → p + length bs ≤ length fs → fs ≡ joined_from p (pos 0) bs fs
joined_zero_from zero bs fs h = sym (joined_by_zero bs fs (omega (arith, h)))
joined_zero_from (suc p) bs [] h = absurd (omega (arith, h))
joined_zero_from (suc p) bs (f ∷ fs) h = ap (λ (ds : List ℤ). f ∷ ds) (joined_zero_from p bs fs (omega (arith, h)))

pub joined_zero : (p : ℕ) (c : ℤ) (bs fs : List ℤ) → p ≤ length fs → c ≡ pos 0 → length bs ≤ length fs - p
    → fs ≡ joined_from p c bs fs
joined_zero p c bs fs within nothing enough =
    joined_zero_from p bs fs (omega (arith, within, enough))
    ∙ ap (λ (z : ℤ). joined_from p z bs fs) (sym nothing)

-- ---- the factors from the place on
pub drop-joined_from : (p : ℕ) (c : ℤ) (bs fs : List ℤ) → p ≤ length fs
    → drop p (joined_from p c bs fs) ≡ joined c bs (drop p fs)
drop-joined_from zero c bs fs h = refl
drop-joined_from (suc p) c bs [] h = absurd (omega (arith, h))
drop-joined_from (suc p) c bs (f ∷ fs) h = drop-joined_from p c bs fs (omega (arith, h))

pub none_yet : (n : ℕ) → n ≡ n + 0
none_yet n = omega arith

-- ---- a loop that adds one product after the other
module _ (place i : ℕ) (c : ℤ) (fs next : List ℤ) {all : List ℤ} (within : place ≤ length fs) where
  on : (b : ℤ) (bs : List ℤ) → next ≡ joined_from place c (b ∷ []) fs → joined_from place c (b ∷ bs) fs ≡ all
      → joined_from (place + 1) c bs next ≡ all
  on b bs e so_far =
      let n : place + 1 ≡ suc place = omega arith in
      ap (λ (k : ℕ). joined_from k c bs next) n ∙ ap (joined_from (suc place) c bs) e ∙ joined_on place c b bs fs within
      ∙ so_far

  -- the factors of a form
  pub products_more : (gs : List ℤ) (b : ℤ) → i < length gs → b ≡ get_or gs i b
      → next ≡ joined_from place c (b ∷ []) fs → joined_from place c (drop i gs) fs ≡ all
      → joined_from (place + 1) c (drop (i + 1) gs) next ≡ all
  products_more gs b inside is e so_far =
      on b (drop (i + 1) gs) e
      (ap (λ (d : ℤ). joined_from place c (d ∷ drop (i + 1) gs) fs) is
      ∙ sym (at_drop_more (λ (l : List ℤ). joined_from place c l fs) gs i b inside) ∙ so_far)

  pub products_all : (gs : List ℤ) → length gs ≤ i → joined_from place c (drop i gs) fs ≡ all → fs ≡ all
  products_all gs past so_far =
      sym (joined_none place c fs)
      ∙ sym (at_drop_all (λ (l : List ℤ). joined_from place c l fs) gs i past) ∙ so_far

  -- the factor 1 of a name
  pub units_more : (names : List ℕ) (name : ℕ) → i < length names → get_or names i 0 ≢ name
      → next ≡ joined_from place (pos 0) (pos 0 ∷ []) fs → joined_from place c (unit_at (drop i names) name) fs ≡ all
      → joined_from (place + 1) c (unit_at (drop (i + 1) names) name) next ≡ all
  units_more names name inside other e so_far =
      let own = get_or names i 0 in
      let differs : (own == name) ≡ false = elim (eqb_tells own name) [ inl p ↦ absurd (other p.1) | inr p ↦ p.0 ] in
      let others = unit_at (drop (i + 1) names) name in
      on (pos 0) others (e ∙ joined_past place c fs)
      (ap (λ (b : Bool). joined_from place c (if b then pos 1 ∷ [] else pos 0 ∷ others) fs) (sym differs)
      ∙ sym (at_drop_more (λ (l : List ℕ). joined_from place c (unit_at l name) fs) names i 0 inside) ∙ so_far)

  pub units_here : {T E : Type 0} (r : Result T E) (own : ℤ) (names : List ℕ) (name : ℕ) → i < length names
      → get_or names i 0 ≡ name → own ≡ pos 1 → joined_from place c (unit_at (drop i names) name) fs ≡ all
      → OnOk r (next ≡ joined_from place c (own ∷ []) fs) → OnOk r (next ≡ all)
  units_here r own names name inside is one so_far given =
      let here = get_or names i 0 in
      let same : (here == name) ≡ true = elim (eqb_tells here name) [ inl p ↦ p.0 | inr p ↦ absurd (p.1 is) ] in
      let others = unit_at (drop (i + 1) names) name in
      let unit : joined_from place c (own ∷ []) fs ≡ all =
      ap (λ (d : ℤ). joined_from place c (d ∷ []) fs) one
      ∙ ap (λ (b : Bool). joined_from place c (if b then pos 1 ∷ [] else pos 0 ∷ others) fs) (sym same)
      ∙ sym (at_drop_more (λ (l : List ℕ). joined_from place c (unit_at l name) fs) names i 0 inside) ∙ so_far in
      subst (λ (l : List ℤ). OnOk r (next ≡ l)) unit given

  pub units_all : (names : List ℕ) (name : ℕ) → length names ≤ i
      → joined_from place c (unit_at (drop i names) name) fs ≡ all → fs ≡ all
  units_all names name past so_far =
      sym (joined_none place c fs)
      ∙ sym (at_drop_all (λ (l : List ℕ). joined_from place c (unit_at l name) fs) names i past) ∙ so_far

-- ---- a form with another added to it in place
pub sum_is : (k c m z : ℤ) (front : ℕ) (gs fs next : List ℤ) (f g : Form)
    → record { constant = k; factors = drop front fs } ≡ f → front ≤ length fs → z ≡ k +ℤ (c *ℤ m)
    → m ≡ g.constant → gs ≡ g.factors → next ≡ joined_from front c gs fs
    → record { constant = z; factors = drop front next } ≡ plus_times f c g
sum_is k c m z front gs fs next f g view within sum constant factors added =
    let others : drop front next ≡ joined c gs (drop front fs) =
    ap (drop front) added ∙ drop-joined_from front c gs fs within in
    (λ i. record { constant = sum i; factors = others i })
    ∙ (λ i. record {
      constant = (view i).constant +ℤ (c *ℤ constant i);
      factors =
          joined c (factors i) (view i).factors;
    })
