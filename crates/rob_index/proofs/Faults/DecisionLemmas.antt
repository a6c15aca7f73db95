-- Whether a form reaches a bound is decided from the ends where they tell, else value by value; the answer is that of
-- all settings run through.
use Rattle.std.proofs.Common.{◌≡◌, Bool, true, false, List, [], ◌∷◌, ◌⊎◌, inl, inr, Option, Some, None, refl, sym, ap, ◌∙◌, subst, arith}
use Rattle.std.specs.Prelude.{ℤ, pos, negsuc, ◌+ℤ◌, ◌*ℤ◌, ◌≤ℤ◌, ◌<ℤ◌, ◌||◌, ◌&&◌, int_le, int_lt, if◌then◌else◌}
use Rattle.std.specs.List.{list_any}
use Rattle.std.proofs.lemmas.Int.{ints}
use Rattle.std.proofs.lemmas.Bool.{false_from_ne_true}
use Rattle.std.proofs.Math.IntN.{zero-*ℤ}
use Rattle.rob_index.specs.Membership.{Among, here, there}
use Rattle.rob_index.specs.Forms.{Form, value_of, joined, minus, first_factor, other_factors, without, far_end, lack_form, length_form, AreConstant, Ends, AreWithin, greatest, all_run, is_dead, from_ends, fixed, onto, values_of, reaches, extensions, reaches_plainly}
use Rattle.rob_index.proofs.LinesRead.ListLemmas.{any_true, any_from, any_same, any_flat, or_false, among_flat, flat_among, values_within, within_values}
use Rattle.rob_index.proofs.Faults.NestLemmas.{never_over, attained, dead, le_from, le_to, lt_from, lt_not}

-- ---- the settings that are run through are those within the ranges
pub fixed_within : (vs : List ℤ) → AreWithin (fixed vs) vs
fixed_within [] = tt
fixed_within (v ∷ vs) = (fixed_within vs, omega (arith, ints), omega (arith, ints))

fixed_only : (vs ws : List ℤ) → AreWithin (fixed vs) ws → ws ≡ vs
fixed_only [] [] w = refl
fixed_only [] (x ∷ xs) w = absurd w
fixed_only (v ∷ vs) [] w = absurd w
fixed_only (v ∷ vs) (x ∷ xs) w =
    let h = fixed_only vs xs w.0 in
    let k : x ≡ v = omega (arith, ints, w.1, w.2) in
    cc

into : (rs nest : List Ends) (vs xs : List ℤ) → AreWithin nest vs → Among xs (extensions rs vs)
    → AreWithin (onto rs nest) xs
into [] nest vs xs w here = w
into [] nest vs xs w (there m) = elim m [ ]
into (r ∷ rs) nest vs xs w m =
    let f = among_flat (λ v. extensions rs (v ∷ vs)) (values_of r vs) xs m in
    let b = values_within (value_of r.from vs) (value_of r.upto vs) f.0 f.1 in
    into rs (r ∷ nest) (f.0 ∷ vs) xs (w, b.0, b.1) f.2

out : (rs nest : List Ends) (xs : List ℤ) → AreWithin (onto rs nest) xs
    → (vs : List ℤ) × AreWithin nest vs × Among xs (extensions rs vs)
out [] nest xs w = (xs, w, here)
out (r ∷ rs) nest xs w = let o = out rs (r ∷ nest) xs w in go o.0 o.1 o.2
  where
    go : (ws : List ℤ) → AreWithin (r ∷ nest) ws → Among xs (extensions rs ws)
        → (vs : List ℤ) × AreWithin nest vs × Among xs (extensions (r ∷ rs) vs)
    go [] w m = absurd w
    go (v ∷ vs) w m = (
      vs,
      w.0,
      flat_among (λ v. extensions rs (v ∷ vs)) (values_of r vs) v xs
          (within_values (value_of r.from vs) (value_of r.upto vs) v w.1 w.2) m,
    )

pub run_within : (rs : List Ends) (vs xs : List ℤ) → Among xs (extensions rs vs) → AreWithin (onto rs (fixed vs)) xs
run_within rs vs xs m = into rs (fixed vs) vs xs (fixed_within vs) m

pub within_run : (rs : List Ends) (vs xs : List ℤ) → AreWithin (onto rs (fixed vs)) xs → Among xs (extensions rs vs)
within_run rs vs xs w =
    let o = out rs (fixed vs) xs w in
    subst (λ (ws : List ℤ). Among xs (extensions rs ws)) (fixed_only vs o.0 o.1) o.2

-- ---- what the ends tell is true
module _ (rs : List Ends) (vs : List ℤ) (f : Form) (bound : ℤ) where
  nest : List Ends
  nest = onto rs (fixed vs)

  abbrev test : List ℤ → Bool
  test xs = int_le bound (value_of f xs)

  ends_say_yes : bound ≤ℤ greatest (onto rs (fixed vs)) f → all_run (onto rs (fixed vs)) ≡ true
      → reaches_plainly rs vs f bound ≡ true
  ends_say_yes h k =
      let a = attained (onto rs (fixed vs)) f k in
      any_from test (extensions rs vs) a.0 (within_run rs vs a.0 a.1)
      (le_to bound (value_of f a.0) (omega (arith, ints, h, a.2)))

  ends_say_no : (greatest (onto rs (fixed vs)) f <ℤ bound) ⊎ (is_dead (onto rs (fixed vs)) ≡ true)
      → reaches_plainly rs vs f bound ≡ false
  ends_say_no why = false_from_ne_true (reaches_plainly rs vs f bound)
      (λ t. let x = any_true test (extensions rs vs) t in go x.0 (run_within rs vs x.0 x.1)
      (le_from bound (value_of f x.0) x.2) why)
    where
      go : (xs : List ℤ) → AreWithin (onto rs (fixed vs)) xs → bound ≤ℤ value_of f xs
          → (greatest (onto rs (fixed vs)) f <ℤ bound) ⊎ (is_dead (onto rs (fixed vs)) ≡ true) → ⊥
      go xs w l (inl g) = omega (arith, ints, l, g, never_over (onto rs (fixed vs)) f xs w)
      go xs w l (inr d) = dead (onto rs (fixed vs)) xs d w

  pub ends_right : (b : Bool) → from_ends (onto rs (fixed vs)) f bound ≡ Some b → reaches_plainly rs vs f bound ≡ b
  ends_right b h = first (int_lt (greatest (onto rs (fixed vs)) f) bound) (is_dead (onto rs (fixed vs)))
      (all_run (onto rs (fixed vs))) refl refl refl h
    where
      first : (p q s : Bool) → int_lt (greatest (onto rs (fixed vs)) f) bound ≡ p → is_dead (onto rs (fixed vs)) ≡ q
          → all_run (onto rs (fixed vs)) ≡ s
          → (if p || q then Some false else (if s then Some true else None)) ≡ Some b
          → reaches_plainly rs vs f bound ≡ b
      first true q s hp hq hs h =
          let e : false ≡ b = cc in ends_say_no (inl (lt_from (greatest (onto rs (fixed vs)) f) bound hp)) ∙ e
      first false true s hp hq hs h = let e : false ≡ b = cc in ends_say_no (inr hq) ∙ e
      first false false true hp hq hs h =
          let e : true ≡ b = cc in ends_say_yes (lt_not (greatest (onto rs (fixed vs)) f) bound hp) hs ∙ e
      first false false false hp hq hs h = cc

-- the fast answer is the plain one
pub reaches_is : (rs : List Ends) (vs : List ℤ) (f : Form) (bound : ℤ)
    → reaches rs vs f bound ≡ reaches_plainly rs vs f bound
reaches_is [] vs f bound = sym (or_false (int_le bound (value_of f vs)))
reaches_is (r ∷ rs) vs f bound =
    go (from_ends (onto (r ∷ rs) (fixed vs)) f bound) refl (λ v. reaches_is rs (v ∷ vs) f bound)
  where
    go : (o : Option Bool) → from_ends (onto (r ∷ rs) (fixed vs)) f bound ≡ o
        → ((v : ℤ) → reaches rs (v ∷ vs) f bound ≡ reaches_plainly rs (v ∷ vs) f bound)
        → reaches (r ∷ rs) vs f bound ≡ reaches_plainly (r ∷ rs) vs f bound
    go None e ih =
        ap (λ (o : Option Bool).
        elim o as (λ _. Bool) [
          | None ↦ list_any (λ v. reaches rs (v ∷ vs) f bound)
              (values_of r vs)
          | Some b ↦ b
        ]) e
        ∙ any_same (λ v. reaches rs (v ∷ vs) f bound) (λ v. reaches_plainly rs (v ∷ vs) f bound) ih (values_of r vs)
        ∙ sym (any_flat (λ xs. int_le bound (value_of f xs)) (λ v. extensions rs (v ∷ vs)) (values_of r vs))
    go (Some b) e ih = ap (λ (o : Option Bool).
        elim o as (λ _. Bool) [ None ↦ list_any (λ v. reaches rs (v ∷ vs) f bound) (values_of r vs) | Some b ↦ b ]) e
        ∙ sym (ends_right (r ∷ rs) vs f bound b e)

-- ---- ranges that don't depend on each other are decided by their ends, however many settings they have
constant_only : (rs : List Ends) (f : Form) → AreConstant rs → f.factors ≡ [] → greatest rs f ≡ f.constant
constant_only [] f h e = refl
constant_only (r ∷ rs) f h e =
    let z : first_factor f.factors ≡ pos 0 = ap first_factor e in
    let none : (without r f).factors ≡ [] =
    (λ i. joined (z i) (far_end (z i) r).factors (other_factors (e i)))
    ∙ ap (λ (l : List ℤ). joined (pos 0) l []) h.1 in
    let k = constant_only rs (without r f) h.2 none in
    let x = (far_end (first_factor f.factors) r).constant in
    let c : f.constant +ℤ (first_factor f.factors *ℤ x) ≡ f.constant =
    ap (λ (c : ℤ). f.constant +ℤ (c *ℤ x)) z ∙ omega (arith, ints, zero-*ℤ x) in
    k ∙ c

-- the difference of two such forms
difference_constant : (f g : Form) → f.factors ≡ [] → g.factors ≡ [] → (minus f g).factors ≡ []
difference_constant f g h k = λ i. joined (negsuc 0) (k i) (h i)

-- each nest of them has a range that never has a value, or none
constant_settled : (rs : List Ends) → AreConstant rs
    → (is_dead rs ≡ true) ⊎ ((is_dead rs ≡ false) × (all_run rs ≡ true))
constant_settled [] h = inr (refl, refl)
constant_settled (r ∷ rs) h =
    let a = constant_only rs (length_form r) h.2 (difference_constant r.upto r.from h.1 h.0) in
    let b = constant_only rs (lack_form r) h.2 (difference_constant r.from r.upto h.0 h.1) in
    go (int_lt (greatest rs (length_form r)) (pos 0)) refl a b (constant_settled rs h.2)
  where
    go : (p : Bool) → int_lt (greatest rs (length_form r)) (pos 0) ≡ p
        → greatest rs (length_form r) ≡ (length_form r).constant → greatest rs (lack_form r) ≡ (lack_form r).constant
        → (is_dead rs ≡ true) ⊎ ((is_dead rs ≡ false) × (all_run rs ≡ true))
        → (is_dead (r ∷ rs) ≡ true) ⊎ ((is_dead (r ∷ rs) ≡ false) × (all_run (r ∷ rs) ≡ true))
    go true e a b ih = inl (λ i. e i || is_dead rs)
    go false e a b (inl d) = inl (λ i. e i || d i)
    go false e a b (inr d) =
        let l = lt_not (greatest rs (length_form r)) (pos 0) e in
        let k : int_le (greatest rs (lack_form r)) (pos 0) ≡ true =
        le_to (greatest rs (lack_form r)) (pos 0) (omega (arith, ints, l, a, b)) in
        inr ((λ i. e i || d.0 i), (λ i. k i && d.1 i))

-- so no setting is run through
pub constant_decided : (rs : List Ends) (f : Form) (bound : ℤ) → AreConstant rs
    → (b : Bool) × (from_ends rs f bound ≡ Some b)
constant_decided rs f bound h = go (int_lt (greatest rs f) bound) refl (constant_settled rs h)
  where
    go : (p : Bool) → int_lt (greatest rs f) bound ≡ p
        → (is_dead rs ≡ true) ⊎ ((is_dead rs ≡ false) × (all_run rs ≡ true))
        → (b : Bool) × (from_ends rs f bound ≡ Some b)
    go true e d = (false, λ i. if (e i || is_dead rs) then Some false else (if all_run rs then Some true else None))
    go false e (inl d) = (false, λ i. if (e i || d i) then Some false else (if all_run rs then Some true else None))
    go false e (inr d) = (true, λ i. if (e i || d.0 i) then Some false else (if d.1 i then Some true else None))

-- nor is one where each range always has a value, whatever the values around it
pub running_decided : (rs : List Ends) (f : Form) (bound : ℤ) → all_run rs ≡ true → is_dead rs ≡ false
    → (b : Bool) × (from_ends rs f bound ≡ Some b)
running_decided rs f bound h k = go (int_lt (greatest rs f) bound) refl
  where
    go : (p : Bool) → int_lt (greatest rs f) bound ≡ p → (b : Bool) × (from_ends rs f bound ≡ Some b)
    go true e = (false, λ i. if (e i || is_dead rs) then Some false else (if all_run rs then Some true else None))
    go false e = (true, λ i. if (e i || k i) then Some false else (if h i then Some true else None))
