-- What can be decided of a text's next line: its words, the names in it, and whether a word spells a number that fits.
use Rattle.std.proofs.Common.{◌≡◌, ℕ, zero, suc, ◌<◌, ◌≤◌, List, [], ◌∷◌, length, get_or, arith, refl, ap, ap₂, sym, ◌∙◌, subst, inl, inr}
use Rattle.std.proofs.lemmas.Bool.Decides.{eqb_tells, leb_tells}
use Rattle.std.specs.Prelude.{◌⊎◌, ℤ, pos, negsuc, nat_abs}
use Rattle.rob_algebra.proofs.WidthLaws.{fits_or_wide, fits_not_wide}
use Rattle.rob_algebra.specs.Fraction.{Fraction, of_pair}
use Rattle.rob_algebra.specs.FractionPairs.{of_pair_parts}
use Rattle.rob_algebra.specs.Width.{Fits}
use Rattle.rob_meaning.specs.Names.{Name}
use Rattle.rob_cert.specs.Reading.{Lacks, BeginsWithLine, words_in, IsAtLeast}
use Rattle.rob_cert.specs.ReaderLines.{HasNoLineOf}
use Rattle.rob_cert.specs.Covers.{IsPair}
use Rattle.rob_cert.specs.Spelling.{Naming, name_at, number_text}
use Rattle.rob_cert.proofs.Readers.EntryLemmas.{no_line, one_line}
use Rattle.rob_cert.proofs.Readers.RankLemmas.{lt_cases}

-- it holds, or it doesn't
abbrev pub Decided : Type 0 → Type 0
Decided P = P ⊎ (P → ⊥)

pub both_decided : {P Q : Type 0} → Decided P → Decided Q → Decided (P × Q)
both_decided (inl p) (inl q) = inl (p, q)
both_decided (inl p) (inr n) = inr (λ h. n h.1)
both_decided (inr n) q = inr (λ h. n h.0)

either_decided : {P Q : Type 0} → Decided P → Decided Q → Decided (P ⊎ Q)
either_decided (inl p) q = inl (inl p)
either_decided (inr n) (inl q) = inl (inr q)
either_decided (inr n) (inr m) = inr (λ h. elim h [ inl p ↦ n p | inr q ↦ m q ])

pub same_number : (a b : ℕ) → Decided (a ≡ b)
same_number a b = elim (eqb_tells a b) [ inl h ↦ inl h.1 | inr h ↦ inr h.1 ]

at_least : (a b : ℕ) → Decided (a ≤ b)
at_least a b = elim (leb_tells a b) [ inl h ↦ inl h.1 | inr h ↦ inr (λ l. let m : b < a = h.1 in omega arith) ]

below : (a b : ℕ) → Decided (a < b)
below a b = elim (leb_tells b a) [ inl h ↦ inr (λ l. let m : b ≤ a = h.1 in omega arith) | inr h ↦ inl h.1 ]

pub same_word : (v w : Name) → Decided (v ≡ w)
same_word [] [] = inl refl
same_word [] (c ∷ w) = inr (λ e. cc)
same_word (b ∷ v) [] = inr (λ e. cc)
same_word (b ∷ v) (c ∷ w) = by (same_number b c) (same_word v w)
  where
    by : Decided (b ≡ c) → Decided (v ≡ w) → Decided (b ∷ v ≡ c ∷ w)
    by (inl p) (inl q) = inl (ap₂ (λ (x : ℕ) (xs : List ℕ). x ∷ xs) p q)
    by (inl p) (inr n) = inr (λ (e : b ∷ v ≡ c ∷ w). n (let q : v ≡ w = cc in q))
    by (inr n) q = inr (λ (e : b ∷ v ≡ c ∷ w). n (let p : b ≡ c = cc in p))

-- a number below `n` has the property, or none has
pub some_below : (P : ℕ → Type 0) → ((k : ℕ) → Decided (P k)) → (n : ℕ) → Decided ((k : ℕ) × (k < n) × P k)
some_below P decide zero = inr (λ h. let l : h.0 < 0 = h.1 in omega arith)
some_below P decide (suc n) = by (some_below P decide n) (decide n)
  where
    by : Decided ((k : ℕ) × (k < n) × P k) → Decided (P n) → Decided ((k : ℕ) × (k < suc n) × P k)
    by (inl h) q = inl (h.0, (let l : h.0 < n = h.1 in omega arith), h.2)
    by (inr none) (inl p) = inl (n, omega arith, p)
    by (inr none) (inr other) =
        inr (λ h. elim (lt_cases h.0 n h.1) [ inl l ↦ none (h.0, l, h.2) | inr e ↦ other (subst P e h.2) ])

-- ---- lines and words
-- a text begins with a line, or has no line's end
pub first_line : (text : List ℕ) → ((line : List ℕ) × (after : List ℕ) × BeginsWithLine text line after) ⊎ Lacks 10 text
first_line [] = inr tt
first_line (b ∷ text) = by (same_number b 10) (first_line text)
  where
    by : Decided (b ≡ 10) → ((line : List ℕ) × (after : List ℕ) × BeginsWithLine text line after) ⊎ Lacks 10 text
        → ((line : List ℕ) × (after : List ℕ) × BeginsWithLine (b ∷ text) line after) ⊎ Lacks 10 (b ∷ text)
    by (inl e) rest = inl ([], text, record { split = ap (λ c. c ∷ text) e; whole = tt })
    by (inr ne) (inl (line, after, h)) =
        inl (b ∷ line, after, record { split = ap (λ t. b ∷ t) h.split; whole = (ne, h.whole) })
    by (inr ne) (inr h) = inr (ne, h)

first_is : (word : Name) (words : List Name) → Decided ((more : List Name) × (words ≡ word ∷ more))
first_is word [] = inr (λ h. let e : [] ≡ word ∷ h.0 = h.1 in cc)
first_is word (w ∷ more) = by (same_word w word)
  where
    by : Decided (w ≡ word) → Decided ((rest : List Name) × (w ∷ more ≡ word ∷ rest))
    by (inl e) = inl (more, ap (λ v. v ∷ more) e)
    by (inr ne) = inr (λ h. ne (let p : w ∷ more ≡ word ∷ h.0 = h.1 in let q : w ≡ word = cc in q))

-- the next line has the word first, or no such line is next
pub next_line : (word : Name) (text : List ℕ)
    → ((front : List ℕ) × (back : List ℕ) × (more : List Name) × BeginsWithLine text front back
    × (words_in front ≡ word ∷ more)) ⊎ HasNoLineOf word text
next_line word text = by (first_line text)
  where
    then : (front back : List ℕ) → BeginsWithLine text front back
        → Decided ((more : List Name) × (words_in front ≡ word ∷ more))
        → ((front : List ℕ) × (back : List ℕ) × (more : List Name) × BeginsWithLine text front back
        × (words_in front ≡ word ∷ more)) ⊎ HasNoLineOf word text
    then front back h (inl (more, is)) = inl (front, back, more, h, is)
    then front back h (inr other) =
        inr (λ line after more b e. other (more, ap words_in (one_line text front back line after h b).0 ∙ e))

    by : ((line : List ℕ) × (after : List ℕ) × BeginsWithLine text line after) ⊎ Lacks 10 text
        → ((front : List ℕ) × (back : List ℕ) × (more : List Name) × BeginsWithLine text front back
        × (words_in front ≡ word ∷ more)) ⊎ HasNoLineOf word text
    by (inl (front, back, h)) = then front back h (first_is word (words_in front))
    by (inr none) = inr (λ line after more b e. no_line text line after none b)

-- words of a known number
pub one_word : (ws : List Name) → length ws ≡ 1 → (s : Name) × (ws ≡ s ∷ [])
one_word [] e = absurd (omega arith)
one_word (s ∷ []) e = (s, refl)
one_word (s ∷ t ∷ ws) e = absurd (omega arith)

pub two_words : (ws : List Name) → length ws ≡ 2 → (s : Name) × (t : Name) × (ws ≡ s ∷ (t ∷ []))
two_words [] e = absurd (omega arith)
two_words (s ∷ ws) e = let (t, is) = one_word ws (omega arith) in (s, t, ap (λ l. s ∷ l) is)

pub three_words : (ws : List Name) → length ws ≡ 3 → (s : Name) × (t : Name) × (u : Name) × (ws ≡ s ∷ (t ∷ (u ∷ [])))
three_words [] e = absurd (omega arith)
three_words (s ∷ ws) e = let (t, u, is) = two_words ws (omega arith) in (s, t, u, ap (λ l. s ∷ l) is)

-- the word of that number
abbrev pub nth : ℕ → List Name → Name
nth n words = get_or words n []

-- ---- names
-- a number from `least` on has the name, or none has
pub some_name : (names : List Name) (least : ℕ) (name : Name)
    → Decided ((k : ℕ) × (k < length names) × ((least ≤ k) × (name_at names k ≡ name)))
some_name names least name =
    some_below (λ k. (least ≤ k) × (name_at names k ≡ name))
    (λ k. both_decided (at_least least k) (same_word (name_at names k) name)) (length names)

stands_at_least : (form place i r : ℕ) → Decided (IsAtLeast form place i r)
stands_at_least form place i r = either_decided (below form i) (both_decided (same_number form i) (at_least place r))

module _ (names : Naming) (form place : ℕ) (form_name row_name : Name) where
  -- the numbers have the two names, and stand in order
  abbrev Matches : ℕ → ℕ → Type 0
  Matches i r = (name_at names.forms i ≡ form_name) × ((name_at names.set_rows r ≡ row_name) × IsAtLeast form place i r)

  matches : (i r : ℕ) → Decided (Matches i r)
  matches i r =
      both_decided (same_word (name_at names.forms i) form_name)
      (both_decided (same_word (name_at names.set_rows r) row_name) (stands_at_least form place i r))

  -- a pair of numbers has the names of a form and of a set row, or none has
  pub some_pair : Decided ((i : ℕ) × (r : ℕ) × IsPair names form place form_name row_name i r)
  some_pair =
      by (some_below (λ i. (r : ℕ) × (r < length names.set_rows) × Matches i r)
      (λ i. some_below (Matches i) (matches i) (length names.set_rows)) (length names.forms))
    where
      by : Decided ((i : ℕ) × (i < length names.forms) × ((r : ℕ) × (r < length names.set_rows) × Matches i r))
          → Decided ((i : ℕ) × (r : ℕ) × IsPair names form place form_name row_name i r)
      by (inl (i, l, (r, m, h))) =
          inl (i, r, record { ordered = h.1.1; form_named = l; row_named = m; form_is = h.0; row_is = h.1.0 })
      by (inr none) = inr (λ (i, r, h). none (i, h.form_named, (r, h.row_named, (h.form_is, (h.row_is, h.ordered)))))

-- ---- numbers
module _ (limit : ℕ) (word : Name) where
  -- the number fits, and the word spells it
  abbrev pub Spells : Fraction → Type 0
  Spells q = Fits limit q × (word ≡ number_text q)

  fits : (q : Fraction) → Decided (Fits limit q)
  fits q = elim (fits_or_wide limit q) [ inl f ↦ inl f | inr w ↦ inr (λ f. fits_not_wide limit q f w) ]

  spells : (q : Fraction) → Decided (Spells q)
  spells q = both_decided (fits q) (same_word word (number_text q))

  -- one of two numerators, over a denominator, is spelled
  abbrev OfSize : ℕ → ℕ → Type 0
  OfSize n d = Spells (of_pair (pos n) d) ⊎ Spells (of_pair (negsuc n) d)

  of_size : (n d : ℕ) → Decided (OfSize n d)
  of_size n d = either_decided (spells (of_pair (pos n) d)) (spells (of_pair (negsuc n) d))

  -- a word spells a number that fits, or none: both parts of one that fits are within the limit
  pub some_number : Decided ((q : Fraction) × Spells q)
  some_number =
      by (some_below (λ n. (d : ℕ) × (d < suc limit) × OfSize n d)
      (λ n. some_below (OfSize n) (of_size n) (suc limit)) (suc limit))
    where
      is_pair : (q : Fraction) (z : ℤ) → q.num ≡ z → of_pair z q.den ≡ q
      is_pair q z e = ap (λ (y : ℤ). of_pair y q.den) (sym e) ∙ of_pair_parts q

      inside : (q : Fraction) (z : ℤ) → q.num ≡ z → Spells q → (n : ℕ) × (n < suc limit)
          × ((d : ℕ) × (d < suc limit) × OfSize n d)
      inside q (pos n) e h = (
        n,
        omega (arith, h.0.num_fits, ap nat_abs e),
        (q.den, omega (arith, h.0.den_fits), inl (subst Spells (sym (is_pair q (pos n) e)) h)),
      )
      inside q (negsuc n) e h = (
        n,
        omega (arith, h.0.num_fits, ap nat_abs e),
        (q.den, omega (arith, h.0.den_fits), inr (subst Spells (sym (is_pair q (negsuc n) e)) h)),
      )

      by : Decided ((n : ℕ) × (n < suc limit) × ((d : ℕ) × (d < suc limit) × OfSize n d))
          → Decided ((q : Fraction) × Spells q)
      by (inl (n, l, (d, m, inl h))) = inl (of_pair (pos n) d, h)
      by (inl (n, l, (d, m, inr h))) = inl (of_pair (negsuc n) d, h)
      by (inr none) = inr (λ (q, h). none (inside q q.num refl h))
