-- The first lines of a tree's text: they are told in one way, and a good one breaks no rule.
use Rattle.std.proofs.Common.{◌≡◌, ◌≢◌, ℕ, ◌-◌, ◌^◌, ◌≤◌, List, [], ◌∷◌, ◌++◌, arith, refl, ap, sym, ◌∙◌, subst, append_assoc}
use Rattle.std.proofs.lemmas.Fmt.{signed_decimal_injective}
use Rattle.std.specs.Fmt.{signed_decimal}
use Rattle.std.specs.Prelude.{codes, ℤ, pos, nat_abs}
use Rattle.rob_algebra.specs.Fraction.{Fraction}
use Rattle.rob_algebra.specs.Width.{Fits}
use Rattle.rob_cert.proofs.OneText.ApartLemmas.{line_of, line_whole, number_same, number_word, spaced-line, words_in-line}
use Rattle.rob_cert.proofs.Readers.EntryLemmas.{one_line}
use Rattle.rob_cert.proofs.Words.NameWords.{letters}
use Rattle.rob_cert.proofs.Words.NumberLemmas.{mag_small}
use Rattle.rob_cert.specs.Apart.{IsWord}
use Rattle.rob_cert.specs.Reading.{BeginsWithLine, words_in}
use Rattle.rob_cert.specs.Spelling.{number_text, spaced, status_word}
use Rattle.rob_meaning.specs.Certificates.{Status, optimal, infeasible, unbounded}
use Rattle.rob_meaning.specs.Names.{Name}
use Rattle.rob_meaning.specs.Places.{Each}
use Rattle.rob_tree.proofs.Readers.PieceLemmas.{k_is_word}
use Rattle.rob_tree.specs.Parts.{claim_words}
use Rattle.rob_tree.specs.ClaimLines.{HasBest, IsBestCause, IsBestLineOf, IsClaimCause, IsClaimLine, greatest_leaf}
use Rattle.rob_tree.specs.Shape.{KeepsParts}
use Rattle.rob_tree.specs.TreeText.{best_text, claim_text}
use Rattle.rob_tree.specs.declared.error.Offence.{Offence}
use Rattle.rob_tree.specs.declared.error.Offence.TheVariants.{NoLine, NoName, NoNumber}

-- ---- lines of words
-- a line of words that begins a text
first_line : (w : Name) (ws : List Name) (rest : List ℕ) → Each IsWord (w ∷ ws)
    → BeginsWithLine (spaced (w ∷ ws) ++ rest) (line_of (w ∷ ws)) rest
first_line w ws rest h = record {
  split = ap (λ t. t ++ rest) (spaced-line (w ∷ ws)) ∙ append_assoc (line_of (w ∷ ws)) (10 ∷ []) rest;
  whole = line_whole (w ∷ ws) h;
}

-- two such lines at the front of a text are one
same_line : (v w : Name) (vs ws : List Name) (r t : List ℕ) → Each IsWord (v ∷ vs) → Each IsWord (w ∷ ws)
    → spaced (v ∷ vs) ++ r ≡ spaced (w ∷ ws) ++ t
    → (v ∷ vs ≡ w ∷ ws) × (r ≡ t)
same_line v w vs ws r t h k e =
    let same = one_line (spaced (v ∷ vs) ++ r) (line_of (v ∷ vs)) r (line_of (w ∷ ws)) t (first_line v vs r h)
    (subst (λ text. BeginsWithLine text (line_of (w ∷ ws)) t) (sym e) (first_line w ws t k)) in
    (sym (words_in-line v vs h) ∙ ap words_in same.0 ∙ words_in-line w ws k, same.1)

-- the words of a line at the front of a text that such a line begins
words_there : (w : Name) (ws : List Name) (rest text line after : List ℕ) → Each IsWord (w ∷ ws)
    → text ≡ spaced (w ∷ ws) ++ rest → BeginsWithLine text line after
    → (w ∷ ws ≡ words_in line) × (rest ≡ after)
words_there w ws rest text line after h is b =
    let same = one_line text (line_of (w ∷ ws)) rest line after
    (subst (λ t. BeginsWithLine t (line_of (w ∷ ws)) rest) (sym is) (first_line w ws rest h)) b in
    (sym (words_in-line w ws h) ∙ ap words_in same.0, same.1)

is_status_word : (s : Status) → IsWord (status_word s)
is_status_word optimal = letters (codes "optimal") refl
is_status_word infeasible = letters (codes "infeasible") refl
is_status_word unbounded = letters (codes "unbounded") refl

second_same : (a b c d : Name) → a ∷ (b ∷ []) ≡ c ∷ (d ∷ []) → b ≡ d
second_same a b c d e = cc

third_same : (a b c d e f : Name) → a ∷ (b ∷ (c ∷ [])) ≡ d ∷ (e ∷ (f ∷ [])) → c ≡ f
third_same a b c d e f h = cc

abbrev second_letter : List Name → ℕ
second_letter [] = 0
second_letter (v ∷ []) = 0
second_letter (v ∷ ([] ∷ ws)) = 0
second_letter (v ∷ ((b ∷ w) ∷ ws)) = b

seconds_apart : (a b : ℕ) (vs ws : List Name) → second_letter vs ≡ a → second_letter ws ≡ b → a ≢ b → vs ≡ ws → ⊥
seconds_apart a b vs ws h k ne e = ne (sym h ∙ ap second_letter e ∙ k)

-- the line of a claim is that of its words
pub claim_line : (s : Status) (v : Fraction) → claim_text s v ≡ spaced (claim_words s v)
claim_line optimal v = refl
claim_line infeasible v = refl
claim_line unbounded v = refl

module _ (limit : ℕ) (low : limit ≤ 2 ^ 62 - 1) where
  -- ---- what a tree claims
  claim_is_words : (s : Status) (v : Fraction) → Fits limit v → Each IsWord (claim_words s v)
  claim_is_words optimal v f = (letters (codes "tree") refl, (is_status_word optimal, (number_word limit low v f, tt)))
  claim_is_words infeasible v f = (letters (codes "tree") refl, (is_status_word infeasible, tt))
  claim_is_words unbounded v f = (letters (codes "tree") refl, (is_status_word unbounded, tt))

  abbrev pub SameClaim : Status → Fraction → Status → Fraction → Type 0
  SameClaim optimal v s w = (s ≡ optimal) × (v ≡ w)
  SameClaim infeasible v s w = s ≡ infeasible
  SameClaim unbounded v s w = s ≡ unbounded

  same_words : (s t : Status) (v w : Fraction) → Fits limit v → Fits limit w
      → claim_words s v ≡ claim_words t w → SameClaim s v t w
  same_words optimal optimal v w f g e = (refl, number_same limit low v w f g (third_same _ _ _ _ _ _ e))
  same_words optimal infeasible v w f g e = absurd (seconds_apart 111 105 _ _ refl refl (λ e. omega (arith, e)) e)
  same_words optimal unbounded v w f g e = absurd (seconds_apart 111 117 _ _ refl refl (λ e. omega (arith, e)) e)
  same_words infeasible optimal v w f g e = absurd (seconds_apart 105 111 _ _ refl refl (λ e. omega (arith, e)) e)
  same_words infeasible infeasible v w f g e = refl
  same_words infeasible unbounded v w f g e = absurd (seconds_apart 105 117 _ _ refl refl (λ e. omega (arith, e)) e)
  same_words unbounded optimal v w f g e = absurd (seconds_apart 117 111 _ _ refl refl (λ e. omega (arith, e)) e)
  same_words unbounded infeasible v w f g e = absurd (seconds_apart 117 105 _ _ refl refl (λ e. omega (arith, e)) e)
  same_words unbounded unbounded v w f g e = refl

  pub claims_same : (s t : Status) (v w : Fraction) (r q : List ℕ) → Fits limit v → Fits limit w
      → claim_text s v ++ r ≡ claim_text t w ++ q
      → SameClaim s v t w × (r ≡ q)
  claims_same s t v w r q f g e =
      let line = by s t v w r q (claim_is_words s v f) (claim_is_words t w g)
      (ap (λ x. x ++ r) (sym (claim_line s v)) ∙ e ∙ ap (λ x. x ++ q) (claim_line t w)) in
      (same_words s t v w f g line.0, line.1)
    where
      parts : (s : Status) (v : Fraction) → (ws : List Name) × (claim_words s v ≡ codes "tree" ∷ ws)
      parts optimal v = (_, refl)
      parts infeasible v = (_, refl)
      parts unbounded v = (_, refl)

      by : (s t : Status) (v w : Fraction) (r q : List ℕ) → Each IsWord (claim_words s v)
          → Each IsWord (claim_words t w)
          → spaced (claim_words s v) ++ r ≡ spaced (claim_words t w) ++ q
          → (claim_words s v ≡ claim_words t w) × (r ≡ q)
      by s t v w r q h k e =
          let (vs, a) = parts s v in
          let (ws, b) = parts t w in
          let same = same_line (codes "tree") (codes "tree") vs ws r q (subst (Each IsWord) a h)
          (subst (Each IsWord) b k)
          (ap (λ l. spaced l ++ r) (sym a) ∙ e ∙ ap (λ l. spaced l ++ q) b) in
          (a ∙ same.0 ∙ sym b, same.1)

  is_claim_line : (s : Status) (v : Fraction) → IsClaimLine s (claim_words s v)
  is_claim_line optimal v = (number_text v, refl)
  is_claim_line infeasible v = refl
  is_claim_line unbounded v = refl

  pub no_claim_cause : (s : Status) (v : Fraction) (r text : List ℕ) (o : Offence) → Fits limit v
      → text ≡ claim_text s v ++ r → IsClaimCause limit text o → ⊥
  no_claim_cause s v r text o f is cause = by s o (is ∙ ap (λ x. x ++ r) (claim_line s v)) (claim_is_words s v f) cause
    where
      by : (s : Status) (o : Offence) → text ≡ spaced (claim_words s v) ++ r → Each IsWord (claim_words s v)
          → IsClaimCause limit text o → ⊥
      by optimal NoLine e h c =
          let ws = claim_words optimal v in
          c (line_of ws) r (subst (λ t. BeginsWithLine t (line_of ws) r) (sym e) (first_line (codes "tree") _ r h))
          optimal
          (subst (IsClaimLine optimal) (sym (words_in-line (codes "tree") _ h)) (is_claim_line optimal v))
      by infeasible NoLine e h c =
          let ws = claim_words infeasible v in
          c (line_of ws) r (subst (λ t. BeginsWithLine t (line_of ws) r) (sym e) (first_line (codes "tree") _ r h))
          infeasible
          (subst (IsClaimLine infeasible) (sym (words_in-line (codes "tree") _ h)) (is_claim_line infeasible v))
      by unbounded NoLine e h c =
          let ws = claim_words unbounded v in
          c (line_of ws) r (subst (λ t. BeginsWithLine t (line_of ws) r) (sym e) (first_line (codes "tree") _ r h))
          unbounded
          (subst (IsClaimLine unbounded) (sym (words_in-line (codes "tree") _ h)) (is_claim_line unbounded v))
      by s NoName e h c = c
      by optimal NoNumber e h (line, after, b, (word, is, none)) =
          let w = (words_there (codes "tree") (status_word optimal ∷ (number_text v ∷ [])) r text line after h e b).0
          ∙ is in
          none v f (sym (third_same _ _ _ _ _ _ w))
      by infeasible NoNumber e h (line, after, b, (word, is, none)) =
          seconds_apart 105 111 _ _ refl refl (λ e. omega (arith, e))
          ((words_there (codes "tree") (status_word infeasible ∷ []) r text line after h e b).0 ∙ is)
      by unbounded NoNumber e h (line, after, b, (word, is, none)) =
          seconds_apart 117 111 _ _ refl refl (λ e. omega (arith, e))
          ((words_there (codes "tree") (status_word unbounded ∷ []) r text line after h e b).0 ∙ is)

  -- ---- one offence
  pub one_claim : (text : List ℕ) (a b : Offence) → IsClaimCause limit text a → IsClaimCause limit text b → a ≡ b
  one_claim text NoLine NoLine h k = refl
  one_claim text NoNumber NoNumber h k = refl
  one_claim text NoLine NoNumber h (line, after, b, (word, e, none)) = absurd (h line after b optimal (word, e))
  one_claim text NoNumber NoLine (line, after, b, (word, e, none)) k = absurd (k line after b optimal (word, e))
  one_claim text NoName b h k = absurd h
  one_claim text a NoName h k = absurd k

  pub status_same : (s t : Status) (v w : Fraction) → SameClaim s v t w → t ≡ s
  status_same optimal t v w h = h.0
  status_same infeasible t v w h = h
  status_same unbounded t v w h = h

  pub value_same : (s t : Status) (v w : Fraction) (b c : ℕ) → KeepsParts s v b → KeepsParts t w c
      → SameClaim s v t w → v ≡ w
  value_same optimal t v w b c p q h = h.1
  value_same infeasible t v w b c p q h = p.0 ∙ sym (subst (λ s. KeepsParts s w c) h q).0
  value_same unbounded t v w b c p q h = p ∙ sym (subst (λ s. KeepsParts s w c) h q)

-- ---- the leaf that shows it
best_words : (z : ℤ) → nat_abs z ≤ greatest_leaf → Each IsWord (codes "best" ∷ (signed_decimal z ∷ []))
best_words z h = (letters (codes "best") refl, (k_is_word z (omega (arith, h)), tt))

best_same : (z y : ℤ) (r q : List ℕ) → nat_abs z ≤ greatest_leaf → nat_abs y ≤ greatest_leaf
    → spaced (codes "best" ∷ (signed_decimal z ∷ [])) ++ r
    ≡ spaced (codes "best" ∷ (signed_decimal y ∷ [])) ++ q → (z ≡ y) × (r ≡ q)
best_same z y r q h k e =
    let same = same_line (codes "best") (codes "best") (signed_decimal z ∷ []) (signed_decimal y ∷ []) r q
    (best_words z h) (best_words y k) e in
    let w = second_same _ _ _ _ same.0 in (
      signed_decimal_injective z y (omega (arith, mag_small z (omega (arith, h))))
          (omega (arith, mag_small y (omega (arith, k)))) w,
      same.1,
    )

-- the line of the leaf is one
pub shown_same : (s : Status) (a b r q : List ℕ) (z y : ℤ) → IsBestLineOf s a z → IsBestLineOf s b y
    → a ++ r ≡ b ++ q → (z ≡ y) × (r ≡ q)
shown_same optimal a b r q z y h k e =
    best_same z y r q h.0 k.0 (ap (λ x. x ++ r) (sym h.1) ∙ e ∙ ap (λ x. x ++ q) k.1)
shown_same infeasible a b r q z y h k e = (h.1 ∙ sym k.1, ap (λ x. x ++ r) (sym h.0) ∙ e ∙ ap (λ x. x ++ q) k.0)
shown_same unbounded a b r q z y h k e =
    best_same z y r q h.0 k.0 (ap (λ x. x ++ r) (sym h.1) ∙ e ∙ ap (λ x. x ++ q) k.1)

by_line : (a r text : List ℕ) (z : ℤ) (o : Offence) → nat_abs z ≤ greatest_leaf
    → a ≡ spaced (codes "best" ∷ (signed_decimal z ∷ [])) → text ≡ a ++ r → IsBestCause text o → ⊥
by_line a r text z NoLine small e is c =
    let ws = codes "best" ∷ (signed_decimal z ∷ []) in
    c (line_of ws) r
    (subst (λ t. BeginsWithLine t (line_of ws) r) (sym (is ∙ ap (λ x. x ++ r) e))
    (first_line (codes "best") _ r (best_words z small))) (signed_decimal z)
    (words_in-line (codes "best") _ (best_words z small))
by_line a r text z NoName small e is c = c
by_line a r text z NoNumber small e is (line, after, b, (word, d, none)) =
    let w = (words_there (codes "best") (signed_decimal z ∷ []) r text line after (best_words z small)
    (is ∙ ap (λ x. x ++ r) e) b).0 ∙ d in
    none (z, small, sym (second_same _ _ _ _ w))

pub no_best_cause : (s : Status) (a r text : List ℕ) (z : ℤ) (o : Offence) → HasBest s → IsBestLineOf s a z
    → text ≡ a ++ r → IsBestCause text o → ⊥
no_best_cause infeasible a r text z o has h is cause = has
no_best_cause optimal a r text z o has h is cause = by_line a r text z o h.0 h.1 is cause
no_best_cause unbounded a r text z o has h is cause = by_line a r text z o h.0 h.1 is cause

pub one_best : (text : List ℕ) (a b : Offence) → IsBestCause text a → IsBestCause text b → a ≡ b
one_best text NoLine NoLine h k = refl
one_best text NoNumber NoNumber h k = refl
one_best text NoLine NoNumber h (line, after, b, (word, e, none)) = absurd (h line after b word e)
one_best text NoNumber NoLine (line, after, b, (word, e, none)) k = absurd (k line after b word e)
one_best text NoName b h k = absurd h
one_best text a NoName h k = absurd k

-- the line of a tree's leaf
abbrev pub best_of : Status → ℕ → ℤ
best_of optimal b = pos b
best_of infeasible b = pos 0
best_of unbounded b = pos b

pub best_line : (s : Status) (b : ℕ) → b ≤ greatest_leaf → IsBestLineOf s (best_text s b) (best_of s b)
best_line optimal b h = (h, refl)
best_line infeasible b h = (refl, refl)
best_line unbounded b h = (h, refl)

pub best_same_parts : (s : Status) (v w : Fraction) (b c : ℕ) → KeepsParts s v b → KeepsParts s w c
    → best_of s b ≡ best_of s c → b ≡ c
best_same_parts optimal v w b c p q e = ap nat_abs e
best_same_parts infeasible v w b c p q e = p.1 ∙ sym q.1
best_same_parts unbounded v w b c p q e = ap nat_abs e

pub shows_text : (s : Status) (shown : List ℕ) (b : ℕ) → HasBest s
    → IsBestLineOf s shown (best_of s b) → shown ≡ best_text s b
shows_text optimal shown b has h = h.1
shows_text infeasible shown b has h = absurd has
shows_text unbounded shown b has h = h.1
