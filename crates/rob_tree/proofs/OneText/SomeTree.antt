-- Each text is that of a tree, or breaks a rule.
use Rattle.std.proofs.Common.{◌≡◌, ◌≢◌, ℕ, zero, suc, ◌+◌, ◌-◌, ◌^◌, ◌<◌, ◌≤◌, List, [], ◌∷◌, T, length, arith, refl, ap, sym, ◌∙◌, length-append, inl, inr}
use Rattle.std.proofs.lemmas.Bool.Decides.{leb_tells}
use Rattle.std.proofs.lemmas.Int.{ints}
use Rattle.std.specs.Fmt.{signed_decimal}
use Rattle.std.specs.Prelude.{codes, ℤ, pos, negsuc, nat_abs, ◌<ℤ◌, ◌≤ℤ◌, ◌⊎◌}
use Rattle.rob_algebra.specs.Fraction.{Fraction}
use Rattle.rob_algebra.specs.Width.{Fits}
use Rattle.rob_cert.proofs.OneText.Decisions.{Decided, first_line, same_number, same_word, some_number, three_words, two_words}
use Rattle.rob_cert.specs.Reading.{BeginsWithLine, words_in}
use Rattle.rob_cert.specs.Spelling.{naming_of, number_text, spaced, status_word}
use Rattle.rob_meaning.specs.Certificates.{Status, optimal, infeasible, unbounded}
use Rattle.rob_meaning.specs.Names.{Name}
use Rattle.rob_meaning.specs.Places.{0ℚ}
use Rattle.rob_meaning.specs.RobustModel.{RobustModel}
use Rattle.rob_model.proofs.SmallLemmas.{zero_fits}
use Rattle.rob_reach.specs.Ranges.{are_bounded}
use Rattle.rob_reach.specs.Trees.{Tree, branch_count}
use Rattle.rob_tree.proofs.Readers.LineLemmas.{best_cause, best_line_of, best_missing, claim_cause, claim_missing, no_claim}
use Rattle.rob_tree.proofs.Readers.ReaderLemmas.{root_cause_end, root_cause_node, root_read, text_best_cause, text_cause, text_claim_cause, text_read}
use Rattle.rob_tree.proofs.Readers.ReadingLemmas.{text_of_words}
use Rattle.rob_tree.proofs.OneText.SomeNode.{Node_of, SomeNode, first_same, some_node, whole_word}
use Rattle.rob_tree.specs.Parts.{HasRootCause, IsBestRead, IsClaimRead, IsLeafNumber, IsNodeRead, claim_words, tree_with}
use Rattle.rob_tree.specs.ClaimLines.{HasBest, IsBestCause, IsClaimCause, IsWholeWord, first_node, greatest_leaf}
use Rattle.rob_tree.specs.Reading.{Breaks, TreeFits, line_ends, rule_of}
use Rattle.rob_tree.specs.TreeText.{IsTextOfTree, pieces, pieces_text}
use Rattle.rob_tree.specs.declared.error.Offence.{Offence}
use Rattle.rob_tree.specs.declared.error.Offence.TheVariants.{NoLine, NoNumber}
use Rattle.rob_tree.specs.declared.error.TreeErr.TheVariants.{Rule}

second_same : {A : Type 0} (u v w x : A) (vs ws : List A) → u ∷ (v ∷ vs) ≡ w ∷ (x ∷ ws) → v ≡ x
second_same u v w x vs ws e = cc

-- ---- what a text claims
module _ (limit : ℕ) (one : 1 ≤ limit) where
  pub data SomeClaim (text : List ℕ) : Type 0 where
    a_claim : (s : Status) (v : Fraction) (rest : List ℕ) → Fits limit v → IsClaimRead text s v rest → SomeClaim text
    none : (o : Offence) → IsClaimCause limit text o → SomeClaim text

  module _ (text front back : List ℕ) (begins : BeginsWithLine text front back) where
    claims_nothing : front ≢ codes "tree infeasible" → front ≢ codes "tree unbounded"
        → ((word : Name) → words_in front ≡ codes "tree" ∷ (status_word optimal ∷ (word ∷ [])) → ⊥) → SomeClaim text
    claims_nothing a b f =
        none NoLine (claim_cause limit text front back NoLine begins.split begins.whole (no_claim limit front a b f))

    of_number : (u : Name) → words_in front ≡ codes "tree" ∷ (status_word optimal ∷ (u ∷ []))
        → Decided ((q : Fraction) × (Fits limit q × (u ≡ number_text q)))
        → SomeClaim text
    of_number u e (inl (q, h)) =
        a_claim optimal q back h.0 (record {
          split = text_of_words text front back _ begins.split
              (e ∙ ap (λ x. codes "tree" ∷ (status_word optimal ∷ (x ∷ []))) h.1);
          nothing = tt;
        })
    of_number u e (inr bad) = none NoNumber (front, back, begins, (u, e, λ q f d. bad (q, (f, d))))

    of_words : front ≢ codes "tree infeasible" → front ≢ codes "tree unbounded" → (s t u : Name)
        → words_in front ≡ s ∷ (t ∷ (u ∷ []))
        → Decided (s ≡ codes "tree") → Decided (t ≡ status_word optimal) → SomeClaim text
    of_words a b s t u e (inl p) (inl q) =
        of_number u (e ∙ ap (λ x. x ∷ (t ∷ (u ∷ []))) p
        ∙ ap (λ x. codes "tree" ∷ (x ∷ (u ∷ []))) q) (some_number limit u)
    of_words a b s t u e (inr n) q = claims_nothing a b (λ word d. n (first_same s (codes "tree") _ _ (sym e ∙ d)))
    of_words a b s t u e (inl p) (inr n) =
        claims_nothing a b (λ word d. n (second_same s t (codes "tree") (status_word optimal) _ _ (sym e ∙ d)))

    of_three : front ≢ codes "tree infeasible" → front ≢ codes "tree unbounded"
        → Decided (length (words_in front) ≡ 3) → SomeClaim text
    of_three a b (inr other) = claims_nothing a b (λ word e. other (ap length e))
    of_three a b (inl three) =
        let (s, t, u, e) = three_words (words_in front) three in
        of_words a b s t u e (same_word s (codes "tree")) (same_word t (status_word optimal))

    of_line : Decided (front ≡ codes "tree infeasible") → Decided (front ≡ codes "tree unbounded") → SomeClaim text
    of_line (inl e) b =
        a_claim infeasible 0ℚ back (zero_fits limit one) (record {
          split = text_of_words text front back _ begins.split (ap words_in e);
          nothing = refl;
        })
    of_line (inr a) (inl e) =
        a_claim unbounded 0ℚ back (zero_fits limit one) (record {
          split = text_of_words text front back _ begins.split (ap words_in e);
          nothing = refl;
        })
    of_line (inr a) (inr b) = of_three a b (same_number (length (words_in front)) 3)

  some_claim : (text : List ℕ) → SomeClaim text
  some_claim text = elim (first_line text) [
    | inl (line, after, h) ↦
        of_line text line after h (same_word line (codes "tree infeasible")) (same_word line (codes "tree unbounded"))
    | inr h ↦ none NoLine (claim_missing limit text h)
  ]

-- ---- the leaf that shows it
module _ (s : Status) where
  pub data SomeBest (text : List ℕ) : Type 0 where
    a_best : (best : ℤ) (rest : List ℕ) → IsBestRead s text best rest (first_node s) → SomeBest text
    no_best : HasBest s → (o : Offence) → IsBestCause text o → SomeBest text

  module _ (has : HasBest s) (text front back : List ℕ) (begins : BeginsWithLine text front back) where
    shows_nothing : ((word : Name) → words_in front ≡ codes "best" ∷ (word ∷ []) → ⊥) → SomeBest text
    shows_nothing f = no_best has NoLine (best_cause text front back NoLine begins.split begins.whole f)

    of_whole : (u : Name) → words_in front ≡ codes "best" ∷ (u ∷ [])
        → Decided (IsWholeWord greatest_leaf u) → SomeBest text
    of_whole u e (inr n) = no_best has NoNumber (front, back, begins, (u, e, n))
    of_whole u e (inl (z, small, w)) = a_best z back record {
      shown = spaced (codes "best" ∷ (signed_decimal z ∷ []));
      split = text_of_words text front back (codes "best" ∷ (signed_decimal z ∷ [])) begins.split
          (e ∙ ap (λ x. codes "best" ∷ (x ∷ [])) w);
      is_best = best_line_of s has z small;
      line_is = refl;
    }

    of_first : (u v : Name) → words_in front ≡ u ∷ (v ∷ []) → Decided (u ≡ codes "best") → SomeBest text
    of_first u v e (inl p) = of_whole v (e ∙ ap (λ x. x ∷ (v ∷ [])) p) (whole_word greatest_leaf v)
    of_first u v e (inr n) = shows_nothing (λ word d. n (first_same u (codes "best") _ _ (sym e ∙ d)))

    of_two : Decided (length (words_in front) ≡ 2) → SomeBest text
    of_two (inr other) = shows_nothing (λ word e. other (ap length e))
    of_two (inl two) =
        let (u, v, e) = two_words (words_in front) two in of_first u v e (same_word u (codes "best"))

  best_line : HasBest s → (text : List ℕ) → SomeBest text
  best_line has text = elim (first_line text) [
    | inl (line, after, h) ↦ of_two has text line after h (same_number (length (words_in line)) 2)
    | inr h ↦ no_best has NoLine (best_missing text h)
  ]

some_best : (s : Status) (text : List ℕ) → SomeBest s text
some_best optimal text = best_line optimal tt text
some_best infeasible text = a_best (pos 0) text record {
  shown = [];
  split = refl;
  is_best = (refl, refl);
  line_is = refl;
}
some_best unbounded text = best_line unbounded tt text

-- ---- the end
is_leaf : (z : ℤ) (n : ℕ) → Decided ((pos 0 <ℤ z) × (z ≤ℤ pos (suc n)))
is_leaf (negsuc k) n = inr (λ h. omega (arith, ints, h.0))
is_leaf (pos zero) n = inr (λ h. omega (arith, ints, h.0))
is_leaf (pos (suc k)) n = elim (leb_tells k n) [
  | inl h ↦ inl (let l : k ≤ n = h.1 in (omega (arith, ints), omega (arith, ints)))
  | inr h ↦ inr (λ g. let l : n < k = h.1 in omega (arith, ints, g.1))
]

is_zero : (z : ℤ) → Decided (z ≡ pos 0)
is_zero (pos zero) = inl refl
is_zero (pos (suc n)) = inr (λ e. omega (arith, ap nat_abs e))
is_zero (negsuc n) = inr (λ e. omega (arith, ap nat_abs e))

leaf_number : (s : Status) (z : ℤ) (n : ℕ) → Decided (IsLeafNumber s z n)
leaf_number optimal z n = is_leaf z n
leaf_number infeasible z n = is_zero z
leaf_number unbounded z n = is_leaf z n

-- a tree whose numbers fit, or a breach
abbrev pub SomeTree : ℕ → RobustModel → List ℕ → List ℕ → Type 0
SomeTree limit m names text = ((t : Tree) × IsTextOfTree limit m names t text × TreeFits limit m t)
    ⊎ ((rule : ℕ) × (line : ℕ) × Breaks limit m names text rule line)

module _ (limit : ℕ) (m : RobustModel) (names : List ℕ) (one : 1 ≤ limit) (low : limit ≤ 2 ^ 62 - 1)
    (bounded : T (are_bounded m.variables names)) (text : List ℕ) (small : length text < 2 ^ 32) where
  module _ (s : Status) (v : Fraction) (rest last : List ℕ) (best : ℤ) (fits : Fits limit v)
      (claim : IsClaimRead text s v rest)
      (shown : IsBestRead s rest best last (first_node s)) where
    broken : (rule line : ℕ) → HasRootCause limit m names s best last (first_node s) (Rule rule line)
        → SomeTree limit m names text
    broken rule line h =
        inr (
          rule,
          line,
          text_cause limit m names s v text rest last best (first_node s) fits claim shown (Rule rule line) h,
        )

    module _ (h : SomeNode m limit names s 0 last) where
      read : IsNodeRead limit m names s last (first_node s) 0 h.node h.rest
          (first_node s + line_ends (pieces_text (naming_of m) (pieces h.node))) (0 + branch_count h.node)
      read = record { split = h.split; line_is = refl; branches_are = refl; few = h.few; good = h.good }

      of_end : (e : List ℕ) → h.rest ≡ e → Decided (IsLeafNumber s best (0 + branch_count h.node))
          → SomeTree limit m names text
      of_end (x ∷ more) e number =
          broken 71 _ (root_cause_end limit m names s best last (first_node s) h.node h.rest _ _ read
          (Rule 71 (first_node s + line_ends (pieces_text (naming_of m) (pieces h.node))))
          (inl ((λ n. let none : x ∷ more ≡ [] = sym e ∙ n in cc), refl, refl)))
      of_end [] e (inr n) =
          broken 72 2
          (root_cause_end limit m names s best last (first_node s) h.node h.rest _ _ read (Rule 72 2)
          (inr (e, n, refl, refl)))
      of_end [] e (inl number) =
          let t = tree_with s v best h.node in
          let both = text_read limit m names s v text rest last best (first_node s) fits claim shown t bounded
          (root_read limit m names s best last (first_node s) h.node h.rest _ _ read v t
          (record { nothing = e; number = number }) refl) in
          inl (t, both.text_is, both.fits)

    of_node : Node_of m limit names s 0 last (first_node s) → SomeTree limit m names text
    of_node (inl h) = of_end h h.rest refl (leaf_number s best (0 + branch_count h.node))
    of_node (inr h) =
        broken h.rule h.line (root_cause_node limit m names s best last (first_node s) (Rule h.rule h.line) h.breaks)

  of_best : (s : Status) (v : Fraction) (rest : List ℕ) → Fits limit v → IsClaimRead text s v rest
      → SomeBest s rest → SomeTree limit m names text
  of_best s v rest fits claim (no_best has o h) =
      inr (rule_of o, 2, text_best_cause limit m names s v text rest o fits claim (record { has = has; cause = h }))
  of_best s v rest fits claim (a_best best last shown) =
      of_node s v rest last best fits claim shown
      (some_node m limit names s (suc (length last)) 0 last (first_node s) (omega arith) (omega arith)
      (omega (
        arith,
        small,
        ap length claim.split,
        ap length shown.split,
        length-append (spaced (claim_words s v)) rest,
        length-append shown.shown last,
      )))

  of_claim : SomeClaim limit one text → SomeTree limit m names text
  of_claim (none o h) = inr (rule_of o, 1, text_claim_cause limit m names text o h)
  of_claim (a_claim s v rest fits claim) = of_best s v rest fits claim (some_best s rest)

-- each text of fewer than 2^32 bytes is that of a tree with numbers that fit, or breaks a rule at a line
pub some_tree : (limit : ℕ) (m : RobustModel) (names : List ℕ) → 1 ≤ limit → limit ≤ 2 ^ 62 - 1
    → T (are_bounded m.variables names)
    → (text : List ℕ) → length text < 2 ^ 32 → SomeTree limit m names text
some_tree limit m names one low bounded text small =
    of_claim limit m names one low bounded text small (some_claim limit one text)
