-- Each text is that of a tree, or breaks a rule.
use Rattle.std.proofs.Common.{◌≡◌, ◌≢◌, ℕ, zero, suc, ◌+◌, ◌-◌, ◌^◌, ◌<◌, ◌≤◌, List, [], ◌∷◌, ◌++◌, length, arith, refl, ap, sym, ◌∙◌, subst, append_assoc, append-nil, length-append, inl, inr}
use Rattle.std.proofs.lemmas.Bool.Decides.{leb_tells}
use Rattle.std.specs.Fmt.{signed_decimal}
use Rattle.std.specs.Prelude.{codes, ℤ, pos, negsuc, nat_abs, ◌⊎◌}
use Rattle.rob_cert.proofs.OneText.Decisions.{Decided, both_decided, first_line, same_number, same_word, some_below, three_words}
use Rattle.rob_cert.proofs.Writing.ShapeLemmas.{spaced_some}
use Rattle.rob_cert.proofs.OneText.SomeCertificate.{some_certificate}
use Rattle.rob_cert.specs.Reading.{BeginsWithLine, Lacks, words_in}
use Rattle.rob_cert.specs.Spelling.{cert_text, name_at, naming_of, spaced}
use Rattle.rob_meaning.specs.Certificates.{Status, optimal, infeasible, unbounded}
use Rattle.rob_meaning.specs.Names.{Name, column_names}
use Rattle.rob_meaning.specs.RobustModel.{RobustModel}
use Rattle.rob_reach.specs.Trees.{Node, leaf, split, left_open, IsIn, branch_count}
use Rattle.rob_tree.proofs.Readers.LineLemmas.{no_node, node_cause, node_missing}
use Rattle.rob_tree.proofs.Readers.NodeSteps.{breaks_above, breaks_below, breaks_certificate, breaks_here}
use Rattle.rob_tree.proofs.Readers.ReadingLemmas.{pieces_text-append, stage, text_of_words}
use Rattle.rob_tree.specs.Parts.{IsGoodNode}
use Rattle.rob_tree.specs.ClaimLines.{IsWholeWord}
use Rattle.rob_tree.specs.Reading.{BreaksNodes, IsBranchWord, IsCertificatePart, IsNamedOne, IsNodeCause, line_ends, of_end, of_line, of_rest, rule_of}
use Rattle.rob_tree.specs.TreeText.{Piece, branch_piece, open_piece, piece_text, pieces, pieces_text}
use Rattle.rob_tree.specs.declared.error.Offence.{Offence}
use Rattle.rob_tree.specs.declared.error.Offence.TheVariants.{NoLine, NoName, NoNumber}

pub first_same : (v w : Name) (vs ws : List Name) → v ∷ vs ≡ w ∷ ws → v ≡ w
first_same v w vs ws e = cc

-- ---- words of whole numbers and names
module _ (limit : ℕ) (word : Name) where
  -- the whole number is within the limit and spelled by the word, and is another than a given one
  abbrev IsSpelled : (ℤ → Type 0) → ℤ → Type 0
  IsSpelled P z = (nat_abs z ≤ limit) × (P z × (word ≡ signed_decimal z))

  at_most : (a b : ℕ) → Decided (a ≤ b)
  at_most a b = elim (leb_tells a b) [ inl h ↦ inl h.1 | inr h ↦ inr (λ l. let m : b < a = h.1 in omega arith) ]

  some_whole : (P : ℤ → Type 0) → ((z : ℤ) → Decided (P z)) → Decided ((z : ℤ) × IsSpelled P z)
  some_whole P decide =
      by (some_below (λ n. IsSpelled P (pos n) ⊎ IsSpelled P (negsuc n))
      (λ n. either (one (pos n)) (one (negsuc n))) (suc limit))
    where
      one : (z : ℤ) → Decided (IsSpelled P z)
      one z = both_decided (at_most (nat_abs z) limit) (both_decided (decide z) (same_word word (signed_decimal z)))

      either : {A B : Type 0} → Decided A → Decided B → Decided (A ⊎ B)
      either (inl p) q = inl (inl p)
      either (inr n) (inl q) = inl (inr q)
      either (inr n) (inr k) = inr (λ h. elim h [ inl p ↦ n p | inr q ↦ k q ])

      inside : (z : ℤ) → IsSpelled P z → (n : ℕ) × (n < suc limit) × (IsSpelled P (pos n) ⊎ IsSpelled P (negsuc n))
      inside (pos n) h = (n, (let l : n ≤ limit = h.0 in omega arith), inl h)
      inside (negsuc n) h = (n, (let l : suc n ≤ limit = h.0 in omega arith), inr h)

      by : Decided ((n : ℕ) × (n < suc limit) × (IsSpelled P (pos n) ⊎ IsSpelled P (negsuc n)))
          → Decided ((z : ℤ) × IsSpelled P z)
      by (inl (n, l, inl h)) = inl (pos n, h)
      by (inl (n, l, inr h)) = inl (negsuc n, h)
      by (inr none) = inr (λ (z, h). none (inside z h))

  pub whole_word : Decided (IsWholeWord limit word)
  whole_word = elim (some_whole (λ z. Unit {0}) (λ z. inl tt)) [
    | inl h ↦ inl (h.0, h.1.0, h.1.1.1)
    | inr n ↦ inr (λ (z, small, e). n (z, (small, (tt, e))))
  ]

  other_than : (z : ℤ) → Decided (z ≢ pos limit)
  other_than (negsuc n) = inl (λ e. cc)
  other_than (pos n) = elim (same_number n limit) [
    | inl e ↦ inr (λ ne. ne (ap pos e))
    | inr ne ↦ inl (λ e. ne (ap nat_abs e))
  ]

  branch_word : Decided (IsBranchWord limit word)
  branch_word = elim (some_whole (λ z. z ≢ pos limit) other_than) [
    | inl h ↦ inl (h.0, h.1.0, h.1.1.0, h.1.1.1)
    | inr n ↦ inr (λ (z, small, ne, e). n (z, (small, (ne, e))))
  ]

named_one : (limit : ℕ) (m : RobustModel) (names : List ℕ) (name : Name) → Decided (IsNamedOne limit m names name)
named_one limit m [] name = inr (λ (j, on, e). on)
named_one limit m (i ∷ names) name = by (same_word name (name_at (column_names m) i)) (named_one limit m names name)
  where
    by : Decided (name ≡ name_at (column_names m) i) → Decided (IsNamedOne limit m names name)
        → Decided (IsNamedOne limit m (i ∷ names) name)
    by (inl e) q = inl (i, inl refl, e)
    by (inr n) (inl (j, on, e)) = inl (j, inr on, e)
    by (inr n) (inr k) =
        inr (λ (j, on, e). elim on [
          | inl same ↦ n (e ∙ ap (name_at (column_names m)) same)
          | inr there ↦ k (j, there, e)
        ])

-- the lines of a certificate stand at the front of each text
abbrev SomePart : List ℕ → Type 0
SomePart text = (part : List ℕ) × (behind : List ℕ) × IsCertificatePart text part × (text ≡ part ++ behind)

part_of_line : (text line after : List ℕ) → BeginsWithLine text line after → Decided (line ≡ codes "end")
    → (length after < length text → SomePart after)
    → SomePart text
part_of_line text line after b (inl e) again = (
  codes "end\n",
  after,
  of_end after (subst (λ l. BeginsWithLine text l after) e b) refl,
  b.split
      ∙ ap (λ l. l ++ 10 ∷ after) e,
)
part_of_line text line after b (inr ne) again =
    let more = again (omega (arith, ap length b.split, length-append line (10 ∷ after))) in (
      line ++ 10 ∷ more.0,
      more.1,
      of_line line after more.0 b ne more.2 refl,
      b.split ∙ ap (λ t. line ++ 10 ∷ t) more.3 ∙ sym (append_assoc line (10 ∷ more.0) more.1),
    )

part_by : (text : List ℕ) → ((line : List ℕ) × (after : List ℕ) × BeginsWithLine text line after) ⊎ Lacks 10 text
    → ((after : List ℕ) → length after < length text → SomePart after) → SomePart text
part_by text (inl (line, after, b)) again = part_of_line text line after b (same_word line (codes "end")) (again after)
part_by text (inr none) again = (text, [], of_rest none refl, sym (append-nil text))

part_of_size : (n : ℕ) (text : List ℕ) → length text < n → SomePart text
part_of_size zero text h = absurd (omega arith)
part_of_size (suc n) text h = part_by text (first_line text) (λ after l. part_of_size n after (omega arith))

pub some_part : (text : List ℕ) → (part : List ℕ) × (behind : List ℕ) × IsCertificatePart text part
    × (text ≡ part ++ behind)
some_part text = part_of_size (suc (length text)) text (omega arith)

-- ---- a node
module _ (m : RobustModel) (limit : ℕ) (names : List ℕ) (status : Status) where
  abbrev text_of : Piece → List ℕ
  text_of p = piece_text (naming_of m) p

  abbrev texts : Node → List ℕ
  texts n = pieces_text (naming_of m) (pieces n)

  -- a node stands at the front of the text, or a rule is broken
  pub record SomeNode (b : ℕ) (text : List ℕ) : Type 0 where
    pub node : Node
    pub rest : List ℕ
    pub split : text ≡ texts node ++ rest
    pub good : IsGoodNode limit m names status node
    pub few : b + branch_count node < 1000

  pub record SomeBreach (b : ℕ) (text : List ℕ) (number : ℕ) : Type 0 where
    pub rule : ℕ
    pub line : ℕ
    pub breaks : (p : ℕ) → BreaksNodes limit m names status (stage (suc p) b) text number rule line

  -- what the next line is
  pub data SomeHead (b : ℕ) (text : List ℕ) : Type 0 where
    a_leaf : (after : List ℕ) → text ≡ codes "leaf\n" ++ after → SomeHead b text
    an_open : (after : List ℕ) → status ≡ unbounded → text ≡ text_of open_piece ++ after → SomeHead b text
    a_branch : (j : ℕ) (k : ℤ) (after : List ℕ) → b < 999 → IsIn j names → nat_abs k ≤ limit → k ≢ pos limit
        → text ≡ text_of (branch_piece j k) ++ after
        → SomeHead b text
    none : (o : Offence) → IsNodeCause limit m names status b text o → SomeHead b text

  is_unbounded : (s : Status) → Decided (s ≡ unbounded)
  is_unbounded optimal = inr (λ e. cc)
  is_unbounded infeasible = inr (λ e. cc)
  is_unbounded unbounded = inl refl

  below_999 : (b : ℕ) → Decided (b < 999)
  below_999 b = elim (leb_tells 999 b) [ inl h ↦ inr (λ l. let k : 999 ≤ b = h.1 in omega arith) | inr h ↦ inl h.1 ]

  module _ (b : ℕ) (text front back : List ℕ) (begins : BeginsWithLine text front back) where
    of_words : (ws : List Name) → words_in front ≡ ws → text ≡ spaced ws ++ back
    of_words ws e = text_of_words text front back ws begins.split e

    no_line_here : front ≢ codes "leaf" → (status ≡ unbounded → front ≢ codes "open")
        → ((name word : Name) → b < 999 → words_in front ≡ codes "branch" ∷ (name ∷ (word ∷ [])) → ⊥) → SomeHead b text
    no_line_here l o f =
        none NoLine
        (node_cause limit m names status b text front back NoLine begins.split begins.whole
        (no_node limit m names status b front l o f))

    of_named : (name word : Name) → b < 999 → words_in front ≡ codes "branch" ∷ (name ∷ (word ∷ []))
        → Decided (IsNamedOne limit m names name)
        → Decided (IsBranchWord limit word) → SomeHead b text
    of_named name word few e (inr bad) w = none NoName (front, back, begins, (name, word, few, e, bad))
    of_named name word few e (inl there) (inr bad) =
        none NoNumber (front, back, begins, (name, word, few, e, there, bad))
    of_named name word few e (inl (j, on, n)) (inl (k, small, ne, w)) =
        a_branch j k back few on small ne
        (of_words (codes "branch" ∷ (name_at (column_names m) j ∷ (signed_decimal k ∷ [])))
        (e ∙ ap (λ x. codes "branch" ∷ (x ∷ (word ∷ []))) n
        ∙ ap (λ x. codes "branch" ∷ (name_at (column_names m) j ∷ (x ∷ []))) w))

    of_branch_line : front ≢ codes "leaf" → (status ≡ unbounded → front ≢ codes "open")
        → Decided (length (words_in front) ≡ 3) → Decided (b < 999) → SomeHead b text
    of_branch_line l o (inr other) few = no_line_here l o (λ name word f e. other (ap length e))
    of_branch_line l o (inl three) (inr many) = no_line_here l o (λ name word f e. many f)
    of_branch_line l o (inl three) (inl few) =
        let (s, t, u, e) = three_words (words_in front) three in by s t u e (same_word s (codes "branch"))
      where
        by : (s t u : Name) → words_in front ≡ s ∷ (t ∷ (u ∷ [])) → Decided (s ≡ codes "branch") → SomeHead b text
        by s t u e (inl same) =
            of_named t u few (e ∙ ap (λ x. x ∷ (t ∷ (u ∷ []))) same) (named_one limit m names t) (branch_word limit u)
        by s t u e (inr ne) = no_line_here l o (λ name word f d. ne (first_same s (codes "branch") _ _ (sym e ∙ d)))

    of_other_line : front ≢ codes "leaf" → Decided ((status ≡ unbounded) × (front ≡ codes "open")) → SomeHead b text
    of_other_line l (inl (s, e)) = an_open back s (begins.split ∙ ap (λ x. x ++ 10 ∷ back) e)
    of_other_line l (inr n) = of_branch_line l (λ s e. n (s, e)) (same_number (length (words_in front)) 3) (below_999 b)

    of_line_here : Decided (front ≡ codes "leaf") → SomeHead b text
    of_line_here (inl e) = a_leaf back (begins.split ∙ ap (λ x. x ++ 10 ∷ back) e)
    of_line_here (inr l) = of_other_line l (both_decided (is_unbounded status) (same_word front (codes "open")))

  some_head : (b : ℕ) (text : List ℕ) → SomeHead b text
  some_head b text = elim (first_line text) [
    | inl (line, after, h) ↦ of_line_here b text line after h (same_word line (codes "leaf"))
    | inr h ↦ none NoLine (node_missing limit m names status b text h)
  ]

  abbrev pub Node_of : ℕ → List ℕ → ℕ → Type 0
  Node_of b text number = SomeNode b text ⊎ SomeBreach b text number

  -- a leaf
  leaf_of : (b : ℕ) (text after : List ℕ) (number : ℕ) → b < 1000 → length text < 2 ^ 32
      → text ≡ codes "leaf\n" ++ after → Node_of b text number
  leaf_of b text after number few small is =
      let (part, behind, is_part, cut) = some_part after in
      elim (some_certificate m limit part
      (omega (
        arith,
        small,
        ap length is,
        length-append (codes "leaf\n") after,
        ap length cut,
        length-append part behind,
      ))) [
        | inl (c, h, fits) ↦ inl record {
          node = leaf c;
          rest = behind;
          split = is ∙ ap (λ t. codes "leaf\n" ++ t) (cut ∙ ap (λ t. t ++ behind) h.spelled)
              ∙ sym (append_assoc (codes "leaf\n") (cert_text m c) behind)
              ∙ ap (λ t. t ++ behind) (sym (append-nil (codes "leaf\n" ++ cert_text m c)));
          good = (h.shape, fits);
          few = omega arith;
        }
        | inr (rule, line, (o, e, h)) ↦ inr record {
          rule = rule;
          line = (suc number + line) - 1;
          breaks = λ p. breaks_certificate limit m names status p b text after part number rule
              ((suc number + line) - 1) is is_part (
                o,
                e,
                record {
                  before = h.before;
                  stage = h.stage;
                  rest = h.rest;
                  good = h.good;
                  split = h.split;
                  number_is = omega (arith, h.number_is);
                  cause = h.cause;
                  more = h.more;
                },
              );
        }
      ]

  -- a branch, where shorter texts are decided
  module _ (b : ℕ) (text : List ℕ) (number : ℕ)
      (again : (c : ℕ) (t : List ℕ) (n : ℕ) → c < 1000 → length t < length text → Node_of c t n) where
    both_of : (j : ℕ) (k : ℤ) (after : List ℕ) → b < 999 → IsIn j names → nat_abs k ≤ limit → k ≢ pos limit
        → text ≡ text_of (branch_piece j k) ++ after
        → length after < length text → Node_of b text number
    both_of j k after few on small ne is shorter =
        first (again (suc b) after (number + line_ends (text_of (branch_piece j k))) (omega arith) shorter)
      where
        second : (h : SomeNode (suc b) after)
            → Node_of (suc b + branch_count h.node) h.rest
            ((number + line_ends (text_of (branch_piece j k))) + line_ends (texts h.node))
            → Node_of b text number
        second h (inl g) = inl record {
          node = split j k h.node g.node;
          rest = g.rest;
          split = is ∙ ap (λ t. text_of (branch_piece j k) ++ t) (h.split ∙ ap (λ t. texts h.node ++ t) g.split
              ∙ sym (append_assoc (texts h.node) (texts g.node) g.rest)
              ∙ ap (λ t. t ++ g.rest) (sym (pieces_text-append (naming_of m) (pieces h.node) (pieces g.node))))
              ∙ sym (append_assoc (text_of (branch_piece j k))
              (pieces_text (naming_of m) (pieces h.node ++ pieces g.node)) g.rest);
          good = (on, small, ne, h.good, g.good);
          few = omega (arith, g.few);
        }
        second h (inr g) = inr record {
          rule = g.rule;
          line = g.line;
          breaks = λ p. breaks_above limit m names status p b j k few on small ne text after is number h.node h.rest
              h.split h.good h.few g.rule g.line (g.breaks p);
        }

        first : Node_of (suc b) after (number + line_ends (text_of (branch_piece j k))) → Node_of b text number
        first (inl h) =
            second h (again (suc b + branch_count h.node) h.rest
            ((number + line_ends (text_of (branch_piece j k))) + line_ends (texts h.node)) h.few
            (omega (arith, shorter, ap length h.split, length-append (texts h.node) h.rest)))
        first (inr h) = inr record {
          rule = h.rule;
          line = h.line;
          breaks = λ p. breaks_below limit m names status p b j k few on small ne text after is number h.rule
              h.line (h.breaks (suc p));
        }

    node_by : b < 1000 → length text < 2 ^ 32 → SomeHead b text → Node_of b text number
    node_by few small (a_leaf after is) = leaf_of b text after number few small is
    node_by few small (an_open after may is) = inl record {
      node = left_open;
      rest = after;
      split = is ∙ ap (λ t. t ++ after) (sym (append-nil (text_of open_piece)));
      good = may;
      few = omega arith;
    }
    node_by few small (a_branch j k after less on within ne is) =
        both_of j k after less on within ne is
        (omega (
          arith,
          ap length is,
          length-append (text_of (branch_piece j k)) after,
          spaced_some (codes "branch" ∷ (name_at (column_names m) j ∷ (signed_decimal k ∷ []))),
        ))
    node_by few small (none o h) = inr record {
      rule = rule_of o;
      line = number;
      breaks = λ p. breaks_here limit m names status p b text number o h;
    }

  pub some_node : (size b : ℕ) (text : List ℕ) (number : ℕ) → length text < size → b < 1000
      → length text < 2 ^ 32 → Node_of b text number
  some_node zero b text number within few small = absurd (omega arith)
  some_node (suc size) b text number within few small =
      node_by b text number (λ c t n less shorter. some_node size c t n (omega arith) less (omega arith)) few
      small (some_head b text)
