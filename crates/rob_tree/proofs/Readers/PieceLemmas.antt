-- A text goes on with one piece that may stand there, or breaks one rule.
use Rattle.std.proofs.Common.{◌≡◌, ◌≢◌, ℕ, zero, suc, ◌+◌, ◌-◌, ◌^◌, ◌<◌, ◌≤◌, List, [], ◌∷◌, ◌++◌, length, arith, refl, ap, ap₂, sym, ◌∙◌, subst, append_assoc}
use Rattle.std.proofs.lemmas.Fmt.{signed_decimal_injective}
use Rattle.std.specs.Fmt.{signed_decimal}
use Rattle.std.specs.Prelude.{codes, ℤ, pos, negsuc, nat_abs}
use Rattle.rob_cert.proofs.OneText.ApartLemmas.{line_of, line_whole, spaced-line, words_in-line}
use Rattle.rob_cert.proofs.Readers.CoverLemmas.{one_number}
use Rattle.rob_cert.proofs.Readers.EntryLemmas.{one_line}
use Rattle.rob_cert.proofs.Words.NameWords.{digits, letters, words_of_columns}
use Rattle.rob_cert.proofs.Words.NumberLemmas.{mag_small}
use Rattle.rob_cert.proofs.OneText.OneBreach as cert_breach
use Rattle.rob_cert.proofs.OneText.SpellingLaws as cert_laws
use Rattle.rob_cert.specs.Apart.{IsNamedInWords, IsWord}
use Rattle.rob_cert.specs.Causes.{HasCause as HasCertCause}
use Rattle.rob_cert.specs.declared.error.CertErr.TheVariants as cert
use Rattle.rob_cert.specs.Lines.{lines_of}
use Rattle.rob_cert.specs.Reading.{BeginsWithLine, words_in, start}
use Rattle.rob_cert.specs.Spelling.{name_at, naming_of, spaced}
use Rattle.rob_cert.specs.Spelling as spelling
use Rattle.rob_meaning.proofs.Lists.DistinctLemmas.{distinct_left}
use Rattle.rob_meaning.proofs.Naming.NamedFormLemmas.{distinct_columns}
use Rattle.rob_meaning.specs.Certificates.{Status}
use Rattle.rob_meaning.specs.Named.{AreDistinct, IsNamed}
use Rattle.rob_meaning.specs.Names.{Name, column_names}
use Rattle.rob_meaning.specs.Places.{Each}
use Rattle.rob_meaning.specs.RobustModel.{RobustModel}
use Rattle.rob_meaning.specs.WellFormed.{IsModel}
use Rattle.rob_tree.proofs.Readers.PartLemmas.{certificate_lines, one_certificate, part_once, first_letter}
use Rattle.rob_tree.proofs.Readers.ReadingLemmas.{pending_some}
use Rattle.rob_tree.proofs.BoxShapes.SpelledLemmas.{in_each}
use Rattle.rob_tree.specs.Reading.{IsBranchWord, IsBreach, IsCertificatePart, IsNamedOne, IsNodeCause, IsNodeLine, MayStand, Stage, in_certificate, in_node, in_rest, of_branch, of_leaf, of_open, rule_of}
use Rattle.rob_tree.specs.TreeText.{Piece, branch_piece, leaf_piece, open_piece, piece_text}
use Rattle.rob_tree.specs.declared.error.Offence.{Offence}
use Rattle.rob_tree.specs.declared.error.Offence.TheVariants.{NoLine, NoName, NoNumber}

name_is_word : (list : List Name) (j : ℕ) → Each IsWord list → j < length list → IsWord (name_at list j)
name_is_word [] j h l = absurd (omega arith)
name_is_word (n ∷ list) zero h l = h.0
name_is_word (n ∷ list) (suc j) h l = name_is_word list j h.1 (omega arith)

pub k_is_word : (z : ℤ) → nat_abs z < 2 ^ 62 → IsWord (signed_decimal z)
k_is_word (pos n) h = digits n (omega arith)
k_is_word (negsuc n) h = ((λ e. omega (arith, e), λ e. omega (arith, e)), digits (suc n) (omega arith))

letters_apart : (a b : ℕ) (vs ws : List Name) → first_letter vs ≡ a → first_letter ws ≡ b → a ≢ b → vs ≡ ws → ⊥
letters_apart a b vs ws h k ne e = ne (sym h ∙ ap first_letter e ∙ k)

-- a certificate's cause does not depend on the number of its first line
shifted : (names : _) (limit : ℕ) (part : List ℕ) (n r i : ℕ) → HasCertCause names limit start part n (cert.Rule r i)
    → (j : ℕ) × (i + 1 ≡ n + j) × HasCertCause names limit start part 1 (cert.Rule r j)
shifted names limit part n r i (o, e, b) = (
  1 + length b.before,
  omega (arith, b.number_is),
  (
    o,
    e,
    record {
      before = b.before;
      stage = b.stage;
      rest = b.rest;
      good = b.good;
      split = b.split;
      number_is = refl;
      cause = b.cause;
      more = b.more;
    },
  ),
)

module _ (m : RobustModel) (limit : ℕ) (names : List ℕ) (model : IsModel m) (named : IsNamed m)
    (in_words : IsNamedInWords m) (low : limit ≤ 2 ^ 62 - 1)
    (inside : Each (λ j. j < length (column_names m)) names) where
  columns_distinct : AreDistinct (column_names m)
  columns_distinct = distinct_left (column_names m) (codes "tau" ∷ []) (distinct_columns m model named)

  -- ---- the first line of a piece, and what of the piece stands behind it
  abbrev head_of : Piece → List Name
  head_of (leaf_piece c) = codes "leaf" ∷ []
  head_of (branch_piece j k) = codes "branch" ∷ (name_at (column_names m) j ∷ (signed_decimal k ∷ []))
  head_of open_piece = codes "open" ∷ []

  abbrev tail_of : Piece → List ℕ
  tail_of (leaf_piece c) = spelling.lines_text (naming_of m) (lines_of c)
  tail_of (branch_piece j k) = []
  tail_of open_piece = []

  head_split : (p : Piece) (r : List ℕ) → piece_text (naming_of m) p ++ r ≡ line_of (head_of p) ++ 10 ∷ (tail_of p ++ r)
  head_split (leaf_piece c) r =
      append_assoc (spaced (codes "leaf" ∷ [])) (spelling.lines_text (naming_of m) (lines_of c)) r
      ∙ ap (λ t. t ++ (spelling.lines_text (naming_of m) (lines_of c) ++ r)) (spaced-line (codes "leaf" ∷ []))
      ∙ append_assoc (line_of (codes "leaf" ∷ [])) (10 ∷ []) (spelling.lines_text (naming_of m) (lines_of c) ++ r)
  head_split (branch_piece j k) r =
      let ws = codes "branch" ∷ (name_at (column_names m) j ∷ (signed_decimal k ∷ [])) in
      ap (λ t. t ++ r) (spaced-line ws) ∙ append_assoc (line_of ws) (10 ∷ []) r
  head_split open_piece r =
      ap (λ t. t ++ r) (spaced-line (codes "open" ∷ [])) ∙ append_assoc (line_of (codes "open" ∷ [])) (10 ∷ []) r

  module _ (status : Status) where
    abbrev May : Stage → Piece → Type 0
    May s p = MayStand limit m names status s p

    heads_are_words : (s : Stage) (p : Piece) → May s p → Each IsWord (head_of p)
    heads_are_words s (leaf_piece c) h = (letters (codes "leaf") refl, tt)
    heads_are_words s (branch_piece j k) h = (
      letters (codes "branch") refl,
      (
        name_is_word (column_names m) j (words_of_columns m model in_words) (in_each _ names j h.2 inside),
        (k_is_word k (omega (arith, h.3)), tt),
      ),
    )
    heads_are_words s open_piece h = (letters (codes "open") refl, tt)

    begins : (s : Stage) (p : Piece) (r : List ℕ) → May s p
        → BeginsWithLine (piece_text (naming_of m) p ++ r) (line_of (head_of p)) (tail_of p ++ r)
    begins s p r h = record { split = head_split p r; whole = line_whole (head_of p) (heads_are_words s p h) }

    words_are : (s : Stage) (p : Piece) → May s p → words_in (line_of (head_of p)) ≡ head_of p
    words_are s p h = by p (heads_are_words s p h)
      where
        by : (p : Piece) → Each IsWord (head_of p) → words_in (line_of (head_of p)) ≡ head_of p
        by (leaf_piece c) w = words_in-line (codes "leaf") [] w
        by (branch_piece j k) w =
            words_in-line (codes "branch") (name_at (column_names m) j ∷ (signed_decimal k ∷ [])) w
        by open_piece w = words_in-line (codes "open") [] w

    -- the words of the first line of a text that goes on with a piece
    head_is : (s : Stage) (p : Piece) (r text line after : List ℕ) → May s p → text ≡ piece_text (naming_of m) p ++ r
        → BeginsWithLine text line after
        → (head_of p ≡ words_in line) × (tail_of p ++ r ≡ after)
    head_is s p r text line after h is b =
        let same = one_line text (line_of (head_of p)) (tail_of p ++ r) line after
        (subst (λ t. BeginsWithLine t (line_of (head_of p)) (tail_of p ++ r)) (sym is) (begins s p r h)) b in
        (sym (words_are s p h) ∙ ap words_in same.0, same.1)

    -- a text begins with one piece that may stand there
    same_piece : (s : Stage) (p q : Piece) (r t : List ℕ) → May s p → May s q → head_of p ≡ head_of q
        → tail_of p ++ r ≡ tail_of q ++ t → (p ≡ q) × (r ≡ t)
    same_piece s (leaf_piece c) (leaf_piece d) r t h k e f =
        let same = one_certificate m limit model named in_words low c d r t h.1 h.2 k.1 k.2 f in
        (ap leaf_piece same.0, same.1)
    same_piece s (leaf_piece c) (branch_piece j k) r t h g e f =
        absurd (letters_apart 108 98 _ _ refl refl (λ e. omega (arith, e)) e)
    same_piece s (leaf_piece c) open_piece r t h g e f =
        absurd (letters_apart 108 111 _ _ refl refl (λ e. omega (arith, e)) e)
    same_piece s (branch_piece j k) (leaf_piece c) r t h g e f =
        absurd (letters_apart 98 108 _ _ refl refl (λ e. omega (arith, e)) e)
    same_piece s (branch_piece j k) (branch_piece i l) r t h g e f =
        let name : name_at (column_names m) j ≡ name_at (column_names m) i = cc in
        let word : signed_decimal k ≡ signed_decimal l = cc in
        let column =
        one_number (column_names m) j i columns_distinct (in_each _ names j h.2 inside)
        (in_each _ names i g.2 inside) name in
        let whole =
        signed_decimal_injective k l (omega (arith, mag_small k (omega (arith, h.3))))
        (omega (arith, mag_small l (omega (arith, g.3)))) word in
        (ap₂ branch_piece column whole, f)
    same_piece s (branch_piece j k) open_piece r t h g e f =
        absurd (letters_apart 98 111 _ _ refl refl (λ e. omega (arith, e)) e)
    same_piece s open_piece (leaf_piece c) r t h g e f =
        absurd (letters_apart 111 108 _ _ refl refl (λ e. omega (arith, e)) e)
    same_piece s open_piece (branch_piece j k) r t h g e f =
        absurd (letters_apart 111 98 _ _ refl refl (λ e. omega (arith, e)) e)
    same_piece s open_piece open_piece r t h g e f = (refl, f)

    pub one_piece : (s : Stage) (p q : Piece) (r t : List ℕ) → MayStand limit m names status s p
        → MayStand limit m names status s q
        → piece_text (naming_of m) p ++ r ≡ piece_text (naming_of m) q ++ t → (p ≡ q) × (r ≡ t)
    one_piece s p q r t h k e =
        let same = head_is s p r (piece_text (naming_of m) p ++ r) (line_of (head_of q)) (tail_of q ++ t) h refl
        (subst (λ text. BeginsWithLine text (line_of (head_of q)) (tail_of q ++ t)) (sym e) (begins s q t k)) in
        same_piece s p q r t h k (same.0 ∙ words_are s q k) same.1

    -- ---- a text that goes on with a piece breaks no rule there
    is_node_line : (s : Stage) (p : Piece) → May s p → IsNodeLine status s.branches (head_of p)
    is_node_line s (leaf_piece c) h = of_leaf refl
    is_node_line s (branch_piece j k) h = of_branch (name_at (column_names m) j) (signed_decimal k) h.1 refl
    is_node_line s open_piece h = of_open h.1 refl

    branch_named : (s : Stage) (p : Piece) (name word : Name) → May s p
        → head_of p ≡ codes "branch" ∷ (name ∷ (word ∷ []))
        → IsNamedOne limit m names name × IsBranchWord limit word
    branch_named s (leaf_piece c) name word h e = absurd (letters_apart 108 98 _ _ refl refl (λ e. omega (arith, e)) e)
    branch_named s (branch_piece j k) name word h e =
        let n : name_at (column_names m) j ≡ name = cc in
        let w : signed_decimal k ≡ word = cc in
        ((j, h.2, sym n), (k, h.3, h.4, sym w))
    branch_named s open_piece name word h e = absurd (letters_apart 111 98 _ _ refl refl (λ e. omega (arith, e)) e)

    no_cause : (s : Stage) (p : Piece) (r text : List ℕ) (o : Offence) → May s p
        → text ≡ piece_text (naming_of m) p ++ r
        → IsNodeCause limit m names status s.branches text o → ⊥
    no_cause s p r text NoLine h is cause =
        cause (line_of (head_of p)) (tail_of p ++ r)
        (subst (λ t. BeginsWithLine t (line_of (head_of p)) (tail_of p ++ r)) (sym is) (begins s p r h))
        (subst (IsNodeLine status s.branches) (sym (words_are s p h)) (is_node_line s p h))
    no_cause s p r text NoName h is (line, after, b, (name, word, few, e, none)) =
        none (branch_named s p name word h ((head_is s p r text line after h is b).0 ∙ e)).0
    no_cause s p r text NoNumber h is (line, after, b, (name, word, few, e, there, none)) =
        none (branch_named s p name word h ((head_is s p r text line after h is b).0 ∙ e)).1

    leaf_line : (text after : List ℕ) → text ≡ codes "leaf\n" ++ after → BeginsWithLine text (codes "leaf") after
    leaf_line text after e =
        record {
          split = e;
          whole = (
            λ e. omega (arith, e),
            (λ e. omega (arith, e), (λ e. omega (arith, e), (λ e. omega (arith, e), tt))),
          );
        }

    no_certificate_breach : (s : Stage) (p : Piece) (r text after part : List ℕ) (n rule line : ℕ) → May s p
        → text ≡ piece_text (naming_of m) p ++ r
        → text ≡ codes "leaf\n" ++ after → IsCertificatePart after part
        → HasCertCause (naming_of m) limit start part n (cert.Rule rule line) → ⊥
    no_certificate_breach s p r text after part n rule line h is e is_part cause =
        let same = head_is s p r text (codes "leaf") after h is (leaf_line text after e) in by p h same.0 same.1
      where
        by : (p : Piece) → May s p → head_of p ≡ codes "leaf" ∷ [] → tail_of p ++ r ≡ after → ⊥
        by (leaf_piece c) h w t =
            let lines = certificate_lines m limit model named in_words low c r h.1 h.2 in
            let same = part_once after part _ is_part
            (subst (λ x. IsCertificatePart x (spelling.lines_text (naming_of m) (lines_of c))) t lines) in
            let moved = shifted (naming_of m) limit part n rule line cause in
            cert_laws.breaks_none m limit c part model named in_words low (record { shape = h.1; spelled = same })
            h.2 rule moved.0 moved.2
        by (branch_piece j k) h w t = letters_apart 98 108 _ _ refl refl (λ e. omega (arith, e)) w
        by open_piece h w t = letters_apart 111 108 _ _ refl refl (λ e. omega (arith, e)) w

    pub no_breach_here : (s : Stage) (p : Piece) (r text : List ℕ) (n rule line : ℕ) → MayStand limit m names status s p
        → text ≡ piece_text (naming_of m) p ++ r
        → IsBreach limit m names status s text n rule line → ⊥
    no_breach_here s p r text n rule line h is (in_node o some cause e d) = no_cause s p r text o h is cause
    no_breach_here s p r text n rule line h is (in_certificate after part some e is_part cause) =
        no_certificate_breach s p r text after part (suc n) rule line h is e is_part cause
    no_breach_here s p r text n rule line h is (in_rest none some e d) =
        omega (arith, none, pending_some limit m names status s p h)

    -- ---- a text breaks one rule at a stage
    one_offence : (branches : ℕ) (text : List ℕ) (a b : Offence) → IsNodeCause limit m names status branches text a
        → IsNodeCause limit m names status branches text b → a ≡ b
    one_offence branches text NoLine NoLine h k = refl
    one_offence branches text NoName NoName h k = refl
    one_offence branches text NoNumber NoNumber h k = refl
    one_offence branches text NoLine NoName h (line, after, b, (name, word, few, e, none)) =
        absurd (h line after b (of_branch name word few e))
    one_offence branches text NoLine NoNumber h (line, after, b, (name, word, few, e, there, none)) =
        absurd (h line after b (of_branch name word few e))
    one_offence branches text NoName NoLine (line, after, b, (name, word, few, e, none)) k =
        absurd (k line after b (of_branch name word few e))
    one_offence branches text NoNumber NoLine (line, after, b, (name, word, few, e, there, none)) k =
        absurd (k line after b (of_branch name word few e))
    one_offence branches text NoName NoNumber (line, after, b, (name, word, few, e, none))
        (front, then, c, (other, number, some, d, there, bad)) =
        let w : codes "branch" ∷ (name ∷ (word ∷ [])) ≡ codes "branch" ∷ (other ∷ (number ∷ [])) =
        sym e ∙ ap words_in (one_line text line after front then b c).0 ∙ d in
        let n : other ≡ name = cc in
        absurd (none (subst (IsNamedOne limit m names) n there))
    one_offence branches text NoNumber NoName (line, after, b, (name, word, few, e, there, bad))
        (front, then, c, (other, number, some, d, none)) =
        let w : codes "branch" ∷ (name ∷ (word ∷ [])) ≡ codes "branch" ∷ (other ∷ (number ∷ [])) =
        sym e ∙ ap words_in (one_line text line after front then b c).0 ∙ d in
        let n : name ≡ other = cc in
        absurd (none (subst (IsNamedOne limit m names) n there))

    no_both : (branches : ℕ) (text after : List ℕ) (o : Offence) → text ≡ codes "leaf\n" ++ after
        → IsNodeCause limit m names status branches text o → ⊥
    no_both branches text after NoLine e cause = cause (codes "leaf") after (leaf_line text after e) (of_leaf refl)
    no_both branches text after NoName e (line, then, b, (name, word, few, d, none)) =
        letters_apart 108 98 (codes "leaf" ∷ []) (codes "branch" ∷ (name ∷ (word ∷ []))) refl
        refl (λ e. omega (arith, e))
        (ap words_in (one_line text (codes "leaf") after line then (leaf_line text after e) b).0 ∙ d)
    no_both branches text after NoNumber e (line, then, b, (name, word, few, d, there, none)) =
        letters_apart 108 98 (codes "leaf" ∷ []) (codes "branch" ∷ (name ∷ (word ∷ []))) refl
        refl (λ e. omega (arith, e))
        (ap words_in (one_line text (codes "leaf") after line then (leaf_line text after e) b).0 ∙ d)

    pub one_breach_here : (s : Stage) (text : List ℕ) (n rule line other number : ℕ)
        → IsBreach limit m names status s text n rule line
        → IsBreach limit m names status s text n other number → (rule ≡ other) × (line ≡ number)
    one_breach_here s text n rule line other number (in_node a some h e d) (in_node b more k f g) =
        (e ∙ ap rule_of (one_offence s.branches text a b h k) ∙ sym f, d ∙ sym g)
    one_breach_here s text n rule line other number (in_node a some h e d) (in_certificate after part more is p k) =
        absurd (no_both s.branches text after a is h)
    one_breach_here s text n rule line other number (in_node a some h e d) (in_rest none more f g) =
        absurd (omega (arith, some, none))
    one_breach_here s text n rule line other number (in_certificate after part some is p h) (in_node b more k f g) =
        absurd (no_both s.branches text after b is k)
    one_breach_here s text n rule line other number (in_certificate after part some is p h)
        (in_certificate then lines more it q k) =
        let same = one_line text (codes "leaf") after (codes "leaf") then (leaf_line text after is)
        (leaf_line text then it) in
        let parts = part_once after part lines p (subst (λ t. IsCertificatePart t lines) (sym same.1) q) in
        let a = shifted (naming_of m) limit part (suc n) rule line h in
        let b = shifted (naming_of m) limit part (suc n) other number
        (subst (λ t. HasCertCause (naming_of m) limit start t (suc n) (cert.Rule other number)) (sym parts) k) in
        let c = cert_breach.one_cause m limit part model named in_words low rule a.0 other b.0 a.2 b.2 in
        (c.0, omega (arith, a.1, b.1, c.1))
    one_breach_here s text n rule line other number (in_certificate after part some is p h) (in_rest none more f g) =
        absurd (omega (arith, some, none))
    one_breach_here s text n rule line other number (in_rest none some e d) (in_node b more k f g) =
        absurd (omega (arith, none, more))
    one_breach_here s text n rule line other number (in_rest none some e d) (in_certificate after part more is p k) =
        absurd (omega (arith, none, more))
    one_breach_here s text n rule line other number (in_rest none some e d) (in_rest also more f g) =
        (e ∙ sym f, d ∙ sym g)
