-- Lines are told apart by their words, so a text is that of one list of lines.
use Rattle.std.proofs.Common.{◌≡◌, ◌≢◌, ℕ, zero, suc, ◌-◌, ◌^◌, ◌<◌, ◌≤◌, List, [], ◌∷◌, ◌++◌, length, get_or, arith, refl, ap, ap₂, sym, ◌∙◌, subst, inl, inr, append_assoc, append-nil}
use Rattle.std.proofs.lemmas.Fmt.{decimal_injective, signed_decimal_injective}
use Rattle.std.specs.Fmt.{decimal, signed_decimal}
use Rattle.std.specs.Prelude.{◌⊎◌, codes, nat_eq, if◌then◌else◌, ℤ, nat_abs}
use Rattle.rob_algebra.specs.Fraction.{Fraction, ext}
use Rattle.rob_algebra.specs.Width.{Fits}
use Rattle.rob_meaning.proofs.Lists.EachLemmas.{each_append, each_both}
use Rattle.rob_meaning.specs.Certificates.{Status, optimal, infeasible, unbounded}
use Rattle.rob_meaning.specs.Named.{AreDistinct}
use Rattle.rob_meaning.specs.Names.{Name}
use Rattle.rob_meaning.specs.Places.{Each}
use Rattle.rob_cert.specs.Apart.{IsWord}
use Rattle.rob_cert.specs.declared.kind.Multipliers.{Multipliers}
use Rattle.rob_cert.specs.declared.kind.Multipliers.TheVariants.{Covers, Holds}
use Rattle.rob_cert.specs.declared.kind.Vector.{Vector}
use Rattle.rob_cert.specs.declared.kind.Vector.TheVariants.{Inside, Plan, Move, At}
use Rattle.rob_cert.specs.Lines.{Line, status_line, value_line, scale_line, entry_line, cover_line, item_line, end_line}
use Rattle.rob_cert.specs.Kinds.{Kind, claims, values, scales, items, ends, entries, multipliers, kind_of, word_of}
use Rattle.rob_cert.specs.Reading.{Lacks, BeginsWithLine, words_in, Stage, start, behind, advanced, Follows, FitsLine, IsNotZero, Leads}
use Rattle.rob_cert.specs.Spelling.{Naming, entry_names, name_at, number_text, status_word, words_of, spelled, spaced, behind_spaces, line_text, lines_text}
use Rattle.rob_cert.proofs.Readers.CoverLemmas.{one_number}
use Rattle.rob_cert.proofs.OneText.Decisions.{nth}
use Rattle.rob_cert.proofs.Readers.EntryLemmas.{one_line}
use Rattle.rob_cert.proofs.Words.KindLemmas.{first_of, kind_of-spelled, kind_by_spelled, entry_by_kind, cover_by_kind, item_by_kind}
use Rattle.rob_cert.proofs.Words.NameWords.{letters}
use Rattle.rob_cert.proofs.Words.NumberLemmas.{tail_text, tail_cases, number_text-front, signed_lacks, decimal_lacks, with_slash, without_slash, limit_small, mag_small}
use Rattle.rob_cert.proofs.Words.WordLemmas.{words_in-lacks, words_in-split}

-- names that are words and tell what they name
pub record TellsApart (names : Naming) : Type 0 where
  pub distinct_entries : (v : Vector) → AreDistinct (entry_names names v)
  pub distinct_forms : AreDistinct names.forms
  pub distinct_set_rows : AreDistinct names.set_rows
  pub words_of_entries : (v : Vector) → Each IsWord (entry_names names v)
  pub words_of_forms : Each IsWord names.forms
  pub words_of_set_rows : Each IsWord names.set_rows

-- ---- numbers
module _ (limit : ℕ) (low : limit ≤ 2 ^ 62 - 1) where
  abbrev lacking : (word : List ℕ) → Lacks 32 word → Lacks 10 word → IsWord word
  lacking word h k = each_both (λ b. b ≢ 32) (λ b. b ≢ 10) (λ b. (b ≢ 32) × (b ≢ 10)) (λ b p q. (p, q)) word h k

  signed_word : (z : ℤ) → nat_abs z < 2 ^ 62 → IsWord (signed_decimal z)
  signed_word z h =
      lacking (signed_decimal z) (signed_lacks 32 z h (omega arith) (λ e. omega arith))
      (signed_lacks 10 z h (omega arith) (λ e. omega arith))

  tail_word : (d : ℕ) → d < 2 ^ 62 → IsWord (tail_text d)
  tail_word d h = elim (tail_cases d) [
    | inl w ↦ subst IsWord (sym w.1) tt
    | inr w ↦ subst IsWord (sym w) (
      (λ e. omega arith, λ e. omega arith),
      lacking (decimal d) (decimal_lacks 32 d (omega arith) (omega arith))
          (decimal_lacks 10 d (omega arith) (omega arith)),
    )
  ]

  -- a number that fits is spelled by one word
  pub number_word : (q : Fraction) → Fits limit q → IsWord (number_text q)
  number_word q f =
      let s = limit_small limit q low f in
      subst IsWord (sym (number_text-front q))
      (each_append (λ b. (b ≢ 32) × (b ≢ 10)) (signed_decimal q.num) (tail_text q.den)
      (signed_word q.num s.0) (tail_word q.den s.1))

  -- and the word tells it
  pub number_same : (q r : Fraction) → Fits limit q → Fits limit r → number_text q ≡ number_text r → q ≡ r
  number_same q r f g e =
      let s = limit_small limit q low f in
      let t = limit_small limit r low g in
      elim (tail_cases q.den) [
        | inl w ↦ (
            let word : number_text q ≡ signed_decimal q.num =
            number_text-front q ∙ ap (λ l. signed_decimal q.num ++ l) w.1 ∙ append-nil (signed_decimal q.num) in
            let whole =
            without_slash r (number_text q) t.0 t.1 e
            (subst (Lacks 47) (sym word) (signed_lacks 47 q.num s.0 (omega arith) (λ e. omega arith))) in
            ext q r (signed_decimal_injective q.num r.num (omega (arith, mag_small q.num s.0))
            (omega (arith, mag_small r.num t.0)) (sym word ∙ whole.1)) (w.0 ∙ sym whole.0))
        | inr w ↦ (
            let word : number_text q ≡ signed_decimal q.num ++ 47 ∷ decimal q.den =
            number_text-front q ∙ ap (λ l. signed_decimal q.num ++ l) w in
            let both = with_slash r (number_text q) t.0 t.1 e (signed_decimal q.num) (decimal q.den) word
            (signed_lacks 47 q.num s.0 (omega arith) (λ e. omega arith)) in
            ext q r (signed_decimal_injective q.num r.num (omega (arith, mag_small q.num s.0))
            (omega (arith, mag_small r.num t.0)) both.0)
            (decimal_injective q.den r.den (omega (arith, s.1)) (omega (arith, t.1)) both.1))
      ]

-- ---- the line that words make
-- words, each behind a space
behind_line : List Name → List ℕ
behind_line [] = []
behind_line (w ∷ ws) = 32 ∷ (w ++ behind_line ws)

-- a line without its end
pub line_of : List Name → List ℕ
line_of [] = []
line_of (w ∷ ws) = w ++ behind_line ws

behind_spaces-line : (ws : List Name) → behind_spaces ws ≡ behind_line ws ++ 10 ∷ []
unfolding behind_line
behind_spaces-line [] = refl
behind_spaces-line (w ∷ ws) =
    ap (λ l. 32 ∷ l) (ap (λ l. w ++ l) (behind_spaces-line ws) ∙ sym (append_assoc w (behind_line ws) (10 ∷ [])))

pub spaced-line : (ws : List Name) → spaced ws ≡ line_of ws ++ 10 ∷ []
unfolding line_of
spaced-line [] = refl
spaced-line (w ∷ ws) = ap (λ l. w ++ l) (behind_spaces-line ws) ∙ sym (append_assoc w (behind_line ws) (10 ∷ []))

words_lack : (byte : ℕ) (w : Name) → ((b : ℕ) → (b ≢ 32) × (b ≢ 10) → b ≢ byte) → IsWord w → Lacks byte w
words_lack byte [] f h = tt
words_lack byte (b ∷ w) f h = (f b h.0, words_lack byte w f h.1)

no_space : (w : Name) → IsWord w → Lacks 32 w
no_space w h = words_lack 32 w (λ b p. p.0) h

no_end : (w : Name) → IsWord w → Lacks 10 w
no_end w h = words_lack 10 w (λ b p. p.1) h

behind_whole : (ws : List Name) → Each IsWord ws → Lacks 10 (behind_line ws)
unfolding behind_line
behind_whole [] h = tt
behind_whole (w ∷ ws) h =
    (λ e. omega arith, each_append (λ b. b ≢ 10) w (behind_line ws) (no_end w h.0) (behind_whole ws h.1))

pub line_whole : (ws : List Name) → Each IsWord ws → Lacks 10 (line_of ws)
unfolding line_of
line_whole [] h = tt
line_whole (w ∷ ws) h = each_append (λ b. b ≢ 10) w (behind_line ws) (no_end w h.0) (behind_whole ws h.1)

-- its words are those that it is made of
pub words_in-line : (w : Name) (ws : List Name) → Each IsWord (w ∷ ws) → words_in (line_of (w ∷ ws)) ≡ w ∷ ws
unfolding line_of behind_line
words_in-line w [] h = ap words_in (append-nil w) ∙ words_in-lacks w (no_space w h.0)
words_in-line w (v ∷ ws) h =
    words_in-split w (v ++ behind_line ws) (no_space w h.0) ∙ ap (λ l. w ∷ l) (words_in-line v ws h.1)

-- ---- a line's words are words
module _ (names : Naming) (apart : TellsApart names) (limit : ℕ) (low : limit ≤ 2 ^ 62 - 1) where
  named_word : (list : List Name) (k : ℕ) → Each IsWord list → IsWord (name_at list k)
  named_word [] k h = tt
  named_word (n ∷ list) zero h = h.0
  named_word (n ∷ list) (suc k) h = named_word list k h.1

  status_is_word : (s : Status) → IsWord (status_word s)
  status_is_word optimal = letters (codes "optimal") refl
  status_is_word infeasible = letters (codes "infeasible") refl
  status_is_word unbounded = letters (codes "unbounded") refl

  kind_is_word : (k : Kind) → IsWord (word_of k)
  kind_is_word claims = letters (codes "certificate") refl
  kind_is_word values = letters (codes "value") refl
  kind_is_word scales = letters (codes "scale") refl
  kind_is_word items = letters (codes "item") refl
  kind_is_word ends = letters (codes "end") refl
  kind_is_word (entries Inside) = letters (codes "inside") refl
  kind_is_word (entries Plan) = letters (codes "plan") refl
  kind_is_word (entries Move) = letters (codes "move") refl
  kind_is_word (entries At) = letters (codes "at") refl
  kind_is_word (multipliers Covers) = letters (codes "cover") refl
  kind_is_word (multipliers Holds) = letters (codes "hold") refl

  pub line_words : (line : Line Fraction) → FitsLine names limit line → Each IsWord (words_of names (spelled line))
  line_words (status_line s) f = (kind_is_word claims, (status_is_word s, tt))
  line_words (value_line q) f = (kind_is_word values, (number_word limit low q f, tt))
  line_words (scale_line q) f = (kind_is_word scales, (number_word limit low q f, tt))
  line_words (entry_line v k q) f = (
    kind_is_word (entries v),
    (named_word (entry_names names v) k (apart.words_of_entries v), (number_word limit low q f, tt)),
  )
  line_words (cover_line which i r q) f = (
    kind_is_word (multipliers which),
    (
      named_word names.forms i apart.words_of_forms,
      (named_word names.set_rows r apart.words_of_set_rows, (number_word limit low q f, tt)),
    ),
  )
  line_words (item_line i w b) f = (
    kind_is_word items,
    (named_word names.forms i apart.words_of_forms, (number_word limit low w f.0, (number_word limit low b f.1, tt))),
  )
  line_words end_line f = (kind_is_word ends, tt)

  -- the text of a line is a line of a text
  pub begins_with : (line : Line Fraction) (back : List ℕ) → FitsLine names limit line
      → BeginsWithLine (line_text names line ++ back) (line_of (words_of names (spelled line))) back
  begins_with line back f = record {
    split = ap (λ t. t ++ back) (spaced-line (words_of names (spelled line)))
        ∙ append_assoc (line_of (words_of names (spelled line))) (10 ∷ []) back;
    whole = line_whole (words_of names (spelled line)) (line_words line f);
  }

  words_by : (ws : List Name) (w : Name) (more : List Name) → ws ≡ w ∷ more → Each IsWord ws
      → words_in (line_of ws) ≡ ws
  words_by ws w more e h = subst (λ vs. Each IsWord vs → words_in (line_of vs) ≡ vs) (sym e) (words_in-line w more) h

  pub line_has_words : (line : Line Fraction) → FitsLine names limit line
      → words_in (line_of (words_of names (spelled line))) ≡ words_of names (spelled line)
  line_has_words line f =
      let first = first_of names (spelled line) in
      words_by (words_of names (spelled line)) (word_of (kind_of (spelled line))) first.0 first.1 (line_words line f)

  -- ---- lines with the same words
  status_by_kind : (line : Line Fraction) → kind_of line ≡ claims → (s : Status) × (line ≡ status_line s)
  status_by_kind (status_line s) e = (s, refl)
  status_by_kind (value_line q) e = absurd (cc)
  status_by_kind (scale_line q) e = absurd (cc)
  status_by_kind (entry_line v k q) e = absurd (cc)
  status_by_kind (cover_line which i r q) e = absurd (cc)
  status_by_kind (item_line i w b) e = absurd (cc)
  status_by_kind end_line e = absurd (cc)

  value_by_kind : (line : Line Fraction) → kind_of line ≡ values → (q : Fraction) × (line ≡ value_line q)
  value_by_kind (value_line q) e = (q, refl)
  value_by_kind (status_line s) e = absurd (cc)
  value_by_kind (scale_line q) e = absurd (cc)
  value_by_kind (entry_line v k q) e = absurd (cc)
  value_by_kind (cover_line which i r q) e = absurd (cc)
  value_by_kind (item_line i w b) e = absurd (cc)
  value_by_kind end_line e = absurd (cc)

  scale_by_kind : (line : Line Fraction) → kind_of line ≡ scales → (q : Fraction) × (line ≡ scale_line q)
  scale_by_kind (scale_line q) e = (q, refl)
  scale_by_kind (value_line q) e = absurd (cc)
  scale_by_kind (status_line s) e = absurd (cc)
  scale_by_kind (entry_line v k q) e = absurd (cc)
  scale_by_kind (cover_line which i r q) e = absurd (cc)
  scale_by_kind (item_line i w b) e = absurd (cc)
  scale_by_kind end_line e = absurd (cc)

  end_by_kind : (line : Line Fraction) → kind_of line ≡ ends → line ≡ end_line
  end_by_kind end_line e = refl
  end_by_kind (value_line q) e = absurd (cc)
  end_by_kind (status_line s) e = absurd (cc)
  end_by_kind (scale_line q) e = absurd (cc)
  end_by_kind (entry_line v k q) e = absurd (cc)
  end_by_kind (cover_line which i r q) e = absurd (cc)
  end_by_kind (item_line i w b) e = absurd (cc)

  -- the status of a first letter
  status_by : ℕ → Status
  status_by letter = if nat_eq letter 111 then optimal else if nat_eq letter 105 then infeasible else unbounded

  status_by-word : (s : Status) → status_by (get_or (status_word s) 0 0) ≡ s
  unfolding status_by
  status_by-word optimal = refl
  status_by-word infeasible = refl
  status_by-word unbounded = refl

  status_same : (s t : Status) → status_word s ≡ status_word t → s ≡ t
  status_same s t e = sym (status_by-word s) ∙ ap (λ (w : Name). status_by (get_or w 0 0)) e ∙ status_by-word t

  placed_entry : (stage : Stage) (v : Vector) (k : ℕ) (q : Fraction)
      → Follows names limit IsNotZero stage (entry_line v k q) → k < length (entry_names names v)
  placed_entry start v k q f = absurd f.kind
  placed_entry (behind s last form place) v k q f = f.placed.1

  placed_cover : (stage : Stage) (which : Multipliers) (i r : ℕ) (q : Fraction)
      → Follows names limit IsNotZero stage (cover_line which i r q) → (i < length names.forms)
      × (r < length names.set_rows)
  placed_cover start which i r q f = absurd f.kind
  placed_cover (behind s last form place) which i r q f = (f.placed.1, f.placed.2)

  placed_item : (stage : Stage) (i : ℕ) (w b : Fraction) → Follows names limit IsNotZero stage (item_line i w b)
      → i < length names.forms
  placed_item start i w b f = absurd f.kind
  placed_item (behind s last form place) i w b f = f.placed.1

  kinds_same : (x y : Line Fraction) → words_of names (spelled x) ≡ words_of names (spelled y) → kind_of y ≡ kind_of x
  kinds_same x y e =
      let first = first_of names (spelled x) in
      kind_by_spelled names y (kind_of x) (words_of names (spelled x)) first.0 (sym e)
      (first.1 ∙ ap (λ k. word_of k ∷ first.0) (kind_of-spelled x))

  -- two lines that may stand at a stage, with the same words
  pub line_same : (stage : Stage) (x y : Line Fraction) → Follows names limit IsNotZero stage x
      → Follows names limit IsNotZero stage y → FitsLine names limit x → FitsLine names limit y
      → words_of names (spelled x) ≡ words_of names (spelled y) → x ≡ y
  line_same stage (status_line s) y fx fy gx gy e =
      let (t, is) = status_by_kind y (kinds_same (status_line s) y e) in
      let w = e ∙ ap (λ (l : Line Fraction). words_of names (spelled l)) is in
      ap (λ u. status_line u) (status_same s t (ap (nth 1) w)) ∙ sym is
  line_same stage (value_line q) y fx fy gx gy e =
      let (r, is) = value_by_kind y (kinds_same (value_line q) y e) in
      let w = e ∙ ap (λ (l : Line Fraction). words_of names (spelled l)) is in
      ap (λ a. value_line a) (number_same limit low q r gx (subst (FitsLine names limit) is gy) (ap (nth 1) w)) ∙ sym is
  line_same stage (scale_line q) y fx fy gx gy e =
      let (r, is) = scale_by_kind y (kinds_same (scale_line q) y e) in
      let w = e ∙ ap (λ (l : Line Fraction). words_of names (spelled l)) is in
      ap (λ a. scale_line a) (number_same limit low q r gx (subst (FitsLine names limit) is gy) (ap (nth 1) w)) ∙ sym is
  line_same stage (entry_line v k q) y fx fy gx gy e =
      let (j, r, is) = entry_by_kind v y (kinds_same (entry_line v k q) y e) in
      let w = e ∙ ap (λ (l : Line Fraction). words_of names (spelled l)) is in
      let place =
      one_number (entry_names names v) k j (apart.distinct_entries v) (placed_entry stage v k q fx)
      (placed_entry stage v j r (subst (Follows names limit IsNotZero stage) is fy)) (ap (nth 1) w) in
      ap₂ (λ n a. entry_line v n a) place
      (number_same limit low q r gx (subst (FitsLine names limit) is gy) (ap (nth 2) w)) ∙ sym is
  line_same stage (cover_line which i r q) y fx fy gx gy e =
      let (j, t, a, is) = cover_by_kind which y (kinds_same (cover_line which i r q) y e) in
      let w = e ∙ ap (λ (l : Line Fraction). words_of names (spelled l)) is in
      let px = placed_cover stage which i r q fx in
      let py = placed_cover stage which j t a (subst (Follows names limit IsNotZero stage) is fy) in
      let form = one_number names.forms i j apart.distinct_forms px.0 py.0 (ap (nth 1) w) in
      let row = one_number names.set_rows r t apart.distinct_set_rows px.1 py.1 (ap (nth 2) w) in
      ap₂ (λ n b. cover_line which n r b) form
      (number_same limit low q a gx (subst (FitsLine names limit) is gy) (ap (nth 3) w))
      ∙ ap (λ n. cover_line which j n a) row ∙ sym is
  line_same stage (item_line i x b) y fx fy gx gy e =
      let (j, u, d, is) = item_by_kind y (kinds_same (item_line i x b) y e) in
      let w = e ∙ ap (λ (l : Line Fraction). words_of names (spelled l)) is in
      let both = subst (FitsLine names limit) is gy in
      let form = one_number names.forms i j apart.distinct_forms (placed_item stage i x b fx)
      (placed_item stage j u d (subst (Follows names limit IsNotZero stage) is fy)) (ap (nth 1) w) in
      ap₂ (λ n a. item_line n a b) form (number_same limit low x u gx.0 both.0 (ap (nth 2) w))
      ∙ ap (λ a. item_line j u a) (number_same limit low b d gx.1 both.1 (ap (nth 3) w)) ∙ sym is
  line_same stage end_line y fx fy gx gy e = sym (end_by_kind y (kinds_same end_line y e))

  -- a text begins with one line that may stand there
  pub first_same : (stage : Stage) (x y : Line Fraction) (r t : List ℕ) → Follows names limit IsNotZero stage x
      → Follows names limit IsNotZero stage y → FitsLine names limit x → FitsLine names limit y
      → line_text names x ++ r ≡ line_text names y ++ t → (x ≡ y) × (r ≡ t)
  first_same stage x y r t fx fy gx gy e =
      let same = one_line (line_text names x ++ r) (line_of (words_of names (spelled x))) r
      (line_of (words_of names (spelled y))) t
      (begins_with x r gx)
      (subst (λ text. BeginsWithLine text (line_of (words_of names (spelled y))) t) (sym e) (begins_with y t gy)) in
      (line_same stage x y fx fy gx gy (sym (line_has_words x gx) ∙ ap words_in same.0 ∙ line_has_words y gy), same.1)

  -- ---- lists of lines
  -- of two lists of lines at the front of a text, one begins with the other
  abbrev pub GoesOn : (xs ys : List (Line Fraction)) (r t : List ℕ) → Type 0
  GoesOn xs ys r t = (more : List (Line Fraction)) × (ys ≡ xs ++ more) × (r ≡ lines_text names more ++ t)

  goes_on : (x : Line Fraction) (xs ys : List (Line Fraction)) (r t : List ℕ) → GoesOn xs ys r t
      → GoesOn (x ∷ xs) (x ∷ ys) r t
  goes_on x xs ys r t (more, is, rest) = (more, ap (λ l. x ∷ l) is, rest)

  pub lines_once : (stage : Stage) (xs ys : List (Line Fraction)) (a b : Stage) (r t : List ℕ)
      → Leads names limit stage xs a → Leads names limit stage ys b
      → lines_text names xs ++ r ≡ lines_text names ys ++ t
      → GoesOn xs ys r t ⊎ GoesOn ys xs t r
  lines_once stage [] ys a b r t h k e = inl (ys, refl, e)
  lines_once stage (x ∷ xs) [] a b r t h k e = inr (x ∷ xs, refl, sym e)
  lines_once stage (x ∷ xs) (y ∷ ys) a b r t h k e =
      let grouped =
      sym (append_assoc (line_text names x) (lines_text names xs) r) ∙ e
      ∙ append_assoc (line_text names y) (lines_text names ys) t in
      let same = first_same stage x y (lines_text names xs ++ r) (lines_text names ys ++ t) h.0 k.0 h.1 k.1 grouped in
      let rest = lines_once (advanced stage x) xs ys a b r t h.2
      (subst (λ l. Leads names limit (advanced stage l) ys b) (sym same.0) k.2) same.1 in
      elim rest [
        | inl g ↦ inl (subst (λ l. GoesOn (x ∷ xs) (l ∷ ys) r t) same.0 (goes_on x xs ys r t g))
        | inr g ↦ inr (subst (λ l. GoesOn (l ∷ ys) (x ∷ xs) t r) same.0 (goes_on x ys xs t r g))
      ]

  -- lines lead from a stage to one
  pub leads_same : (stage : Stage) (xs : List (Line Fraction)) (a b : Stage) → Leads names limit stage xs a
      → Leads names limit stage xs b → a ≡ b
  leads_same stage [] a b h k = sym h ∙ k
  leads_same stage (x ∷ xs) a b h k = leads_same (advanced stage x) xs a b h.2 k.2
