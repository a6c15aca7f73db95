-- Lines behind lines: what leads on, and how an offence in a part is one of the whole.
use Rattle.std.proofs.Common.{◌≡◌, ◌≢◌, ℕ, zero, suc, ◌+◌, ◌<◌, ◌≤◌, List, [], ◌∷◌, ◌++◌, map, length, get_or, set, arith, refl, ap, sym, ◌∙◌, subst, Bool, true, false, inl, inr, add-one, append_assoc, append-nil, length-append, add-zero, zero-add, length-set, get_or-set_other}
use Rattle.std.proofs.lemmas.Bool.Decides.{nat_tests}
use Rattle.std.specs.Prelude.{if◌then◌else◌, ◌==◌}
use Rattle.rob_algebra.specs.Fraction.{Fraction}
use Rattle.rob_algebra.specs.FractionOrder.{eq_ℚ, eq_ℚ-decides}
use Rattle.rob_algebra.specs.Width.{Fits}
use Rattle.rob_meaning.specs.Certificates.{Status}
use Rattle.rob_meaning.specs.Names.{Name}
use Rattle.rob_meaning.specs.Places.{0ℚ}
use Rattle.rob_cert.specs.declared.error.Offence.{Offence}
use Rattle.rob_cert.specs.declared.kind.Vector.{Vector}
use Rattle.rob_cert.specs.Lines.{Line, entry_line, entry_lines}
use Rattle.rob_cert.specs.Kinds.{entries}
use Rattle.rob_cert.specs.Reading.{BeginsWithLine, with_first, words_in, Stage, behind, advanced, Follows, FitsLine, IsNotZero, IsCause, Leads, BreaksFrom}
use Rattle.rob_cert.specs.ReaderLines.{IsSection, StandsAt}
use Rattle.rob_cert.specs.Entries.{IsZeroVector, IsEntry, LeadOn}
use Rattle.rob_cert.specs.Spelling.{Naming, entry_names, words_of, spelled, spaced, line_text, lines_text}
use Rattle.rob_cert.proofs.Words.KindLemmas.{entries_again, from_entries}
use Rattle.rob_cert.proofs.Words.WordLemmas.{words_in-some}
use Rattle.rob_cert.proofs.Writing.WriterLemmas.{lines_text-append, entry_lines-cons}

-- ---- the text of a line's words is the line
spaced-with_first : (b : ℕ) (ws : List Name) → 1 ≤ length ws → spaced (with_first b ws) ≡ b ∷ spaced ws
spaced-with_first b [] h = absurd (omega arith)
spaced-with_first b (w ∷ ws) h = refl

spaced_space : (ws : List Name) → 1 ≤ length ws → spaced ([] ∷ ws) ≡ 32 ∷ spaced ws
spaced_space [] h = absurd (omega arith)
spaced_space (w ∷ ws) h = refl

spaced_by : (b : ℕ) (line : List ℕ) (t : Bool) → (b == 32) ≡ t → 1 ≤ length (words_in line)
    → spaced (words_in line) ≡ line ++ 10 ∷ []
    → spaced (if t then ([] ∷ words_in line) else with_first b (words_in line)) ≡ b ∷ (line ++ 10 ∷ [])
spaced_by b line true e h is =
    spaced_space (words_in line) h ∙ ap (λ l. 32 ∷ l) is
    ∙ ap (λ c. c ∷ (line ++ 10 ∷ [])) (let p : 32 ≡ b = grind (arith, nat_tests) in p)
spaced_by b line false e h is = spaced-with_first b (words_in line) h ∙ ap (λ l. b ∷ l) is

pub spaced-words_in : (line : List ℕ) → spaced (words_in line) ≡ line ++ 10 ∷ []
spaced-words_in [] = refl
spaced-words_in (b ∷ line) = spaced_by b line (b == 32) refl (words_in-some line) (spaced-words_in line)

-- a line whose words are those of a line of a certificate is its text
pub text_of_words : (names : Naming) (text front back : List ℕ) (line : Line Fraction) → BeginsWithLine text front back
    → words_in front ≡ words_of names (spelled line) → text ≡ line_text names line ++ back
text_of_words names text front back line h e =
    h.split ∙ sym (append_assoc front (10 ∷ []) back) ∙ ap (λ t. t ++ back) (sym (spaced-words_in front) ∙ ap spaced e)

-- what stands behind a line is shorter
pub shorter : (text front back : List ℕ) → BeginsWithLine text front back → length back + 1 ≤ length text
shorter text front back h = omega (arith, ap length h.split, length-append front (10 ∷ back))

-- ---- leading on
module _ (names : Naming) (limit : ℕ) where
  pub Leads-append : (a : Stage) (xs ys : List (Line Fraction)) (b c : Stage) → Leads names limit a xs b
      → Leads names limit b ys c → Leads names limit a (xs ++ ys) c
  Leads-append a [] ys b c h k = subst (λ s. Leads names limit s ys c) (sym h) k
  Leads-append a (x ∷ xs) ys b c h k = (h.0, h.1, Leads-append (advanced a x) xs ys b c h.2 k)

  pub Leads-push : (a : Stage) (xs : List (Line Fraction)) (b : Stage) (x : Line Fraction) → Leads names limit a xs b
      → Follows names limit IsNotZero b x → FitsLine names limit x → Leads names limit a (xs ++ x ∷ []) (advanced b x)
  Leads-push a xs b x h f k = Leads-append a xs (x ∷ []) b (advanced b x) h (f, k, refl)

  -- an offence behind good lines
  pub further : (a b : Stage) (xs : List (Line Fraction)) (text rest : List ℕ) (number n line : ℕ) (o : Offence)
      → Leads names limit a xs b → IsSection names text number xs rest n
      → BreaksFrom names limit b rest n o line → BreaksFrom names limit a text number o line
  further a b xs text rest number n line o h section k = record {
    before = xs ++ k.before;
    stage = k.stage;
    rest = k.rest;
    good = Leads-append a xs k.before b k.stage h k.good;
    split = section.split ∙ ap (λ t. lines_text names xs ++ t) k.split
        ∙ sym (append_assoc (lines_text names xs) (lines_text names k.before) k.rest)
        ∙ ap (λ t. t ++ k.rest) (sym (lines_text-append names xs k.before));
    number_is = omega (arith, k.number_is, section.counted, length-append xs k.before);
    cause = k.cause;
    more = k.more;
  }

  -- a part behind a part
  pub section_further : (xs ys : List (Line Fraction)) (text rest last : List ℕ) (number n line : ℕ)
      → IsSection names text number xs rest n → IsSection names rest n ys last line
      → IsSection names text number (xs ++ ys) last line
  section_further xs ys text rest last number n line h k = record {
    split = h.split ∙ ap (λ t. lines_text names xs ++ t) k.split
        ∙ sym (append_assoc (lines_text names xs) (lines_text names ys) last)
        ∙ ap (λ t. t ++ last) (sym (lines_text-append names xs ys));
    counted = omega (arith, h.counted, k.counted, length-append xs ys);
  }

  -- one line
  pub section_line : (text front back : List ℕ) (number : ℕ) (line : Line Fraction) → BeginsWithLine text front back
      → words_in front ≡ words_of names (spelled line) → IsSection names text number (line ∷ []) back (number + 1)
  section_line text front back number line h e = record {
    split = text_of_words names text front back line h e
        ∙ ap (λ t. t ++ back) (sym (append-nil (line_text names line)));
    counted = refl;
  }

  -- an offence of the next line
  pub offence_here : (a : Stage) (text front back : List ℕ) (number : ℕ) (o : Offence) → BeginsWithLine text front back
      → IsCause names limit a text o → BreaksFrom names limit a text number o number
  offence_here a text front back number o h cause = record {
    before = [];
    stage = a;
    rest = text;
    good = refl;
    split = refl;
    number_is = omega arith;
    cause = cause;
    more = λ s form place e none. none_begins front back (sym h.split ∙ none);
  }
    where
      none_begins : (front back : List ℕ) → front ++ 10 ∷ back ≡ [] → ⊥
      none_begins [] back e = cc
      none_begins (b ∷ front) back e = cc

-- ---- entries
-- what is 0 has no line, and what is not has one
module _ (v : Vector) where
  pub line_of_zero : (p : ℕ) (q : Fraction) → q ≡ 0ℚ → entry_lines v p (q ∷ []) ≡ []
  line_of_zero p q e = rw ((eq_ℚ-decides q 0ℚ).1 e) refl

  pub line_of_other : (p : ℕ) (q : Fraction) → q ≢ 0ℚ → entry_lines v p (q ∷ []) ≡ entry_line v p q ∷ []
  line_of_other p q ne = by (eq_ℚ q 0ℚ) refl
    where
      by : (t : Bool) → eq_ℚ q 0ℚ ≡ t → entry_lines v p (q ∷ []) ≡ entry_line v p q ∷ []
      by true e = absurd (ne ((eq_ℚ-decides q 0ℚ).0 e))
      by false e = rw e refl

  pub lines_of_zeros : (p : ℕ) (qs : List Fraction) → ((k : ℕ) → get_or qs k 0ℚ ≡ 0ℚ) → entry_lines v p qs ≡ []
  lines_of_zeros p [] h = refl
  lines_of_zeros p (q ∷ qs) h =
      entry_lines-cons v p q qs ∙ ap (λ ls. ls ++ entry_lines v (suc p) qs) (line_of_zero p q (h 0))
      ∙ lines_of_zeros (suc p) qs (λ k. h (suc k))

  -- where the vector is 0 from a place on, a number put there is one more entry
  pub lines_of_set : (p : ℕ) (qs : List Fraction) (k : ℕ) (q : Fraction) → k < length qs
      → ((j : ℕ) → k ≤ j → get_or qs j 0ℚ ≡ 0ℚ) → q ≢ 0ℚ
      → entry_lines v p (set qs k q) ≡ entry_lines v p qs ++ entry_line v (p + k) q ∷ []
  lines_of_set p [] k q h later ne = absurd (omega arith)
  lines_of_set p (x ∷ xs) zero q h later ne =
      let none = lines_of_zeros (suc p) xs (λ j. later (suc j) (omega arith)) in
      entry_lines-cons v p q xs ∙ ap (λ ls. entry_lines v p (q ∷ []) ++ ls) none
      ∙ append-nil (entry_lines v p (q ∷ [])) ∙ line_of_other p q ne
      ∙ ap (λ n. entry_line v n q ∷ []) (sym (add-zero p))
      ∙ ap (λ ls. ls ++ entry_line v (p + 0) q ∷ [])
      (sym (entry_lines-cons v p x xs
      ∙ ap (λ ls. ls ++ entry_lines v (suc p) xs) (line_of_zero p x (later 0 (omega arith))) ∙ none))
  lines_of_set p (x ∷ xs) (suc k) q h later ne =
      entry_lines-cons v p x (set xs k q)
      ∙ ap (λ ls. entry_lines v p (x ∷ []) ++ ls)
      (lines_of_set (suc p) xs k q (omega arith) (λ j l. later (suc j) (omega arith)) ne
      ∙ ap (λ n. entry_lines v (suc p) xs ++ entry_line v n q ∷ []) (let e : suc p + k ≡ p + suc k = omega arith in e))
      ∙ sym (append_assoc (entry_lines v p (x ∷ [])) (entry_lines v (suc p) xs) (entry_line v (p + suc k) q ∷ []))
      ∙ ap (λ ls. ls ++ entry_line v (p + suc k) q ∷ []) (sym (entry_lines-cons v p x xs))

-- what a reader of entries has of a text so far: a vector of `count` numbers, 0 from `least` on, whose lines stand
-- before the rest and lead on
pub record EntriesSoFar (names : Naming) (limit : ℕ) (v : Vector) (text : List ℕ) (number count : ℕ)
    (qs : List Fraction) (least : ℕ) (rest : List ℕ) (line : ℕ) : Type 0 where
  pub size : length qs ≡ count
  pub bound : least ≤ count
  pub later : (k : ℕ) → least ≤ k → get_or qs k 0ℚ ≡ 0ℚ
  pub section : IsSection names text number (entry_lines v 0 qs) rest line
  pub leads : LeadOn names limit (entries v) least (entry_lines v 0 qs)

get_or-past_set : (qs : List Fraction) (k j : ℕ) (q : Fraction) → suc k ≤ j → get_or (set qs k q) j 0ℚ ≡ get_or qs j 0ℚ
get_or-past_set qs k j q h = get_or-set_other qs k j q 0ℚ (λ e. omega arith)

module _ (names : Naming) (limit : ℕ) (v : Vector) where
  -- the place of an entry's line
  pub entry_follows : (s : Status) (form least k : ℕ) (q : Fraction) (stage : Stage)
      → StandsAt s (entries v) form least stage → least ≤ k → k < length (entry_names names v) → q ≢ 0ℚ
      → Follows names limit IsNotZero stage (entry_line v k q)
  entry_follows s form least k q stage h l m ne =
      subst (λ st. Follows names limit IsNotZero st (entry_line v k q)) (sym h.is)
      (record { kind = h.may; placed = (subst (λ n. n ≤ k) (sym h.anew) l, m, ne) })

  -- behind it
  pub entry_advanced : (s : Status) (form least k : ℕ) (q : Fraction) (stage : Stage)
      → StandsAt s (entries v) form least stage → advanced stage (entry_line v k q) ≡ behind s (entries v) form (suc k)
  entry_advanced s form least k q stage h = ap (λ st. advanced st (entry_line v k q)) h.is

  pub entries_start : (text : List ℕ) (number count : ℕ) (qs : List Fraction) → length qs ≡ count
      → ((k : ℕ) → get_or qs k 0ℚ ≡ 0ℚ) → EntriesSoFar names limit v text number count qs 0 text number
  entries_start text number count qs size zeros =
      let none = lines_of_zeros v 0 qs zeros in
      record {
        size = size;
        bound = omega arith;
        later = λ k h. zeros k;
        section = record {
          split = ap (λ ls. lines_text names ls ++ text) (sym none);
          counted = omega (arith, ap length none);
        };
        leads = λ s form stage h.
            (stage, subst (λ ls. Leads names limit stage ls stage) (sym none) refl, h, inl (none, refl));
      }

  pub entries_more : (text : List ℕ) (number count : ℕ) (qs : List Fraction) (least : ℕ) (rest : List ℕ) (line : ℕ)
      (front back : List ℕ) (k : ℕ) (q : Fraction)
      → EntriesSoFar names limit v text number count qs least rest line → count ≡ length (entry_names names v)
      → BeginsWithLine rest front back → IsEntry names limit v least (words_in front) k q → Fits limit q
      → EntriesSoFar names limit v text number count (set qs k q) (k + 1) back (line + 1)
  entries_more text number count qs least rest line front back k q so all begins e fits =
      let new = lines_of_set v 0 qs k q (omega (arith, so.size, e.named))
      (λ j h. so.later j (omega (arith, e.ordered))) e.not_zero
      ∙ ap (λ n. entry_lines v 0 qs ++ entry_line v n q ∷ []) (zero-add k) in
      record {
        size = length-set qs k q ∙ so.size;
        bound = omega (arith, e.named);
        later = λ j h. get_or-past_set qs k j q (omega arith) ∙ so.later j (omega (arith, e.ordered));
        section = subst (λ ls. IsSection names text number ls back (line + 1)) (sym new)
            (section_further names limit (entry_lines v 0 qs) (entry_line v k q ∷ []) text rest back number line
            (line + 1) so.section (section_line names limit rest front back line (entry_line v k q) begins e.is));
        leads = subst (λ ls. LeadOn names limit (entries v) (k + 1) ls) (sym new) (λ s form stage h.
            let old = so.leads s form stage h in
            let at = entry_advanced s form least k q old.0 old.2 in (
              advanced old.0 (entry_line v k q),
              Leads-push names limit stage (entry_lines v 0 qs) old.0 (entry_line v k q) old.1
                  (entry_follows s form least k q old.0 old.2 e.ordered e.named e.not_zero) fits,
              record {
                last = entries v;
                last_place = suc k;
                is = at;
                may = entries_again s old.2.last v old.2.may;
                anew = from_entries v (suc k) ∙ sym (add-one k);
              },
              inr (form, suc k, at),
            ));
      }

-- ---- vectors of zeros
pub zero_start : IsZeroVector 0 []
zero_start = record { size = refl; zero_at = λ k. refl }

get_or-push : (qs : List Fraction) (q : Fraction) (k : ℕ) → q ≡ 0ℚ → ((j : ℕ) → get_or qs j 0ℚ ≡ 0ℚ)
    → get_or (qs ++ q ∷ []) k 0ℚ ≡ 0ℚ
get_or-push [] q zero e h = e
get_or-push [] q (suc k) e h = refl
get_or-push (x ∷ qs) q zero e h = h 0
get_or-push (x ∷ qs) q (suc k) e h = get_or-push qs q k e (λ j. h (suc j))

module _ {N : Type 0} (value : N → Fraction) where
  map-push : (xs : List N) (x : N) → map value (xs ++ x ∷ []) ≡ map value xs ++ value x ∷ []
  map-push [] x = refl
  map-push (y ∷ xs) x = ap (λ ys. value y ∷ ys) (map-push xs x)

  pub map-set : (xs : List N) (k : ℕ) (x : N) → map value (set xs k x) ≡ set (map value xs) k (value x)
  map-set [] k x = refl
  map-set (y ∷ xs) zero x = refl
  map-set (y ∷ xs) (suc k) x = ap (λ ys. value y ∷ ys) (map-set xs k x)

  pub zero_more : (n : ℕ) (xs new : List N) (x : N) → new ≡ xs ++ x ∷ [] → value x ≡ 0ℚ → IsZeroVector n (map value xs)
      → IsZeroVector (n + 1) (map value new)
  zero_more n xs new x is e h = subst (IsZeroVector (n + 1)) (sym (ap (map value) is ∙ map-push xs x)) (record {
    size = omega (arith, length-append (map value xs) (value x ∷ []), h.size);
    zero_at = λ k. get_or-push (map value xs) (value x) k e h.zero_at;
  })
