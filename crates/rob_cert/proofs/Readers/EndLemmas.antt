-- The items' part, and the end of a text.
use Rattle.std.proofs.Common.{◌≡◌, ◌≢◌, ℕ, ◌+◌, ◌<◌, ◌≤◌, List, [], ◌∷◌, ◌++◌, length, arith, refl, ap, sym, ◌∙◌, subst, true, false, inl, inr, append-nil}
use Rattle.std.proofs.lemmas.Bool.Decides.{nat_tests}
use Rattle.std.proofs.lemmas.List.{nil_from_length}
use Rattle.std.specs.Prelude.{◌⊎◌, codes}
use Rattle.rob_algebra.specs.Fraction.{Fraction}
use Rattle.rob_meaning.specs.Certificates.{Status, Item}
use Rattle.rob_cert.specs.declared.error.Offence.TheVariants.{NoLine}
use Rattle.rob_cert.specs.declared.kind.Multipliers.TheVariants.{Covers, Holds}
use Rattle.rob_cert.specs.declared.kind.Vector.TheVariants.{Inside, Plan, Move, At}
use Rattle.rob_cert.specs.Lines.{Line, item_lines, end_line}
use Rattle.rob_cert.specs.ReadSoFar.{IsReady, SoFar, Extends}
use Rattle.rob_cert.specs.Kinds.{Kind, claims, values, scales, items, ends, entries, multipliers, rank, is_used, is_behind, may_follow, word_of, argument_count}
use Rattle.rob_cert.specs.Reading.{Lacks, BeginsWithLine, words_in, Stage, start, behind, Leads, BreaksFrom, IsLineAt}
use Rattle.rob_cert.specs.ReaderLines.{IsSection, HasNoLineOf}
use Rattle.rob_cert.specs.Items.{AreItems, IsThereOrInItem}
use Rattle.rob_cert.specs.Spelling.{Naming, lines_text, spaced}
use Rattle.rob_cert.proofs.Readers.EntryLemmas.{one_line}
use Rattle.rob_cert.proofs.Readers.RankLemmas.{rank_injective, eight, used, lt_cases, at_needs, items_used, ready_items, ready_entries, ready_more}
use Rattle.rob_cert.proofs.Readers.PartLemmas.{none_read, stands_items}
use Rattle.rob_cert.proofs.Readers.SectionLemmas.{Leads-append, further, section_further, section_line, spaced-words_in}
use Rattle.rob_cert.proofs.Writing.WriterLemmas.{lines_text-append}
use Rattle.std.proofs.lemmas.Bool.{and_parts}

-- ---- items
-- what may stand behind the items is of no lower rank
order_eight : (last other : Kind) → rank last ≡ 8 → is_behind last other ≡ true → 8 ≤ rank other
order_eight last claims e h = grind (arith, nat_tests)
order_eight last values e h = grind (arith, nat_tests)
order_eight last scales e h = grind (arith, nat_tests)
order_eight last items e h = omega arith
order_eight last ends e h = omega arith
order_eight last (entries Inside) e h = grind (arith, nat_tests)
order_eight last (entries Plan) e h = grind (arith, nat_tests)
order_eight last (entries Move) e h = grind (arith, nat_tests)
order_eight last (entries At) e h = omega arith
order_eight last (multipliers Covers) e h = grind (arith, nat_tests)
order_eight last (multipliers Holds) e h = grind (arith, nat_tests)

behind_eight : (s : Status) (last other : Kind) → rank last ≡ 8 → may_follow s last other ≡ true → 8 ≤ rank other
behind_eight s last other e h = elim (eight last e) [
  | inl p ↦ order_eight last other e
      (subst (λ k. is_behind k other ≡ true) (sym p)
      (and_parts (is_used s other) (is_behind items other) (subst (λ k. may_follow s k other ≡ true) p h)).1)
  | inr p ↦ order_eight last other e
      (subst (λ k. is_behind k other ≡ true) (sym p)
      (and_parts (is_used s other) (is_behind (entries At) other) (subst (λ k. may_follow s k other ≡ true) p h)).1)
]

pub ready_eight : (s : Status) (last : Kind) → rank last ≡ 8 → IsReady s last 9
ready_eight s last e = elim (eight last e) [
  | inl p ↦ subst (λ k. IsReady s k 9) (sym p) (ready_items s)
  | inr p ↦ subst (λ k. IsReady s k 9) (sym p) (ready_entries s At)
]

module _ (names : Naming) (limit : ℕ) (s : Status) where
  not_eight : (text : List ℕ) (lines : List (Line Fraction)) (rest : List ℕ) (line : ℕ)
      (so : SoFar names limit s text lines rest line 8) → is_used s items ≡ true → rank so.last ≡ 8 → ⊥
  not_eight text lines rest line so u e =
      let h = (so.ready items (omega arith) u (λ p. cc)).1 in grind (arith, nat_tests)

  pub items_part : (rest : List ℕ) (line : ℕ) (is : List Item) (rest' : List ℕ) (line' : ℕ) → is_used s items ≡ true
      → AreItems names limit rest line is rest' line' → Extends names limit s 8 9 rest line (item_lines is) rest' line'
  items_part rest line is rest' line' u r text lines so =
      let (new, leads, at, there) =
      r.leads s (behind s so.last so.form so.place) (stands_items names limit s text lines rest line so u) in
      by new leads there
    where
      same_stage : (new : Stage) → is ≡ [] → Leads names limit (behind s so.last so.form so.place) (item_lines is) new
          → behind s so.last so.form so.place ≡ new
      same_stage new none leads =
          subst (λ js. Leads names limit (behind s so.last so.form so.place) (item_lines js) new) none leads

      other_by : (other : Kind) → may_follow s so.last other ≡ true → item_lines is ≡ [] → (rank other < 8)
          ⊎ (rank other ≡ 8) → HasNoLineOf (word_of other) rest'
      other_by other may none (inl m) =
          subst (HasNoLineOf (word_of other))
          (none_read names (item_lines is) rest rest' line line' none r.section) (so.passed other may m)
      other_by other may none (inr e) = elim (eight other e) [
        | inl p ↦ subst (λ k. HasNoLineOf (word_of k) rest') (sym p) r.stopped
        | inr p ↦ absurd
            (not_eight text lines rest line so u
            (at_needs s so.last (subst (λ k. may_follow s so.last k ≡ true) p may)))
      ]

      at_end : (kind : Kind) (form place : ℕ) (new : Stage) → new ≡ behind s kind form place → rank kind ≡ 8
          → Leads names limit (behind s so.last so.form so.place) (item_lines is) new → (is ≡ [])
          ⊎ HasNoLineOf (codes "at") rest' → HasNoLineOf (codes "at") rest'
      at_end kind form place new e eight leads (inr h) = h
      at_end kind form place new e eight leads (inl none) =
          let p : behind s so.last so.form so.place ≡ behind s kind form place = same_stage new none leads ∙ e in
          let q : so.last ≡ kind = cc in
          absurd (not_eight text lines rest line so u (ap rank q ∙ eight))

      behind_by : (kind other : Kind) (form place : ℕ) (new : Stage) → new ≡ behind s kind form place → rank kind ≡ 8
          → Leads names limit (behind s so.last so.form so.place) (item_lines is) new → may_follow s kind other ≡ true
          → rank other < 9 → HasNoLineOf (word_of other) rest'
      behind_by kind other form place new e k leads may m =
          let at_least = behind_eight s kind other k may in
          let o : rank other ≡ 8 = omega arith in
          elim (eight other o) [
            | inl p ↦ subst (λ j. HasNoLineOf (word_of j) rest') (sym p) r.stopped
            | inr p ↦ subst (λ j. HasNoLineOf (word_of j) rest') (sym p)
                (at_end kind form place new e k leads r.no_entry)
          ]

      by : (new : Stage) → Leads names limit (behind s so.last so.form so.place) (item_lines is) new
          → IsThereOrInItem s (behind s so.last so.form so.place) (item_lines is) new
          → SoFar names limit s text (lines ++ item_lines is) rest' line' 9
      by new leads (inl (none, same)) = record {
        last = so.last;
        form = so.form;
        place = so.place;
        leads = Leads-append names limit start lines (item_lines is) (behind s so.last so.form so.place)
            (behind s so.last so.form so.place) so.leads
            (subst (λ st. Leads names limit (behind s so.last so.form so.place) (item_lines is) st) same leads);
        section = section_further names limit lines (item_lines is) text rest rest' 1 line line' so.section r.section;
        ready = ready_more s so.last 8 so.ready;
        passed = λ other may m. other_by other may none (lt_cases (rank other) 8 m);
      }
      by new leads (inr (kind, form, place, e, k)) = record {
        last = kind;
        form = form;
        place = place;
        leads = Leads-append names limit start lines (item_lines is) (behind s so.last so.form so.place)
            (behind s kind form place) so.leads
            (subst (λ st. Leads names limit (behind s so.last so.form so.place) (item_lines is) st) e leads);
        section = section_further names limit lines (item_lines is) text rest rest' 1 line line' so.section r.section;
        ready = ready_eight s kind k;
        passed = λ other may m. behind_by kind other form place new e k leads may m;
      }

  -- where no items are used
  pub unused_items : (rest : List ℕ) (line : ℕ) → is_used s items ≡ false
      → Extends names limit s 8 9 rest line [] rest line
  unused_items rest line none text lines so = record {
    last = so.last;
    form = so.form;
    place = so.place;
    leads = subst (λ ls. Leads names limit start ls (behind s so.last so.form so.place))
        (sym (append-nil lines)) so.leads;
    section = subst (λ ls. IsSection names text 1 ls rest line) (sym (append-nil lines)) so.section;
    ready = ready_more s so.last 8 so.ready;
    passed = λ other may m. by other may (lt_cases (rank other) 8 m);
  }
    where
      by : (other : Kind) → may_follow s so.last other ≡ true → (rank other < 8) ⊎ (rank other ≡ 8)
          → HasNoLineOf (word_of other) rest
      by other may (inl m) = so.passed other may m
      by other may (inr e) =
          let u = used s so.last other (omega (arith, e)) may in
          elim (eight other e) [
            | inl p ↦ absurd (let t : is_used s items ≡ true = subst (λ k. is_used s k ≡ true) p u in cc)
            | inr p ↦ absurd (let t : is_used s items ≡ true = items_used s (subst (λ k. is_used s k ≡ true) p u) in cc)
          ]

-- ---- the end
rank_most : (k : Kind) → rank k ≤ 9
rank_most claims = omega arith
rank_most values = omega arith
rank_most scales = omega arith
rank_most items = omega arith
rank_most ends = omega arith
rank_most (entries Inside) = omega arith
rank_most (entries Plan) = omega arith
rank_most (entries Move) = omega arith
rank_most (entries At) = omega arith
rank_most (multipliers Covers) = omega arith
rank_most (multipliers Holds) = omega arith

-- a list with one more item at its end is one list
push_same : (xs ys : List ℕ) (x : ℕ) → xs ++ x ∷ [] ≡ ys ++ x ∷ [] → xs ≡ ys
push_same [] [] x e = refl
push_same [] (y ∷ []) x e = cc
push_same [] (y ∷ z ∷ ys) x e = cc
push_same (y ∷ []) [] x e = cc
push_same (y ∷ z ∷ xs) [] x e = cc
push_same (a ∷ xs) (b ∷ ys) x e =
    let p : a ≡ b = cc in
    let q : xs ++ x ∷ [] ≡ ys ++ x ∷ [] = cc in
    ap (λ c. c ∷ xs) p ∙ ap (λ l. b ∷ l) (push_same xs ys x q)

-- a line is told by its words
pub line_by_words : (line other : List ℕ) → words_in line ≡ words_in other → line ≡ other
line_by_words line other e = push_same line other 10 (sym (spaced-words_in line) ∙ ap spaced e ∙ spaced-words_in other)

module _ (names : Naming) (limit : ℕ) (s : Status) (text : List ℕ) (lines : List (Line Fraction)) (rest : List ℕ)
    (line : ℕ) (so : SoFar names limit s text lines rest line 9) where
  end_may : may_follow s so.last ends ≡ true
  end_may = (so.ready ends (omega arith) (by s) (λ e. cc)).0
    where
      by : (s : Status) → is_used s ends ≡ true
      by s = refl

  pub end_reads : rest ≡ codes "end\n" → text ≡ lines_text names (lines ++ end_line ∷ [])
  end_reads e =
      so.section.split ∙ ap (λ t. lines_text names lines ++ t) e ∙ sym (lines_text-append names lines (end_line ∷ []))

  not_end : ((after : List ℕ) → BeginsWithLine rest (codes "end") after → ⊥) → (here after : List ℕ)
      → BeginsWithLine rest here after → IsLineAt (behind s so.last so.form so.place) (words_in here) → ⊥
  not_end none here after b (kind, may, has) = by (lt_cases (rank kind) 9 (let m = rank_most kind in omega arith))
    where
      by : (rank kind < 9) ⊎ (rank kind ≡ 9) → ⊥
      by (inl m) = so.passed kind may m here after has.arguments b has.spelled
      by (inr e) =
          let same : kind ≡ ends = rank_injective kind ends (λ p. omega arith) e in
          let count : length has.arguments ≡ 0 = has.count ∙ ap argument_count same in
          let empty = nil_from_length has.arguments count in
          let words : words_in here ≡ words_in (codes "end") =
          has.spelled ∙ ap (λ args. word_of kind ∷ args) empty ∙ ap (λ k. word_of k ∷ []) same in
          none after (subst (λ l. BeginsWithLine rest l after) (line_by_words here (codes "end") words) b)

  -- the next line is not the end
  pub end_missing : ((after : List ℕ) → BeginsWithLine rest (codes "end") after → ⊥)
      → BreaksFrom names limit start text 1 NoLine line
  end_missing none = record {
    before = lines;
    stage = behind s so.last so.form so.place;
    rest = rest;
    good = so.leads;
    split = so.section.split;
    number_is = so.section.counted;
    cause = not_end none;
    more = λ t form place e empty.
        let p : so.last ≡ ends = cc in
        let q : may_follow s ends ends ≡ true = subst (λ k. may_follow s k ends ≡ true) p end_may in cc;
  }

  -- something stands behind the end
  pub end_followed : (after : List ℕ) → BeginsWithLine rest (codes "end") after → after ≢ []
      → BreaksFrom names limit start text 1 NoLine (line + 1)
  end_followed after b some =
      further names limit start (behind s so.last so.form so.place) lines text rest 1 line (line + 1)
      NoLine so.leads so.section
      (further names limit (behind s so.last so.form so.place) (behind s ends 0 0) (end_line ∷ []) rest after line
      (line + 1) (line + 1) NoLine
      (record { kind = end_may; placed = tt }, tt, refl)
      (section_line names limit rest (codes "end") after line end_line b refl)
      (record {
        before = [];
        stage = behind s ends 0 0;
        rest = after;
        good = refl;
        split = refl;
        number_is = omega arith;
        cause = λ here then c (kind, may, has). cc;
        more = λ t form place e. some;
      }))

-- ---- what the reader of the end answers
pub no_end : (text front back : List ℕ) → text ≡ front ++ 10 ∷ back → Lacks 10 front → (front ≡ codes "end" → ⊥)
    → (after : List ℕ) → BeginsWithLine text (codes "end") after → ⊥
no_end text front back is whole ne after b =
    ne (one_line text front back (codes "end") after (record { split = is; whole = whole }) b).0

pub end_line_is : (text front back : List ℕ) → text ≡ front ++ 10 ∷ back → Lacks 10 front → front ≡ codes "end"
    → BeginsWithLine text (codes "end") back
end_line_is text front back is whole e =
    subst (λ l. BeginsWithLine text l back) e (record { split = is; whole = whole })

pub whole_end : (text front back : List ℕ) → text ≡ front ++ 10 ∷ back → front ≡ codes "end"
    → back ≡ [] → text ≡ codes "end\n"
whole_end text front back is e none = is ∙ ap (λ l. l ++ 10 ∷ back) e ∙ ap (λ b. codes "end" ++ 10 ∷ b) none
