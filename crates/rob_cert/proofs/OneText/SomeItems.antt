-- Items stand at the front of any text, up to the first line of another kind, or one of their lines has an offence.
use Rattle.std.proofs.Common.{◌≡◌, ℕ, zero, suc, ◌+◌, ◌<◌, ◌≤◌, List, [], ◌∷◌, ◌++◌, length, arith, refl, ap, sym, ◌∙◌, inl, inr}
use Rattle.std.specs.Prelude.{◌⊎◌}
use Rattle.rob_algebra.specs.Fraction.{Fraction}
use Rattle.rob_algebra.specs.Width.{Fits}
use Rattle.rob_meaning.specs.Certificates.{Status, Item}
use Rattle.rob_meaning.specs.Names.{Name}
use Rattle.rob_cert.specs.Causes.{HasCause, rule_of}
use Rattle.rob_cert.specs.declared.error.CertErr.TheVariants.{Rule}
use Rattle.rob_cert.specs.declared.error.Offence.{Offence}
use Rattle.rob_cert.specs.declared.error.Offence.TheVariants.{NoLine, NoShape, NoNumber}
use Rattle.rob_cert.specs.declared.kind.Vector.TheVariants.{At}
use Rattle.rob_cert.specs.Kinds.{items, word_of}
use Rattle.rob_cert.specs.Reading.{BeginsWithLine, words_in, Stage}
use Rattle.rob_cert.specs.Items.{StandsItem, IsItemLine, HasItemFault, HasItemReadFault, IsItemRead, AreItems}
use Rattle.rob_cert.specs.Spelling.{Naming, name_at, number_text}
use Rattle.rob_cert.proofs.OneText.Decisions.{Decided, same_number, next_line, three_words, nth, some_name, Spells, some_number}
use Rattle.rob_cert.proofs.Readers.ItemLemmas.{ItemsSoFar, items_start, items_more, items_fault, item_read_fault}
use Rattle.rob_cert.proofs.Readers.SectionLemmas.{shorter}
use Rattle.rob_cert.proofs.OneText.SomeEntries.{count_more, some_entries}

module _ (names : Naming) (limit : ℕ) where
  -- a line of the kind is an item's, or has an offence
  abbrev ItemLine : ℕ → List Name → Type 0
  ItemLine form words =
      ((i : ℕ) × (w : Fraction) × (b : Fraction) × Fits limit w × Fits limit b
      × IsItemLine names limit form words i w b) ⊎ ((o : Offence) × HasItemFault names limit form words o)

  item_numbers : (form i : ℕ) (words : List Name) (name weight base : Name)
      → words ≡ word_of items ∷ (name ∷ (weight ∷ (base ∷ []))) → i < length names.forms → form ≤ i
      → name_at names.forms i ≡ name
      → Decided ((q : Fraction) × Spells limit weight q)
      → Decided ((q : Fraction) × Spells limit base q) → ItemLine form words
  item_numbers form i words name weight base is named ordered here (inl (w, s)) (inl (b, t)) = inl (
    i,
    w,
    b,
    s.0,
    t.0,
    record {
      is = is ∙ ap (λ n. word_of items ∷ (n ∷ (weight ∷ (base ∷ [])))) (sym here)
          ∙ ap (λ n. word_of items ∷ (name_at names.forms i ∷ (n ∷ (base ∷ [])))) s.1
          ∙ ap (λ n. word_of items ∷ (name_at names.forms i ∷ (number_text w ∷ (n ∷ [])))) t.1;
      ordered = ordered;
      named = named;
    },
  )
  item_numbers form i words name weight base is named ordered here (inr none) second = inr (
    NoNumber,
    (
      i,
      weight,
      base,
      record {
        is = is ∙ ap (λ n. word_of items ∷ (n ∷ (weight ∷ (base ∷ [])))) (sym here);
        ordered = ordered;
        named = named;
      },
      λ x y f g j e. none (x, (f, ap (nth 2) (sym is ∙ e))),
    ),
  )
  item_numbers form i words name weight base is named ordered here (inl first) (inr none) = inr (
    NoNumber,
    (
      i,
      weight,
      base,
      record {
        is = is ∙ ap (λ n. word_of items ∷ (n ∷ (weight ∷ (base ∷ [])))) (sym here);
        ordered = ordered;
        named = named;
      },
      λ x y f g j e. none (y, (g, ap (nth 3) (sym is ∙ e))),
    ),
  )

  some_head : (form : ℕ) (words more : List Name) → words ≡ word_of items ∷ more → ItemLine form words
  some_head form words more is = by (same_number (length words) 4)
    where
      found : (name weight base : Name) → words ≡ word_of items ∷ (name ∷ (weight ∷ (base ∷ [])))
          → Decided ((i : ℕ) × (i < length names.forms) × ((form ≤ i) × (name_at names.forms i ≡ name)))
          → ItemLine form words
      found name weight base are (inl (i, named, h)) =
          item_numbers form i words name weight base are named h.0 h.1 (some_number limit weight)
          (some_number limit base)
      found name weight base are (inr none) =
          inr (NoShape, (ap length are, λ i w b s. none (i, s.named, (s.ordered, ap (nth 1) (sym s.is ∙ are)))))

      by : Decided (length words ≡ 4) → ItemLine form words
      by (inr ne) = inr (NoLine, ne)
      by (inl e) =
          let (name, weight, base, are) = three_words more (count_more words more (word_of items) 3 is e) in
          found name weight base (is ∙ ap (λ l. word_of items ∷ l) are) (some_name names.forms form name)

  -- an item is read, from a line of the kind and the text behind it, or there is an offence
  abbrev OneItem : ℕ → List Name → List ℕ → ℕ → Type 0
  OneItem form words text line =
      ((item : Item) × (rest : List ℕ) × (last : ℕ) × (length rest ≤ length text)
      × IsItemRead names limit form words text (line + 1) item rest last)
      ⊎ ((rule : ℕ) × (last : ℕ) × HasItemReadFault names limit form words text (line + 1) line (Rule rule last))

  some_item : (form : ℕ) (words : List Name) (text : List ℕ) (line : ℕ) → ItemLine form words
      → OneItem form words text line
  some_item form words text line (inr (o, fault)) = inr (rule_of o, line, inl (o, refl, refl, fault))
  some_item form words text line (inl (i, w, b, f, g, head)) = elim (some_entries names limit At text (line + 1)) [
    | inl e ↦ (
        let (qs, rest, last, short, are) = e in
        inl (
          record { form = i; weight = w; base = b; vector = qs },
          rest,
          last,
          short,
          record {
            head = head;
            weight_fits = f;
            base_fits = g;
            vector = are;
          },
        ))
    | inr e ↦ inr
        (e.0, e.1, item_read_fault names limit form words text (line + 1) line i w b (Rule e.0 e.1) head f g e.2)
  ]

  -- items are at the front of the text, or one of their lines has an offence
  abbrev pub ItemList : List ℕ → ℕ → Type 0
  ItemList text number =
      ((list : List Item) × (rest : List ℕ) × (line : ℕ) × AreItems names limit text number list rest line)
      ⊎ ((rule : ℕ) × (line : ℕ)
      × ((s : Status) (stage : Stage) → StandsItem s 0 stage
      → HasCause names limit stage text number (Rule rule line)))

  items_on : (text : List ℕ) (number n : ℕ) (list : List Item) (form : ℕ) (rest : List ℕ) (line : ℕ) → length rest < n
      → ItemsSoFar names limit text number list form rest line → ItemList text number
  items_on text number zero list form rest line l so = absurd (omega arith)
  items_on text number (suc n) list form rest line l so = elim (next_line (word_of items) rest) [
    | inl g ↦ (let (front, back, more, begins, words) = g in
        by (items_on text number n) front back more begins words
        (some_item form (words_in front) back line (some_head form (words_in front) more words)))
    | inr none ↦
        inl (
          list,
          rest,
          line,
          record {
            section = so.section;
            each = so.each;
            ordered = so.ordered;
            form = form;
            leads = so.leads;
            stopped = none;
            no_entry = so.no_entry;
          },
        )
  ]
    where
      by : ((is : List Item) (f : ℕ) (tail : List ℕ) (at : ℕ) → length tail < n
          → ItemsSoFar names limit text number is f tail at → ItemList text number)
          → (front back : List ℕ) (more : List Name) → BeginsWithLine rest front back
          → words_in front ≡ word_of items ∷ more → OneItem form (words_in front) back line → ItemList text number
      by again front back more begins words (inl (item, last, at, short, read)) =
          again (list ++ item ∷ []) item.form last at (omega (arith, short, shorter rest front back begins))
          (items_more names limit text number list form rest line front back item last at so begins read)
      by again front back more begins words (inr (rule, at, fault)) =
          inr (
            rule,
            at,
            items_fault names limit text number list form rest line front back more (Rule rule at) so begins words
                fault,
          )

  pub some_items : (text : List ℕ) (number : ℕ) → ItemList text number
  some_items text number =
      items_on text number (suc (length text)) [] 0 text number (omega arith) (items_start names limit text number)
