-- Walks over lists, item by item: words that grow by names, whether a name is too long, and lists that are made.
use Rattle.std.proofs.Common.{◌≡◌, Bool, List, [], ◌∷◌, ◌++◌, map, Option, Some, None, refl, sym, ap, ◌∙◌, subst, append_assoc, append-nil}
use Rattle.std.specs.Prelude.{fold, ◌||◌, MatchOption}
use Rattle.std.specs.List.{flat_map, list_any}
use Rattle.std.proofs.lemmas.List.Sums.{fold-append}
use Rattle.std.proofs.lemmas.List.Folds.{list_any-append}
use Rattle.rob_index.specs.Statements.{Name}
use Rattle.rob_index.specs.Rules.{is_long_name}
use Rattle.rob_index.proofs.LinesRead.ListLemmas.{or_false, or_assoc}
use Rattle.rob_expand.specs.Growing.{add_name}

-- ---- both parts are the same
pub or_both : {a b c d : Bool} → a ≡ b → c ≡ d → (a || c) ≡ (b || d)
or_both e f = λ i. e i || f i

pub join_both : {A : Type 0} {a b c d : List A} → a ≡ b → c ≡ d → a ++ c ≡ b ++ d
join_both e f = λ i. e i ++ f i

-- ---- what a run of values says of its next one
pub next_some : {A : Type 0} (o : Option A) (x : A) (old new : List A) → o ≡ Some x
    → MatchOption o (old ≡ []) (λ y. old ≡ y ∷ new) → old ≡ x ∷ new
next_some {A} o x old new is given =
    subst (λ (p : Option A). MatchOption p (old ≡ []) (λ y. old ≡ y ∷ new)) is given

pub next_none : {A : Type 0} (o : Option A) (old new : List A) → o ≡ None
    → MatchOption o (old ≡ []) (λ y. old ≡ y ∷ new) → old ≡ []
next_none {A} o old new is given =
    subst (λ (p : Option A). MatchOption p (old ≡ []) (λ y. old ≡ y ∷ new)) is given

module _ {A : Type 0} (f : A → List Name) where
  -- ---- words grow by the names of one item more
  pub words_more : (words next : List Name) (old xs : List A) (x : A) {result : List Name} → old ≡ x ∷ xs
      → next ≡ fold add_name words (f x) → fold add_name words (flat_map f old) ≡ result
      → fold add_name next (flat_map f xs) ≡ result
  words_more words next old xs x is here so_far =
      ap (λ (w : List Name). fold add_name w (flat_map f xs)) here
      ∙ sym (fold-append add_name words (f x) (flat_map f xs))
      ∙ ap (λ (l : List A). fold add_name words (flat_map f l)) (sym is) ∙ so_far

  pub words_all : (words : List Name) (old : List A) {result : List Name} → old ≡ []
      → fold add_name words (flat_map f old) ≡ result → words ≡ result
  words_all words old is so_far = ap (λ (l : List A). fold add_name words (flat_map f l)) (sym is) ∙ so_far

  -- the same, where the names of all items are told otherwise
  pub words_are : (words start : List Name) (old all : List A) (names : List Name) → old ≡ [] → names ≡ flat_map f all
      → fold add_name words (flat_map f old) ≡ fold add_name start (flat_map f all) → words ≡ fold add_name start names
  words_are words start old all names is told so_far =
      words_all words old is so_far ∙ ap (fold add_name start) (sym told)

  -- ---- whether a name is too long
  pub long_more : (long here next : Bool) (old xs : List A) (x : A) {result : Bool} → old ≡ x ∷ xs
      → here ≡ list_any is_long_name (f x) → next ≡ (long || here)
      → (long || list_any is_long_name (flat_map f old)) ≡ result
      → (next || list_any is_long_name (flat_map f xs)) ≡ result
  long_more long here next old xs x is here_is next_is so_far =
      ap (λ (b : Bool). b || list_any is_long_name (flat_map f xs)) next_is
      ∙ or_assoc long here (list_any is_long_name (flat_map f xs))
      ∙ ap (λ (b : Bool). long || (b || list_any is_long_name (flat_map f xs))) here_is
      ∙ ap (λ (b : Bool). long || b) (sym (list_any-append is_long_name (f x) (flat_map f xs)))
      ∙ ap (λ (l : List A). long || list_any is_long_name (flat_map f l)) (sym is) ∙ so_far

  pub long_all : (long : Bool) (old : List A) {result : Bool} → old ≡ []
      → (long || list_any is_long_name (flat_map f old)) ≡ result → long ≡ result
  long_all long old is so_far =
      sym (or_false long) ∙ ap (λ (l : List A). long || list_any is_long_name (flat_map f l)) (sym is) ∙ so_far

  pub long_are : (long : Bool) (old all : List A) (names : List Name) → old ≡ [] → names ≡ flat_map f all
      → (long || list_any is_long_name (flat_map f old)) ≡ list_any is_long_name (flat_map f all)
      → long ≡ list_any is_long_name names
  long_are long old all names is told so_far =
      long_all long old is so_far ∙ ap (list_any is_long_name) (sym told)

-- the same items
module _ {A : Type 0} (f : A → List Name) (xs ys : List A) (same : xs ≡ ys) where
  pub words_along : (words next : List Name) → next ≡ fold add_name words (flat_map f xs)
      → next ≡ fold add_name words (flat_map f ys)
  words_along words next is = is ∙ ap (λ (l : List A). fold add_name words (flat_map f l)) same

  pub long_along : (here : Bool) → here ≡ list_any is_long_name (flat_map f xs)
      → here ≡ list_any is_long_name (flat_map f ys)
  long_along here is = is ∙ ap (λ (l : List A). list_any is_long_name (flat_map f l)) same

-- four lists of names, one behind the other
pub four_words : (old one two three new a b c d : List Name) → one ≡ fold add_name old a → two ≡ fold add_name one b
    → three ≡ fold add_name two c → new ≡ fold add_name three d → new ≡ fold add_name old (a ++ (b ++ (c ++ d)))
four_words old one two three new a b c d first second third fourth =
    fourth
    ∙ ap (λ (w : List Name). fold add_name w d) third ∙ sym (fold-append add_name two c d)
    ∙ ap (λ (w : List Name). fold add_name w (c ++ d)) second ∙ sym (fold-append add_name one b (c ++ d))
    ∙ ap (λ (w : List Name). fold add_name w (b ++ (c ++ d))) first ∙ sym (fold-append add_name old a (b ++ (c ++ d)))

pub four_long : (a b c d : List Name) (h t i o last behind long : Bool) → h ≡ list_any is_long_name a
    → t ≡ list_any is_long_name b → i ≡ list_any is_long_name c → o ≡ list_any is_long_name d
    → last ≡ (i || o) → behind ≡ (t || last) → long ≡ (h || behind)
    → long ≡ list_any is_long_name (a ++ (b ++ (c ++ d)))
four_long a b c d h t i o last behind long first second third fourth last_is behind_is long_is =
    let any : List Name → Bool = list_any is_long_name in
    let both : last ≡ any (c ++ d) =
    last_is ∙ or_both third fourth ∙ sym (list_any-append is_long_name c d) in
    let all : behind ≡ any (b ++ (c ++ d)) =
    behind_is ∙ or_both second both ∙ sym (list_any-append is_long_name b (c ++ d)) in
    long_is ∙ or_both first all ∙ sym (list_any-append is_long_name a (b ++ (c ++ d)))

module _ {A B : Type 0} (f : A → List B) where
  -- ---- a list that is made
  pub made_more : (done next : List B) (old xs : List A) (x : A) {result : List B} → old ≡ x ∷ xs
      → next ≡ done ++ f x → done ++ flat_map f old ≡ result → next ++ flat_map f xs ≡ result
  made_more done next old xs x is here so_far =
      ap (λ (l : List B). l ++ flat_map f xs) here ∙ append_assoc done (f x) (flat_map f xs)
      ∙ ap (λ (l : List A). done ++ flat_map f l) (sym is) ∙ so_far

  pub made_all : (done : List B) (old : List A) {result : List B} → old ≡ []
      → done ++ flat_map f old ≡ result → done ≡ result
  made_all done old is so_far =
      sym (append-nil done) ∙ ap (λ (l : List A). done ++ flat_map f l) (sym is) ∙ so_far

pub flat_mapped : {A B C : Type 0} (f : B → List C) (g : A → B) (xs : List A)
    → flat_map f (map g xs) ≡ flat_map (λ x. f (g x)) xs
flat_mapped f g [] = refl
flat_mapped f g (x ∷ xs) = ap (λ (l : List _). f (g x) ++ l) (flat_mapped f g xs)
