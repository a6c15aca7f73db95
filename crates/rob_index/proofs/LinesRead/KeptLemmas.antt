-- Lines that read as plain statements: their canonical tokens are counted, and
-- each comes from a line without a fault of indices.
use Rattle.std.proofs.Common.{◌≡◌, ℕ, ◌+◌, ◌≤◌, Bool, true, false, List, [], ◌∷◌, ◌++◌, Option, Some, None, refl, sym, ap, ◌∙◌, subst, arith, cond}
use Rattle.std.specs.List.{find}
use Rattle.std.proofs.lemmas.Bool.{leb-true}
use Rattle.rob_algebra.specs.Items.{Each}
use Rattle.rob_algebra.proofs.ListLemmas.{each_append}
use Rattle.rob_index.specs.Symbols.{Symbol}
use Rattle.rob_index.specs.Statements.{Name, Statement, Tree, Indexed}
use Rattle.rob_index.specs.Counting.{lines_tokens}
use Rattle.rob_index.specs.Expansion.{expand}
use Rattle.rob_index.specs.Kept.{IsOfLine}
use Rattle.rob_index.specs.Membership.{Among, here, there}
use Rattle.rob_index.specs.Reading.{State, later_first, either_first, line_has, first_fault, behind, Follows}
use Rattle.rob_index.specs.Rules.{IndexFault, index_unknown, range_too_long, index_out, too_much, no_statement, has_fault, in_order, most_tokens}
use Rattle.rob_index.specs.Search.{has_room, named}
use Rattle.rob_index.proofs.Faults.SearchLemmas.{named_first, named_some}

lines_tokens-append : (limit : ℕ) (xs ys : List Statement)
    → lines_tokens limit (xs ++ ys) ≡ lines_tokens limit xs + lines_tokens limit ys
lines_tokens-append limit [] ys = omega arith
lines_tokens-append limit (x ∷ xs) ys = omega (arith, lines_tokens-append limit xs ys)

-- nothing is found: no item passes
none_parts : {A : Type 0} (y : A) (b : Bool) (o : Option A) → cond b (Some y) o ≡ None → (b ≡ false) × (o ≡ None)
none_parts y true o h = cc
none_parts y false o h = (refl, h)

find_none : {A : Type 0} (p : A → Bool) (xs : List A) (x : A) → Among x xs → find p xs ≡ None → p x ≡ false
find_none p [] x m h = elim m [ ]
find_none p (y ∷ ys) x here h = (none_parts y (p y) (find p ys) h).0
find_none p (y ∷ ys) x (there m) h = find_none p ys x m (none_parts y (p y) (find p ys) h).1

-- ---- a line on which no fault is named
module _ (limit : ℕ) (words : List Name) (is_declared : ℕ → Bool) (total : ℕ) (s : Indexed Tree)
    (none : named limit words is_declared total s ≡ None) where
  room : has_room limit words is_declared total s ≡ true
  room = go (has_room limit words is_declared total s) refl
    where
      go : (b : Bool) → has_room limit words is_declared total s ≡ b → has_room limit words is_declared total s ≡ true
      go true e = e
      go false e =
          let some = named_some limit words is_declared total s e in
          let both : Some some.0 ≡ None = sym some.1 ∙ none in cc

  among_all : (f : IndexFault) → Among f in_order
  among_all index_unknown = here
  among_all range_too_long = there here
  among_all index_out = there (there here)
  among_all too_much = there (there (there here))
  among_all no_statement = there (there (there (there here)))

  no_fault : (f : IndexFault) → has_fault limit words is_declared total s f ≡ false
  no_fault f =
      find_none (has_fault limit words is_declared total s) in_order f (among_all f)
      (sym (named_first limit words is_declared total s room) ∙ none)

  fits : total + lines_tokens limit (expand words s) ≤ most_tokens
  fits = leb-true (total + lines_tokens limit (expand words s)) most_tokens room

-- ---- lines
module _ (limit : ℕ) (words : List Name) (Known Later : Type 0) (order : List Later)
    (has_later : (before now : Known) → Statement → Later → Bool) (step : Known → Statement → Known)
    (is_declared : Known → ℕ → Bool)
    (Is : List Symbol → Indexed Tree → Type 0) where
  abbrev St : Type 0
  St = State limit words Known Later order has_later step is_declared Is

  abbrev Reading : St → List (List Symbol) → List Statement → St → Type 0
  Reading = Follows limit words Known Later order has_later step is_declared Is

  abbrev after : St → Indexed Tree → St
  after = behind limit words Known Later order has_later step is_declared Is

  -- no fault of a statement, so none of indices
  none_named : (e : St) (s : Indexed Tree)
      → first_fault limit words Known Later order has_later step is_declared Is e s ≡ None
      → named limit words (is_declared e.known) e.total s ≡ None
  none_named e s h =
      go (named limit words (is_declared e.known) e.total s)
      (find (line_has limit words Known Later order has_later step is_declared Is e.known e.known (expand words s))
      order) h
    where
      go : (o : Option IndexFault) (later : Option Later)
          → either_first limit words Known Later order has_later step is_declared Is o
          (later_first limit words Known Later order has_later step is_declared Is later) ≡ None → o ≡ None
      go None later h = refl
      go (Some f) later h = cc

  pub total_counted : (lines : List (List Symbol)) (e : St) (list : List Statement) (f : St) → Reading e lines list f
      → f.total ≡ e.total + lines_tokens limit list
  total_counted [] e list f h =
      omega (arith, ap (lines_tokens limit) h.0, ap (λ (x : St). x.total) h.1)
  total_counted ([] ∷ lines) e list f h = total_counted lines e list f h
  total_counted ((x ∷ xs) ∷ lines) e list f h =
      omega (
        arith,
        total_counted lines (after e h.0) h.1 f h.5,
        ap (lines_tokens limit) h.4,
        lines_tokens-append limit (expand words h.0) h.1,
      )

  pub total_few : (lines : List (List Symbol)) (e : St) (list : List Statement) (f : St) → Reading e lines list f
      → e.total ≤ most_tokens → f.total ≤ most_tokens
  total_few [] e list f h few = subst (λ (x : St). x.total ≤ most_tokens) h.1 few
  total_few ([] ∷ lines) e list f h few = total_few lines e list f h few
  total_few ((x ∷ xs) ∷ lines) e list f h few =
      total_few lines (after e h.0) h.1 f h.5
      (fits limit words (is_declared e.known) e.total h.0 (none_named e h.0 h.3))

  abbrev OfLine : List (List Symbol) → Statement → Type 0
  OfLine lines p = IsOfLine limit words Known is_declared Is lines p

  -- one line more in front
  of_more : (line : List Symbol) (lines : List (List Symbol)) (list : List Statement) → Each (OfLine lines) list
      → Each (OfLine (line ∷ lines)) list
  of_more line lines [] h = tt
  of_more line lines (p ∷ list) h = (
    record {
      symbols = h.0.symbols;
      line = there h.0.line;
      statement = h.0.statement;
      is = h.0.is;
      known = h.0.known;
      total = h.0.total;
      faultless = h.0.faultless;
      expanded = h.0.expanded;
    },
    of_more line lines list h.1,
  )

  -- the plain statements of one line
  of_one : (line : List Symbol) (lines : List (List Symbol)) (e : St) (s : Indexed Tree) → Is line s
      → named limit words (is_declared e.known) e.total s ≡ None
      → (ps : List Statement) → ((p : Statement) → Among p ps → Among p (expand words s))
      → Each (OfLine (line ∷ lines)) ps
  of_one line lines e s is none [] within = tt
  of_one line lines e s is none (p ∷ ps) within = (
    record {
      symbols = line;
      line = here;
      statement = s;
      is = is;
      known = e.known;
      total = e.total;
      faultless = no_fault limit words (is_declared e.known) e.total s none;
      expanded = within p here;
    },
    of_one line lines e s is none ps (λ q m. within q (there m)),
  )

  pub all_of_lines : (lines : List (List Symbol)) (e : St) (list : List Statement) (f : St) → Reading e lines list f
      → Each (OfLine lines) list
  all_of_lines [] e list f h = subst (Each (OfLine [])) (sym h.0) tt
  all_of_lines ([] ∷ lines) e list f h = of_more [] lines list (all_of_lines lines e list f h)
  all_of_lines ((x ∷ xs) ∷ lines) e list f h =
      subst (Each (OfLine ((x ∷ xs) ∷ lines))) (sym h.4)
      (each_append (OfLine ((x ∷ xs) ∷ lines)) (expand words h.0) h.1
      (of_one (x ∷ xs) lines e h.0 h.2 (none_named e h.0 h.3) (expand words h.0) (λ p m. m))
      (of_more (x ∷ xs) lines h.1 (all_of_lines lines (after e h.0) h.1 f h.5)))
