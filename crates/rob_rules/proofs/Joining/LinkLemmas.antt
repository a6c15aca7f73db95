-- From a reading of lines to plain statements one behind another, over the words that stand at the end.
use Rattle.std.proofs.Common.{◌≡◌, ℕ, zero, suc, ◌+◌, ◌-◌, ◌≤◌, Bool, true, false, cond, List, [], ◌∷◌, ◌++◌, length, map, Option, Some, None, refl, sym, ap, ◌∙◌, subst, arith, append-nil, append_assoc, length-append}
use Rattle.std.specs.Prelude.{is_some, set}
use Rattle.std.specs.List.{find}
use Rattle.std.proofs.lemmas.List.{length-replicate}
use Rattle.rob_meaning.specs.Places.{Each}
use Rattle.rob_index.specs.Symbols.{Symbol}
use Rattle.rob_index.specs.Statements as stated
use Rattle.rob_index.specs.Statements.{Name, Indexed, Tree}
use Rattle.rob_index.specs.Expansion.{expand}
use Rattle.rob_index.specs.Rules.{IndexFault}
use Rattle.rob_index.specs.Search.{named}
use Rattle.rob_index.specs.Reading.{Version, IsOf, LineFault, State, Follows, line_has, steps, first_fault as line_fault, behind as line_behind, later_first, either_first}
use Rattle.rob_meaning.proofs.Lists.EachLemmas.{each_append}
use Rattle.rob_syntax.specs.declared.syntax.Statement.{Statement}
use Rattle.rob_syntax.specs.Numbered.{numbered}
use Rattle.rob_syntax.specs.Symbols.{words_of}
use Rattle.rob_rules.specs.declared.fault.Fault.{Fault}
use Rattle.rob_rules.specs.declared.fault.Fault.TheVariants.{NoObjective}
use Rattle.rob_rules.specs.declared.sort.Sort.{Sort}
use Rattle.rob_rules.specs.Degrees.{sort_at}
use Rattle.rob_rules.specs.Faults.{in_order, has_fault, first_fault, is_declared as is_taken}
use Rattle.rob_rules.specs.Growing.{AreAmong}
use Rattle.rob_rules.specs.Links.{Keeps, AreLinked}
use Rattle.rob_rules.specs.Names.{Named, names_of, grown, widened, named_behind}
use Rattle.rob_rules.specs.Scopes.{Earlier, start, behind, declare, declared_by}
use Rattle.rob_syntax.specs.SeenSymbols.{seen_line}
use Rattle.rob_syntax.specs.Versions.{text_version, text_lines}
use Rattle.rob_rules.specs.Texts.{has_later, is_declared, in_front, Reads}
use Rattle.rob_rules.proofs.Joining.GrowingLemmas.{all_grow, grown_has, sorts_grow}
use Rattle.rob_rules.proofs.Judging.ReadingLemmas.{none_found}
use Rattle.rob_rules.proofs.Joining.WideLemmas.{fault_same}
use Rattle.rob_rules.proofs.Joining.WidenedLemmas.{blank, blank_sum, widened_same, IsOfWords, kept_behind, number_is, behind_is}
use Rattle.std.proofs.lemmas.Bool.{or_parts}

-- ---- faults
-- what passes no test passes no weaker one
pub find_weaker : {A : Type 0} (test weak : A → Bool) (xs : List A) → ((x : A) → test x ≡ false → weak x ≡ false)
    → find test xs ≡ None → find weak xs ≡ None
find_weaker test weak [] weaker none = refl
find_weaker test weak (x ∷ xs) weaker none =
    go (λ h. find_weaker test weak xs weaker h) (test x) (weak x) refl none (λ h. weaker x h)
  where
    go : (find test xs ≡ None → find weak xs ≡ None) → (a b : Bool) → test x ≡ a
        → cond a (Some x) (find test xs) ≡ None → (test x ≡ false → b ≡ false) → cond b (Some x) (find weak xs) ≡ None
    go rest true b is none h = cc
    go rest false true is none h = let e : true ≡ false = h is in cc
    go rest false false is none h = rest none

pub set_kept : (sorts : List (Option Sort)) (i k : ℕ) (v x : Sort) → is_some (sort_at sorts i) ≡ false
    → sort_at sorts k ≡ Some x → sort_at (set sorts i (Some v)) k ≡ Some x
set_kept [] i k v x new is = is
set_kept (o ∷ sorts) zero zero v x new is = let p : is_some o ≡ true = ap is_some is in cc
set_kept (o ∷ sorts) zero (suc k) v x new is = is
set_kept (o ∷ sorts) (suc i) zero v x new is = is
set_kept (o ∷ sorts) (suc i) (suc k) v x new is = set_kept sorts i k v x new is

declare_kept : (sorts : List (Option Sort)) (d : Option (ℕ × Sort)) (k : ℕ) (x : Sort) → is_taken sorts d ≡ false
    → sort_at sorts k ≡ Some x → sort_at (declare sorts d) k ≡ Some x
declare_kept sorts None k x new is = is
declare_kept sorts (Some d) k x new is = set_kept sorts d.0 k d.1 x new is

module _ (limit : ℕ) (all : List Name) where
  abbrev Linked : Earlier → List stated.Statement → Earlier → Type 0
  Linked = AreLinked limit all

  -- the name that a statement without a fault declares is new, so others keep what they stand for
  keeps_behind : (before now : Earlier) (s : Statement) → first_fault limit before now s ≡ None → (first : Earlier)
      → Keeps first now → Keeps first (behind now s)
  keeps_behind before now s clean first keeps k x is =
      declare_kept now.sorts (declared_by now.sizes s) k x
      (or_parts _ _ (none_found (has_fault limit before now s) in_order 0 NoObjective clean (omega arith))).0
      (keeps k x is)

  -- a fault that isn't one with the words of the moment isn't one with all
  clean_with_all : (before now : Named) (p : stated.Statement) → IsOfWords now → (more : List Name)
      → all ≡ grown now.words p ++ more → find (has_later limit before now p) in_order ≡ None
      → first_fault limit (widened all before.earlier) (widened all now.earlier) (numbered all p) ≡ None
  clean_with_all before now p kept more all_is none =
      let b = widened all before.earlier in
      let n = widened all now.earlier in
      find_weaker (has_later limit before now p) (has_fault limit b n (numbered all p)) in_order
      (λ f h.
      ap (λ (s : Statement). has_fault limit b n s f) (number_is now p kept all more all_is)
      ∙ fault_same limit b before.earlier n now.earlier
      (sorts_grow before.earlier.sorts (length all - length before.earlier.sorts))
      (sorts_grow now.earlier.sorts (length all - length now.earlier.sorts)) refl refl
      (numbered (grown now.words p) p) f
      ∙ h) none

  module _ (words : List Name) (v : Version) where
    abbrev St : Type 0
    St = State limit words Named Fault in_order (has_later limit) named_behind is_declared (IsOf v)

    abbrev has_line : Named → Named → List stated.Statement → Fault → Bool
    has_line = line_has limit words Named Fault in_order (has_later limit) named_behind is_declared (IsOf v)

    abbrev stepped : Named → List stated.Statement → Named
    stepped = steps limit words Named Fault in_order (has_later limit) named_behind is_declared (IsOf v)

    abbrev Reading : St → List (List Symbol) → List stated.Statement → St → Type 0
    Reading = Follows limit words Named Fault in_order (has_later limit) named_behind is_declared (IsOf v)

    abbrev after : St → Indexed Tree → St
    after = line_behind limit words Named Fault in_order (has_later limit) named_behind is_declared (IsOf v)

    -- ---- the statements of a line
    pub stepped_words : (k : Named) (ps : List stated.Statement) → (more : List Name)
        × ((stepped k ps).words ≡ k.words ++ more)
    stepped_words k [] = ([], sym (append-nil k.words))
    stepped_words k (p ∷ ps) =
        let g = grown_has k.words p in
        let r = stepped_words (named_behind k p) ps in (
          g.0 ++ r.0,
          r.1 ∙ ap (λ (l : List Name). l ++ r.0) g.1 ∙ append_assoc k.words g.0 r.0,
        )

    pub stepped_kept : (k : Named) (ps : List stated.Statement) → IsOfWords k → IsOfWords (stepped k ps)
    stepped_kept k [] kept = kept
    stepped_kept k (p ∷ ps) kept = stepped_kept (named_behind k p) ps (kept_behind k p kept)

    linked : (ps : List stated.Statement) (before now : Named) → IsOfWords now → (more : List Name)
        → all ≡ (stepped now ps).words ++ more → find (has_line before now ps) in_order ≡ None
        → Keeps (widened all before.earlier) (widened all now.earlier) → (rest : List stated.Statement) (f : Earlier)
        → Linked (widened all (stepped now ps).earlier) rest f → Linked (widened all now.earlier) (ps ++ rest) f
    linked [] before now kept more all_is none keeps rest f link = link
    linked (p ∷ ps) before now kept more all_is none keeps rest f link =
        let m = stepped_words (named_behind now p) ps in
        let first_is : all ≡ grown now.words p ++ (m.0 ++ more) =
        all_is ∙ ap (λ (l : List Name). l ++ more) m.1 ∙ append_assoc (grown now.words p) m.0 more in
        let clean = clean_with_all before now p kept (m.0 ++ more) first_is
        (find_weaker (has_line before now (p ∷ ps)) (has_later limit before now p) in_order
        (λ x h. (or_parts (has_later limit before now p x) (has_line before (named_behind now p) ps x) h).0) none) in
        let other = find_weaker (has_line before now (p ∷ ps)) (has_line before (named_behind now p) ps) in_order
        (λ x h. (or_parts (has_later limit before now p x) (has_line before (named_behind now p) ps x) h).1) none in
        let same = behind_is now p kept all (m.0 ++ more) first_is in
        let kept_keeps : Keeps (widened all before.earlier) (widened all (named_behind now p).earlier) =
        subst (λ (e : Earlier). Keeps (widened all before.earlier) e) same
        (keeps_behind (widened all before.earlier) (widened all now.earlier) (numbered all p) clean
        (widened all before.earlier) keeps) in (
          widened all before.earlier,
          keeps,
          clean,
          subst (λ (e : Earlier). Linked e (ps ++ rest) f) (sym same)
              (linked ps before (named_behind now p) (kept_behind now p kept) more all_is other kept_keeps rest f link),
        )

    -- ---- lines
    either_none : (o : Option IndexFault) (g : Option (LineFault Fault))
        → either_first limit words Named Fault in_order (has_later limit) named_behind is_declared (IsOf v) o g ≡ None
        → g ≡ None
    either_none None g h = h
    either_none (Some x) g h = cc

    later_none : (o : Option Fault)
        → later_first limit words Named Fault in_order (has_later limit) named_behind is_declared (IsOf v) o ≡ None
        → o ≡ None
    later_none None h = refl
    later_none (Some x) h = cc

    -- a line without a fault has none of a plain statement
    no_later : (e : St) (s : Indexed Tree)
        → line_fault limit words Named Fault in_order (has_later limit) named_behind is_declared (IsOf v) e s ≡ None
        → find (has_line e.known e.known (expand words s)) in_order ≡ None
    no_later e s none =
        later_none (find (has_line e.known e.known (expand words s)) in_order)
        (either_none (named limit words (is_declared e.known) e.total s)
        (later_first limit words Named Fault in_order (has_later limit) named_behind is_declared (IsOf v)
        (find (has_line e.known e.known (expand words s)) in_order)) none)

    pub reading_words : (lines : List (List Symbol)) (e : St) (list : List stated.Statement) (f : St)
        → Reading e lines list f → (more : List Name) × (f.known.words ≡ e.known.words ++ more)
    reading_words [] e list f r =
        ([], ap (λ (x : St). x.known.words) (sym r.1) ∙ sym (append-nil e.known.words))
    reading_words ([] ∷ lines) e list f r = reading_words lines e list f r
    reading_words ((x ∷ xs) ∷ lines) e list f r =
        let m = stepped_words e.known (expand words r.0) in
        let n = reading_words lines (after e r.0) r.1 f r.5 in (
          m.0 ++ n.0,
          n.1 ∙ ap (λ (l : List Name). l ++ n.0) m.1 ∙ append_assoc e.known.words m.0 n.0,
        )

    pub reading_kept : (lines : List (List Symbol)) (e : St) (list : List stated.Statement) (f : St)
        → Reading e lines list f → IsOfWords e.known → IsOfWords f.known
    reading_kept [] e list f r kept = subst (λ (x : St). IsOfWords x.known) r.1 kept
    reading_kept ([] ∷ lines) e list f r kept = reading_kept lines e list f r kept
    reading_kept ((x ∷ xs) ∷ lines) e list f r kept =
        reading_kept lines (after e r.0) r.1 f r.5 (stepped_kept e.known (expand words r.0) kept)

    pub lines_linked : (lines : List (List Symbol)) (e : St) (list : List stated.Statement) (f : St)
        → Reading e lines list f → IsOfWords e.known → all ≡ f.known.words
        → Linked (widened all e.known.earlier) list (widened all f.known.earlier)
    lines_linked [] e list f r kept all_is =
        subst (λ (l : List stated.Statement). Linked (widened all e.known.earlier) l (widened all f.known.earlier))
        (sym r.0) (ap (λ (x : St). widened all x.known.earlier) r.1)
    lines_linked ([] ∷ lines) e list f r kept all_is = lines_linked lines e list f r kept all_is
    lines_linked ((x ∷ xs) ∷ lines) e list f r kept all_is =
        let n = reading_words lines (after e r.0) r.1 f r.5 in
        subst (λ (l : List stated.Statement). Linked (widened all e.known.earlier) l (widened all f.known.earlier))
        (sym r.4)
        (linked (expand words r.0) e.known e.known kept n.0 (all_is ∙ n.1) (no_later e r.0 r.3) (λ k x is. is) r.1
        (widened all f.known.earlier)
        (lines_linked lines (after e r.0) r.1 f r.5 (stepped_kept e.known (expand words r.0) kept) all_is))

-- ---- names among the words that stand at the end
-- names that are among some words are among more
pub grow_each : (words more : List Name) (ps : List stated.Statement) → Each (λ p. AreAmong words (names_of p)) ps
    → Each (λ p. AreAmong (words ++ more) (names_of p)) ps
grow_each words more [] h = tt
grow_each words more (p ∷ ps) h = (all_grow words more (names_of p) h.0, grow_each words more ps h.1)

module _ (limit : ℕ) (words : List Name) (v : Version) where
  abbrev Stage : Type 0
  Stage = State limit words Named Fault in_order (has_later limit) named_behind is_declared (IsOf v)

  abbrev behind_all : Named → List stated.Statement → Named
  behind_all = steps limit words Named Fault in_order (has_later limit) named_behind is_declared (IsOf v)

  pub stepped_among : (k : Named) (ps : List stated.Statement)
      → Each (λ p. AreAmong (behind_all k ps).words (names_of p)) ps
  stepped_among k [] = tt
  stepped_among k (p ∷ ps) =
      let m = stepped_words limit words words v (named_behind k p) ps in (
        subst (λ (w : List Name). AreAmong w (names_of p)) (sym m.1)
            (all_grow (grown k.words p) m.0 (names_of p) (grown_has k.words p).2),
        stepped_among (named_behind k p) ps,
      )

  -- each name of what lines read as is among the words behind them
  pub reading_among : (lines : List (List Symbol)) (e : Stage) (list : List stated.Statement) (f : Stage)
      → Follows limit words Named Fault in_order (has_later limit) named_behind is_declared (IsOf v) e lines list f
      → Each (λ p. AreAmong f.known.words (names_of p)) list
  reading_among [] e list f r =
      subst (λ (l : List stated.Statement). Each (λ p. AreAmong f.known.words (names_of p)) l) (sym r.0) tt
  reading_among ([] ∷ lines) e list f r = reading_among lines e list f r
  reading_among ((x ∷ xs) ∷ lines) e list f r =
      let next =
      line_behind limit words Named Fault in_order (has_later limit) named_behind is_declared (IsOf v) e r.0 in
      let n = reading_words limit words words v lines next r.1 f r.5 in
      let first = subst (λ (w : List Name). Each (λ p. AreAmong w (names_of p)) (expand words r.0)) (sym n.1)
      (grow_each next.known.words n.0 (expand words r.0) (stepped_among e.known (expand words r.0))) in
      subst (λ (l : List stated.Statement). Each (λ p. AreAmong f.known.words (names_of p)) l) (sym r.4)
      (each_append (λ p. AreAmong f.known.words (names_of p)) (expand words r.0) r.1 first
      (reading_among lines next r.1 f r.5))

-- in front of the first line
pub start_wide : (few all : List Name) → length few ≤ length all → widened all (start (length few)) ≡ start (length all)
start_wide few all h =
    let n : length few + (length all - length (blank (length few))) ≡ length all =
    ap (λ (k : ℕ). length few + (length all - k)) (length-replicate (length few) None) ∙ omega arith in
    ap (λ (l : List (Option Sort)). record { sorts = l; sizes = (start 0).sizes; goal = false })
    (blank_sum (length few) (length all - length (blank (length few))) (length all) n)

-- a text that reads
pub read_linked : (limit : ℕ) (text : List ℕ) (words : List Name) (list : List Statement) (known : Earlier)
    (r : Reads limit text words list known) → AreLinked limit words (start (length words)) r.plain known
read_linked limit text words list known r =
    let own = words_of text r.tokens in
    let v = text_version text r.tokens in
    let lines = map seen_line (text_lines text own r.tokens) in
    let e = in_front limit v own in
    let f : State limit own Named Fault in_order (has_later limit) named_behind is_declared (IsOf v) =
    record { known = record { words = words; earlier = known }; total = r.total } in
    let kept : IsOfWords e.known = length-replicate (length own) None in
    let m = reading_words limit words own v lines e r.plain f r.lines.follows in
    let link = lines_linked limit words own v lines e r.plain f r.lines.follows kept refl in
    let last = reading_kept limit words own v lines e r.plain f r.lines.follows kept in
    subst (λ (a : Earlier). AreLinked limit words a r.plain known)
    (start_wide own words (omega (arith, ap length m.1, length-append own m.0)))
    (subst (λ (b : Earlier). AreLinked limit words (widened words (start (length own))) r.plain b)
    (widened_same words known last) link)

pub read_among : (limit : ℕ) (text : List ℕ) (words : List Name) (list : List Statement) (known : Earlier)
    (r : Reads limit text words list known) → Each (λ p. AreAmong words (names_of p)) r.plain
read_among limit text words list known r =
    let own = words_of text r.tokens in
    let v = text_version text r.tokens in
    reading_among limit own v (map seen_line (text_lines text own r.tokens)) (in_front limit v own) r.plain
    (record { known = record { words = words; earlier = known }; total = r.total }) r.lines.follows
