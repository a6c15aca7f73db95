-- The plain statements of a line: they are judged one behind another, over the words that stand behind the line.
use Rattle.std.proofs.Common.{◌≡◌, ℕ, zero, suc, ◌-◌, Bool, true, List, [], ◌∷◌, ◌++◌, length, map, Option, Some, None, refl, sym, ap, ◌∙◌, subst, arith, append-nil, append_assoc}
use Rattle.std.specs.Prelude.{◌||◌, fold, is_some, set}
use Rattle.std.specs.List.{find}
use Rattle.std.proofs.Math.ListN.{length-set}
use Rattle.rob_meaning.specs.Places.{Each}
use Rattle.rob_index.specs.Statements as stated
use Rattle.rob_index.specs.Statements.{Name}
use Rattle.rob_index.specs.Reading.{Version, IsOf, line_has, steps}
use Rattle.rob_places.specs.Tests.{is_set}
use Rattle.rob_syntax.specs.declared.syntax.Statement.{Statement}
use Rattle.rob_syntax.specs.Numbered.{numbered}
use Rattle.rob_rules.specs.declared.fault.Fault.{Fault}
use Rattle.rob_rules.specs.declared.sort.Sort.{Sort}
use Rattle.rob_rules.specs.Degrees.{sort_at}
use Rattle.rob_rules.specs.Faults.{has_fault, in_order}
use Rattle.rob_rules.specs.Growing.{AreAmong}
use Rattle.rob_rules.specs.Names.{Named, grown, names_of, named_behind, widened}
use Rattle.rob_rules.specs.Scopes.{Earlier, behind, declare, declared_by}
use Rattle.rob_rules.specs.Sizes.{IsKept}
use Rattle.rob_rules.specs.Stages.{behind_all, declare_all, lowest_fault, mark_declared, some_has}
use Rattle.rob_rules.specs.Texts.{has_later, is_declared}
use Rattle.rob_rules.proofs.Joining.GrowingLemmas.{sorts_grow}
use Rattle.rob_rules.proofs.Joining.LinkLemmas.{find_weaker, stepped_among, stepped_kept, stepped_words}
use Rattle.rob_rules.proofs.Judging.ReadingLemmas.{kept_note}
use Rattle.rob_rules.proofs.Joining.WideLemmas.{fault_same}
use Rattle.rob_rules.proofs.Joining.WidenedLemmas.{widened_same, IsOfWords, kept_behind, number_is, behind_is, declare_length}
use Rattle.std.proofs.lemmas.Bool.{or_parts}

-- ---- the statements of a line
module _ (limit : ℕ) (own : List Name) (version : Version) where
  -- some statement of a line has the fault, with the words of the moment
  abbrev pub line_has_fault : Named → Named → List stated.Statement → Fault → Bool
  line_has_fault = line_has limit own Named Fault in_order (has_later limit) named_behind is_declared (IsOf version)

  -- what is known behind some statements
  abbrev pub stepped : Named → List stated.Statement → Named
  stepped = steps limit own Named Fault in_order (has_later limit) named_behind is_declared (IsOf version)

  -- the words grow
  stepped_grown : (k : Named) (ps : List stated.Statement) → (stepped k ps).words ≡ fold grown k.words ps
  stepped_grown k [] = refl
  stepped_grown k (p ∷ ps) = stepped_grown (named_behind k p) ps

  module _ (all : List Name) where
    -- a fault with the words of the moment is one with all words
    same_faults : (ps : List stated.Statement) (before now : Named) → IsOfWords now → (more : List Name)
        → all ≡ (stepped now ps).words ++ more → (f : Fault)
        → some_has limit (widened all before.earlier) (widened all now.earlier) (map (numbered all) ps) f
        ≡ line_has_fault before now ps f
    same_faults [] before now kept more all_is f = refl
    same_faults (p ∷ ps) before now kept more all_is f =
        let b = widened all before.earlier in
        let n = widened all now.earlier in
        let m = stepped_words limit all own version (named_behind now p) ps in
        let first_is : all ≡ grown now.words p ++ (m.0 ++ more) =
        all_is ∙ ap (λ (l : List Name). l ++ more) m.1 ∙ append_assoc (grown now.words p) m.0 more in
        let first : has_fault limit b n (numbered all p) f ≡ has_later limit before now p f =
        ap (λ (s : Statement). has_fault limit b n s f) (number_is now p kept all (m.0 ++ more) first_is)
        ∙ fault_same limit b before.earlier n now.earlier
        (sorts_grow before.earlier.sorts (length all - length before.earlier.sorts))
        (sorts_grow now.earlier.sorts (length all - length now.earlier.sorts)) refl refl
        (numbered (grown now.words p) p) f in
        let rest : some_has limit b (behind n (numbered all p)) (map (numbered all) ps) f
        ≡ line_has_fault before (named_behind now p) ps f =
        ap (λ (e : Earlier). some_has limit b e (map (numbered all) ps) f)
        (behind_is now p kept all (m.0 ++ more) first_is)
        ∙ same_faults ps before (named_behind now p) (kept_behind now p kept) more all_is f in
        (λ i. first i || rest i)

    -- so it is with what is known behind them
    same_behind : (ps : List stated.Statement) (now : Named) → IsOfWords now → (more : List Name)
        → all ≡ (stepped now ps).words ++ more
        → behind_all (widened all now.earlier) (map (numbered all) ps) ≡ widened all (stepped now ps).earlier
    same_behind [] now kept more all_is = refl
    same_behind (p ∷ ps) now kept more all_is =
        let m = stepped_words limit all own version (named_behind now p) ps in
        let first_is : all ≡ grown now.words p ++ (m.0 ++ more) =
        all_is ∙ ap (λ (l : List Name). l ++ more) m.1 ∙ append_assoc (grown now.words p) m.0 more in
        ap (λ (e : Earlier). behind_all e (map (numbered all) ps)) (behind_is now p kept all (m.0 ++ more) first_is)
        ∙ same_behind ps (named_behind now p) (kept_behind now p kept) more all_is

    module _ (k : Named) (ps : List stated.Statement) (kept : IsOfWords k) (all_is : all ≡ fold grown k.words ps) where
      all_words : all ≡ (stepped k ps).words
      all_words = all_is ∙ sym (stepped_grown k ps)

      no_more : all ≡ (stepped k ps).words ++ []
      no_more = all_words ∙ sym (append-nil (stepped k ps).words)

      -- the lowest fault is the first in the order of the rules
      pub lowest_is : lowest_fault limit (widened all k.earlier) (widened all k.earlier) (map (numbered all) ps)
          ≡ find (line_has_fault k k ps) in_order
      lowest_is = λ i. find (λ (f : Fault). same_faults ps k k kept [] no_more f i) in_order

      -- what is known behind the line
      pub stepped_is : stepped k ps
          ≡ record { words = all; earlier = behind_all (widened all k.earlier) (map (numbered all) ps) }
      stepped_is =
          let e : behind_all (widened all k.earlier) (map (numbered all) ps) ≡ (stepped k ps).earlier =
          same_behind ps k kept [] no_more
          ∙ widened_same all (stepped k ps).earlier
          (stepped_kept limit all own version k ps kept ∙ ap length (sym all_words)) in
          let w = all_words in
          let both : stepped k ps
          ≡ record { words = all; earlier = behind_all (widened all k.earlier) (map (numbered all) ps) } =
          λ i. record { words = sym w i; earlier = sym e i } in
          both

      -- each name of a statement is among the words
      pub line_among : Each (λ p. AreAmong all (names_of p)) ps
      line_among =
          subst (λ (w : List Name). Each (λ p. AreAmong w (names_of p)) ps) (sym all_words)
          (stepped_among limit own version k ps)

-- ---- sizes
-- statements without a fault keep the counts
pub all_kept : (limit : ℕ) (before now : Earlier) (list : List Statement) → IsKept now.sizes
    → lowest_fault limit before now list ≡ None → IsKept (behind_all now list).sizes
all_kept limit before now [] kept none = kept
all_kept limit before now (s ∷ list) kept none =
    let one = find_weaker (some_has limit before now (s ∷ list)) (has_fault limit before now s) in_order
    (λ f h. (or_parts (has_fault limit before now s f) (some_has limit before (behind now s) list f) h).0) none in
    let rest = find_weaker (some_has limit before now (s ∷ list)) (some_has limit before (behind now s) list) in_order
    (λ f h. (or_parts (has_fault limit before now s f) (some_has limit before (behind now s) list f) h).1) none in
    all_kept limit before (behind now s) list (kept_note limit before now s kept one) rest

-- ---- declared names
-- the table says of each word what the scope says
abbrev pub SaysSame : List Bool → List (Option Sort) → Type 0
SaysSame table sorts = (k : ℕ) → is_set table k ≡ is_some (sort_at sorts k)

set_both : (table : List Bool) (sorts : List (Option Sort)) → length sorts ≡ length table → SaysSame table sorts
    → (j : ℕ) (x : Sort) (k : ℕ) → is_set (set table j true) k ≡ is_some (sort_at (set sorts j (Some x)) k)
set_both [] [] level same j x k = refl
set_both [] (o ∷ sorts) level same j x k = absurd (omega (arith, level))
set_both (b ∷ table) [] level same j x k = absurd (omega (arith, level))
set_both (b ∷ table) (o ∷ sorts) level same zero x zero = refl
set_both (b ∷ table) (o ∷ sorts) level same zero x (suc k) = same (suc k)
set_both (b ∷ table) (o ∷ sorts) level same (suc j) x zero = same zero
set_both (b ∷ table) (o ∷ sorts) level same (suc j) x (suc k) =
    set_both table sorts (omega (arith, level)) (λ k. same (suc k)) j x k

mark_both : (table : List Bool) (sorts : List (Option Sort)) → length sorts ≡ length table → SaysSame table sorts
    → (d : Option (ℕ × Sort)) → SaysSame (mark_declared table d) (declare sorts d)
mark_both table sorts level same None = same
mark_both table sorts level same (Some d) = set_both table sorts level same d.0 d.1

mark_long : (table : List Bool) (d : Option (ℕ × Sort)) → length (mark_declared table d) ≡ length table
mark_long table None = refl
mark_long table (Some d) = length-set table d.0 true

-- behind some statements it does so still
pub declared_same : (list : List Statement) (e : Earlier) (table : List Bool) → length e.sorts ≡ length table
    → SaysSame table e.sorts → SaysSame (declare_all e table list) (behind_all e list).sorts
declared_same [] e table level same = same
declared_same (s ∷ list) e table level same =
    let d = declared_by e.sizes s in
    declared_same list (behind e s) (mark_declared table d)
    (declare_length e.sorts d ∙ level ∙ sym (mark_long table d)) (mark_both table e.sorts level same d)

pub declared_long : (list : List Statement) (e : Earlier) (table : List Bool)
    → length (declare_all e table list) ≡ length table
declared_long [] e table = refl
declared_long (s ∷ list) e table =
    declared_long list (behind e s) (mark_declared table (declared_by e.sizes s))
    ∙ mark_long table (declared_by e.sizes s)

pub sorts_long : (list : List Statement) (e : Earlier) → length (behind_all e list).sorts ≡ length e.sorts
sorts_long [] e = refl
sorts_long (s ∷ list) e = sorts_long list (behind e s) ∙ declare_length e.sorts (declared_by e.sizes s)
