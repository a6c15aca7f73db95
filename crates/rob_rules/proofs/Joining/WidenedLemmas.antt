-- What is known, with more words than there are: the names that come are declared nowhere.
use Rattle.std.proofs.Common.{◌≡◌, ℕ, ◌+◌, ◌-◌, ◌<◌, ◌≤◌, List, ◌++◌, length, Option, Some, None, refl, sym, ap, ◌∙◌, subst, arith, append-nil, append_assoc, length-append}
use Rattle.std.specs.Prelude.{replicate}
use Rattle.std.proofs.lemmas.List.{replicate-append-replicate, length-replicate, set-append_left}
use Rattle.std.proofs.Math.ListN.{length-set}
use Rattle.rob_index.specs.Statements as stated
use Rattle.rob_index.specs.Statements.{Name}
use Rattle.rob_syntax.specs.declared.syntax.Statement.{Statement}
use Rattle.rob_syntax.specs.Numbered.{numbered}
use Rattle.rob_rules.specs.declared.size.Sizes.{Sizes}
use Rattle.rob_rules.specs.declared.sort.Sort.{Sort}
use Rattle.rob_rules.specs.Growing.{AreAmong}
use Rattle.rob_rules.specs.Names.{Named, names_of, grown, widened, named_behind}
use Rattle.rob_rules.specs.Scopes.{Earlier, behind, declare, declared_by}
use Rattle.rob_rules.proofs.Joining.GrowingLemmas.{grown_has, number_inside, statement_grows}

-- ---- what names stand for, with more words
-- a declared name is one of so many
abbrev Inside : ℕ → Option (ℕ × Sort) → Type 0
Inside n None = Unit {0}
Inside n (Some d) = d.0 < n

pub declare_length : (sorts : List (Option Sort)) (d : Option (ℕ × Sort)) → length (declare sorts d) ≡ length sorts
declare_length sorts None = refl
declare_length sorts (Some d) = length-set sorts d.0 (Some d.1)

declare_wide : (sorts more : List (Option Sort)) (d : Option (ℕ × Sort)) → Inside (length sorts) d
    → declare (sorts ++ more) d ≡ declare sorts d ++ more
declare_wide sorts more None inside = refl
declare_wide sorts more (Some d) inside = set-append_left sorts more d.0 (Some d.1) inside

-- so many names of nothing
abbrev pub blank : ℕ → List (Option Sort)
blank n = replicate n None

pub blank_sum : (a b c : ℕ) → a + b ≡ c → blank a ++ blank b ≡ blank c
blank_sum a b c is = replicate-append-replicate a b None ∙ ap blank is

-- widening twice is widening once
widened_twice : (few all : List Name) (e : Earlier) → length e.sorts ≤ length few → length few ≤ length all
    → widened all (widened few e) ≡ widened all e
widened_twice few all e a b =
    let n : length (e.sorts ++ blank (length few - length e.sorts)) ≡ length few =
    length-append e.sorts (blank (length few - length e.sorts))
    ∙ ap (λ (k : ℕ). length e.sorts + k) (length-replicate (length few - length e.sorts) None) ∙ omega arith in
    let s : (e.sorts ++ blank (length few - length e.sorts))
    ++ blank (length all - length (e.sorts ++ blank (length few - length e.sorts)))
    ≡ e.sorts ++ blank (length all - length e.sorts) =
    ap (λ (k : ℕ). (e.sorts ++ blank (length few - length e.sorts)) ++ blank (length all - k)) n
    ∙ append_assoc e.sorts (blank (length few - length e.sorts)) (blank (length all - length few))
    ∙ ap (λ (l : List (Option Sort)). e.sorts ++ l)
    (blank_sum (length few - length e.sorts) (length all - length few) (length all - length e.sorts) (omega arith)) in
    ap (λ (l : List (Option Sort)). record { sorts = l; sizes = e.sizes; goal = e.goal }) s

widened_length : (words : List Name) (e : Earlier) → length e.sorts ≤ length words
    → length (widened words e).sorts ≡ length words
widened_length words e a =
    length-append e.sorts (blank (length words - length e.sorts))
    ∙ ap (λ (k : ℕ). length e.sorts + k) (length-replicate (length words - length e.sorts) None) ∙ omega arith

pub widened_same : (words : List Name) (e : Earlier) → length e.sorts ≡ length words → widened words e ≡ e
widened_same words e is =
    let none : length words - length e.sorts ≡ 0 = omega (arith, is) in
    ap (λ (l : List (Option Sort)). record { sorts = l; sizes = e.sizes; goal = e.goal })
    (ap (λ (k : ℕ). e.sorts ++ blank k) none ∙ append-nil e.sorts)

-- a statement that declares a name inside
behind_wide : (words : List Name) (e : Earlier) (s : Statement) → Inside (length e.sorts) (declared_by e.sizes s)
    → behind (widened words e) s ≡ widened words (behind e s)
behind_wide words e s inside =
    let n = declare_length e.sorts (declared_by e.sizes s) in
    let l = declare_wide e.sorts (blank (length words - length e.sorts)) (declared_by e.sizes s) inside
    ∙ ap (λ (k : ℕ). declare e.sorts (declared_by e.sizes s) ++ blank (length words - k)) (sym n) in
    ap (λ (l : List (Option Sort)). record {
      sorts = l;
      sizes = (behind e s).sizes;
      goal = (behind e s).goal;
    }) l

-- what a plain statement declares is among the words
declares_inside : (words : List Name) (sizes : Sizes) (p : stated.Statement) → AreAmong words (names_of p)
    → Inside (length words) (declared_by sizes (numbered words p))
declares_inside words sizes (stated.uncertain n b) h = number_inside words n h.0
declares_inside words sizes (stated.over n) h = number_inside words n h.0
declares_inside words sizes (stated.set l r p o) h = tt
declares_inside words sizes (stated.budget n ms o) h = tt
declares_inside words sizes (stated.variable n b) h = number_inside words n h.0
declares_inside words sizes (stated.adaptive n on b) h = number_inside words n h.0
declares_inside words sizes (stated.goal s e o) h = tt
declares_inside words sizes (stated.row n l r p o) h = number_inside words n h.0

-- ---- one plain statement
-- what is known of each word, and of no more
abbrev pub IsOfWords : Named → Type 0
IsOfWords k = length k.earlier.sorts ≡ length k.words

module _ (k : Named) (p : stated.Statement) (kept : IsOfWords k) where
  few : length k.earlier.sorts ≤ length (grown k.words p)
  few = let g = grown_has k.words p in omega (arith, kept, ap length g.1, length-append k.words g.0)

  wide_sorts : length (widened (grown k.words p) k.earlier).sorts ≡ length (grown k.words p)
  wide_sorts = widened_length (grown k.words p) k.earlier few

  inside : Inside (length (widened (grown k.words p) k.earlier).sorts)
      (declared_by k.earlier.sizes (numbered (grown k.words p) p))
  inside =
      subst (λ (n : ℕ). Inside n (declared_by k.earlier.sizes (numbered (grown k.words p) p))) (sym wide_sorts)
      (declares_inside (grown k.words p) k.earlier.sizes p (grown_has k.words p).2)

  pub kept_behind : IsOfWords (named_behind k p)
  kept_behind =
      declare_length (widened (grown k.words p) k.earlier).sorts
      (declared_by k.earlier.sizes (numbered (grown k.words p) p))
      ∙ wide_sorts

  module _ (all more : List Name) (all_is : all ≡ grown k.words p ++ more) where
    enough : length (grown k.words p) ≤ length all
    enough = omega (arith, ap length all_is, length-append (grown k.words p) more)

    pub number_is : numbered all p ≡ numbered (grown k.words p) p
    number_is =
        ap (λ (w : List Name). numbered w p) all_is
        ∙ statement_grows (grown k.words p) more p (grown_has k.words p).2

    pub behind_is : behind (widened all k.earlier) (numbered all p) ≡ widened all (named_behind k p).earlier
    behind_is =
        ap (behind (widened all k.earlier)) number_is
        ∙ ap (λ (e : Earlier). behind e (numbered (grown k.words p) p))
        (sym (widened_twice (grown k.words p) all k.earlier few enough))
        ∙ behind_wide all (widened (grown k.words p) k.earlier) (numbered (grown k.words p) p) inside
