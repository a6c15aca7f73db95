-- What is known in front of each canonical line, and what holds of the lines of a kind.
use Rattle.std.proofs.Common.{◌≡◌, ℕ, ◌+◌, Bool, true, false, List, [], ◌∷◌, ◌++◌, map, refl, ap, ◌∙◌}
use Rattle.std.specs.Prelude.{◌&&◌, if◌then◌else◌, Option, Some, None}
use Rattle.rob_meaning.specs.Places.{Each}
use Rattle.rob_rules.specs.declared.sort.Sort.{Sort}
use Rattle.rob_rules.specs.declared.size.Sizes.{Sizes}
use Rattle.rob_syntax.specs.declared.symbol.Symbol.{Symbol}
use Rattle.rob_syntax.specs.declared.syntax.Statement.{Statement}
use Rattle.rob_write.specs.Pages.{Written}
use Rattle.rob_rules.specs.Faults.{is_declared}
use Rattle.rob_round_trip.specs.Pages.{symbols_on}
use Rattle.rob_round_trip.specs.Readable.{AreStatements}
use Rattle.rob_rules.specs.Scopes.{Earlier, behind, declare, declared_by, is_goal}
use Rattle.rob_rules.specs.Sizes.{counted}
use Rattle.rob_syntax.specs.Statements.{IsStatement}
use Rattle.rob_syntax.specs.Symbols.{number_of}
use Rattle.rob_round_trip.proofs.Faultless.CanonicalScopes.{note, noted, AreFresh, Kept, kept_more, numbered}
use Rattle.rob_rules.specs.Stages.{behind_all}
use Rattle.rob_parse.proofs.Names.SortLemmas.{declare_kept}

-- ---- lines, statements, and what is known in front of each
module _ (words : List (List ℕ)) where
  module _ (P : Earlier → List Symbol → Statement → Type 0) where
    -- each line has the property, with its statement and what is known in front of it
    abbrev pub Walk : Earlier → List (List Written) → List Statement → Type 0
    Walk e [] [] = Unit {0}
    Walk e (l ∷ ls) (s ∷ list) = P e (symbols_on words l) s × Walk (behind e s) ls list
    Walk e _ _ = ⊥

    pub walk_append : (e : Earlier) (ls ms : List (List Written)) (a b : List Statement) → Walk e ls a
        → Walk (behind_all e a) ms b → Walk e (ls ++ ms) (a ++ b)
    walk_append e [] ms [] b h k = k
    walk_append e (l ∷ ls) ms (s ∷ a) b h k = (h.0, walk_append (behind e s) ls ms a b h.1 k)
    walk_append e [] ms (s ∷ a) b h k = absurd h
    walk_append e (l ∷ ls) ms [] b h k = absurd h

  pub walk_both : (P Q R : Earlier → List Symbol → Statement → Type 0)
      → ((e : Earlier) (symbols : List Symbol) (s : Statement) → P e symbols s → Q e symbols s → R e symbols s)
      → (e : Earlier) (ls : List (List Written)) (list : List Statement) → Walk P e ls list
      → Walk Q e ls list → Walk R e ls list
  walk_both P Q R f e [] [] h k = tt
  walk_both P Q R f e (l ∷ ls) (s ∷ list) h k =
      (f e (symbols_on words l) s h.0 k.0, walk_both P Q R f (behind e s) ls list h.1 k.1)
  walk_both P Q R f e [] (s ∷ list) h k = absurd h
  walk_both P Q R f e (l ∷ ls) [] h k = absurd h

  pub walk_pair : (P Q : Earlier → List Symbol → Statement → Type 0) (e : Earlier) (ls : List (List Written))
      (list : List Statement) → Walk P e ls list
      → Walk Q e ls list → Walk (λ e symbols s. P e symbols s × Q e symbols s) e ls list
  walk_pair P Q e ls list h k =
      walk_both P Q (λ e symbols s. P e symbols s × Q e symbols s) (λ e symbols s a b. (a, b)) e ls list h k

  -- the statements of lines
  pub walk_statements : (e : Earlier) (ls : List (List Written)) (list : List Statement) → AreStatements words ls list
      → Walk (λ e symbols s. IsStatement symbols s) e ls list
  walk_statements e [] [] h = tt
  walk_statements e (l ∷ ls) (s ∷ list) h = (h.0, walk_statements (behind e s) ls list h.1)
  walk_statements e [] (s ∷ list) h = absurd h
  walk_statements e (l ∷ ls) [] h = absurd h

  pub each_walk : (Q : Statement → Type 0) (e : Earlier) (ls : List (List Written)) (list : List Statement)
      → AreStatements words ls list → Each Q list
      → Walk (λ x symbols s. Q s) e ls list
  each_walk Q e [] [] are h = tt
  each_walk Q e (l ∷ ls) (s ∷ list) are h = (h.0, each_walk Q (behind e s) ls list are.1 h.1)
  each_walk Q e [] (s ∷ list) are h = absurd are
  each_walk Q e (l ∷ ls) [] are h = absurd are

  pub statements_apart : (ls ms : List (List Written)) (list : List Statement) → AreStatements words (ls ++ ms) list
      → (a : List Statement) × (b : List Statement) × (list ≡ a ++ b) × AreStatements words ls a
      × AreStatements words ms b
  statements_apart [] ms list h = ([], list, refl, tt, h)
  statements_apart (l ∷ ls) ms [] h = absurd h
  statements_apart (l ∷ ls) ms (s ∷ list) h =
      let r = statements_apart ls ms list h.1 in
      (s ∷ r.0, r.1, ap (λ (x : List Statement). s ∷ x) r.2, (h.0, r.3), r.4)

  -- ---- a declared name is new
  abbrev pub IsNewThere : Earlier → List Symbol → Statement → Type 0
  IsNewThere e symbols s = is_declared e.sorts (declared_by e.sizes s) ≡ false

  -- so a name keeps what it stands for
  pub end_kept : (e : Earlier) (ls : List (List Written)) (list : List Statement) → Walk IsNewThere e ls list
      → Kept e.sorts (behind_all e list).sorts
  end_kept e [] [] h = λ k x is. is
  end_kept e (l ∷ ls) (s ∷ list) h =
      λ k x is. end_kept (behind e s) ls list h.1 k x (declare_kept e.sorts (declared_by e.sizes s) k x h.0 is)
  end_kept e [] (s ∷ list) h = absurd h
  end_kept e (l ∷ ls) [] h = absurd h

  pub kept_to_end : (e : Earlier) (ls : List (List Written)) (list : List Statement) → Walk IsNewThere e ls list
      → Walk (λ x symbols s. Kept x.sorts (behind_all e list).sorts) e ls list
  kept_to_end e [] [] h = tt
  kept_to_end e (l ∷ ls) (s ∷ list) h = (end_kept e (l ∷ ls) (s ∷ list) h, kept_to_end (behind e s) ls list h.1)
  kept_to_end e [] (s ∷ list) h = absurd h
  kept_to_end e (l ∷ ls) [] h = absurd h

  -- what holds of each line of a kind where the names that were known in front of the first are still known
  pub walk_kind : {A : Type 0} (write : A → List Written) (Q : A → Type 0)
      (R : Earlier → List Symbol → Statement → Type 0) (sorts : List (Option Sort))
      → ((z : A) (s : Statement) (e : Earlier) → Q z → IsStatement (symbols_on words (write z)) s → Kept sorts e.sorts
      → R e (symbols_on words (write z)) s)
      → (zs : List A) (e : Earlier) (list : List Statement) → Kept sorts e.sorts → Each Q zs
      → AreStatements words (map write zs) list
      → Walk IsNewThere e (map write zs) list → Walk R e (map write zs) list
  walk_kind write Q R sorts to [] e [] kept q are new = tt
  walk_kind write Q R sorts to (z ∷ zs) e (s ∷ list) kept q are new = (
    to z s e q.0 are.0 kept,
    walk_kind write Q R sorts to zs (behind e s) list
        (kept_more sorts e.sorts (behind e s).sorts kept
        (λ k x is. declare_kept e.sorts (declared_by e.sizes s) k x new.0 is)) q.1 are.1 new.1,
  )
  walk_kind write Q R sorts to [] e (s ∷ list) kept q are new = absurd are
  walk_kind write Q R sorts to (z ∷ zs) e [] kept q are new = absurd are

  -- ---- the lines of a kind
  -- no line is a goal behind a goal
  abbrev pub IsFirstGoal : Earlier → List Symbol → Statement → Type 0
  IsFirstGoal e symbols s = (is_goal s && e.goal) ≡ false

  pub record Block (e : Earlier) (ls : List (List Written)) (list : List Statement)
      (sorts : List (Option Sort)) : Type 0 where
    pub new : Walk IsNewThere e ls list
    pub goals : Walk IsFirstGoal e ls list
    pub plain : Each (λ s. is_goal s ≡ false) list
    pub sorts_are : (behind_all e list).sorts ≡ sorts
    pub goal_is : (behind_all e list).goal ≡ e.goal

  -- lines that declare a name each
  module _ {A : Type 0} (name : A → List ℕ) (sort : ℕ → A → Sort) (write : A → List Written)
      (At : ℕ → Sizes → Type 0) (Q : A → Type 0)
      (declares : (z : A) (s : Statement) → Q z → IsStatement (symbols_on words (write z)) s
      → (k : ℕ) (n : Sizes) → At k n
      → (declared_by n s ≡ Some (number_of words (name z), sort k z)) × At (k + 1) (counted n s)
      × (is_goal s ≡ false)) where
    pub block : (zs : List A) (k : ℕ) (sorts : List (Option Sort)) (e : Earlier) (list : List Statement)
        → e.sorts ≡ sorts → At k e.sizes → Each Q zs
        → AreStatements words (map write zs) list → AreFresh sorts (numbered words name sort k zs)
        → Block e (map write zs) list (noted sorts (numbered words name sort k zs))
        × ((j : ℕ) × At j (behind_all e list).sizes)
    block [] k sorts e [] same at q are fresh =
        (record { new = tt; goals = tt; plain = tt; sorts_are = same; goal_is = refl }, (k, at))
    block [] k sorts e (s ∷ list) same at q are fresh = absurd are
    block (z ∷ zs) k sorts e [] same at q are fresh = absurd are
    block (z ∷ zs) k sorts e (s ∷ list) same at q are fresh =
        let d = declares z s q.0 are.0 k e.sizes at in
        let v : ℕ × Sort = (number_of words (name z), sort k z) in
        let after : (behind e s).sorts ≡ note sorts v = λ i. declare (same i) (d.0 i) in
        let rest = block zs (k + 1) (note sorts v) (behind e s) list after d.1 q.1 are.1 fresh.1 in (
          record {
            new = ((λ i. is_declared (same i) (d.0 i)) ∙ fresh.0.0, rest.0.new);
            goals = (ap (λ (b : Bool). b && e.goal) d.2, rest.0.goals);
            plain = (d.2, rest.0.plain);
            sorts_are = rest.0.sorts_are;
            goal_is = rest.0.goal_is ∙ ap (λ (b : Bool). if b then true else e.goal) d.2;
          },
          rest.1,
        )

  -- lines that declare no name
  module _ {A : Type 0} (write : A → List Written) (At : Sizes → Type 0) (Q : A → Type 0)
      (plain : (z : A) (s : Statement) → Q z → IsStatement (symbols_on words (write z)) s → (n : Sizes) → At n
      → (declared_by n s ≡ None) × At (counted n s) × (is_goal s ≡ false)) where
    pub plain_block : (zs : List A) (sorts : List (Option Sort)) (e : Earlier) (list : List Statement) → e.sorts ≡ sorts
        → At e.sizes → Each Q zs
        → AreStatements words (map write zs) list → Block e (map write zs) list sorts × At (behind_all e list).sizes
    plain_block [] sorts e [] same at q are =
        (record { new = tt; goals = tt; plain = tt; sorts_are = same; goal_is = refl }, at)
    plain_block [] sorts e (s ∷ list) same at q are = absurd are
    plain_block (z ∷ zs) sorts e [] same at q are = absurd are
    plain_block (z ∷ zs) sorts e (s ∷ list) same at q are =
        let d = plain z s q.0 are.0 e.sizes at in
        let after : (behind e s).sorts ≡ sorts = λ i. declare (same i) (d.0 i) in
        let rest = plain_block zs sorts (behind e s) list after d.1 q.1 are.1 in (
          record {
            new = (ap (is_declared e.sorts) d.0, rest.0.new);
            goals = (ap (λ (b : Bool). b && e.goal) d.2, rest.0.goals);
            plain = (d.2, rest.0.plain);
            sorts_are = rest.0.sorts_are;
            goal_is = rest.0.goal_is ∙ ap (λ (b : Bool). if b then true else e.goal) d.2;
          },
          rest.1,
        )
