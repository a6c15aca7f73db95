-- Lines read in one way, or break one rule at one line, where each line is at most one statement.
use Rattle.std.proofs.Common.{◌≡◌, ℕ, suc, Bool, true, false, List, [], ◌∷◌, ◌++◌, length, ◌⊎◌, inl, inr, Option, Some, None, refl, sym, ap, ◌∙◌, subst}
use Rattle.rob_index.specs.Symbols.{Symbol}
use Rattle.rob_index.specs.Statements.{Name, Statement, Tree, Indexed}
use Rattle.rob_index.specs.Expansion.{expand}
use Rattle.rob_index.specs.Reading.{LineFault, not_a_statement, no_objective, State, first_fault, behind, Follows, BreaksLine, BreaksAt, ReadsLines, BreaksLines}

module _ (limit : ℕ) (words : List Name) (Known Later : Type 0) (order : List Later)
    (has_later : (before now : Known) → Statement → Later → Bool) (step : Known → Statement → Known)
    (is_declared : Known → ℕ → Bool)
    (Is : List Symbol → Indexed Tree → Type 0)
    (one : (symbols : List Symbol) (s t : Indexed Tree) → Is symbols s → Is symbols t → s ≡ t)
    (settled : (symbols : List Symbol)
    → ((s : Indexed Tree) × Is symbols s) ⊎ ((s : Indexed Tree) → Is symbols s → ⊥)) where
  abbrev St : Type 0
  St = State limit words Known Later order has_later step is_declared Is

  abbrev first : St → Indexed Tree → Option (LineFault Later)
  first = first_fault limit words Known Later order has_later step is_declared Is

  abbrev after : St → Indexed Tree → St
  after = behind limit words Known Later order has_later step is_declared Is

  abbrev Reading : St → List (List Symbol) → List Statement → St → Type 0
  Reading = Follows limit words Known Later order has_later step is_declared Is

  abbrev Bad : St → List Symbol → LineFault Later → Type 0
  Bad = BreaksLine limit words Known Later order has_later step is_declared Is

  abbrev At : St → List (List Symbol) → LineFault Later → ℕ → Type 0
  At = BreaksAt limit words Known Later order has_later step is_declared Is

  -- ---- some reading, or some bad line
  abbrev Either : St → List (List Symbol) → Type 0
  Either e lines = ((list : List Statement) × (f : St) × Reading e lines list f)
      ⊎ ((fault : LineFault Later) × (n : ℕ) × At e lines fault n)

  with_line : (e : St) (x : Symbol) (xs : List Symbol) (lines : List (List Symbol)) → ((e : St) → Either e lines)
      → Either e ((x ∷ xs) ∷ lines)
  with_line e x xs lines rest = judged (settled (x ∷ xs))
    where
      behind_it : (s : Indexed Tree) → Is (x ∷ xs) s → first e s ≡ None → Either (after e s) lines
          → Either e ((x ∷ xs) ∷ lines)
      behind_it s is none (inl r) = inl (expand words s ++ r.0, r.1, (s, r.0, is, none, refl, r.2))
      behind_it s is none (inr b) = inr (b.0, suc b.1, inr (s, b.1, is, none, refl, b.2))

      of_statement : (s : Indexed Tree) → Is (x ∷ xs) s → (o : Option (LineFault Later)) → first e s ≡ o
          → Either e ((x ∷ xs) ∷ lines)
      of_statement s is None h = behind_it s is h (rest (after e s))
      of_statement s is (Some fault) h = inr (fault, 1, inl (inr (s, is, h), refl))

      judged : ((s : Indexed Tree) × Is (x ∷ xs) s) ⊎ ((s : Indexed Tree) → Is (x ∷ xs) s → ⊥)
          → Either e ((x ∷ xs) ∷ lines)
      judged (inl p) = of_statement p.0 p.1 (first e p.0) refl
      judged (inr none) = inr (not_a_statement, 1, inl (inl (refl, none), refl))

  empty_line : (e : St) (lines : List (List Symbol)) → Either e lines → Either e ([] ∷ lines)
  empty_line e lines (inl r) = inl r
  empty_line e lines (inr b) = inr (b.0, suc b.1, (b.1, refl, b.2))

  pub lines_settled : (lines : List (List Symbol)) (e : St) → Either e lines
  lines_settled [] e = inl ([], e, (refl, refl))
  lines_settled ([] ∷ lines) e = empty_line e lines (lines_settled lines e)
  lines_settled ((x ∷ xs) ∷ lines) e = with_line e x xs lines (λ e. lines_settled lines e)

  -- ---- one reading
  pub follows_one : (lines : List (List Symbol)) (e : St) (list : List Statement) (f : St) (list' : List Statement)
      (f' : St) → Reading e lines list f → Reading e lines list' f' → (list ≡ list') × (f ≡ f')
  follows_one [] e list f list' f' x y = (x.0 ∙ sym y.0, sym x.1 ∙ y.1)
  follows_one ([] ∷ lines) e list f list' f' x y = follows_one lines e list f list' f' x y
  follows_one ((a ∷ as') ∷ lines) e list f list' f' x y =
      let same : x.0 ≡ y.0 = one (a ∷ as') x.0 y.0 x.2 y.2 in
      let r = follows_one lines (after e x.0) x.1 f y.1 f' x.5
      (subst (λ (s : Indexed Tree). Reading (after e s) lines y.1 f') (sym same) y.5) in
      (x.4 ∙ (λ i. expand words (same i) ++ r.0 i) ∙ sym y.4, r.1)

  -- ---- one bad line
  bad_one : (e : St) (symbols : List Symbol) (fault fault' : LineFault Later) → Bad e symbols fault
      → Bad e symbols fault' → fault ≡ fault'
  bad_one e symbols fault fault' (inl x) (inl y) = x.0 ∙ sym y.0
  bad_one e symbols fault fault' (inl x) (inr y) = absurd (x.1 y.0 y.1)
  bad_one e symbols fault fault' (inr x) (inl y) = absurd (y.1 x.0 x.1)
  bad_one e symbols fault fault' (inr x) (inr y) =
      let same : x.0 ≡ y.0 = one symbols x.0 y.0 x.1 y.1 in
      let h : Some fault ≡ Some fault' = sym x.2 ∙ ap (first e) same ∙ y.2 in
      cc

  -- a bad line is no statement without a fault
  bad_no_good : (e : St) (symbols : List Symbol) (fault : LineFault Later) (s : Indexed Tree) → Bad e symbols fault
      → Is symbols s → first e s ≡ None → ⊥
  bad_no_good e symbols fault s (inl x) is none = x.1 s is
  bad_no_good e symbols fault s (inr x) is none =
      let same : x.0 ≡ s = one symbols x.0 s x.1 is in
      let h : Some fault ≡ None = sym x.2 ∙ ap (first e) same ∙ none in
      cc

  pub at_one : (lines : List (List Symbol)) (e : St) (fault fault' : LineFault Later) (n n' : ℕ) → At e lines fault n
      → At e lines fault' n' → (fault ≡ fault') × (n ≡ n')
  at_one [] e fault fault' n n' x y = absurd x
  at_one ([] ∷ lines) e fault fault' n n' x y =
      let r = at_one lines e fault fault' x.0 y.0 x.2 y.2 in (r.0, x.1 ∙ ap suc r.1 ∙ sym y.1)
  at_one ((a ∷ as') ∷ lines) e fault fault' n n' x y =
      go x y (λ e fault fault' m m' x y. at_one lines e fault fault' m m' x y)
    where
      abbrev_same : Type 0
      abbrev_same = (fault ≡ fault') × (n ≡ n')

      go : At e ((a ∷ as') ∷ lines) fault n → At e ((a ∷ as') ∷ lines) fault' n'
          → ((e : St) (fault fault' : LineFault Later) (m m' : ℕ) → At e lines fault m → At e lines fault' m'
          → (fault ≡ fault') × (m ≡ m'))
          → (fault ≡ fault') × (n ≡ n')
      go (inl x) (inl y) rest = (bad_one e (a ∷ as') fault fault' x.0 y.0, x.1 ∙ sym y.1)
      go (inl x) (inr y) rest = absurd (bad_no_good e (a ∷ as') fault y.0 x.0 y.2 y.3)
      go (inr x) (inl y) rest = absurd (bad_no_good e (a ∷ as') fault' x.0 y.0 x.2 x.3)
      go (inr x) (inr y) rest =
          let same : x.0 ≡ y.0 = one (a ∷ as') x.0 y.0 x.2 y.2 in
          let r = rest (after e x.0) fault fault' x.1 y.1 x.5
          (subst (λ (s : Indexed Tree). At (after e s) lines fault' y.1) (sym same) y.5) in
          (r.0, x.4 ∙ ap suc r.1 ∙ sym y.4)

  pub not_both : (lines : List (List Symbol)) (e : St) (list : List Statement) (f : St) (fault : LineFault Later)
      (n : ℕ) → Reading e lines list f → At e lines fault n → ⊥
  not_both [] e list f fault n x y = y
  not_both ([] ∷ lines) e list f fault n x y = not_both lines e list f fault y.0 x y.2
  not_both ((a ∷ as') ∷ lines) e list f fault n x y = go y (λ e list f m x y. not_both lines e list f fault m x y)
    where
      go : At e ((a ∷ as') ∷ lines) fault n
          → ((e : St) (list : List Statement) (f : St) (m : ℕ) → Reading e lines list f → At e lines fault m → ⊥) → ⊥
      go (inl y) rest = bad_no_good e (a ∷ as') fault x.0 y.0 x.2 x.3
      go (inr y) rest =
          let same : y.0 ≡ x.0 = one (a ∷ as') y.0 x.0 y.2 x.2 in
          rest (after e x.0) x.1 f y.1 x.5 (subst (λ (s : Indexed Tree). At (after e s) lines fault y.1) same y.5)

  -- ---- the whole
  module _ (has_goal : Known → Bool) where
    abbrev ReadsAll : St → List (List Symbol) → List Statement → St → Type 0
    ReadsAll = ReadsLines limit words Known Later order has_later step is_declared Is has_goal

    abbrev BreaksAll : St → List (List Symbol) → LineFault Later → ℕ → Type 0
    BreaksAll = BreaksLines limit words Known Later order has_later step is_declared Is has_goal

    pub some : (e : St) (lines : List (List Symbol))
        → ((list : List Statement) × (last : St) × ReadsAll e lines list last)
        ⊎ ((fault : LineFault Later) × (n : ℕ) × BreaksAll e lines fault n)
    some e lines = go (lines_settled lines e)
      where
        ended : (list : List Statement) (f : St) → Reading e lines list f → (b : Bool) → has_goal f.known ≡ b
            → ((list : List Statement) × (last : St) × ReadsAll e lines list last)
            ⊎ ((fault : LineFault Later) × (n : ℕ) × BreaksAll e lines fault n)
        ended list f r true h = inl (list, f, record { follows = r; goal = h })
        ended list f r false h =
            inr (
              no_objective,
              length lines,
              inr (record { list = list; last = f; follows = r; no_goal = h; fault_is = refl; number_is = refl }),
            )

        go : Either e lines → ((list : List Statement) × (last : St) × ReadsAll e lines list last)
            ⊎ ((fault : LineFault Later) × (n : ℕ) × BreaksAll e lines fault n)
        go (inl r) = ended r.0 r.1 r.2 (has_goal r.1.known) refl
        go (inr b) = inr (b.0, b.1, inl b.2)

    pub one_reading : (e : St) (lines : List (List Symbol)) (list : List Statement) (f : St) (list' : List Statement)
        (f' : St) → ReadsAll e lines list f → ReadsAll e lines list' f' → (list ≡ list') × (f ≡ f')
    one_reading e lines list f list' f' x y = follows_one lines e list f list' f' x.follows y.follows

    pub one_fault : (e : St) (lines : List (List Symbol)) (fault fault' : LineFault Later) (n n' : ℕ)
        → BreaksAll e lines fault n → BreaksAll e lines fault' n' → (fault ≡ fault') × (n ≡ n')
    one_fault e lines fault fault' n n' (inl x) (inl y) = at_one lines e fault fault' n n' x y
    one_fault e lines fault fault' n n' (inl x) (inr y) = absurd (not_both lines e y.list y.last fault n y.follows x)
    one_fault e lines fault fault' n n' (inr x) (inl y) = absurd (not_both lines e x.list x.last fault' n' x.follows y)
    one_fault e lines fault fault' n n' (inr x) (inr y) = (x.fault_is ∙ sym y.fault_is, sym x.number_is ∙ y.number_is)

    pub never_both : (e : St) (lines : List (List Symbol)) (list : List Statement) (f : St) (fault : LineFault Later)
        (n : ℕ) → ReadsAll e lines list f → BreaksAll e lines fault n → ⊥
    never_both e lines list f fault n x (inl y) = not_both lines e list f fault n x.follows y
    never_both e lines list f fault n x (inr y) =
        let both = follows_one lines e list f y.list y.last x.follows y.follows in
        let h : true ≡ false = sym x.goal ∙ ap (λ (k : St). has_goal k.known) both.1 ∙ y.no_goal in
        cc
