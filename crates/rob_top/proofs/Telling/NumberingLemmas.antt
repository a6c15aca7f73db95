-- The numbers of named variables: what is known of a list of names that was
-- read up to some name, and that there is one list of numbers.
use Rattle.std.proofs.Common.{◌≡◌, ◌≢◌, ℕ, suc, ◌<◌, ◌≤◌, List, [], ◌∷◌, ◌++◌, map, length, Option, Some, None, IfSome, refl, sym, ◌∙◌, ap, subst, inl, inr, arith, append_assoc}
use Rattle.std.proofs.lemmas.List.{append-nil, append_cancel_left, map-append}
use Rattle.std.proofs.lemmas.Option.{get_or_from_slice_get, slice_get-get_or}
use Rattle.std.specs.Prelude.{option_map, slice_get}
use Rattle.rob_cert.proofs.Readers.CoverLemmas.{one_number}
use Rattle.rob_cert.specs.Spelling.{name_at}
use Rattle.rob_meaning.proofs.Lists.DistinctLemmas.{Apart, distinct_apart, distinct_append}
use Rattle.rob_meaning.proofs.Lists.EachLemmas.{each_append, each_map, each_right}
use Rattle.rob_meaning.proofs.Naming.NameLemmas.{length-column_names}
use Rattle.rob_meaning.proofs.Tables.TauLemmas.{column_grows}
use Rattle.rob_meaning.specs.Named.{AreDistinct, IsNamed}
use Rattle.rob_meaning.specs.Names.{Name, column_names}
use Rattle.rob_meaning.specs.Places.{Each}
use Rattle.rob_meaning.specs.RobustModel.{RobustModel, column_count}
use Rattle.rob_meaning.specs.WellFormed.{IsModel}
use Rattle.rob_model.proofs.OwnNames.{columns_distinct}
use Rattle.rob_model.specs.Naming.{FindsOwn}
use Rattle.rob_reach.specs.Ranges.{KeepsNames}
use Rattle.rob_reach.specs.Trees.{IsIn}
use Rattle.rob_top.specs.Inputs.{AreVariables}
use Rattle.rob_words.specs.Names.{parts_behind, parts_of}
use Rattle.rob_meaning.proofs.Naming.JoinedLemmas.{head_same, tail_same}

-- how many bytes are left of a list of names, and one more where a name is left
abbrev pub left : Option (List ℕ) → ℕ
left None = 0
left (Some word) = suc (length word)

-- less is left behind the first part
pub left_less : (o behind : Option (List ℕ)) (word : List ℕ) → o ≡ Some word
    → IfSome behind (λ rest. length rest < length word)
    → left behind < left o
left_less o None word is h = subst (λ (x : Option (List ℕ)). 0 < left x) (sym is) (omega arith)
left_less o (Some rest) word is h =
    subst (λ (x : Option (List ℕ)). suc (length rest) < left x) (sym is) (omega (arith, h))

-- what holds of the bytes of what is there holds of what they are
pub some_mapped : {A : Type 0} (f : A → List ℕ) (P : List ℕ → Type 0) (o : Option A) → IfSome o (λ a. P (f a))
    → IfSome (option_map f o) P
some_mapped f P None h = tt
some_mapped f P (Some a) h = h

one_some : {A : Type 0} (a b : A) → Some a ≡ Some b → a ≡ b
one_some a b e = cc

module _ (m : RobustModel) where
  abbrev name_of : ℕ → Name
  name_of k = name_at (column_names m) k

  column_in : (k : ℕ) → k < length m.variables → k < length (column_names m)
  column_in k h =
      let grows : length m.variables ≤ column_count m = column_grows (length m.variables) m.adaptives in
      subst (λ n. k < n) (sym (length-column_names m)) (omega arith)

  -- ---- one name
  -- the variable of a name, and no other
  pub record IsVariable (name : Name) (j : ℕ) : Type 0 where
    pub inside : j < length m.variables
    pub named : name_of j ≡ name
    pub alone : (k : ℕ) → k < length m.variables → name_of k ≡ name → k ≡ j

  pub variable_is : (name : Name) (j : ℕ)
      → (j < length m.variables) × (name_of j ≡ name)
      × ((k : ℕ) → k < length m.variables → name_of k ≡ name → k ≡ j) → IsVariable name j
  variable_is name j h = record { inside = h.0; named = h.1; alone = h.2 }

  -- ---- what is found of a name
  module _ (name : Name) where
    is_found : (found : Option ℕ) → FindsOwn (column_names m) name found → (k : ℕ) → k < length m.variables
        → name_of k ≡ name → found ≡ Some k
    is_found found own k h e = own k (slice_get-get_or (column_names m) k [] (column_in k h) ∙ ap Some e)

    -- no number
    pub none_found : FindsOwn (column_names m) name None → (k : ℕ) → k < length m.variables → name_of k ≡ name → ⊥
    none_found own k h e = let no : None ≡ Some k = is_found None own k h e in cc

    -- that of a column behind the variables
    pub other_found : (j : ℕ) → FindsOwn (column_names m) name (Some j) → length m.variables ≤ j → (k : ℕ)
        → k < length m.variables → name_of k ≡ name → ⊥
    other_found j own behind k h e =
        let same : j ≡ k = one_some j k (is_found (Some j) own k h e) in absurd (omega (arith, same, behind, h))

    -- a variable's
    pub variable_found : (j : ℕ) → FindsOwn (column_names m) name (Some j)
        → slice_get (column_names m) j ≡ Some name → j < length m.variables
        → (j < length m.variables) × (name_of j ≡ name)
        × ((k : ℕ) → k < length m.variables → name_of k ≡ name → k ≡ j)
    variable_found j own named inside = (
      inside,
      get_or_from_slice_get (column_names m) j name [] named,
      λ k h e. sym (one_some j k (is_found (Some j) own k h e)),
    )

  -- ---- names one by one

  -- a list of names was read up to `rest`, and these are the numbers of those
  -- before it; each numbering of all begins with them
  pub record HasRead (all : List Name) (numbers : List ℕ) (rest : List Name) : Type 0 where
    pub named : map name_of numbers ++ rest ≡ all
    pub kept : KeepsNames m numbers
    pub begins : (ns : List ℕ) → AreVariables m all ns → (more : List ℕ) × (ns ≡ numbers ++ more)

  pub read_nothing : (all : List Name) → HasRead all [] all
  read_nothing all = record { named = refl; kept = record { inside = tt; distinct = tt }; begins = λ ns h. (ns, refl) }

  module _ (all : List Name) (numbers : List ℕ) (rest : List Name) (read : HasRead all numbers rest) (ns : List ℕ)
      (are : AreVariables m all ns) where
    abbrev more : List ℕ
    more = (read.begins ns are).0

    is_more : ns ≡ numbers ++ more
    is_more = (read.begins ns are).1

    named_more : map name_of more ≡ rest
    named_more =
        append_cancel_left (map name_of numbers) (map name_of more) rest
        (sym (map-append name_of numbers more) ∙ ap (map name_of) (sym is_more) ∙ are.named ∙ sym read.named)

    inside_more : Each (λ j. j < length m.variables) more
    inside_more =
        each_right (λ j. j < length m.variables) numbers more
        (subst (λ list. Each (λ j. j < length m.variables) list) is_more are.kept.inside)

    apart_more : Apart numbers more
    apart_more = distinct_apart numbers more (subst (λ list. AreDistinct list) is_more are.kept.distinct)

  -- the next of them is the number of the next name
  next_number : (all : List Name) (numbers : List ℕ) (name : Name) (rest : List Name) (ns : List ℕ)
      → HasRead all numbers (name ∷ rest)
      → AreVariables m all ns → (k : ℕ) × (more : List ℕ) × (ns ≡ numbers ++ k ∷ more)
      × (k < length m.variables) × (name_of k ≡ name)
      × Each (λ j. j ≢ k) numbers
  next_number all numbers name rest ns read are =
      by (more all numbers (name ∷ rest) read ns are) (is_more all numbers (name ∷ rest) read ns are)
      (named_more all numbers (name ∷ rest) read ns are) (inside_more all numbers (name ∷ rest) read ns are)
      (apart_more all numbers (name ∷ rest) read ns are)
    where
      by : (list : List ℕ) → ns ≡ numbers ++ list → map name_of list ≡ name ∷ rest
          → Each (λ j. j < length m.variables) list
          → Apart numbers list → (k : ℕ) × (more : List ℕ) × (ns ≡ numbers ++ k ∷ more) × (k < length m.variables)
          × (name_of k ≡ name) × Each (λ j. j ≢ k) numbers
      by [] is named inside apart = absurd (let no : [] ≡ name ∷ rest = named in cc)
      by (k ∷ list) is named inside apart = (
        k,
        list,
        is,
        inside.0,
        head_same (name_of k) name (map name_of list) rest named,
        each_map (λ j. Each (λ y. j ≢ y) (k ∷ list)) (λ j. j ≢ k) (λ j h. h.0) numbers apart,
      )

  -- the next part of the list's text is the next name
  pub at_part : (all : List Name) (numbers : List ℕ) (o : Option (List ℕ)) (word name : List ℕ)
      (behind : Option (List ℕ))
      → HasRead all numbers (parts_behind o) → o ≡ Some word → parts_of word ≡ name ∷ parts_behind behind
      → HasRead all numbers (name ∷ parts_behind behind)
  at_part all numbers o word name behind read is parts =
      subst (λ (rest : List Name). HasRead all numbers rest) (ap parts_behind is ∙ parts) read

  -- no part is left
  pub at_end : (all : List Name) (numbers : List ℕ) (o : Option (List ℕ))
      → HasRead all numbers (parts_behind o) → o ≡ None
      → HasRead all numbers []
  at_end all numbers o read is = subst (λ (rest : List Name). HasRead all numbers rest) (ap parts_behind is) read

  -- a name that is no variable's
  pub read_no_variable : (all : List Name) (numbers : List ℕ) (name : Name) (rest : List Name)
      → HasRead all numbers (name ∷ rest)
      → ((k : ℕ) → k < length m.variables → name_of k ≡ name → ⊥) → (ns : List ℕ) → AreVariables m all ns → ⊥
  read_no_variable all numbers name rest read none ns are =
      let next = next_number all numbers name rest ns read are in none next.0 next.3 next.4

  not_among : (numbers : List ℕ) (j k : ℕ) → k ≡ j → IsIn j numbers → Each (λ i. i ≢ k) numbers → ⊥
  not_among [] j k e here apart = here
  not_among (i ∷ numbers) j k e (inl is) apart = apart.0 (sym is ∙ sym e)
  not_among (i ∷ numbers) j k e (inr here) apart = not_among numbers j k e here apart.1

  -- a name that stands twice
  pub read_twice : (all : List Name) (numbers : List ℕ) (name : Name) (rest : List Name) (j : ℕ)
      → HasRead all numbers (name ∷ rest)
      → IsVariable name j → IsIn j numbers → (ns : List ℕ) → AreVariables m all ns → ⊥
  read_twice all numbers name rest j read is here ns are =
      let next = next_number all numbers name rest ns read are in
      not_among numbers j next.0 (is.alone next.0 next.3 next.4) here next.5

  apart_one : (numbers : List ℕ) (j : ℕ) → (IsIn j numbers → ⊥) → Apart numbers (j ∷ [])
  apart_one [] j out = tt
  apart_one (i ∷ numbers) j out = ((λ e. out (inl (sym e)), tt), apart_one numbers j (λ h. out (inr h)))

  -- one name more
  pub read_more : (all : List Name) (numbers : List ℕ) (name : Name) (rest : List Name) (j : ℕ)
      → HasRead all numbers (name ∷ rest)
      → IsVariable name j → (IsIn j numbers → ⊥) → HasRead all (numbers ++ j ∷ []) rest
  read_more all numbers name rest j read is out = record {
    named =
        ap (λ list. list ++ rest) (map-append name_of numbers (j ∷ []))
        ∙ append_assoc (map name_of numbers) (name_of j ∷ []) rest
        ∙ ap (λ (n : Name). map name_of numbers ++ n ∷ rest) is.named ∙ read.named;
    kept = record {
      inside = each_append (λ i. i < length m.variables) numbers (j ∷ []) read.kept.inside (is.inside, tt);
      distinct = distinct_append numbers (j ∷ []) read.kept.distinct (tt, tt) (apart_one numbers j out);
    };
    begins = λ ns are.
        let next = next_number all numbers name rest ns read are in (
          next.1,
          next.2 ∙ ap (λ k. numbers ++ k ∷ next.1) (is.alone next.0 next.3 next.4)
              ∙ sym (append_assoc numbers (j ∷ []) next.1),
        );
  }

  -- no name is left
  pub read_all : (all : List Name) (numbers : List ℕ) → HasRead all numbers [] → AreVariables m all numbers
  read_all all numbers read = record { named = sym (append-nil (map name_of numbers)) ∙ read.named; kept = read.kept }

  -- ---- names have one list of numbers
  module _ (model : IsModel m) (is_named : IsNamed m) where
    same_numbers : (a b : List ℕ) → map name_of a ≡ map name_of b → Each (λ j. j < length m.variables) a
        → Each (λ j. j < length m.variables) b → a ≡ b
    same_numbers [] [] e h k = refl
    same_numbers [] (j ∷ b) e h k = absurd (let no : [] ≡ name_of j ∷ map name_of b = e in cc)
    same_numbers (i ∷ a) [] e h k = absurd (let no : name_of i ∷ map name_of a ≡ [] = e in cc)
    same_numbers (i ∷ a) (j ∷ b) e h k =
        let one : i ≡ j =
        one_number (column_names m) i j (columns_distinct m model is_named) (column_in i h.0) (column_in j k.0)
        (head_same (name_of i) (name_of j) (map name_of a) (map name_of b) e)
        in
        let more : a ≡ b =
        same_numbers a b (tail_same (name_of i) (name_of j) (map name_of a) (map name_of b) e) h.1 k.1 in
        ap (λ n. n ∷ a) one ∙ ap (λ list. j ∷ list) more

    pub one_numbering : (names : List Name) (a b : List ℕ) → AreVariables m names a → AreVariables m names b → a ≡ b
    one_numbering names a b h k = same_numbers a b (h.named ∙ sym k.named) h.kept.inside k.kept.inside
