-- The cuts that a word spells, read from the left; and that it spells one list of cuts.
use Rattle.std.proofs.Common.{pos, ◌≡◌, ◌≤◌, ◌<◌, ◌==◌, ◌+◌, ◌∙◌, ℕ, List, [], ◌∷◌, ◌++◌, length, map, Option, None, Some, Bool, true, false, inl, inr, refl, sym, ap, subst, arith}
use Rattle.std.proofs.lemmas.Bool.{cases_Bool}
use Rattle.std.proofs.lemmas.List.{length-map}
use Rattle.std.proofs.lemmas.Option.{get_or_from_slice_get, slice_get_within}
use Rattle.std.specs.Prelude.{slice_get}
use Rattle.rob_algebra.specs.Fraction.{of_pair}
use Rattle.rob_cert.proofs.Readers.CoverLemmas.{one_number}
use Rattle.rob_cert.specs.Spelling.{name_at}
use Rattle.rob_meaning.specs.Named.{IsNamed, parameter_names}
use Rattle.rob_meaning.specs.RobustModel.{Parameter, RobustModel}
use Rattle.rob_meaning.specs.Values.{signed}
use Rattle.rob_meaning.specs.WellFormed.{IsModel}
use Rattle.rob_model.proofs.OwnNames.{parameters_distinct}
use Rattle.rob_model.specs.Naming.{Finds}
use Rattle.rob_pieces.specs.Cuts.{AreCuts, Cut}
use Rattle.rob_top.proofs.Telling.ToldLemmas as lists
use Rattle.rob_top.specs.Split.{AreCutsAt, IsCutAt}
use Rattle.rob_words.specs.Cuts.{IsCut, IsCutList, SpellsCut, cut_level, cut_name, has_sign, unsigned}
use Rattle.rob_words.specs.Limits.{numerator_of}
use Rattle.rob_words.specs.Names.{in_front, is_comma, parts_behind, parts_of}
use Rattle.rob_words.specs.Values.{Word}
use Rattle.rob_words.specs.declared.cuts.CutWord.{CutWord}

-- a word has a part
in_front_some : (byte : ℕ) (parts : List Word) → 0 < length (in_front byte parts)
in_front_some byte [] = omega arith
in_front_some byte (part ∷ parts) = omega arith

pub some_part : (word : Word) → 0 < length (parts_of word)
some_part [] = omega arith
some_part (byte ∷ bytes) =
    elim (cases_Bool (is_comma byte)) as (λ _. 0 < length (parts_of (byte ∷ bytes))) [
      | inl is ↦ rw is (omega arith)
      | inr other ↦ rw other (in_front_some byte (parts_of bytes))
    ]

module _ (m : RobustModel) where
  -- ---- one list of cuts
  module _ (model : IsModel m) (named : IsNamed m) where
    names_in : (k : ℕ) → k < length m.parameters → k < length (parameter_names m)
    names_in k inside = subst (λ n. k < n) (sym (length-map m.parameters (λ (p : Parameter). p.name))) inside

    cut_once : (word : Word) (a b : Cut) → IsCutAt m word a → IsCutAt m word b → a ≡ b
    cut_once word a b h k =
        let number : a.parameter ≡ b.parameter =
        one_number (parameter_names m) a.parameter b.parameter (parameters_distinct m model named)
        (names_in a.parameter h.inside)
        (names_in b.parameter k.inside) (h.named ∙ sym k.named)
        in
        let level : a.level ≡ b.level = h.level ∙ sym k.level in
        (λ i. record { parameter = number i; level = level i })

    pub cuts_at_once : (list : List Word) (a b : List Cut) → AreCutsAt m list a → AreCutsAt m list b → a ≡ b
    cuts_at_once [] [] [] h k = refl
    cuts_at_once [] [] (d ∷ b) h k = absurd k
    cuts_at_once [] (c ∷ a) b h k = absurd h
    cuts_at_once (word ∷ list) [] b h k = absurd h
    cuts_at_once (word ∷ list) (c ∷ a) [] h k = absurd k
    cuts_at_once (word ∷ list) (c ∷ a) (d ∷ b) h k =
        ap (λ x. x ∷ a) (cut_once word c d h.0 k.0) ∙ ap (λ xs. d ∷ xs) (cuts_at_once list a b h.1 k.1)

  -- each is at a parameter
  pub cuts_inside : (list : List Word) (cuts : List Cut) → AreCutsAt m list cuts → AreCuts m cuts
  cuts_inside list [] h = tt
  cuts_inside [] (c ∷ cuts) h = absurd h
  cuts_inside (word ∷ list) (c ∷ cuts) h = (h.0.inside, cuts_inside list cuts h.1)

  -- ---- the cut of a word
  pub cut_told : (word : Word) (told : CutWord) (name : Word) (k : ℕ) (cut : Cut)
      → SpellsCut word told → name ≡ told.name.now
      → Finds (parameter_names m) name (Some k) → cut.parameter ≡ k
      → cut.level ≡ signed told.negative (of_pair (pos told.numerator) told.denominator) → IsCutAt m word cut
  cut_told word told name k cut spells name_is finds number level =
      let level_word : Word = cut_level word in
      let there : slice_get (parameter_names m) k ≡ Some (cut_name word) = finds.0 ∙ ap Some (name_is ∙ spells.name) in
      let inside : k < length (parameter_names m) = slice_get_within (parameter_names m) k (cut_name word) there in
      record {
        inside =
            subst (λ n. cut.parameter < n) (length-map m.parameters (λ (p : Parameter). p.name))
            (subst (λ n. n < length (parameter_names m)) (sym number) inside);
        named =
            ap (λ n. name_at (parameter_names m) n) number
            ∙ get_or_from_slice_get (parameter_names m) k (cut_name word) [] there;
        level =
            level
            ∙ ap (λ (b : Bool). signed b (of_pair (pos told.numerator) told.denominator)) spells.sign
            ∙ ap (λ (n : ℕ). signed (has_sign level_word) (of_pair (pos n) told.denominator)) spells.numerator
            ∙ ap (λ (d : ℕ). signed (has_sign level_word) (of_pair (pos (numerator_of (unsigned level_word))) d))
            spells.denominator;
      }

  -- ---- cuts one by one: of all words those in front of the rest spell these
  -- cuts, 3 at most; the rest are cuts, where all are
  abbrev pub HasTold : ℕ → List Word → List Cut → List Word → Type 0
  HasTold greatest all cuts rest = lists.HasTold (IsCut greatest) (AreCutsAt m) 3 all cuts rest

  module _ (greatest : ℕ) (all : List Word) (cuts : List Cut) where
    pub told_part : (o : Option Word) (word first : Word) (behind : Option Word)
        → HasTold greatest all cuts (parts_behind o)
        → o ≡ Some word → parts_of word ≡ first ∷ parts_behind behind
        → HasTold greatest all cuts (first ∷ parts_behind behind)
    told_part = lists.told_part (IsCut greatest) (AreCutsAt m) 3 all cuts

    -- none is left
    pub told_all : (o : Option Word) → HasTold greatest all cuts (parts_behind o) → o ≡ None → 0 < length all
        → AreCutsAt m all cuts × ((0 < length cuts) × (length cuts ≤ 3))
    told_all o read is some =
        let end = lists.told_end (IsCut greatest) (AreCutsAt m) 3 all cuts o read is in (
          lists.told_all (IsCut greatest) (AreCutsAt m) 3 all cuts end tt,
          (
            (let counted : length cuts + 0 ≡ length all = end.counted in omega (arith, counted, some)),
            end.few,
          ),
        )

    module _ (first : Word) (rest : List Word) (read : HasTold greatest all cuts (first ∷ rest)) where
      pub told_more : (cut : Cut) → IsCutAt m first cut → (length cuts ≡ 3 → ⊥)
          → HasTold greatest all (cuts ++ cut ∷ []) rest
      told_more cut is more =
          lists.told_more (IsCut greatest) (AreCutsAt m) 3 all cuts first rest read cut
          (λ behind h. (is, h)) behind more
        where
          behind : (list : List Cut) → AreCutsAt m (first ∷ rest) list → (more : List Cut) × AreCutsAt m rest more
          behind [] h = absurd h
          behind (c ∷ list) h = (list, h.1)

      -- the next word is the cut of no parameter
      pub no_cut : (word : Word) → all ≡ parts_of word → (IsCut greatest first → (cut : Cut) → IsCutAt m first cut → ⊥)
          → IsCutList greatest word → (list : List Cut) → AreCutsAt m all list → ⊥
      no_cut word is none words list h =
          let left = read.has list h in
          by left.0 left.1 (lists.next_part (IsCut greatest) (AreCutsAt m) 3 all cuts first rest read word is words)
        where
          by : (more : List Cut) → AreCutsAt m (first ∷ rest) more → IsCut greatest first → ⊥
          by [] h cut = h
          by (c ∷ more) h cut = none cut c h.0

-- ---- what was found of a word of cuts
pub not_three_told : {A B : Type 0} (f : A → B) (xs ys : List A) → xs ≡ ys → (length xs ≡ 3 → ⊥)
    → length (map f ys) ≡ 3 → ⊥
not_three_told f = lists.told_unfilled f 3

pub told_count : {A B : Type 0} (f : A → B) (xs : List A) → (0 < length (map f xs)) × (length (map f xs) ≤ 3)
    → (0 < length xs) × (length xs ≤ 3)
told_count f xs h = subst (λ n. (0 < n) × (n ≤ 3)) (length-map xs f) h

pub some_item : {A : Type 0} (xs : List A) → false ≡ (length xs == 0) → xs ≡ [] → ⊥
some_item xs test e = by (length xs) test (ap (λ ys. length ys) e)
  where
    by : (n : ℕ) → false ≡ (n == 0) → n ≡ 0 → ⊥
    by n test e = absurd (let no : false ≡ true = subst (λ (k : ℕ). false ≡ (k == 0)) e test in cc)

module _ {X : Type 0} (f : X → Cut) (m : RobustModel) (limit : ℕ) (word : Word) where
  -- no cuts are told
  abbrev pub NoneTold : Type 0
  NoneTold = IsCutList limit word → (cuts : List Cut) → AreCutsAt m (parts_of word) cuts → ⊥

  -- or these
  abbrev pub AreTold : List X → Type 0
  AreTold cuts = AreCutsAt m (parts_of word) (map f cuts) × ((0 < length cuts) × (length cuts ≤ 3))

  pub are_moved : (list cuts : List X) → list ≡ cuts → AreCutsAt m (parts_of word) (map f cuts)
      → AreCutsAt m (parts_of word) (map f list)
  are_moved list cuts e h = subst (λ (xs : List X). AreCutsAt m (parts_of word) (map f xs)) (sym e) h
