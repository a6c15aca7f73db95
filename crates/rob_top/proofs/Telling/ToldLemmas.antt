-- What the parts of a word's list tell, read from the left.
use Rattle.std.proofs.Common.{◌≡◌, ◌≤◌, ◌+◌, ◌∙◌, ℕ, List, [], ◌∷◌, ◌++◌, length, map, Option, None, Some, sym, ap, subst, arith, append_assoc}
use Rattle.std.proofs.lemmas.List.{append-nil, length-append, length-map}
use Rattle.rob_words.specs.Names.{AreAll, IsListOf, parts_behind, parts_of}
use Rattle.rob_words.specs.Values.{Word}

-- so many at most, where they weren't yet as many
grown_within : (most a b : ℕ) → b ≡ a + 1 → a ≤ most → (a ≡ most → ⊥) → b ≤ most
grown_within most a b e few more = grind arith

-- what is told is so many, as what it was read from is
pub told_filled : {A B : Type 0} (f : A → B) (most : ℕ) (xs ys : List A) → xs ≡ ys → length xs ≡ most
    → length (map f ys) ≡ most
told_filled f most xs ys same full = length-map ys f ∙ ap length (sym same) ∙ full

-- and isn't where that isn't
pub told_unfilled : {A B : Type 0} (f : A → B) (most : ℕ) (xs ys : List A) → xs ≡ ys → (length xs ≡ most → ⊥)
    → length (map f ys) ≡ most → ⊥
told_unfilled f most xs ys same other full = other (ap length same ∙ sym (length-map ys f) ∙ full)

-- parts are of this kind; words tell things, of which so many may be told; what words tell has one thing more than what
-- those behind the first one tell
module _ {X : Type 0} (Part : Word → Type 0) (Tell : List Word → List X → Type 0) (most : ℕ) where
  -- of all words those in front of the rest tell these things, so many at most; the rest are parts, where all are
  pub record HasTold (all : List Word) (told : List X) (rest : List Word) : Type 0 where
    pub adds : (more : List X) → Tell rest more → Tell all (told ++ more)
    pub has : (things : List X) → Tell all things → (more : List X) × Tell rest more
    pub parts : AreAll Part all → AreAll Part rest
    pub counted : length told + length rest ≡ length all
    pub few : length told ≤ most

  module _ (all : List Word) (told : List X) where
    -- the next word stands in front of the rest
    pub told_part : (o : Option Word) (word first : Word) (behind : Option Word) → HasTold all told (parts_behind o)
        → o ≡ Some word → parts_of word ≡ first ∷ parts_behind behind → HasTold all told (first ∷ parts_behind behind)
    told_part o word first behind read is parts =
        subst (λ (rest : List Word). HasTold all told rest) (ap parts_behind is ∙ parts) read

    -- none is left
    pub told_end : (o : Option Word) → HasTold all told (parts_behind o) → o ≡ None → HasTold all told []
    told_end o read is = subst (λ (rest : List Word). HasTold all told rest) (ap parts_behind is) read

    pub told_all : HasTold all told [] → Tell [] [] → Tell all told
    told_all end nothing = subst (λ (things : List X). Tell all things) (append-nil told) (end.adds [] nothing)

    module _ (first : Word) (rest : List Word) (read : HasTold all told (first ∷ rest)) where
      -- the next word tells one thing more
      pub told_more : (x : X) → ((more : List X) → Tell rest more → Tell (first ∷ rest) (x ∷ more))
          → ((things : List X) → Tell (first ∷ rest) things → (more : List X) × Tell rest more)
          → (length told ≡ most → ⊥) → HasTold all (told ++ x ∷ []) rest
      told_more x joined behind more =
          let grown : length (told ++ x ∷ []) ≡ length told + 1 = length-append told (x ∷ []) in
          record {
            adds = λ things h.
                subst (λ (xs : List X). Tell all xs) (sym (append_assoc told (x ∷ []) things))
                (read.adds (x ∷ things) (joined things h));
            has = λ things h. (let left = read.has things h in behind left.0 left.1);
            parts = λ h. (read.parts h).1;
            counted = (let counted : length told + length (first ∷ rest) ≡ length all = read.counted in
                omega (arith, counted, grown));
            few = grown_within most (length told) (length (told ++ x ∷ [])) grown read.few more;
          }

      -- the next word is a part, where all are
      pub next_part : (word : Word) → all ≡ parts_of word → IsListOf Part most word → Part first
      next_part word is list = (read.parts (subst (λ (xs : List Word). AreAll Part xs) (sym is) list.parts)).0
