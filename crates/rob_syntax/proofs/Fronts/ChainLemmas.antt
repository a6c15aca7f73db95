-- Items behind each other, each with its sign in front: steps of an index, factors, terms, and what commas part.
use Rattle.std.proofs.Common.{◌≡◌, ◌⊎◌, inl, inr, ◌≤◌, List, [], ◌∷◌, ◌++◌, length, refl, sym, ap, ◌∙◌, subst, arith, append-nil, append_assoc}
use Rattle.rob_index.specs.Symbols.{Symbol}
use Rattle.rob_syntax.specs.Fronts.{Found, IsMissing, ReadsMore}
use Rattle.rob_syntax.proofs.Fronts.PartLemmas.{shorter_behind}

-- how items make a chain of them: none, and one in front of others
pub record Chain {A S : Type 0} (spell_one : A → List Symbol) (EndsOne : List Symbol → Type 0) (spell : S → List Symbol)
    (EndsAll : List Symbol → Type 0) : Type 0 where
  pub none : S
  pub cons : A → S → S
  pub spell_none : spell none ≡ []
  pub spell_cons : (x : A) (xs : S) → spell (cons x xs) ≡ spell_one x ++ spell xs
  pub cases : (s : S) → (s ≡ none) ⊎ ((x : A) × (xs : S) × (s ≡ cons x xs))
  pub behind : (xs : S) (end : List Symbol) → EndsAll end → EndsOne (spell xs ++ end)

-- what was read: whatever chain is found at the rest is found in front with the items that were read before it
pub record Front {S V : Type 0} (spell : S → List Symbol) (EndsAll : List Symbol → Type 0) (values_of : S → List V)
    (symbols rest : List Symbol) (old new : List V) : Type 0 where
  pub back : S → S
  pub done : List V
  pub onward : (xs : S) (end : List Symbol) → Found spell EndsAll rest end xs
      → Found spell EndsAll symbols end (back xs)
  pub up : IsMissing spell EndsAll rest → IsMissing spell EndsAll symbols
  pub values : (xs : S) → values_of (back xs) ≡ done ++ values_of xs
  pub appended : new ≡ old ++ done
  pub shorter : length rest ≤ length symbols

pub front_start : {S V : Type 0} {spell : S → List Symbol} {EndsAll : List Symbol → Type 0} {values_of : S → List V}
    {symbols : List Symbol} {old new : List V} → new ≡ old → Front spell EndsAll values_of symbols symbols old new
front_start {S} {V} {spell} {EndsAll} {values_of} {symbols} {old} {new} is = record {
  back = λ xs. xs;
  done = [];
  onward = λ xs end found. found;
  up = λ missing. missing;
  values = λ xs. refl;
  appended = is ∙ sym (append-nil old);
  shorter = omega arith;
}

-- a chain that is a list, from nothing
pub chain_read : {A : Type 0} {spell : List A → List Symbol} {EndsAll : List Symbol → Type 0}
    {symbols rest : List Symbol}
    {new : List A} → ReadsMore spell EndsAll (λ xs. xs) symbols rest [] new → Found spell EndsAll symbols rest new
chain_read {A} {spell} {EndsAll} {symbols} {rest} {new} read =
    subst (λ (l : List A). Found spell EndsAll symbols rest l) (sym read.appended) read.found

module _ {A S : Type 0} {spell_one : A → List Symbol} {EndsOne : List Symbol → Type 0} {spell : S → List Symbol}
    {EndsAll : List Symbol → Type 0} (chain : Chain spell_one EndsOne spell EndsAll) where
  -- the spelling of a chain that isn't empty, with its first item apart
  apart : {symbols : List Symbol} (other : S) (end : List Symbol) (x : A) (xs : S) → symbols ≡ spell other ++ end
      → other ≡ chain.cons x xs → symbols ≡ spell_one x ++ (spell xs ++ end)
  apart {symbols} other end x xs same is =
      same ∙ ap (λ (l : List Symbol). l ++ end) (ap spell is ∙ chain.spell_cons x xs)
      ∙ append_assoc (spell_one x) (spell xs) end

  -- the spelling of none
  nothing : {symbols : List Symbol} (other : S) (end : List Symbol) → symbols ≡ spell other ++ end → other ≡ chain.none
      → symbols ≡ end
  nothing {symbols} other end same is = same ∙ ap (λ (l : List Symbol). l ++ end) (ap spell is ∙ chain.spell_none)

  -- one item in front of a chain
  step_found : {rest after end : List Symbol} (x : A) (xs : S) → Found spell_one EndsOne rest after x
      → (EndsAll rest → ⊥) → Found spell EndsAll after end xs → Found spell EndsAll rest end (chain.cons x xs)
  step_found {rest} {after} {end} x xs first stuck more = record {
    spelled =
        first.spelled ∙ ap (λ (l : List Symbol). spell_one x ++ l) more.spelled
        ∙ sym (append_assoc (spell_one x) (spell xs) end)
        ∙ ap (λ (l : List Symbol). l ++ end) (sym (chain.spell_cons x xs));
    only = λ other last same stop. go other last same stop (chain.cases other);
  }
    where
      go : (other : S) (last : List Symbol) → rest ≡ spell other ++ last → EndsAll last
          → (other ≡ chain.none) ⊎ ((y : A) × (ys : S) × (other ≡ chain.cons y ys))
          → (other ≡ chain.cons x xs) × (last ≡ end)
      go other last same stop (inl is) = absurd (stuck (subst EndsAll (sym (nothing other last same is)) stop))
      go other last same stop (inr way) =
          let one = first.only way.0 (spell way.1 ++ last) (apart other last way.0 way.1 same way.2)
          (chain.behind way.1 last stop) in
          let two = more.only way.1 last (sym one.1) stop in
          (way.2 ∙ (λ i. chain.cons (one.0 i) (two.0 i)), two.1)

  step_missing : {rest after : List Symbol} (x : A) → Found spell_one EndsOne rest after x → (EndsAll rest → ⊥)
      → IsMissing spell EndsAll after → IsMissing spell EndsAll rest
  step_missing {rest} {after} x first stuck missing = record {
    none = λ other last same stop. go other last same stop (chain.cases other);
  }
    where
      go : (other : S) (last : List Symbol) → rest ≡ spell other ++ last → EndsAll last
          → (other ≡ chain.none) ⊎ ((y : A) × (ys : S) × (other ≡ chain.cons y ys)) → ⊥
      go other last same stop (inl is) = stuck (subst EndsAll (sym (nothing other last same is)) stop)
      go other last same stop (inr way) =
          let one = first.only way.0 (spell way.1 ++ last) (apart other last way.0 way.1 same way.2)
          (chain.behind way.1 last stop) in
          missing.none way.1 last (sym one.1) stop

  -- no item stands there, though one has to
  no_item : {rest : List Symbol} → IsMissing spell_one EndsOne rest → (EndsAll rest → ⊥) → IsMissing spell EndsAll rest
  no_item {rest} missing stuck = record {
    none = λ other last same stop. go other last same stop (chain.cases other);
  }
    where
      go : (other : S) (last : List Symbol) → rest ≡ spell other ++ last → EndsAll last
          → (other ≡ chain.none) ⊎ ((y : A) × (ys : S) × (other ≡ chain.cons y ys)) → ⊥
      go other last same stop (inl is) = stuck (subst EndsAll (sym (nothing other last same is)) stop)
      go other last same stop (inr way) =
          missing.none way.0 (spell way.1 ++ last) (apart other last way.0 way.1 same way.2)
          (chain.behind way.1 last stop)

  -- none stands there
  none_found : {rest : List Symbol} → ((x : A) (end : List Symbol) → rest ≡ spell_one x ++ end → ⊥)
      → Found spell EndsAll rest rest chain.none
  none_found {rest} nowhere = record {
    spelled = ap (λ (l : List Symbol). l ++ rest) (sym chain.spell_none);
    only = λ other last same stop. go other last same (chain.cases other);
  }
    where
      go : (other : S) (last : List Symbol) → rest ≡ spell other ++ last
          → (other ≡ chain.none) ⊎ ((y : A) × (ys : S) × (other ≡ chain.cons y ys))
          → (other ≡ chain.none) × (last ≡ rest)
      go other last same (inl is) = (is, sym (nothing other last same is))
      go other last same (inr way) =
          absurd (nowhere way.0 (spell way.1 ++ last) (apart other last way.0 way.1 same way.2))

  module _ {V : Type 0} {values_of : S → List V} where
    pub front_push : {symbols rest after : List Symbol} {old new next : List V} (x : A) (value : V)
        → ((xs : S) → values_of (chain.cons x xs) ≡ value ∷ values_of xs)
        → Front spell EndsAll values_of symbols rest old new → Found spell_one EndsOne rest after x
        → (EndsAll rest → ⊥) → next ≡ new ++ value ∷ [] → Front spell EndsAll values_of symbols after old next
    front_push {symbols} {rest} {after} {old} {new} {next} x value in_front front found stuck pushed = record {
      back = λ xs. front.back (chain.cons x xs);
      done = front.done ++ value ∷ [];
      onward = λ xs end more. front.onward (chain.cons x xs) end (step_found x xs found stuck more);
      up = λ missing. front.up (step_missing x found stuck missing);
      values = λ xs.
          front.values (chain.cons x xs) ∙ ap (λ (l : List V). front.done ++ l) (in_front xs)
          ∙ sym (append_assoc front.done (value ∷ []) (values_of xs));
      appended =
          pushed ∙ ap (λ (l : List V). l ++ value ∷ []) front.appended ∙ append_assoc old front.done (value ∷ []);
      shorter = let h = shorter_behind found in omega (arith, front.shorter, h);
    }

    pub front_end : {symbols rest : List Symbol} {old new : List V} → values_of chain.none ≡ []
        → Front spell EndsAll values_of symbols rest old new
        → ((x : A) (end : List Symbol) → rest ≡ spell_one x ++ end → ⊥)
        → ReadsMore spell EndsAll values_of symbols rest old new
    front_end {symbols} {rest} {old} {new} empty front nowhere = record {
      items = front.back chain.none;
      found = front.onward chain.none rest (none_found nowhere);
      appended =
          front.appended
          ∙ ap (λ (l : List V). old ++ l)
          (sym (front.values chain.none ∙ ap (λ (l : List V). front.done ++ l) empty ∙ append-nil front.done));
      shorter = front.shorter;
    }

    pub front_refused : {symbols rest : List Symbol} {old new : List V}
        → Front spell EndsAll values_of symbols rest old new → IsMissing spell_one EndsOne rest
        → (EndsAll rest → ⊥) → IsMissing spell EndsAll symbols
    front_refused front missing stuck = front.up (no_item missing stuck)

-- the same from an equal first value
pub started : {S V : Type 0} {spell : S → List Symbol} {EndsAll : List Symbol → Type 0} {values_of : S → List V}
    {symbols rest : List Symbol} {a b : V} {new : List V} → a ≡ b
    → ReadsMore spell EndsAll values_of symbols rest (a ∷ []) new
    → ReadsMore spell EndsAll values_of symbols rest (b ∷ []) new
started {S} {V} {spell} {EndsAll} {values_of} {symbols} {rest} {a} {b} {new} same read =
    subst (λ (v : V). ReadsMore spell EndsAll values_of symbols rest (v ∷ []) new) same read
