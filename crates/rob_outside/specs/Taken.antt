-- What a sink took.
--
--   IsPrefix front text            the text begins with the front
--   Took before now bytes          behind what was taken before stand these bytes, all of them
--   TookPrefix before now bytes    behind what was taken before stands a prefix of these bytes
--   Takes before now piece result  a put took the whole piece, or answered an error and took a prefix of it
--   TookBoth held now before noted  the same bytes came behind a writer's bytes, where these are known
--
-- `before` and `now` are the bytes that the sink took.
use Rattle.std.specs.Prelude.{◌≡◌, ℕ, List, ◌++◌, Option, Some, Result, MatchResult, IfSome}

-- the text begins with the front
pub record IsPrefix (front text : List ℕ) : Type 0 where
  pub rest : List ℕ
  pub whole : text ≡ front ++ rest

-- behind what was taken before stand these bytes, all of them
abbrev pub Took : List ℕ → List ℕ → List ℕ → Type 0
Took before now bytes = now ≡ before ++ bytes

-- behind what was taken before stands a prefix of these bytes
abbrev pub TookPrefix : List ℕ → List ℕ → List ℕ → Type 0
TookPrefix before now bytes = (front : List ℕ) × IsPrefix front bytes × Took before now front

-- a put took the whole piece, or answered an error and took a prefix of it
abbrev pub Takes : {T E : Type 0} → List ℕ → List ℕ → List ℕ → Result T E → Type 0
Takes before now piece result = MatchResult result (λ _. Took before now piece) (λ _. TookPrefix before now piece)

-- behind a writer's bytes stand these bytes, all of them, where its bytes are known
abbrev pub TookKnown : Option (List ℕ) → Option (List ℕ) → List ℕ → Type 0
TookKnown before now bytes = IfSome before (λ held. now ≡ Some (held ++ bytes))

-- a put to such a writer took the whole piece, or answered an error and took a prefix of it
abbrev pub TakesKnown : {T E : Type 0} → Option (List ℕ) → Option (List ℕ) → List ℕ → Result T E → Type 0
TakesKnown before now piece result =
    MatchResult result (λ _. TookKnown before now piece)
    (λ _. (front : List ℕ) × IsPrefix front piece × TookKnown before now front)

-- the bytes that were taken are those that came behind a writer's bytes, where these are known
pub record TookBoth (held now : Option (List ℕ)) (before noted : List ℕ) : Type 0 where
  pub added : List ℕ
  pub took : Took before noted added
  pub written : TookKnown held now added
