-- The puts of a sink, in their order.
--
--   Put                        the piece that was put, and whether the put answered that it took the whole of it
--   put_of piece result        what a put adds: one entry, also where it answered an error
--   StandsBut before now result  the count of faults stands, unless the outside failed
--   PutAll before now pieces   behind the puts before stand those of these pieces, in order, each taken whole
--   PutUntil before now pieces  behind them stand those of the first pieces, each taken whole, and then a refused one
--   PutEach .. pieces result   all were put and taken whole; or an error was answered, and nothing was put behind it
use Rattle.std.specs.Prelude.{◌≡◌, ℕ, Bool, true, false, List, [], ◌∷◌, ◌++◌, map, Result, Ok, Err, MatchResult, is_ok, refl}
use Rattle.std.specs.Coded.{Coded, code_by, coded×, coded_ℕ, coded_list, coded_bool}
use Rattle.rob_outside.specs.declared.sink.SinkErr.{SinkErr}
use Rattle.rob_outside.specs.declared.sink.SinkErr.TheVariants.{Failed, Memory}

-- a put: the piece, and whether it answered that the whole piece was taken
pub record Put : Type 0 where
  pub piece : List ℕ
  pub whole : Bool

-- the put of that piece
abbrev pub put_as : Bool → List ℕ → Put
put_as whole piece = record { piece = piece; whole = whole }

-- what a put adds: one entry, whatever it answered
abbrev pub put_of : {T E : Type 0} → List ℕ → Result T E → Put
put_of piece result = put_as (is_ok result) piece

-- the count of faults stands, unless the outside failed
abbrev pub StandsBut : {T : Type 0} → ℕ → ℕ → Result T SinkErr → Type 0
StandsBut before now (Ok value) = now ≡ before
StandsBut before now (Err Failed) = Unit {0}
StandsBut before now (Err Memory) = now ≡ before

-- behind the puts before stand those of these pieces, in order, each taken whole, and no other
abbrev pub PutAll : List Put → List Put → List (List ℕ) → Type 0
PutAll before now pieces = now ≡ before ++ map (put_as true) pieces

-- behind the puts before stand those of the first of these pieces, in order, each taken whole, then that of the next
-- one, which was refused, and no other
pub record PutUntil (before now : List Put) (pieces : List (List ℕ)) : Type 0 where
  pub done : List (List ℕ)
  pub refused : List ℕ
  pub left : List (List ℕ)
  pub split : pieces ≡ done ++ refused ∷ left
  pub grown : now ≡ before ++ (map (put_as true) done ++ put_as false refused ∷ [])

-- the pieces were put one by one: each was taken whole, or one was refused,
-- which was answered, and nothing was put behind it
abbrev pub PutEach : {T E : Type 0} → List Put → List Put → List (List ℕ) → Result T E → Type 0
PutEach before now pieces result = MatchResult result (λ _. PutAll before now pieces) (λ _. PutUntil before now pieces)

-- ---- how they are stored

-- a put is stored as its piece and whether it was taken whole
abbrev pub put_code : Coded Put
put_code =
    code_by (List ℕ × Bool) (coded× (coded_list coded_ℕ) coded_bool) (λ p. (p.piece, p.whole))
    (λ p. put_as p.1 p.0) (λ _. refl)
