-- What a test says of each value of an enum without fields is decided by going over its values. So a fact of a table
-- needs no line for each of its rows.
use Rattle.std.proofs.Common.{◌≡◌, ◌&&◌, Bool, true, false, inl, inr, subst, List, [], ◌∷◌, rules}
use denote.Enum.Declared.{Choice, Record}
use denote.Struct.Field.{Field}
use Rattle.std.proofs.lemmas.Bool.{and_parts}

-- the test holds of each choice
abbrev pub all_choices : (Fss : List (List Field)) → (Choice Fss → Bool) → Bool
all_choices [] test = true
all_choices ([] ∷ Fss) test = test (inl tt) && all_choices Fss (λ c. test (inr c))
all_choices ((F ∷ Fs) ∷ Fss) test = false

each_choice : (Fss : List (List Field)) (test : Choice Fss → Bool) → all_choices Fss test ≡ true
    → (c : Choice Fss) → test c ≡ true
each_choice [] test all c = absurd c
each_choice ([] ∷ Fss) test all (inl x) = (and_parts (test (inl tt)) (all_choices Fss (λ c. test (inr c))) all).0
each_choice ([] ∷ Fss) test all (inr c) =
    each_choice Fss (λ d. test (inr d)) (and_parts (test (inl tt)) (all_choices Fss (λ d. test (inr d))) all).1 c
each_choice ((F ∷ Fs) ∷ Fss) test all c = absurd (search (all, rules))

-- the test holds of each value
abbrev pub all_values : (N : Record) → (N.D → Bool) → Bool
all_values N test = all_choices N.parts (λ c. test (N.make c))

pub each_value : (N : Record) (test : N.D → Bool) → all_values N test ≡ true → (value : N.D) → test value ≡ true
each_value N test all value =
    subst (λ x. test x ≡ true) (N.eta value) (each_choice N.parts (λ c. test (N.make c)) all (N.as_values value))
