-- The fetches of a shelf, in their order, and what each answered.
--
--   Fetch                   the name that was asked for, how many bytes at most, and what was found, if anything was
--   logged name max result  what a fetch adds: one entry, also where it answered an error
use Rattle.std.specs.Prelude.{ℕ, List, [], ◌∷◌, Option, Some, None, Result, Ok, Err, ◌≡◌, refl}
use Rattle.std.specs.Coded.{Coded, code_by, coded×, coded_ℕ, coded_list, coded_option}
use Rattle.rob_outside.specs.Files.{Found, whole, missing, too_long, found_of}
use Rattle.rob_outside.specs.declared.shelf.Fetched.{Fetched}

-- a fetch: the name, how many bytes at most were asked for, and what was found; nothing, where it answered an error
pub record Fetch : Type 0 where
  pub name : List ℕ
  pub most : ℕ
  pub found : Option Found

-- the fetch of that name, of so many bytes at most, that found this, or answered an error
abbrev pub fetch_of : List ℕ → ℕ → Option Found → Fetch
fetch_of name most found = record { name = name; most = most; found = found }

-- what was found, by what was answered: an error says nothing of the file
abbrev pub found_by : {E : Type 0} → Result Fetched E → Option Found
found_by (Ok fetched) = Some (found_of fetched)
found_by (Err error) = None

-- what a fetch adds: one entry, whatever it answered
abbrev pub logged : {E : Type 0} → List ℕ → ℕ → Result Fetched E → List Fetch
logged name max result = fetch_of name max (found_by result) ∷ []

-- ---- how they are stored

-- what was found as an option of an option: none where no file has the name, an empty one where it is too long
abbrev pub to_option : Found → Option (Option (List ℕ))
to_option (whole bytes) = Some (Some bytes)
to_option missing = None
to_option too_long = Some None

-- and back
abbrev pub of_option : Option (Option (List ℕ)) → Found
of_option None = missing
of_option (Some None) = too_long
of_option (Some (Some bytes)) = whole bytes

-- nothing is lost on the way
pub found_back : (found : Found) → of_option (to_option found) ≡ found
found_back (whole bytes) = refl
found_back missing = refl
found_back too_long = refl

-- what was found is stored so
abbrev pub found_code : Coded Found
found_code =
    code_by (Option (Option (List ℕ))) (coded_option (coded_option (coded_list coded_ℕ))) to_option of_option found_back

-- a fetch is stored as its name, its greatest length and what was found
abbrev pub fetch_code : Coded Fetch
fetch_code =
    code_by (List ℕ × (ℕ × Option Found)) (coded× (coded_list coded_ℕ) (coded× coded_ℕ (coded_option found_code)))
    (λ f. (f.name, (f.most, f.found)))
    (λ p. fetch_of p.0 p.1.0 p.1.1) (λ _. refl)
