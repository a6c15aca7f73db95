-- The first line with a token, and the version that it names.
use Rattle.std.proofs.Common.{◌≡◌, ℕ, Bool, true, false, List, [], ◌∷◌, map, refl, ap}
use Rattle.std.specs.Prelude.{if◌then◌else◌}
use Rattle.rob_index.specs.Reading.{one, two, version_of}
use Rattle.rob_lex.specs.declared.token.Token.{Token}
use Rattle.rob_syntax.specs.Versions.{first_line, line_bytes, names_version, body}

-- the first line with a token names the version
pub version-first : (text : List ℕ) (lines : List (List Token))
    → version_of (map (line_bytes text) lines) ≡ (if names_version text (first_line lines) then two else one)
version-first text [] = refl
version-first text ([] ∷ lines) = version-first text lines
version-first text ((t ∷ ts) ∷ lines) = refl

-- behind a line with a token each line is read as it is
body_begun : (text : List ℕ) (lines : List (List Token)) → body text true lines ≡ lines
body_begun text [] = refl
body_begun text (line ∷ lines) = ap (λ (l : List (List Token)). line ∷ l) (body_begun text lines)

-- in a text of version 1 each line is read as it is
pub body_of_version_one : (text : List ℕ) (lines : List (List Token)) → version_of (map (line_bytes text) lines) ≡ one
    → body text false lines ≡ lines
body_of_version_one text [] is = refl
body_of_version_one text ([] ∷ lines) is =
    ap (λ (l : List (List Token)). [] ∷ l) (body_of_version_one text lines is)
body_of_version_one text ((t ∷ ts) ∷ lines) is = by (names_version text (t ∷ ts)) is
  where
    by : (b : Bool) → (if b then two else one) ≡ one
        → (if b then [] else t ∷ ts) ∷ body text true lines ≡ (t ∷ ts) ∷ lines
    by true is = cc
    by false is = ap (λ (l : List (List Token)). (t ∷ ts) ∷ l) (body_begun text lines)
