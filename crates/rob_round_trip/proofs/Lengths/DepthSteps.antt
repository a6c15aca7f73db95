-- How many parentheses stand open in symbols and in words.
use Rattle.std.proofs.Common.{◌≡◌, ℕ, ◌+◌, ◌-◌, ◌<◌, ◌≤◌, List, [], ◌∷◌, ◌++◌, refl, sym, ap, ◌∙◌, subst, arith}
use Rattle.rob_lex.specs.Offences.{most_open}
use Rattle.rob_meaning.specs.Places.{Each}
use Rattle.rob_syntax.specs.declared.symbol.Mark.{Mark}
use Rattle.rob_syntax.specs.declared.symbol.Mark.TheVariants as mark
use Rattle.rob_syntax.specs.declared.symbol.Symbol.{Symbol}
use Rattle.rob_syntax.specs.declared.symbol.Symbol.TheVariants.{Sign}
use Rattle.rob_write.specs.Pages.{Written, name, digits, keyword, sign, negative, line_end}
use Rattle.rob_round_trip.specs.Pages.{IsShallow}

-- ---- how deep one stands
-- what a symbol or a word does to the parentheses that are open
pub data Step : Type 0 where
  opens : Step
  closes : Step
  stays : Step

-- how many are open behind it
abbrev pub deeper : ℕ → Step → ℕ
deeper d opens = d + 1
deeper d closes = d - 1
deeper d stays = d

-- one more may be opened
abbrev pub MayStep : ℕ → Step → Type 0
MayStep d opens = d < most_open
MayStep d closes = Unit {0}
MayStep d stays = Unit {0}

-- what a sign, a symbol and a word do
abbrev pub step_of_mark : Mark → Step
step_of_mark mark.Open = opens
step_of_mark mark.Close = closes
step_of_mark _ = stays

abbrev pub step_of_symbol : Symbol → Step
step_of_symbol (Sign m) = step_of_mark m
step_of_symbol _ = stays

abbrev pub step_of_word : Written → Step
step_of_word (sign m) = step_of_mark m
step_of_word _ = stays

deeper_lower : (d e : ℕ) (s : Step) → e ≤ d → deeper e s ≤ deeper d s
deeper_lower d e opens h = omega arith
deeper_lower d e closes h = omega arith
deeper_lower d e stays h = h

may_lower : (d e : ℕ) (s : Step) → e ≤ d → MayStep d s → MayStep e s
may_lower d e opens h may = omega arith
may_lower d e closes h may = tt
may_lower d e stays h may = tt

module _ {A : Type 0} (step : A → Step) where
  -- how many parentheses are open behind all of them
  abbrev pub depth_of : ℕ → List A → ℕ
  depth_of d [] = d
  depth_of d (x ∷ xs) = depth_of (deeper d (step x)) xs

  -- few parentheses are open at once
  abbrev pub Shallow : ℕ → List A → Type 0
  Shallow d [] = Unit {0}
  Shallow d (x ∷ xs) = MayStep d (step x) × Shallow (deeper d (step x)) xs

  pub depth_of-append : (d : ℕ) (xs ys : List A) → depth_of d (xs ++ ys) ≡ depth_of (depth_of d xs) ys
  depth_of-append d [] ys = refl
  depth_of-append d (x ∷ xs) ys = depth_of-append (deeper d (step x)) xs ys

  pub shallow_join : (d : ℕ) (xs ys : List A) → Shallow d xs → Shallow (depth_of d xs) ys → Shallow d (xs ++ ys)
  shallow_join d [] ys h k = k
  shallow_join d (x ∷ xs) ys h k = (h.0, shallow_join (deeper d (step x)) xs ys h.1 k)

  -- with fewer open in front there are fewer open at once
  pub shallow_lower : (d e : ℕ) (xs : List A) → e ≤ d → Shallow d xs → Shallow e xs
  shallow_lower d e [] h k = tt
  shallow_lower d e (x ∷ xs) h k = (
    may_lower d e (step x) h k.0,
    shallow_lower (deeper d (step x)) (deeper e (step x)) xs (deeper_lower d e (step x) h) k.1,
  )

  -- no parenthesis is among them
  abbrev pub IsFlat : List A → Type 0
  IsFlat xs = Each (λ x. step x ≡ stays) xs

  pub depth_of-flat : (d : ℕ) (xs : List A) → IsFlat xs → depth_of d xs ≡ d
  depth_of-flat d [] h = refl
  depth_of-flat d (x ∷ xs) h = ap (λ (s : Step). depth_of (deeper d s) xs) h.0 ∙ depth_of-flat d xs h.1

  pub shallow_flat : (d : ℕ) (xs : List A) → IsFlat xs → Shallow d xs
  shallow_flat d [] h = tt
  shallow_flat d (x ∷ xs) h =
      subst (λ (s : Step). MayStep d s × Shallow (deeper d s) xs) (sym h.0) (tt, shallow_flat d xs h.1)

sign_shallow : (m : Mark) (d : ℕ) (ws : List Written) → MayStep d (step_of_mark m)
    → IsShallow (deeper d (step_of_mark m)) ws → IsShallow d (sign m ∷ ws)
sign_shallow mark.Plus d ws h k = (h, k)
sign_shallow mark.Minus d ws h k = (h, k)
sign_shallow mark.Star d ws h k = (h, k)
sign_shallow mark.Slash d ws h k = (h, k)
sign_shallow mark.Open d ws h k = (h, k)
sign_shallow mark.Close d ws h k = (h, k)
sign_shallow mark.OpenBracket d ws h k = (h, k)
sign_shallow mark.CloseBracket d ws h k = (h, k)
sign_shallow mark.Comma d ws h k = (h, k)
sign_shallow mark.Colon d ws h k = (h, k)
sign_shallow mark.Equal d ws h k = (h, k)
sign_shallow mark.AtMost d ws h k = (h, k)
sign_shallow mark.AtLeast d ws h k = (h, k)

-- words are shallow as lines of words are said to be
pub words_shallow : (d : ℕ) (ws : List Written) → Shallow step_of_word d ws → IsShallow d ws
words_shallow d [] h = tt
words_shallow d (name bytes ∷ ws) h = (tt, words_shallow d ws h.1)
words_shallow d (digits n ∷ ws) h = (tt, words_shallow d ws h.1)
words_shallow d (keyword k ∷ ws) h = (tt, words_shallow d ws h.1)
words_shallow d (sign m ∷ ws) h = sign_shallow m d ws h.0 (words_shallow (deeper d (step_of_mark m)) ws h.1)
words_shallow d (negative ∷ ws) h = (tt, words_shallow d ws h.1)
words_shallow d (line_end ∷ ws) h = (tt, words_shallow 0 ws (shallow_lower step_of_word d 0 ws (omega arith) h.1))
