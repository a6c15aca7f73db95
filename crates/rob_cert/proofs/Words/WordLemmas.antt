-- Texts cut at bytes, and the words of a line.
use Rattle.std.proofs.Common.{◌≡◌, ◌≢◌, ℕ, suc, ◌≤◌, List, [], ◌∷◌, ◌++◌, length, arith, refl, ap, sym, ◌∙◌, Bool, true, false}
use Rattle.std.proofs.lemmas.Bool.Decides.{nat_tests}
use Rattle.std.specs.Prelude.{◌==◌, if◌then◌else◌}
use Rattle.rob_meaning.specs.Names.{Name}
use Rattle.rob_cert.specs.Reading.{Lacks, with_first, words_in}

-- ---- words
by_test : (b : ℕ) (line : List ℕ) (t : Bool) → (b == 32) ≡ t → b ≢ 32
    → (if b == 32 then ([] ∷ words_in line) else with_first b (words_in line)) ≡ with_first b (words_in line)
by_test b line true e ne = absurd (ne (grind (arith, nat_tests)))
by_test b line false e ne = rw e refl

-- a byte that is no space stands before the first word
pub words_in-byte : (b : ℕ) (line : List ℕ) → b ≢ 32 → words_in (b ∷ line) ≡ with_first b (words_in line)
words_in-byte b line ne = by_test b line (b == 32) refl ne

pub words_in-lacks : (w : List ℕ) → Lacks 32 w → words_in w ≡ w ∷ []
words_in-lacks [] h = refl
words_in-lacks (b ∷ w) h = words_in-byte b w h.0 ∙ ap (with_first b) (words_in-lacks w h.1)

pub words_in-split : (w m : List ℕ) → Lacks 32 w → words_in (w ++ 32 ∷ m) ≡ w ∷ words_in m
words_in-split [] m h = refl
words_in-split (b ∷ w) m h = words_in-byte b (w ++ 32 ∷ m) h.0 ∙ ap (with_first b) (words_in-split w m h.1)

length-with_first : (b : ℕ) (ws : List Name) → 1 ≤ length ws → length (with_first b ws) ≡ length ws
length-with_first b [] h = absurd (omega arith)
length-with_first b (w ∷ ws) h = refl

some_by : (b : ℕ) (line : List ℕ) (t : Bool) → 1 ≤ length (words_in line)
    → 1 ≤ length (if t then ([] ∷ words_in line) else with_first b (words_in line))
some_by b line true h = omega arith
some_by b line false h = omega (arith, length-with_first b (words_in line) h)

-- a line has a word, maybe an empty one
pub words_in-some : (line : List ℕ) → 1 ≤ length (words_in line)
words_in-some [] = omega arith
words_in-some (b ∷ line) = some_by b line (b == 32) (words_in-some line)

-- ---- the number of words
pub count_lacks : (line : List ℕ) (n : ℕ) → Lacks 32 line → n ≢ 1 → length (words_in line) ≢ n
count_lacks line n h ne e = ne (sym e ∙ ap length (words_in-lacks line h))

pub count_split : (line w m : List ℕ) (n : ℕ) → line ≡ w ++ 32 ∷ m → Lacks 32 w → length (words_in m) ≢ n
    → length (words_in line) ≢ suc n
count_split line w m n is h ne e =
    ne (let k : suc (length (words_in m)) ≡ suc n =
    sym (ap (λ l. length (words_in l)) is ∙ ap length (words_in-split w m h)) ∙ e in omega arith)

pub words_split : (line w m : List ℕ) (ws : List Name) → line ≡ w ++ 32 ∷ m → Lacks 32 w → words_in m ≡ ws
    → words_in line ≡ w ∷ ws
words_split line w m ws is h e = ap words_in is ∙ words_in-split w m h ∙ ap (λ vs. w ∷ vs) e

pub count_more : (line w m w' m' : List ℕ) → line ≡ w ++ 32 ∷ m → Lacks 32 w → m ≡ w' ++ 32 ∷ m' → Lacks 32 w'
    → length (words_in line) ≢ 2
count_more line w m w' m' is h is' h' = count_split line w m 1 is h
    (λ e. let k : suc (length (words_in m')) ≡ 1 =
    sym (ap (λ l. length (words_in l)) is' ∙ ap length (words_in-split w' m' h')) ∙ e in
    omega (arith, words_in-some m'))
