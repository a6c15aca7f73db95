-- Texts that grow piece by piece: what is written so far, with the text of the rest, is the whole.
use Rattle.std.proofs.Common.{◌≡◌, ℕ, suc, ◌+◌, ◌<◌, List, [], ◌∷◌, ◌++◌, map, length, get_or, drop, arith, refl, ap, sym, ◌∙◌, add-one, append_assoc, add-zero, Bool, true, false, append-nil}
use Rattle.std.proofs.lemmas.List.{length-map}
use Rattle.std.specs.Prelude.{if◌then◌else◌}
use Rattle.rob_algebra.specs.Fraction.{Fraction}
use Rattle.rob_algebra.specs.FractionOrder.{eq_ℚ}
use Rattle.rob_meaning.specs.Certificates.{Cover, Item}
use Rattle.rob_meaning.specs.Places.{0ℚ}
use Rattle.rob_model.proofs.PartLemmas.{drop_at}
use Rattle.rob_cert.specs.declared.kind.Multipliers.{Multipliers}
use Rattle.rob_cert.specs.declared.kind.Vector.{Vector}
use Rattle.rob_cert.specs.declared.kind.Vector.TheVariants.{At}
use Rattle.rob_cert.specs.Lines.{Line, entry_line, item_line, entry_lines, cover_lines, item_lines}
use Rattle.rob_cert.specs.Spelling.{Naming, line_text, lines_text}

module _ {X : Type 0} (text : ℕ → List X → List ℕ)
    (cons : (p : ℕ) (x : X) (xs : List X) → text p (x ∷ xs) ≡ text p (x ∷ []) ++ text (suc p) xs) where
  -- one item more
  pub text_more : (p : ℕ) (xs : List X) (i : ℕ) (x : X) (old new total : List ℕ) → i < length xs → x ≡ get_or xs i x
      → new ≡ old ++ text p (x ∷ []) → old ++ text p (drop i xs) ≡ total → new ++ text (p + 1) (drop (i + 1) xs) ≡ total
  text_more p xs i x old new total h e is before =
      ap (λ o. o ++ text (p + 1) (drop (i + 1) xs)) is
      ∙ append_assoc old (text p (x ∷ [])) (text (p + 1) (drop (i + 1) xs))
      ∙ ap (λ t. old ++ t) (ap (λ n. text p (x ∷ []) ++ text n (drop (i + 1) xs)) (add-one p)
      ∙ sym (cons p x (drop (i + 1) xs)) ∙ ap (text p) (sym (drop_at xs i x h e)))
      ∙ before

-- a piece, and a piece behind it
pub behind : (old mid new a b : List ℕ) → mid ≡ old ++ a → new ≡ mid ++ b → new ≡ old ++ (a ++ b)
behind old mid new a b p q = q ∙ ap (λ t. t ++ b) p ∙ append_assoc old a b

-- ---- the text of lines
pub lines_text-append : (names : Naming) (xs ys : List (Line Fraction))
    → lines_text names (xs ++ ys) ≡ lines_text names xs ++ lines_text names ys
lines_text-append names [] ys = refl
lines_text-append names (x ∷ xs) ys =
    ap (λ t. line_text names x ++ t) (lines_text-append names xs ys)
    ∙ sym (append_assoc (line_text names x) (lines_text names xs) (lines_text names ys))

-- the entries of a list are those of its first number and those of the rest
pub entry_lines-cons : (v : Vector) (p : ℕ) (q : Fraction) (qs : List Fraction)
    → entry_lines v p (q ∷ qs) ≡ entry_lines v p (q ∷ []) ++ entry_lines v (suc p) qs
entry_lines-cons v p q qs = by (eq_ℚ q 0ℚ)
  where
    by : (b : Bool) → (if b then entry_lines v (suc p) qs else (entry_line v p q ∷ entry_lines v (suc p) qs))
        ≡ (if b then [] else (entry_line v p q ∷ [])) ++ entry_lines v (suc p) qs
    by true = refl
    by false = refl

pub entry_lines-append : (v : Vector) (p : ℕ) (xs ys : List Fraction)
    → entry_lines v p (xs ++ ys) ≡ entry_lines v p xs ++ entry_lines v (p + length xs) ys
entry_lines-append v p [] ys = ap (λ n. entry_lines v n ys) (sym (add-zero p))
entry_lines-append v p (x ∷ xs) ys =
    entry_lines-cons v p x (xs ++ ys)
    ∙ ap (λ ls. entry_lines v p (x ∷ []) ++ ls)
    (entry_lines-append v (suc p) xs ys
    ∙ ap (λ n. entry_lines v (suc p) xs ++ entry_lines v n ys)
    (let e : suc p + length xs ≡ p + suc (length xs) = omega arith in e))
    ∙ sym (append_assoc (entry_lines v p (x ∷ [])) (entry_lines v (suc p) xs) (entry_lines v (p + suc (length xs)) ys))
    ∙ ap (λ ls. ls ++ entry_lines v (p + suc (length xs)) ys) (sym (entry_lines-cons v p x xs))

-- the text of a certificate's lines, piece by piece
pub pieces_text : (names : Naming) (s : Line Fraction) (a b c d e f g h : List (Line Fraction)) →
    lines_text names (s ∷ (a ++ (b ++ (c ++ (d ++ (e ++ (f ++ (g ++ h))))))))
    ≡ line_text names s ++ (lines_text names a ++ (lines_text names b ++ (lines_text names c ++ (lines_text names d
    ++ (lines_text names e ++ (lines_text names f ++ (lines_text names g ++ lines_text names h)))))))
pieces_text names s a b c d e f g h = simp lines_text-append

-- nine pieces, each behind the one before
pub nine : (o0 o1 o2 o3 o4 o5 o6 o7 o8 o9 a b c d e f g h i : List ℕ)
    → o1 ≡ o0 ++ a → o2 ≡ o1 ++ b → o3 ≡ o2 ++ c → o4 ≡ o3 ++ d → o5 ≡ o4 ++ e → o6 ≡ o5 ++ f → o7 ≡ o6 ++ g
    → o8 ≡ o7 ++ h → o9 ≡ o8 ++ i
    → o9 ≡ o0 ++ (a ++ (b ++ (c ++ (d ++ (e ++ (f ++ (g ++ (h ++ i))))))))
nine o0 o1 o2 o3 o4 o5 o6 o7 o8 o9 a b c d e f g h i p1 p2 p3 p4 p5 p6 p7 p8 p9 =
    behind o0 o1 o9 a _ p1 (behind o1 o2 o9 b _ p2 (behind o2 o3 o9 c _ p3 (behind o3 o4 o9 d _ p4
    (behind o4 o5 o9 e _ p5 (behind o5 o6 o9 f _ p6 (behind o6 o7 o9 g _ p7 (behind o7 o8 o9 h i p8 p9)))))))

module _ (names : Naming) {N : Type 0} (value : N → Fraction) where
  -- the text of a vector's entries
  abbrev pub entries_text : Vector → ℕ → List N → List ℕ
  entries_text v p xs = lines_text names (entry_lines v p (map value xs))

  -- the numbers of a list, and one more behind them
  pub entries_text-push : (v : Vector) (xs : List N) (x : N)
      → lines_text names (entry_lines v 0 (map value xs ++ value x ∷ []))
      ≡ entries_text v 0 xs ++ entries_text v (length xs) (x ∷ [])
  entries_text-push v xs x =
      ap (lines_text names) (entry_lines-append v 0 (map value xs) (value x ∷ []))
      ∙ lines_text-append names (entry_lines v 0 (map value xs))
      (entry_lines v (0 + length (map value xs)) (value x ∷ []))
      ∙ ap (λ n. entries_text v 0 xs ++ lines_text names (entry_lines v n (value x ∷ [])))
      (let e : 0 + length (map value xs) ≡ length xs = omega (arith, length-map xs value) in e)

module _ (names : Naming) {N : Type 0} (cover_of : N → Cover) where
  -- the text of covers; places do not count here
  abbrev pub covers_text : Multipliers → ℕ → List N → List ℕ
  covers_text which p cs = lines_text names (cover_lines which (map cover_of cs))

append-nil_front : (xs ys : List (Line Fraction)) → (xs ++ []) ++ ys ≡ xs ++ ys
append-nil_front xs ys = ap (λ zs. zs ++ ys) (append-nil xs)

module _ (names : Naming) {N : Type 0} (item_of : N → Item) where
  -- the text of items; places do not count here
  abbrev pub items_text : ℕ → List N → List ℕ
  items_text p is = lines_text names (item_lines (map item_of is))

  pub items_text-cons : (p : ℕ) (i : N) (is : List N)
      → items_text p (i ∷ is) ≡ items_text p (i ∷ []) ++ items_text (suc p) is
  items_text-cons p i is =
      let one = item_line (item_of i).form (item_of i).weight (item_of i).base ∷ entry_lines At 0 (item_of i).vector in
      ap (lines_text names) (sym (append-nil_front one (item_lines (map item_of is))))
      ∙ lines_text-append names (one ++ []) (item_lines (map item_of is))
