-- The name of a ref may be declared, where its word is a word and no keyword, its indices are within bounds, and it
-- isn't too long: behind the word stand `_` and digits, and no keyword has a `_`.
use Rattle.std.proofs.Common.{◌≡◌, ◌≢◌, ℕ, ◌+◌, ◌%◌, ◌^◌, ◌<◌, ◌≤◌, Bool, true, false, List, [], ◌∷◌, ◌++◌, length, refl, sym, subst, arith, append-nil, append_assoc}
use Rattle.std.specs.Fmt.{decimal}
use Rattle.std.specs.List.{flat_map}
use Rattle.std.specs.Prelude.{ℤ, pos, negsuc, int_lt, nat_abs, Some, None, eqb, ◌&&◌, ◌||◌, not, if◌then◌else◌}
use Rattle.std.specs.Str.{bytes_eq}
use Rattle.std.proofs.lemmas.Bool.{eqb-false}
use Rattle.std.proofs.lemmas.Bool.Decides.{nat_tests}
use Rattle.std.proofs.lemmas.Fmt.{decimal_by_steps}
use Rattle.std.proofs.lemmas.Slice.Eq.{bytes_eq-Decides}
use Rattle.rob_index.specs.Expansion.{index_text, ref_name, word_at}
use Rattle.rob_index.specs.Settings.{Setting, index_value}
use Rattle.rob_index.specs.Rules.{is_out_at}
use Rattle.rob_index.specs.Statements.{Index, Ref}
use Rattle.rob_lex.specs.Bytes.{goes_on_word}
use Rattle.rob_meaning.proofs.Lists.EachLemmas.{each_right}
use Rattle.rob_meaning.specs.Places.{Each}
use Rattle.rob_syntax.specs.Names.{GoesOn, IsSpelled, IsWord}
use Rattle.rob_syntax.specs.Symbols.{keyword_among, keywords, longest_name}
use Rattle.rob_syntax.specs.declared.symbol.Keyword.{Keyword}

-- ---- a word goes on with digits
goes_append : (a b : List ℕ) → GoesOn a → GoesOn b → GoesOn (a ++ b)
goes_append [] b h k = k
goes_append (x ∷ a) b h k = (h.0, goes_append a b h.1 k)

digit_goes : (n : ℕ) → n < 10 → goes_on_word (48 + n) ≡ true
digit_goes n h = grind (arith, nat_tests)

decimal_goes : (n : ℕ) → n < 2 ^ 64 → GoesOn (decimal n)
decimal_goes n h = decimal_by_steps (λ n ds. GoesOn ds) one more n h
  where
    one : (n : ℕ) → n < 10 → GoesOn ((48 + n) ∷ [])
    one n small = (digit_goes n small, tt)

    more : (n : ℕ) (ds : List ℕ) → 10 ≤ n → GoesOn ds → GoesOn (ds ++ ((48 + n % 10) ∷ []))
    more n ds big goes = goes_append ds ((48 + n % 10) ∷ []) goes (digit_goes (n % 10) (omega arith), tt)

pub word_more : (name tail : List ℕ) → IsWord name → GoesOn tail → IsWord (name ++ tail)
word_more [] tail h k = absurd h
word_more (b ∷ bytes) tail h k = (h.0, goes_append bytes tail h.1 k)

-- ---- no keyword has an underscore
abbrev is_unmarked : List ℕ → Bool
is_unmarked [] = true
is_unmarked (b ∷ bs) = not (eqb b 95) && is_unmarked bs

unmarked : (name : List ℕ) → is_unmarked name ≡ true → Each (λ b. b ≢ 95) name
unmarked [] h = tt
unmarked (b ∷ bs) h = by (eqb b 95) refl h (unmarked bs)
  where
    by : (e : Bool) → eqb b 95 ≡ e → (not e && is_unmarked bs) ≡ true
        → (is_unmarked bs ≡ true → Each (λ b. b ≢ 95) bs) → Each (λ b. b ≢ 95) (b ∷ bs)
    by true e h rest = cc
    by false e h rest = (eqb-false b 95 e, rest h)

marked : (name tail word : List ℕ) → is_unmarked word ≡ true → name ++ 95 ∷ tail ≢ word
marked name tail word h e =
    (each_right (λ b. b ≢ 95) name (95 ∷ tail) (subst (Each (λ b. b ≢ 95)) (sym e) (unmarked word h))).0 refl

no_keyword : (name tail : List ℕ) (ks : List (List ℕ × Keyword))
    → Each (λ (k : List ℕ × Keyword). is_unmarked k.0 ≡ true) ks
    → keyword_among ks (name ++ 95 ∷ tail) ≡ None
no_keyword name tail [] h = refl
no_keyword name tail (k ∷ ks) h = by (bytes_eq (name ++ 95 ∷ tail) k.0) refl (no_keyword name tail ks h.1)
  where
    by : (e : Bool) → bytes_eq (name ++ 95 ∷ tail) k.0 ≡ e → keyword_among ks (name ++ 95 ∷ tail) ≡ None
        → (if e then Some k.1 else keyword_among ks (name ++ 95 ∷ tail)) ≡ None
    by true e rest = absurd (marked name tail k.0 h.0 ((bytes_eq-Decides (name ++ 95 ∷ tail) k.0).0 e))
    by false e rest = rest

keywords_unmarked : Each (λ (k : List ℕ × Keyword). is_unmarked k.0 ≡ true) keywords
keywords_unmarked = (
  refl,
  (
    refl,
    (
      refl,
      (
        refl,
        (
          refl,
          (
            refl,
            (
              refl,
              (
                refl,
                (refl, (refl, (refl, (refl, (refl, (refl, (refl, (refl, (refl, (refl, (refl, (refl, tt)))))))))))),
              ),
            ),
          ),
        ),
      ),
    ),
  ),
)

-- a word, and no keyword
abbrev pub IsFreeWord : List ℕ → Type 0
IsFreeWord name = IsWord name × (keyword_among keywords name ≡ None)

-- it stays so with `_` and a number behind it
pub marked_word : (name : List ℕ) (v : ℕ) → v < 2 ^ 64 → IsWord name → IsFreeWord (name ++ 95 ∷ decimal v)
marked_word name v small h = (
  word_more name (95 ∷ decimal v) h (refl, decimal_goes v small),
  no_keyword name (decimal v) keywords
      keywords_unmarked,
)

-- ---- refs
within_small : (z : ℤ) → (int_lt z (pos 0) || int_lt (pos 999) z) ≡ false → nat_abs z < 2 ^ 64
within_small (pos n) h = let few = under n h in omega (arith, few)
  where
    under : (n : ℕ) → (int_lt (pos n) (pos 0) || int_lt (pos 999) (pos n)) ≡ false → n ≤ 999
    under n h = grind (arith, nat_tests)
within_small (negsuc n) h = cc

module _ (words : List (List ℕ)) (setting : Setting) where
  pub indexed_word : (xs : List Index) (name : List ℕ) → Each (λ (x : Index). is_out_at x setting ≡ false) xs
      → IsFreeWord name
      → IsFreeWord (name ++ flat_map (index_text words setting) xs)
  indexed_word [] name within free = subst IsFreeWord (sym (append-nil name)) free
  indexed_word (x ∷ xs) name within free =
      let text = index_text words setting x in
      subst IsFreeWord (append_assoc name text (flat_map (index_text words setting) xs))
      (indexed_word xs (name ++ text) within.1
      (marked_word name (nat_abs (index_value setting x)) (within_small (index_value setting x) within.0) free.0))

  -- the law
  pub ref_spelled : (r : Ref) → IsWord (word_at words r.name) → keyword_among keywords (word_at words r.name) ≡ None
      → Each (λ (x : Index). is_out_at x setting ≡ false) r.indices
      → length (ref_name words setting r) ≤ longest_name → IsSpelled (ref_name words setting r)
  ref_spelled r word free within few =
      let is = indexed_word r.indices (word_at words r.name) within (word, free) in
      record { is_word = is.0; no_keyword = is.1; is_short = few }
