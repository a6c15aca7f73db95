-- What each part of a line is spelled as, its reader finds, where the symbols behind it don't go on it.
use Rattle.std.proofs.Common.{◌≡◌, ℕ, zero, suc, ◌+◌, ◌≤◌, Bool, true, false, List, [], ◌∷◌, ◌++◌, length, Option, Some, None, refl, sym, ap, ◌∙◌, subst, arith, append_assoc, append-nil}
use Rattle.std.specs.Prelude.{if◌then◌else◌}
use Rattle.rob_index.specs.Symbols.{Symbol, name, sign, word}
use Rattle.rob_index.specs.Symbols as is
use Rattle.rob_index.specs.Statements.{Numeral, Signed, Bounds, Atom, Step, Index, Ref, Range}
use Rattle.rob_index.specs.Statements as stated
use Rattle.rob_index.specs.Grammar.{sign_of, spell_atom, spell_steps, spell_index, spell_more, spell_ref, spell_range, spell_ranges, spell_over, spell_number, spell_signed, spell_bounds}
use Rattle.rob_index.specs.Lines.{AreRanges}
use Rattle.rob_index.proofs.Parsing.Parser.{begins, leads, tail, Got, got, next, past, behind, front_number, front_signed, front_bounds, front_atom, front_steps, front_index, front_more, front_ref, front_range, goes_on, front_ranges, front_over}

-- ---- what reads what
-- what is spelled is found, where the rest is one behind which it ends
abbrev pub Reads : {A : Type 0} → (List Symbol → Option (Got A)) → (List Symbol → Type 0) → A → List Symbol → Type 0
Reads p Ends x spelled = (rest : List Symbol) → Ends rest → p (spelled ++ rest) ≡ got x rest

abbrev pub NumberEnds : List Symbol → Type 0
NumberEnds rest = begins is.slash rest ≡ false

abbrev pub IndexEnds : List Symbol → Type 0
IndexEnds rest = (begins is.plus rest ≡ false) × (begins is.minus rest ≡ false)

abbrev pub RefEnds : List Symbol → Type 0
RefEnds rest = begins is.open_bracket rest ≡ false

pub number_read : (n : Numeral) (rest : List Symbol) → NumberEnds rest
    → front_number (spell_number n ++ rest) ≡ got n rest
number_read n rest h = go n.divisor
  where
    go : (d : Option ℕ) → front_number (spell_number (record { numerator = n.numerator; divisor = d }) ++ rest)
        ≡ got (record { numerator = n.numerator; divisor = d }) rest
    go None = rw h
    go (Some b) = refl

pub signed_read : (s : Signed) (rest : List Symbol) → NumberEnds rest
    → front_signed (spell_signed s ++ rest) ≡ got s rest
signed_read s rest h = go s.minus
  where
    go : (m : Bool) → front_signed (spell_signed (record { minus = m; number = s.number }) ++ rest)
        ≡ got (record { minus = m; number = s.number }) rest
    go true = ap (λ (o : Option (Got Numeral)). next o (λ n rest. got (record { minus = true; number = n }) rest))
        (number_read s.number rest h)
    go false = ap (λ (o : Option (Got Numeral)). next o (λ n rest. got (record { minus = false; number = n }) rest))
        (number_read s.number rest h)

pub atom_read : (a : Atom) (rest : List Symbol) → front_atom (spell_atom a ∷ rest) ≡ got a rest
atom_read (stated.digits n) rest = refl
atom_read (stated.bound k) rest = refl

pub steps_read : (ss : List Step) (n : ℕ) (rest : List Symbol) → length ss + 1 ≤ n → IndexEnds rest
    → front_steps n (spell_steps ss ++ rest) ≡ got ss rest
steps_read ss zero rest h e = absurd (omega arith)
steps_read [] (suc n) rest h e = rw (e.0, e.1)
steps_read (s ∷ ss) (suc n) rest h e = go s.minus (steps_read ss n rest (omega arith) e)
  where
    go : (m : Bool) → front_steps n (spell_steps ss ++ rest) ≡ got ss rest
        → front_steps (suc n) (sign_of m ∷ spell_atom s.atom ∷ (spell_steps ss ++ rest))
        ≡ got (record { minus = m; atom = s.atom } ∷ ss) rest
    go true ih = ap (λ (o : Option (Got Atom)).
        next o (λ a xs. next (front_steps n xs) (λ ss xs. got (record { minus = true; atom = a } ∷ ss) xs)))
        (atom_read s.atom (spell_steps ss ++ rest))
        ∙ ap (λ (o : Option (Got (List Step))).
        next o (λ ss xs. got (record { minus = true; atom = s.atom } ∷ ss) xs)) ih
    go false ih = ap (λ (o : Option (Got Atom)).
        next o (λ a xs. next (front_steps n xs) (λ ss xs. got (record { minus = false; atom = a } ∷ ss) xs)))
        (atom_read s.atom (spell_steps ss ++ rest))
        ∙ ap (λ (o : Option (Got (List Step))).
        next o (λ ss xs. got (record { minus = false; atom = s.atom } ∷ ss) xs)) ih

abbrev pub index_size : Index → ℕ
index_size x = length x.more + 1

pub index_read : (x : Index) (n : ℕ) (rest : List Symbol) → index_size x ≤ n → IndexEnds rest
    → front_index n (spell_index x ++ rest) ≡ got x rest
index_read x n rest h e =
    ap (λ (o : Option (Got Atom)).
    next o (λ a xs. next (front_steps n xs) (λ ss xs. got (record { first = a; more = ss }) xs)))
    (atom_read x.first (spell_steps x.more ++ rest))
    ∙ ap (λ (o : Option (Got (List Step))). next o (λ ss xs. got (record { first = x.first; more = ss }) xs))
    (steps_read x.more n rest h e)

-- ---- lists with commas
module _ {A : Type 0} (p : List Symbol → Option (Got A)) (spell : A → List Symbol) (Ends : List Symbol → Type 0)
    (Ok : A → Type 0)
    (reads : (y : A) → Ok y → (rest : List Symbol) → Ends rest → p (spell y ++ rest) ≡ got y rest)
    (comma : (y : A) (rest : List Symbol) → Ends rest → Ends (sign is.comma ∷ (spell y ++ rest))) where
  abbrev pub AllOk : List A → Type 0
  AllOk [] = Unit {0}
  AllOk (y ∷ ys) = Ok y × AllOk ys

  pub more_ends : (ys : List A) (rest : List Symbol) → Ends rest → Ends (spell_more spell ys ++ rest)
  more_ends [] rest h = h
  more_ends (y ∷ ys) rest h =
      subst (λ (l : List Symbol). Ends (sign is.comma ∷ l)) (sym (append_assoc (spell y) (spell_more spell ys) rest))
      (comma y (spell_more spell ys ++ rest) (more_ends ys rest h))

  pub more_read : (ys : List A) (n : ℕ) (rest : List Symbol) → length ys + 1 ≤ n → AllOk ys → Ends rest
      → begins is.comma rest ≡ false → front_more p n (spell_more spell ys ++ rest) ≡ got ys rest
  more_read ys zero rest h ok e c = absurd (omega arith)
  more_read [] (suc n) rest h ok e c = rw c
  more_read (y ∷ ys) (suc n) rest h ok e c =
      let ih = more_read ys n rest (omega arith) ok.1 e c in
      let one = reads y ok.0 (spell_more spell ys ++ rest) (more_ends ys rest e) in
      ap (λ (l : List Symbol). next (p l) (λ y xs. next (front_more p n xs) (λ ys xs. got (y ∷ ys) xs)))
      (append_assoc (spell y) (spell_more spell ys) rest)
      ∙ ap (λ (o : Option (Got A)). next o (λ y xs. next (front_more p n xs) (λ ys xs. got (y ∷ ys) xs))) one
      ∙ ap (λ (o : Option (Got (List A))). next o (λ ys xs. got (y ∷ ys) xs)) ih

-- ---- refs
abbrev pub indices_size : List Index → ℕ
indices_size [] = 1
indices_size (x ∷ xs) = index_size x + (1 + indices_size xs)

abbrev pub ref_size : Ref → ℕ
ref_size r = indices_size r.indices

indices_long : (xs : List Index) → length xs + 1 ≤ indices_size xs
indices_long [] = omega arith
indices_long (x ∷ xs) = let h = indices_long xs in omega (arith, h)

-- each is small enough for this fuel
abbrev Small : ℕ → Index → Type 0
Small n x = index_size x ≤ n

indices_small : (n : ℕ) (xs : List Index) → indices_size xs ≤ n
    → AllOk (front_index n) spell_index IndexEnds (Small n) (λ y ok rest e. index_read y n rest ok e)
    (λ y rest e. (refl, refl)) xs
indices_small n [] h = tt
indices_small n (x ∷ xs) h = (omega arith, indices_small n xs (omega arith))

pub ref_read : (r : Ref) (n : ℕ) (rest : List Symbol) → ref_size r ≤ n → RefEnds rest
    → front_ref n (spell_ref r ++ rest) ≡ got r rest
ref_read r n rest h e = go r.indices h
  where
    go : (xs : List Index) → indices_size xs ≤ n
        → front_ref n (spell_ref (record { name = r.name; indices = xs }) ++ rest)
        ≡ got (record { name = r.name; indices = xs }) rest
    go [] h = rw e
    go (x ∷ xs) h =
        let k = r.name in
        let l = indices_long xs in
        let close : List Symbol = sign is.close_bracket ∷ rest in
        let a : ((spell_index x ++ spell_more spell_index xs) ++ sign is.close_bracket ∷ []) ++ rest
        ≡ spell_index x ++ (spell_more spell_index xs ++ close) = append_assoc
        (spell_index x ++ spell_more spell_index xs) (sign is.close_bracket ∷ []) rest
        ∙ append_assoc (spell_index x) (spell_more spell_index xs) close in
        let one = index_read x n (spell_more spell_index xs ++ close) (omega arith)
        (more_ends (front_index n) spell_index IndexEnds (Small n) (λ y ok rest e. index_read y n rest ok e)
        (λ y rest e. (refl, refl)) xs close (refl, refl)) in
        let all = more_read (front_index n) spell_index IndexEnds (Small n) (λ y ok rest e. index_read y n rest ok e)
        (λ y rest e. (refl, refl)) xs n close (omega arith) (indices_small n xs (omega arith))
        (refl, refl) refl in
        ap (λ (l : List Symbol).
        next (front_index n l) (λ x xs.
        next (front_more (front_index n) n xs)
        (λ ys xs. past is.close_bracket xs (λ xs. got (record { name = k; indices = x ∷ ys }) xs)))) a
        ∙ ap (λ (o : Option (Got Index)).
        next o (λ x xs. next (front_more (front_index n) n xs)
        (λ ys xs. past is.close_bracket xs (λ xs. got (record { name = k; indices = x ∷ ys }) xs)))) one
        ∙ ap (λ (o : Option (Got (List Index))).
        next o (λ ys xs. past is.close_bracket xs (λ xs. got (record { name = k; indices = x ∷ ys }) xs))) all

-- ---- ranges
abbrev pub range_size : Range → ℕ
range_size r = index_size r.from + index_size r.upto

pub range_read : (r : Range) (n : ℕ) (rest : List Symbol) → range_size r ≤ n → IndexEnds rest
    → front_range n (spell_range r ++ rest) ≡ got r rest
range_read r n rest h e =
    let k = r.name in
    let one = index_read r.from n (word is.to ∷ (spell_index r.upto ++ rest)) (omega arith) (refl, refl) in
    let two = index_read r.upto n rest (omega arith) e in
    ap (λ (l : List Symbol).
    next (front_index n l) (λ a xs.
    behind is.to xs (λ xs. next (front_index n xs) (λ b xs. got (record { name = k; from = a; upto = b }) xs))))
    (append_assoc (spell_index r.from) (word is.to ∷ spell_index r.upto) rest)
    ∙ ap (λ (o : Option (Got Index)).
    next o (λ a xs. behind is.to xs
    (λ xs. next (front_index n xs) (λ b xs. got (record { name = k; from = a; upto = b }) xs)))) one
    ∙ ap (λ (o : Option (Got Index)). next o (λ b xs. got (record { name = k; from = r.from; upto = b }) xs)) two

abbrev pub ranges_size : List Range → ℕ
ranges_size [] = 1
ranges_size (r ∷ rs) = range_size r + ranges_size rs

abbrev pub RangesEnd : List Symbol → Type 0
RangesEnd rest = IndexEnds rest × (goes_on rest ≡ false) × (leads is.for rest ≡ false)

pub ranges_read : (rs : List Range) (n : ℕ) (rest : List Symbol) → ranges_size rs ≤ n → AreRanges rs → RangesEnd rest
    → front_ranges n (spell_ranges rs ++ rest) ≡ got rs rest
ranges_read [] n rest h ok e = rw e.2
ranges_read (r ∷ []) n rest h ok e =
    let one = range_read r n rest (omega arith) e.0 in
    ap (λ (l : List Symbol).
    next (front_range n l) (λ r xs.
    if goes_on xs then next (front_range n (tail xs)) (λ s xs. got (r ∷ s ∷ []) xs) else got (r ∷ []) xs))
    (ap (λ (l : List Symbol). l ++ rest) (append-nil (spell_range r)))
    ∙ ap (λ (o : Option (Got Range)).
    next o (λ r xs. if goes_on xs then next (front_range n (tail xs)) (λ s xs. got (r ∷ s ∷ []) xs) else got
    (r ∷ []) xs)) one
    ∙ ap (λ (b : Bool). if b then next (front_range n (tail rest)) (λ s xs. got (r ∷ s ∷ []) xs) else got
    (r ∷ []) rest) e.1
ranges_read (r ∷ s ∷ []) n rest h ok e =
    let one = range_read r n (sign is.comma ∷ (spell_range s ++ rest)) (omega arith) (refl, refl) in
    let two = range_read s n rest (omega arith) e.0 in
    let a : (spell_range r ++ sign is.comma ∷ (spell_range s ++ [])) ++ rest
    ≡ spell_range r ++ (sign is.comma ∷ (spell_range s ++ rest)) = append_assoc (spell_range r)
    (sign is.comma ∷ (spell_range s ++ [])) rest
    ∙ ap (λ (l : List Symbol). spell_range r ++ (sign is.comma ∷ (l ++ rest))) (append-nil (spell_range s)) in
    ap (λ (l : List Symbol).
    next (front_range n l) (λ r xs.
    if goes_on xs then next (front_range n (tail xs)) (λ s xs. got (r ∷ s ∷ []) xs) else got (r ∷ []) xs)) a
    ∙ ap (λ (o : Option (Got Range)).
    next o (λ r xs. if goes_on xs then next (front_range n (tail xs)) (λ s xs. got (r ∷ s ∷ []) xs) else got
    (r ∷ []) xs)) one
    ∙ ap (λ (o : Option (Got Range)). next o (λ s xs. got (r ∷ s ∷ []) xs)) two
ranges_read (r ∷ s ∷ t ∷ rs) n rest h ok e = absurd (omega arith)

abbrev pub over_size : Option Ref → ℕ
over_size None = 1
over_size (Some r) = ref_size r

abbrev pub OverEnds : List Symbol → Type 0
OverEnds rest = RefEnds rest × (leads is.over rest ≡ false)

pub over_read : (o : Option Ref) (n : ℕ) (rest : List Symbol) → over_size o ≤ n → OverEnds rest
    → front_over n (spell_over o ++ rest) ≡ got o rest
over_read None n rest h e = rw e.1
over_read (Some r) n rest h e =
    ap (λ (o : Option (Got Ref)). next o (λ r xs. got (Some r) xs)) (ref_read r n rest h e.0)

-- ---- bounds
abbrev pub BoundsEnd : List Symbol → Type 0
BoundsEnd rest = NumberEnds rest × (leads is.within rest ≡ false) × (begins is.at_least rest ≡ false)
    × (begins is.at_most rest ≡ false)

pub bounds_read : (b : Option Bounds) (rest : List Symbol) → BoundsEnd rest
    → front_bounds (spell_bounds b ++ rest) ≡ got b rest
bounds_read None rest e = rw (e.1, e.2, e.3)
bounds_read (Some (stated.between a b)) rest e =
    let close : List Symbol = sign is.close_bracket ∷ rest in
    let l : (spell_signed a ++ sign is.comma ∷ (spell_signed b ++ sign is.close_bracket ∷ [])) ++ rest
    ≡ spell_signed a ++ (sign is.comma ∷ (spell_signed b ++ close)) = append_assoc (spell_signed a)
    (sign is.comma ∷ (spell_signed b ++ sign is.close_bracket ∷ [])) rest
    ∙ ap (λ (l : List Symbol). spell_signed a ++ (sign is.comma ∷ l))
    (append_assoc (spell_signed b) (sign is.close_bracket ∷ []) rest) in
    ap (λ (l : List Symbol).
    next (front_signed l) (λ a xs.
    past is.comma xs (λ xs. next (front_signed xs)
    (λ b xs. past is.close_bracket xs (λ xs. got (Some (stated.between a b)) xs))))) l
    ∙ ap (λ (o : Option (Got Signed)).
    next o (λ a xs. past is.comma xs
    (λ xs. next (front_signed xs) (λ b xs. past is.close_bracket xs (λ xs. got (Some (stated.between a b)) xs)))))
    (signed_read a (sign is.comma ∷ (spell_signed b ++ close)) refl)
    ∙ ap (λ (o : Option (Got Signed)).
    next o (λ b xs. past is.close_bracket xs (λ xs. got (Some (stated.between a b)) xs)))
    (signed_read b close refl)
bounds_read (Some (stated.at_least a)) rest e =
    ap (λ (o : Option (Got Signed)). next o (λ a xs. got (Some (stated.at_least a)) xs)) (signed_read a rest e.0)
bounds_read (Some (stated.at_most a)) rest e =
    ap (λ (o : Option (Got Signed)). next o (λ a xs. got (Some (stated.at_most a)) xs)) (signed_read a rest e.0)
