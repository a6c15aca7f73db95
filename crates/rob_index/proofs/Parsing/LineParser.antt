-- The reader of lines.
use Rattle.std.proofs.Common.{◌≡◌, ℕ, ◌+◌, ◌≤◌, false, List, [], ◌∷◌, ◌++◌, length, Option, Some, None, refl, ap, ◌∙◌, arith, append_assoc}
use Rattle.std.specs.Prelude.{if◌then◌else◌}
use Rattle.rob_index.specs.Symbols.{Symbol, name, sign, word}
use Rattle.rob_index.specs.Symbols as is
use Rattle.rob_index.specs.Statements.{Numeral, Signed, Rel, Index, Ref, Range, Ranged, Share, Sides, over}
use Rattle.rob_index.specs.Statements as stated
use Rattle.rob_index.specs.Grammar.{Expr, spell_more, spell_list, spell_ref, spell_range, spell_ranges, spell_over, spell_number, spell_signed, spell_expr}
use Rattle.rob_index.specs.Lines.{spell_rel, spell_sides, spell_ranged, spell_share, AreRanges, AreAllRanged}
use Rattle.rob_index.proofs.Parsing.Parser.{begins, leads, tail, Got, got, next, behind, front_number, front_signed, front_ref, front_more, front_ranges, front_over, goes_on}
use Rattle.rob_index.proofs.Parsing.PartsRead.{number_read, signed_read, ref_read, ranges_read, over_read, more_ends, more_read, AllOk, ref_size, ranges_size, over_size, NumberEnds, RefEnds, RangesEnd}
use Rattle.rob_index.proofs.Parsing.ExprParser.{front_expr, expr_size, expr_read, ExprEnds}

-- ---- both sides of a relation
abbrev pub front_rel : List Symbol → Option (Got Rel)
front_rel xs =
    if begins is.at_most xs then got stated.at_most (tail xs)
    else (if begins is.at_least xs then got stated.at_least (tail xs)
    else (if begins is.equal xs then got stated.equal (tail xs) else None))

rel_read : (r : Rel) (rest : List Symbol) → front_rel (spell_rel r ∷ rest) ≡ got r rest
rel_read stated.at_most rest = refl
rel_read stated.at_least rest = refl
rel_read stated.equal rest = refl

rel_ends : (r : Rel) (rest : List Symbol) → ExprEnds (spell_rel r ∷ rest)
rel_ends stated.at_most rest = (((refl, refl), refl), refl, refl)
rel_ends stated.at_least rest = (((refl, refl), refl), refl, refl)
rel_ends stated.equal rest = (((refl, refl), refl), refl, refl)

abbrev pub front_sides : ℕ → List Symbol → Option (Got (Sides Expr))
front_sides n xs = next (front_expr n xs)
    (λ l xs. next (front_rel xs)
    (λ r xs. next (front_expr n xs)
    (λ p xs. next (front_over n xs) (λ o xs. got (record { left = l; rel = r; right = p; over = o }) xs))))

abbrev pub sides_size : Sides Expr → ℕ
sides_size s = expr_size s.left + (expr_size s.right + over_size s.over)

abbrev pub SidesEnd : List Symbol → Type 0
SidesEnd rest = ExprEnds rest × (leads is.over rest ≡ false)

pub over_ends : (o : Option Ref) (rest : List Symbol) → ExprEnds rest → ExprEnds (spell_over o ++ rest)
over_ends None rest e = e
over_ends (Some r) rest e = (((refl, refl), refl), refl, refl)

pub sides_read : (s : Sides Expr) (n : ℕ) (rest : List Symbol) → sides_size s ≤ n → SidesEnd rest
    → front_sides n (spell_sides s ++ rest) ≡ got s rest
sides_read s n rest h e =
    let l = s.left in
    let r = s.rel in
    let p = s.right in
    let tail_is : List Symbol = spell_over s.over ++ rest in
    let a : (spell_expr l ++ spell_rel r ∷ (spell_expr p ++ spell_over s.over)) ++ rest
    ≡ spell_expr l ++ (spell_rel r ∷ (spell_expr p ++ tail_is)) =
    append_assoc (spell_expr l) (spell_rel r ∷ (spell_expr p ++ spell_over s.over)) rest
    ∙ ap (λ (k : List Symbol). spell_expr l ++ (spell_rel r ∷ k))
    (append_assoc (spell_expr p) (spell_over s.over) rest) in
    let one = expr_read l n (spell_rel r ∷ (spell_expr p ++ tail_is)) (omega arith)
    (rel_ends r (spell_expr p ++ tail_is)) in
    let two = rel_read r (spell_expr p ++ tail_is) in
    let three = expr_read p n tail_is (omega arith) (over_ends s.over rest e.0) in
    let four = over_read s.over n rest (omega arith) (e.0.0.0.1, e.1) in
    ap (front_sides n) a
    ∙ ap (λ (o : Option (Got Expr)).
    next o (λ l xs. next (front_rel xs)
    (λ r xs. next (front_expr n xs)
    (λ p xs. next (front_over n xs) (λ o xs. got (record { left = l; rel = r; right = p; over = o }) xs))))) one
    ∙ ap (λ (o : Option (Got Rel)).
    next o (λ r xs. next (front_expr n xs)
    (λ p xs. next (front_over n xs) (λ o xs. got (record { left = l; rel = r; right = p; over = o }) xs)))) two
    ∙ ap (λ (o : Option (Got Expr)).
    next o (λ p xs. next (front_over n xs)
    (λ o xs. got (record { left = l; rel = r; right = p; over = o }) xs))) three
    ∙ ap (λ (o : Option (Got (Option Ref))).
    next o (λ o xs. got (record { left = l; rel = r; right = p; over = o }) xs)) four

-- ---- items with ranges
abbrev pub front_share : ℕ → List Symbol → Option (Got Share)
front_share n xs = next (front_ref n xs)
    (λ r xs. behind is.at xs
    (λ xs. next (front_signed xs)
    (λ c xs. behind is.by xs
    (λ xs. next (front_number xs) (λ d xs. got (record { name = r; centre = c; deviation = d }) xs)))))

share_read : (m : Share) (n : ℕ) (rest : List Symbol) → ref_size m.name ≤ n → NumberEnds rest
    → front_share n (spell_share m ++ rest) ≡ got m rest
share_read m n rest h e =
    let r = m.name in
    let c = m.centre in
    let d = m.deviation in
    let a : (spell_ref r ++ word is.at ∷ (spell_signed c ++ word is.by ∷ spell_number d)) ++ rest
    ≡ spell_ref r ++ (word is.at ∷ (spell_signed c ++ (word is.by ∷ (spell_number d ++ rest)))) =
    append_assoc (spell_ref r) (word is.at ∷ (spell_signed c ++ word is.by ∷ spell_number d)) rest
    ∙ ap (λ (k : List Symbol). spell_ref r ++ (word is.at ∷ k))
    (append_assoc (spell_signed c) (word is.by ∷ spell_number d) rest) in
    ap (front_share n) a
    ∙ ap (λ (o : Option (Got Ref)).
    next o (λ r xs. behind is.at xs
    (λ xs. next (front_signed xs)
    (λ c xs. behind is.by xs
    (λ xs. next (front_number xs) (λ d xs. got (record { name = r; centre = c; deviation = d }) xs))))))
    (ref_read r n (word is.at ∷ (spell_signed c ++ (word is.by ∷ (spell_number d ++ rest)))) h refl)
    ∙ ap (λ (o : Option (Got Signed)).
    next o (λ c xs. behind is.by xs
    (λ xs. next (front_number xs) (λ d xs. got (record { name = r; centre = c; deviation = d }) xs))))
    (signed_read c (word is.by ∷ (spell_number d ++ rest)) refl)
    ∙ ap (λ (o : Option (Got Numeral)). next o (λ d xs. got (record { name = r; centre = c; deviation = d }) xs))
    (number_read d rest e)

abbrev pub front_ranged : {A : Type 0} → (List Symbol → Option (Got A)) → ℕ → List Symbol → Option (Got (Ranged A))
front_ranged p n xs = next (p xs)
    (λ x xs. next (front_ranges n xs) (λ rs xs. got (record { item = x; ranges = rs }) xs))

-- behind which an item may end whose own reader ends where E holds
module _ {A : Type 0} (p : List Symbol → Option (Got A)) (spell : A → List Symbol) (E : List Symbol → Type 0)
    (size : A → ℕ) (n : ℕ)
    (reads : (x : A) (rest : List Symbol) → size x ≤ n → E rest → p (spell x ++ rest) ≡ got x rest)
    (for_ends : (rest : List Symbol) → E (word is.for ∷ rest)) where
  ranges_behind : (rs : List Range) (rest : List Symbol) → E rest → E (spell_ranges rs ++ rest)
  ranges_behind [] rest e = e
  ranges_behind (r ∷ rs) rest e = for_ends (spell_list spell_range (r ∷ rs) ++ rest)

  ranged_read : (x : Ranged A) (rest : List Symbol) → size x.item + ranges_size x.ranges ≤ n → AreRanges x.ranges
      → E rest → RangesEnd rest → front_ranged p n (spell_ranged spell x ++ rest) ≡ got x rest
  ranged_read x rest h ok e f =
      let i = x.item in
      ap (front_ranged p n) (append_assoc (spell i) (spell_ranges x.ranges) rest)
      ∙ ap (λ (o : Option (Got A)).
      next o (λ x xs. next (front_ranges n xs) (λ rs xs. got (record { item = x; ranges = rs }) xs)))
      (reads i (spell_ranges x.ranges ++ rest) (omega arith) (ranges_behind x.ranges rest e))
      ∙ ap (λ (o : Option (Got (List Range))). next o (λ rs xs. got (record { item = i; ranges = rs }) xs))
      (ranges_read x.ranges n rest (omega arith) ok f)

abbrev pub front_list : {A : Type 0} → (List Symbol → Option (Got A)) → ℕ → List Symbol → Option (Got (List A))
front_list p n xs = next (p xs) (λ y xs. next (front_more p n xs) (λ ys xs. got (y ∷ ys) xs))

module _ {A : Type 0} (p : List Symbol → Option (Got A)) (spell : A → List Symbol) (Ends : List Symbol → Type 0)
    (Ok : A → Type 0)
    (reads : (y : A) → Ok y → (rest : List Symbol) → Ends rest → p (spell y ++ rest) ≡ got y rest)
    (comma : (y : A) (rest : List Symbol) → Ends rest → Ends (sign is.comma ∷ (spell y ++ rest))) where
  pub list_read : (y : A) (ys : List A) (n : ℕ) (rest : List Symbol) → length ys + 1 ≤ n → Ok y
      → AllOk p spell Ends Ok reads comma ys → Ends rest → begins is.comma rest ≡ false
      → front_list p n (spell_list spell (y ∷ ys) ++ rest) ≡ got (y ∷ ys) rest
  list_read y ys n rest h ok oks e c =
      ap (front_list p n) (append_assoc (spell y) (spell_more spell ys) rest)
      ∙ ap (λ (o : Option (Got A)). next o (λ y xs. next (front_more p n xs) (λ ys xs. got (y ∷ ys) xs)))
      (reads y ok (spell_more spell ys ++ rest) (more_ends p spell Ends Ok reads comma ys rest e))
      ∙ ap (λ (o : Option (Got (List A))). next o (λ ys xs. got (y ∷ ys) xs))
      (more_read p spell Ends Ok reads comma ys n rest h oks e c)

-- ---- members of a budget
abbrev pub ShareEnds : List Symbol → Type 0
ShareEnds rest = NumberEnds rest × RangesEnd rest

abbrev pub share_size : Ranged Share → ℕ
share_size x = ref_size x.item.name + ranges_size x.ranges

abbrev pub ShareOk : ℕ → Ranged Share → Type 0
ShareOk n x = (share_size x ≤ n) × AreRanges x.ranges

pub shares : (n : ℕ) (x : Ranged Share) → ShareOk n x → (rest : List Symbol) → ShareEnds rest
    → front_ranged (front_share n) n (spell_ranged spell_share x ++ rest) ≡ got x rest
shares n x ok rest e = ranged_read (front_share n) spell_share NumberEnds (λ m. ref_size m.name) n
    (λ m rest h e. share_read m n rest h e) (λ rest. refl) x rest ok.0 ok.1 e.0 e.1

-- a name with a bracket or a word behind it is no range
pub share_comma : (x : Ranged Share) (rest : List Symbol) → ShareEnds rest
    → ShareEnds (sign is.comma ∷ (spell_ranged spell_share x ++ rest))
share_comma x rest e = (refl, ((refl, refl), go x.item.name.indices, refl))
  where
    go : (ix : List Index) → goes_on
        (sign is.comma ∷ (spell_ranged spell_share
        (record {
          item = record {
            name = record { name = x.item.name.name; indices = ix };
            centre = x.item.centre;
            deviation = x.item.deviation;
          };
          ranges = x.ranges;
        }) ++ rest)) ≡ false
    go [] = refl
    go (i ∷ is') = refl

abbrev pub shares_size : List (Ranged Share) → ℕ
shares_size [] = 1
shares_size (x ∷ xs) = share_size x + (1 + shares_size xs)

pub shares_long : (xs : List (Ranged Share)) → length xs + 1 ≤ shares_size xs
shares_long [] = omega arith
shares_long (x ∷ xs) = let h = shares_long xs in omega (arith, h)

pub shares_ok : (n : ℕ) (xs : List (Ranged Share)) → shares_size xs ≤ n → AreAllRanged xs
    → AllOk (front_ranged (front_share n) n) (spell_ranged spell_share) ShareEnds (ShareOk n) (shares n) share_comma xs
shares_ok n [] h ok = tt
shares_ok n (x ∷ xs) h ok = ((omega arith, ok.0), shares_ok n xs (omega arith) ok.1)

-- ---- entries of an adaptive variable's list
abbrev pub EntryEnds : List Symbol → Type 0
EntryEnds rest = RefEnds rest × RangesEnd rest × (begins is.equal rest ≡ false)

abbrev pub entry_size : Ranged Ref → ℕ
entry_size x = ref_size x.item + ranges_size x.ranges

abbrev pub EntryOk : ℕ → Ranged Ref → Type 0
EntryOk n x = (entry_size x ≤ n) × AreRanges x.ranges

pub entries : (n : ℕ) (x : Ranged Ref) → EntryOk n x → (rest : List Symbol) → EntryEnds rest
    → front_ranged (front_ref n) n (spell_ranged spell_ref x ++ rest) ≡ got x rest
entries n x ok rest e = ranged_read (front_ref n) spell_ref RefEnds ref_size n (λ r rest h e. ref_read r n rest h e)
    (λ rest. refl) x rest ok.0 ok.1 e.0 e.1

pub entry_comma : (x : Ranged Ref) (rest : List Symbol) → EntryEnds rest
    → EntryEnds (sign is.comma ∷ (spell_ranged spell_ref x ++ rest))
entry_comma x rest e = (refl, ((refl, refl), go x.item.indices x.ranges, refl), refl)
  where
    go : (ix : List Index) (rs : List Range)
        → goes_on (sign is.comma
        ∷ (spell_ranged spell_ref (record { item = record { name = x.item.name; indices = ix }; ranges = rs })
        ++ rest)) ≡ false
    go [] [] = e.2
    go [] (r ∷ rs) = refl
    go (i ∷ is') rs = refl

abbrev pub entries_size : List (Ranged Ref) → ℕ
entries_size [] = 1
entries_size (x ∷ xs) = entry_size x + (1 + entries_size xs)

pub entries_long : (xs : List (Ranged Ref)) → length xs + 1 ≤ entries_size xs
entries_long [] = omega arith
entries_long (x ∷ xs) = let h = entries_long xs in omega (arith, h)

pub entries_ok : (n : ℕ) (xs : List (Ranged Ref)) → entries_size xs ≤ n → AreAllRanged xs
    → AllOk (front_ranged (front_ref n) n) (spell_ranged spell_ref) EntryEnds (EntryOk n) (entries n) entry_comma xs
entries_ok n [] h ok = tt
entries_ok n (x ∷ xs) h ok = ((omega arith, ok.0), entries_ok n xs (omega arith) ok.1)
