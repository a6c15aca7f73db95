-- Multipliers in order of form: those of one form stand together, and behind them those of later forms.
use Rattle.std.proofs.Common.{◌≡◌, ◌≢◌, ℕ, zero, suc, ◌+◌, ◌<◌, ◌≤◌, Bool, true, false, List, [], ◌∷◌, map, take, drop, arith, refl, sym, ◌∙◌, ap, subst, inl, inr}
use Rattle.std.proofs.lemmas.Bool.Decides.{nat_tests}
use Rattle.std.specs.Prelude.{nat_eq, if◌then◌else◌}
use Rattle.rob_algebra.specs.Fraction.{Fraction}
use Rattle.rob_cert.specs.View.{cover_of}
use Rattle.rob_cert.specs.declared.certificate.Cover as program
use Rattle.rob_meaning.specs.Certificates.{Cover, IsBefore}
use Rattle.rob_meaning.specs.Places.{Each, InOrder}
use Rattle.rob_check.specs.Covers.{covers_of}
use Rattle.rob_check.specs.View.{AreOrdered, NameRows, run}
use Rattle.std.proofs.lemmas.List.{drop-map, take-map}

pub same_number : (a b : ℕ) → nat_eq a b ≡ true → a ≡ b
same_number a b e = grind (arith, nat_tests)

pub other_number : (a b : ℕ) → nat_eq a b ≡ false → a ≢ b
other_number a b e = grind (arith, nat_tests)

pub unequal : (a b : ℕ) → a ≢ b → nat_eq a b ≡ false
unequal a b e = grind (arith, nat_tests)

pub equal : (a b : ℕ) → a ≡ b → nat_eq a b ≡ true
equal a b e = grind (arith, nat_tests)

-- what is left of the multipliers before form `index`: all of this form and of later ones
pub record IsRest (rows index : ℕ) (covers rest : List Cover) : Type 0 where
  pub same : (j : ℕ) → index ≤ j → covers_of j rest ≡ covers_of j covers
  pub ordered : AreOrdered rows rest
  pub from : Each (λ (c : Cover). index ≤ c.form) rest

-- ---- none of a form
none_of : (i : ℕ) (cs : List Cover) → Each (λ (c : Cover). i < c.form) cs → covers_of i cs ≡ []
none_of i [] h = refl
none_of i (c ∷ cs) h =
    ap (λ (t : Bool). if t then c ∷ covers_of i cs else covers_of i cs)
    (unequal c.form i (let below : i < c.form = h.0 in omega arith))
    ∙ none_of i cs h.1

later : (c : Cover) (i : ℕ) (cs : List Cover) → i < c.form → Each (IsBefore c) cs → Each (λ (d : Cover). i < d.form) cs
later c i [] below h = tt
later c i (d ∷ cs) below h = (by h.0, later c i cs below h.1)
  where
    by : IsBefore c d → i < d.form
    by (inl lt) = omega arith
    by (inr eq) = let same = eq.0 in omega arith

-- ---- the multipliers in front
front_is : (i : ℕ) (cs : List Cover) → InOrder IsBefore cs → Each (λ (c : Cover). i ≤ c.form) cs
    → take (run i cs) cs ≡ covers_of i cs
front_is i [] ordered from = refl
front_is i (c ∷ cs) ordered from = by (nat_eq c.form i) refl (front_is i cs ordered.1 from.1)
  where
    by : (t : Bool) → nat_eq c.form i ≡ t → take (run i cs) cs ≡ covers_of i cs
        → take (if t then suc (run i cs) else 0) (c ∷ cs) ≡ (if t then c ∷ covers_of i cs else covers_of i cs)
    by true e more = ap (λ rest. c ∷ rest) more
    by false e more =
        sym (none_of i cs
        (later c i cs (let other = other_number c.form i e in let at_least : i ≤ c.form = from.0 in
        omega arith) ordered.0))

-- ---- those behind
behind_same : (i j : ℕ) (cs : List Cover) → i < j → covers_of j (drop (run i cs) cs) ≡ covers_of j cs
behind_same i j [] lt = refl
behind_same i j (c ∷ cs) lt = by (nat_eq c.form i) refl (behind_same i j cs lt)
  where
    by : (t : Bool) → nat_eq c.form i ≡ t → covers_of j (drop (run i cs) cs) ≡ covers_of j cs
        → covers_of j (drop (if t then suc (run i cs) else 0) (c ∷ cs)) ≡ covers_of j (c ∷ cs)
    by true e more =
        more
        ∙ ap (λ (t : Bool). if t then c ∷ covers_of j cs else covers_of j cs)
        (sym (unequal c.form j (let same = same_number c.form i e in omega arith)))
    by false e more = refl

each_drop : {A : Type 0} (P : A → Type 0) (n : ℕ) (xs : List A) → Each P xs → Each P (drop n xs)
each_drop P zero xs h = h
each_drop P (suc n) [] h = tt
each_drop P (suc n) (x ∷ xs) h = each_drop P n xs h.1

order_drop : (n : ℕ) (xs : List Cover) → InOrder IsBefore xs → InOrder IsBefore (drop n xs)
order_drop zero xs h = h
order_drop (suc n) [] h = tt
order_drop (suc n) (x ∷ xs) h = order_drop n xs h.1

above : (i : ℕ) (cs : List Cover) → Each (λ (d : Cover). i < d.form) cs → Each (λ (c : Cover). i + 1 ≤ c.form) cs
above i [] h = tt
above i (d ∷ cs) h = (let lt = h.0 in omega arith, above i cs h.1)

behind_from : (i : ℕ) (cs : List Cover) → InOrder IsBefore cs → Each (λ (c : Cover). i ≤ c.form) cs
    → Each (λ (c : Cover). i + 1 ≤ c.form) (drop (run i cs) cs)
behind_from i [] ordered from = tt
behind_from i (c ∷ cs) ordered from = by (nat_eq c.form i) refl (behind_from i cs ordered.1 from.1)
  where
    by : (t : Bool) → nat_eq c.form i ≡ t → Each (λ (c : Cover). i + 1 ≤ c.form) (drop (run i cs) cs)
        → Each (λ (c : Cover). i + 1 ≤ c.form) (drop (if t then suc (run i cs) else 0) (c ∷ cs))
    by true e more = more
    by false e more =
        let other = other_number c.form i e in
        let at_least : i ≤ c.form = from.0 in
        (omega arith, above i cs (later c i cs (omega arith) ordered.0))

module _ {N : Type 0} (value : N → Fraction) (rows index : ℕ) (covers rest : List (program.Cover N))
    (h : IsRest rows index (map (cover_of value) covers) (map (cover_of value) rest)) where
  -- as many as stand in front are the form's
  pub mine_is : (n : ℕ) (mine : List (program.Cover N)) → n ≡ run index (map (cover_of value) rest) → mine ≡ take n rest
      → map (cover_of value) mine ≡ covers_of index (map (cover_of value) covers)
  mine_is n mine count is =
      ap (map (cover_of value)) is ∙ sym (take-map (cover_of value) n rest)
      ∙ ap (λ k. take k (map (cover_of value) rest)) count
      ∙ front_is index (map (cover_of value) rest) h.ordered.ordered h.from ∙ h.same index (omega arith)

  pub mine_named : (n : ℕ) (mine : List (program.Cover N)) → mine ≡ take n rest
      → NameRows rows (map (cover_of value) mine)
  mine_named n mine is =
      subst (NameRows rows) (sym (ap (map (cover_of value)) is ∙ sym (take-map (cover_of value) n rest)))
      (each_take n (map (cover_of value) rest) h.ordered.rows)
    where
      each_take : (n : ℕ) (cs : List Cover) → NameRows rows cs → NameRows rows (take n cs)
      each_take zero cs k = tt
      each_take (suc n) [] k = tt
      each_take (suc n) (c ∷ cs) k = (k.0, each_take n cs k.1)

  -- and those behind are left for the next form
  pub rest_is : (n : ℕ) (behind : List (program.Cover N))
      → n ≡ run index (map (cover_of value) rest) → behind ≡ drop n rest
      → IsRest rows (index + 1) (map (cover_of value) covers) (map (cover_of value) behind)
  rest_is n behind count is =
      subst (IsRest rows (index + 1) (map (cover_of value) covers))
      (sym (ap (map (cover_of value)) is ∙ sym (drop-map (cover_of value) n rest)
      ∙ ap (λ k. drop k (map (cover_of value) rest)) count))
      (record {
        same = λ j le. behind_same index j (map (cover_of value) rest) (omega arith) ∙ h.same j (omega arith);
        ordered = record {
          rows = each_drop (λ (c : Cover). c.set_row < rows) (run index (map (cover_of value) rest))
              (map (cover_of value) rest) h.ordered.rows;
          ordered = order_drop (run index (map (cover_of value) rest)) (map (cover_of value) rest) h.ordered.ordered;
        };
        from = behind_from index (map (cover_of value) rest) h.ordered.ordered h.from;
      })
