-- Nests that grow and shrink at their inner end.
use Rattle.std.proofs.Common.{◌≡◌, ◌<◌, ◌≤◌, ◌+◌, ◌-◌, ℕ, Bool, List, [], ◌∷◌, ◌++◌, length, take, get_or, refl, sym, ap, ◌∙◌, subst, arith}
use Rattle.std.specs.Prelude.{◌&&◌, ◌||◌, pos, int_le, int_lt}
use Rattle.rob_index.specs.Forms.{Ends, onto, fixed, all_run, is_dead, greatest, lack_form, length_form}
use Rattle.rob_ranges.specs.declared.nest.Told.{Told}
use Rattle.rob_ranges.specs.Nests.{IsTold, AreTold, all_but_last, last_told}
use Rattle.rob_ranges.proofs.NestLemmas.{onto_last, front_last}
use Rattle.std.proofs.lemmas.List.{take_all}

-- ---- the last of a list
pub all_but_last_is : {A : Type 0} (xs : List A) (x : A) → all_but_last (xs ++ x ∷ []) ≡ xs
all_but_last_is [] x = refl
all_but_last_is (y ∷ []) x = refl
all_but_last_is {A} (y ∷ z ∷ xs) x = ap (λ (ys : List A). y ∷ ys) (all_but_last_is (z ∷ xs) x)

-- ---- what is told of a nest
pub last_is : (ts : List Told) (t : Told) → last_told (ts ++ t ∷ []) ≡ t
last_is [] t = refl
last_is (u ∷ []) t = refl
last_is (u ∷ v ∷ ts) t = last_is (v ∷ ts) t

pub last_at : (ts : List Told) (d : Told) → 1 ≤ length ts → get_or ts (length ts - 1) d ≡ last_told ts
last_at ts d n =
    sym (last_is (take (length ts - 1) ts) (get_or ts (length ts - 1) d)) ∙ ap last_told (front_last ts d n)

-- of no more ranges than there are
pub told_few : (nest rs : List Ends) (ts : List Told) → AreTold nest rs ts → length ts ≤ length rs
told_few nest rs [] h = omega arith
told_few nest [] (t ∷ ts) h = absurd h
told_few nest (r ∷ rs) (t ∷ ts) h = omega (arith, told_few (r ∷ nest) rs ts h.1)

-- the last is told of the whole nest
told_of_all : (nest rs : List Ends) (ts : List Told) → AreTold nest rs ts → length ts ≡ length rs → 1 ≤ length ts
    → IsTold (onto rs nest) (last_told ts)
told_of_all nest rs [] h e n = absurd (omega (arith, n))
told_of_all nest [] (t ∷ ts) h e n = absurd h
told_of_all nest (r ∷ []) (t ∷ []) h e n = h.0
told_of_all nest (r ∷ q ∷ rs) (t ∷ []) h e n = absurd (omega (arith, e))
told_of_all nest (r ∷ []) (t ∷ u ∷ ts) h e n = absurd h.1
told_of_all nest (r ∷ q ∷ rs) (t ∷ u ∷ ts) h e n =
    told_of_all (r ∷ nest) (q ∷ rs) (u ∷ ts) h.1 (omega (arith, e)) (omega arith)

pub told_kept : (rs : List Ends) (ts : List Told) → AreTold [] rs ts → length ts ≡ length rs
    → IsTold (onto rs []) (last_told ts)
told_kept [] [] h e = record { runs = refl; dead = refl }
told_kept (r ∷ rs) [] h e = absurd (omega (arith, e))
told_kept rs (t ∷ ts) h e = told_of_all [] rs (t ∷ ts) h e (omega arith)

-- of those around the innermost, where it isn't told of that
pub one_longer : (front : List Ends) (r : Ends) → length (front ++ r ∷ []) ≡ length front + 1
one_longer [] r = refl
one_longer (q ∷ front) r = omega (arith, one_longer front r)

told_front : (nest front : List Ends) (r : Ends) (ts : List Told) → AreTold nest (front ++ r ∷ []) ts
    → length ts ≤ length front → AreTold nest front ts
told_front nest front r [] h n = tt
told_front nest [] r (t ∷ ts) h n = absurd (omega (arith, n))
told_front nest (q ∷ front) r (t ∷ ts) h n = (h.0, told_front (q ∷ nest) front r ts h.1 (omega (arith, n)))

pub told_around : (rs front : List Ends) (r : Ends) (ts : List Told) → front ++ r ∷ [] ≡ rs → AreTold [] rs ts
    → length ts < length rs → AreTold [] front ts
told_around rs front r ts apart h n =
    let e = ap length apart in
    told_front [] front r ts (subst (λ (qs : List Ends). AreTold [] qs ts) (sym apart) h)
    (omega (arith, n, e, one_longer front r))

-- with one range more
pub told_inside_is : (rs : List Ends) (r : Ends) (around : Told) (a d : Bool) → IsTold (onto rs []) around
    → a ≡ int_le (greatest (onto rs (fixed [])) (lack_form r)) (pos 0)
    → d ≡ int_lt (greatest (onto rs (fixed [])) (length_form r)) (pos 0)
    → IsTold (onto (rs ++ r ∷ []) []) (record { runs = a && around.runs; dead = d || around.dead })
told_inside_is rs r around a d h e f = record {
  runs = (λ i. e i && h.runs i) ∙ ap all_run (sym (onto_last rs r []));
  dead = (λ i. f i || h.dead i) ∙ ap is_dead (sym (onto_last rs r []));
}

-- of the innermost too
told_last : (nest front : List Ends) (r : Ends) (ts : List Told) (t : Told) → AreTold nest front ts
    → length ts ≡ length front → IsTold (onto (front ++ r ∷ []) nest) t → AreTold nest (front ++ r ∷ []) (ts ++ t ∷ [])
told_last nest [] r [] t h e k = (k, tt)
told_last nest (q ∷ front) r [] t h e k = absurd (omega (arith, e))
told_last nest [] r (u ∷ ts) t h e k = absurd h
told_last nest (q ∷ front) r (u ∷ ts) t h e k = (h.0, told_last (q ∷ nest) front r ts t h.1 (omega (arith, e)) k)

module _ (rs front : List Ends) (r : Ends) (ts : List Told) (t : Told) (apart : front ++ r ∷ [] ≡ rs)
    (all : length ts ≡ length front) where
  pub told_too : AreTold [] front ts → IsTold (onto (front ++ r ∷ []) []) t → AreTold [] rs (ts ++ t ∷ [])
  told_too h k = subst (λ (qs : List Ends). AreTold [] qs (ts ++ t ∷ [])) apart (told_last [] front r ts t h all k)

-- one range more
pub told_entered : (nest rs : List Ends) (ts : List Told) (r : Ends) → AreTold nest rs ts
    → AreTold nest (rs ++ r ∷ []) ts
told_entered nest rs [] r h = tt
told_entered nest [] (t ∷ ts) r h = absurd h
told_entered nest (q ∷ rs) (t ∷ ts) r h = (h.0, told_entered (q ∷ nest) rs ts r h.1)

pub told_wider : (rs front : List Ends) (r : Ends) (ts : List Told) → front ++ r ∷ [] ≡ rs → AreTold [] front ts
    → AreTold [] rs ts
told_wider rs front r ts apart h =
    subst (λ (qs : List Ends). AreTold [] qs ts) apart (told_entered [] front ts r h)

-- one fewer
pub told_fewer : (nest rs : List Ends) (ts : List Told) → AreTold nest rs ts → length (all_but_last rs) < length ts
    → AreTold nest (all_but_last rs) (all_but_last ts)
told_fewer nest rs [] h n = absurd (omega (arith, n))
told_fewer nest [] (t ∷ ts) h n = absurd h
told_fewer nest (r ∷ []) (t ∷ []) h n = tt
told_fewer nest (r ∷ []) (t ∷ u ∷ ts) h n = absurd h.1
told_fewer nest (r ∷ q ∷ rs) (t ∷ []) h n = absurd (omega (arith, n))
told_fewer nest (r ∷ q ∷ rs) (t ∷ u ∷ ts) h n = (h.0, told_fewer (r ∷ nest) (q ∷ rs) (u ∷ ts) h.1 (omega (arith, n)))

pub told_stays : (nest rs : List Ends) (ts : List Told) → AreTold nest rs ts → length ts ≤ length (all_but_last rs)
    → AreTold nest (all_but_last rs) ts
told_stays nest rs [] h n = tt
told_stays nest [] (t ∷ ts) h n = absurd h
told_stays nest (r ∷ []) (t ∷ ts) h n = absurd (omega (arith, n))
told_stays nest (r ∷ q ∷ rs) (t ∷ ts) h n = (h.0, told_stays (r ∷ nest) (q ∷ rs) ts h.1 (omega (arith, n)))

-- what is left where the last is taken, if there is one
pub front_is : {A : Type 0} (xs : List A) (n : ℕ) → n ≡ length xs → take (n - 1) xs ≡ all_but_last xs
front_is [] n e = take_all (n - 1) [] (omega arith)
front_is (x ∷ xs) n e =
    let d = get_or (x ∷ xs) (length (x ∷ xs) - 1) x in
    ap (λ (k : ℕ). take (k - 1) (x ∷ xs)) e
    ∙ sym (ap all_but_last (sym (front_last (x ∷ xs) x (omega arith)))
    ∙ all_but_last_is (take (length (x ∷ xs) - 1) (x ∷ xs)) d)
