-- The verdict on two lists of conditions, one behind the other.
use Rattle.std.proofs.Common.{◌≡◌, ℕ, ◌+◌, ◌-◌, ◌<◌, ◌≤◌, Bool, true, false, List, [], ◌∷◌, ◌++◌, map, arith, refl, sym, ◌∙◌, ap, ap₂, add-one}
use Rattle.std.specs.Prelude.{Option, Some, None}
use Rattle.rob_model.specs.declared.place.Place.{Place}
use Rattle.rob_check.specs.Sums.{numbers_from}
use Rattle.rob_check.specs.Verdicts.{Condition, decided, verdict}
use Rattle.rob_check.specs.declared.verdict.Verdict.{Verdict}
use Rattle.rob_check.specs.declared.verdict.Verdict.TheVariants.{Accepted, Rejected, TooWide}

-- the second verdict counts where the first accepts
behind : Verdict → Verdict → Verdict
behind Accepted w = w
behind (Rejected place) w = Rejected place
behind (TooWide place) w = TooWide place

decided-behind : (place : Place) (holds : Option Bool) (v w : Verdict)
    → decided place holds (behind v w) ≡ behind (decided place holds v) w
unfolding behind
decided-behind place (Some true) v w = refl
decided-behind place (Some false) v w = refl
decided-behind place None v w = refl

verdict-append : (xs ys : List Condition) → verdict (xs ++ ys) ≡ behind (verdict xs) (verdict ys)
unfolding behind
verdict-append [] ys = refl
verdict-append (c ∷ xs) ys =
    ap (decided c.place c.holds) (verdict-append xs ys) ∙ decided-behind c.place c.holds (verdict xs) (verdict ys)

module _ (xs ys : List Condition) where
  -- where the first list is accepted the verdict is that on the second
  pub goes : Accepted ≡ verdict xs → verdict ys ≡ verdict (xs ++ ys)
  unfolding behind
  goes h = ap (λ v. behind v (verdict ys)) h ∙ sym (verdict-append xs ys)

  -- a flaw in the first list is the verdict
  pub stops : (v : Verdict) → (v ≡ Accepted → ⊥) → v ≡ verdict xs → v ≡ verdict (xs ++ ys)
  unfolding behind
  stops v flaw h = is v flaw ∙ ap (λ v. behind v (verdict ys)) h ∙ sym (verdict-append xs ys)
    where
      is : (v : Verdict) → (v ≡ Accepted → ⊥) → v ≡ behind v (verdict ys)
      is Accepted flaw = absurd (flaw refl)
      is (Rejected place) flaw = refl
      is (TooWide place) flaw = refl

-- one condition that was judged
pub judged_is : (place other : Place) (holds test : Option Bool) (v : Verdict) → v ≡ decided place holds Accepted
    → place ≡ other → holds ≡ test
    → v ≡ verdict (record { place = other; holds = test } ∷ [])
judged_is place other holds test v h p t = h ∙ ap₂ (λ p t. decided p t Accepted) p t

-- a test by a sign
pub sign_fails : (place : Place) (t : Bool) (rest : Verdict) → false ≡ t → Rejected place ≡ decided place (Some t) rest
sign_fails place t rest h = ap (λ t. decided place (Some t) rest) h

pub sign_holds : (place : Place) (t : Bool) (rest : Verdict) → true ≡ t → rest ≡ decided place (Some t) rest
sign_holds place t rest h = ap (λ t. decided place (Some t) rest) h

-- numbers in order, up to an end
pub numbers_step : (k end : ℕ) → k < end → numbers_from k (end - k) ≡ k ∷ numbers_from (k + 1) (end - (k + 1))
numbers_step k end h =
    ap (numbers_from k) (let e : end - k ≡ (end - (k + 1)) + 1 = omega arith in e ∙ add-one (end - (k + 1)))
    ∙ ap (λ j. k ∷ numbers_from j (end - (k + 1))) (sym (add-one k))

pub numbers_end : (k end : ℕ) → end ≤ k → numbers_from k (end - k) ≡ []
numbers_end k end h = ap (numbers_from k) (let e : end - k ≡ 0 = omega arith in e)

module _ (test : ℕ → Condition) (last : Condition) (k end : ℕ) where
  abbrev pub tests_left : List Condition
  tests_left = map test (numbers_from k (end - k)) ++ last ∷ []

  abbrev pub tests_behind : List Condition
  tests_behind = map test (numbers_from (k + 1) (end - (k + 1))) ++ last ∷ []

  pub column_stops : (v : Verdict) → k < end → (v ≡ Accepted → ⊥) → v ≡ verdict (test k ∷ []) → v ≡ verdict tests_left
  column_stops v inside flaw h =
      stops (test k ∷ []) tests_behind v flaw h
      ∙ ap (λ js. verdict (map test js ++ last ∷ [])) (sym (numbers_step k end inside))

  pub column_goes : k < end → Accepted ≡ verdict (test k ∷ []) → verdict tests_behind ≡ verdict tests_left
  column_goes inside h =
      goes (test k ∷ []) tests_behind h
      ∙ ap (λ js. verdict (map test js ++ last ∷ [])) (sym (numbers_step k end inside))

  pub columns_end : end ≤ k → verdict (last ∷ []) ≡ verdict tests_left
  columns_end h = ap (λ js. verdict (map test js ++ last ∷ [])) (sym (numbers_end k end h))
