-- The named variable that has a name, sought one number after another.
use Rattle.std.proofs.Common.{◌≡◌, ℕ, zero, suc, ◌+◌, ◌<◌, List, [], ◌∷◌, length, get_or, drop, arith, ap, sym, ◌∙◌, subst, inl, inr}
use Rattle.std.proofs.lemmas.List.{get_or_default}
use Rattle.rob_cert.specs.Spelling.{name_at}
use Rattle.rob_meaning.specs.Names.{Name}
use Rattle.rob_model.proofs.PartLemmas.{drop_at}
use Rattle.rob_reach.specs.Trees.{IsIn}

-- none of the numbers has the name
abbrev pub NoneHas : List Name → Name → List ℕ → Type 0
NoneHas columns name js = (j : ℕ) → IsIn j js → name ≡ name_at columns j → ⊥

is_in : (js : List ℕ) (i j : ℕ) → i < length js → j ≡ get_or js i j → IsIn j js
is_in [] i j h e = absurd (omega arith)
is_in (k ∷ js) zero j h e = inl e
is_in (k ∷ js) (suc i) j h e = inr (is_in js i j (omega arith) e)

module _ (columns : List Name) (name : Name) (js : List ℕ) (i j d : ℕ) (inside : i < length js)
    (is : j ≡ get_or js i d) where
  here : j ≡ get_or js i j
  here = is ∙ get_or_default js i d j inside

  pub number_in : IsIn j js
  number_in = is_in js i j inside here

  -- one number less is left
  pub none_more : (name_at columns j ≡ name → ⊥) → (NoneHas columns name (drop i js) → NoneHas columns name js)
      → NoneHas columns name (drop (i + 1) js) → NoneHas columns name js
  none_more other so rest = so (λ k on e. by k (subst (IsIn k) (drop_at js i j inside here) on) e)
    where
      by : (k : ℕ) → IsIn k (j ∷ drop (i + 1) js) → name ≡ name_at columns k → ⊥
      by k (inl same) e = other (sym (e ∙ ap (name_at columns) same))
      by k (inr there) e = rest k there e
