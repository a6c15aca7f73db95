-- Judging in order: item after item is found not wide, up to the first that is, where a computation stops. It begins
-- with all, goes one step on where what comes is not wide, stops where it is, and ends.
use Rattle.std.specs.Prelude.{◌≡◌, List, [], ◌++◌, refl}
use Rattle.std.proofs.Common.{sym, ◌∙◌, ap, subst, append_assoc, append-nil}
use Rattle.rob_meaning.specs.Places.{Each}
use Rattle.rob_meaning.proofs.Lists.EachLemmas.{each_append}
use Rattle.rob_sets.specs.FirstWide.{Some_of}
use Rattle.rob_sets.proofs.Cells.ListLemmas.{some_left, some_right}
use Rattle.rob_sets.proofs.Cells.PartedLemmas.{Parted}

-- of all that is judged some is done, none of it wide, and the rest is left
pub record Judging {A : Type 0} (IsWide : A → Type 0) (all left : List A) : Type 0 where
  pub done : List A
  pub none_wide : Each (λ x. IsWide x → ⊥) done
  pub order : done ++ left ≡ all

module _ {A : Type 0} {IsWide : A → Type 0} where
  pub judging_begins : (all : List A) → Judging IsWide all all
  judging_begins all = record { done = []; none_wide = tt; order = refl }

  -- one step on
  pub judging_goes_on : {all left here more : List A} → Judging IsWide all left → Parted left here more
      → Each (λ x. IsWide x → ⊥) here → Judging IsWide all more
  judging_goes_on {here} {more} p l none = record {
    done = p.done ++ here;
    none_wide = each_append (λ x. IsWide x → ⊥) p.done here p.none_wide none;
    order = append_assoc p.done here more ∙ ap (λ (xs : List A). p.done ++ xs) (sym l.is) ∙ p.order;
  }

  -- a stop: what is wide here is so of all
  pub judging_stops : {all left here more : List A} → Judging IsWide all left → Parted left here more
      → Some_of IsWide here → Some_of IsWide all
  judging_stops {here} {more} p l w =
      subst (λ (xs : List A). Some_of IsWide xs) (ap (λ (xs : List A). p.done ++ xs) (sym l.is) ∙ p.order)
      (some_right IsWide p.done (here ++ more) (some_left IsWide here more w))

  -- nothing is left
  pub judging_ends : {all left : List A} → Judging IsWide all left → left ≡ [] → Each (λ x. IsWide x → ⊥) all
  judging_ends p over =
      subst (λ (xs : List A). Each (λ x. IsWide x → ⊥) xs)
      (sym (append-nil p.done) ∙ ap (λ (xs : List A). p.done ++ xs) (sym over) ∙ p.order) p.none_wide
