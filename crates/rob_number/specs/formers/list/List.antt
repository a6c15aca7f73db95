-- A `List<T>` inside a type that leads back to itself: where it stores the values of that type.
-- Contracts see a `List<T>` as the plain list of its items, so it stores them as a plain list does.
use mathlib.Core.Path.{◌≡◌, refl, sym}
use mathlib.Core.List.{[], List as Items}
use mathlib.Core.Former.{Former, this, list, via, children}
use base.Stored.{code_map}
use denote.RattleType.{RattleType}
use denote.HoleLaws.{Alike}
use denote.HolePlaces.{Recodes, struct_places, laid}
use denote.Hole.Carrier.{listed, list-listed}
use denote.Hole.Fix.{over}
use denote.Param.Weighed.{Weighed, w_list}
use denote.Model.Placed.{view_places}
use Rattle.std.specs.formers.vec.Vec as Vec
use Rattle.std.specs.declared.alloc.Global.{Global}
use Rattle.std.specs.contracts.alloc.Global as Heap
use Rattle.std.specs.contracts.impls.GlobalAllocator.TheImpl.{ghosts}
use Rattle.rob_number.specs.declared.list.List.TheInside.{Inside}
use Rattle.rob_number.specs.declared.list.List.TheView.{view, invariant}
use Rattle.rob_number.specs.contracts.list.List as Seen
use Rattle.rob_number.specs.contracts.list.List.TheInside as Fields

-- a list of what the inner type is made of
abbrev pub the_former : Former {0} → Former {0}
the_former inner = list inner

-- its measure is the largest of its items'
abbrev pub the_weighed : {inner : Former {0}} → Weighed inner → Weighed (the_former inner)
the_weighed weighed = w_list weighed

-- with no item there is the empty list
pub the_empty : Items ⊥
the_empty = []

-- its items, in order
abbrev pub the_items : (X : Type 0) → Items X → Items X
the_items X items = items

pub the_items_listed : (X : Type 0) (items : Items X)
    → listed _ (children (the_former this) X items) ≡ the_items X items
the_items_listed X items = list-listed X items

-- the struct's one field: a `Vec` of the items
abbrev in_vec : Former {0}
in_vec = via (Vec.the_former this Global) Inside (λ X fields. fields.items) (λ X items. record { items = items })
    (λ X fields. refl) (λ X items. refl)

module _ (R S : RattleType) (h : R.Denot → S.Denot) where
  -- two types of one layout make lists of one layout
  pub the_places : Alike R S h → Alike (Seen.the_row R) (Seen.the_row S) ((the_former this).map R.Denot S.Denot h)
  the_places alike =
      view_places in_vec (list this) view (λ X Y k fields. refl) (λ X fields. refl) R.Denot S.Denot h
      (Seen.the_row R).coded (Seen.the_row S).coded
      (invariant R.Denot) (invariant S.Denot) (λ fields p q. refl) (λ fields p q. refl)
      (λ fields e. tt) (λ fields e. tt)
      (over (Fields.the_row R)) (over (Fields.the_row S))
      (struct_places (Fields.the_type R) (Fields.the_type S) (Vec.mapped h, tt) _ (λ fields. refl) refl
      (laid _ _ _ (Vec.the_places Heap.the_row ghosts R S h alike), tt))

  -- and of one code
  pub the_codes_placed : Recodes R S h
      → Recodes (Seen.the_row R) (Seen.the_row S) ((the_former this).map R.Denot S.Denot h)
  the_codes_placed same items = sym (code_map R.coded.code S.coded.code h (λ x. sym (same x)) items)
