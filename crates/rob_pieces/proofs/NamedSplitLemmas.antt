-- The declared names of a split model are plain and free where the model's are: what is new ends with the cell's
-- number.
use Rattle.std.specs.Fmt.{decimal}
use Rattle.std.specs.Prelude.{◌≡◌, ◌≢◌, ℕ, zero, suc, ◌^◌, ◌<◌, ◌≤◌, eqb, Bool, true, false, ◌&&◌, not, List, [], ◌∷◌, ◌++◌, length, map, refl, codes, Option, Some, None}
use Rattle.std.proofs.Common.{sym, ◌∙◌, ap, subst, arith, pow_mono}
use Rattle.std.proofs.lemmas.Bool.{eqb-false}
use Rattle.rob_algebra.specs.Fraction.{Fraction}
use Rattle.rob_meaning.proofs.Scenarios.AloneLemmas.{all_taken}
use Rattle.rob_meaning.proofs.Lists.EachLemmas.{each_append, each_left, each_right}
use Rattle.rob_meaning.proofs.Naming.JoinedLemmas.{decimal_plain}
use Rattle.rob_meaning.proofs.Naming.NamedLemmas.{each_unmapped, plain_word, each_mapped}
use Rattle.rob_meaning.specs.Named.{AreDistinct, HasDistinctMembers, IsFree, IsNamed, IsPlain, adaptive_names, declared_names, row_names, variable_names, written_names}
use Rattle.rob_meaning.specs.Names.{Name}
use Rattle.rob_meaning.specs.Places.{Each}
use Rattle.rob_meaning.specs.RobustModel.{AdaptiveVariable, Member, Parameter, Relation, RobustModel, Row, SetLine, Variable, at_least, at_most, budget, line}
use Rattle.rob_meaning.specs.SetConditions.{if_declared}
use Rattle.rob_pieces.proofs.BlockLemmas.{each_cell, each_flat}
use Rattle.rob_pieces.proofs.ColumnLemmas.{written_parameters_split}
use Rattle.rob_pieces.specs.Cuts.{Cut, IsCell, bit, cell_numbers}
use Rattle.rob_pieces.specs.SplitModel.{bound_row, bound_rows, cell_lines, cell_names, cell_rows, cells_worst, copy_in, line_over, member_over, numbered, parameter_in, row_over, side_line, side_lines, split_model}
use Rattle.rob_pieces.specs.SplitNames.{HasGoodNames}

-- ---- a numbered name
-- the underscore is a byte of no word that is not free
abbrev IsUnmarked : Name → Type 0
IsUnmarked name = Each (λ b. b ≢ 95) name

abbrev is_unmarked : Name → Bool
is_unmarked [] = true
is_unmarked (b ∷ bs) = not (eqb b 95) && is_unmarked bs

unmarked : (name : Name) → is_unmarked name ≡ true → IsUnmarked name
unmarked [] h = tt
unmarked (b ∷ bs) h = by (eqb b 95) refl h (unmarked bs)
  where
    by : (e : Bool) → eqb b 95 ≡ e → (not e && is_unmarked bs) ≡ true →
        (is_unmarked bs ≡ true → IsUnmarked bs) → IsUnmarked (b ∷ bs)
    by true e h rest = cc
    by false e h rest = (eqb-false b 95 e, rest h)

marked : (name word : Name) (c : ℕ) → is_unmarked word ≡ true → numbered name c ≢ word
marked name word c h e =
    (each_right (λ b. b ≢ 95) name (codes "_" ++ decimal c) (subst IsUnmarked (sym e) (unmarked word h))).0 refl

numbered_free : (name : Name) (c : ℕ) → IsFree (numbered name c)
numbered_free name c = (marked name _ c refl, marked name _ c refl, marked name _ c refl, marked name _ c refl)

numbered_plain : (name : Name) (c : ℕ) → c < 2 ^ 64 → IsPlain name → IsPlain (numbered name c)
numbered_plain name c small h =
    each_append (λ byte. byte ≢ 46) name (codes "_" ++ decimal c) h
    (each_append (λ byte. byte ≢ 46) (codes "_") (decimal c) (plain_word (codes "_") refl) (decimal_plain c small))

-- ---- what is said of all names of one kind
module _ {A : Type 0} (P : Name → Type 0) (name : A → Name) where
  pub to_names : (xs : List A) → Each (λ x. P (name x)) xs → Each P (map name xs)
  to_names [] h = tt
  to_names (x ∷ xs) h = (h.0, to_names xs h.1)

module _ (m : RobustModel) (alone : m.sets ≡ []) (cuts : List Cut) where
  abbrev s : RobustModel
  s = split_model m cuts

  same_written : written_names s ≡ written_names m
  same_written =
      ap (λ (ps : List Parameter). map (λ (p : Parameter). p.name) ps)
      (written_parameters_split m cuts ∙ sym (all_taken m alone))

  -- what the model's names keep and numbered names keep, all names of the split model keep
  module _ (P : Name → Type 0) (own : Each P (declared_names m))
      (made : (name : Name) (c : ℕ) → IsCell cuts c → IsPlain name → P (numbered name c))
      (plain : Each IsPlain (declared_names m)) (worst : P (codes "cells_worst")) where
    -- the names of one kind in the model
    module _ (Q : Name → Type 0) (h : Each Q (declared_names m)) where
      behind_written : Each Q (m.sets ++ (row_names m ++ (variable_names m ++ adaptive_names m)))
      behind_written = each_right Q (written_names m) _ h

      behind_sets : Each Q (row_names m ++ (variable_names m ++ adaptive_names m))
      behind_sets = each_right Q m.sets _ behind_written

      behind_rows : Each Q (variable_names m ++ adaptive_names m)
      behind_rows = each_right Q (row_names m) _ behind_sets

    bound_names : (c k : ℕ) → IsCell cuts c → (ys : List AdaptiveVariable)
        → Each (λ (y : AdaptiveVariable). IsPlain y.name) ys →
        Each (λ (r : Row). P r.name) (bound_rows m c k ys)
    bound_names c k cell [] h = tt
    bound_names c k cell (y ∷ ys) h =
        each_append (λ (r : Row). P r.name) _ _
        (declared (codes "_lower") at_least y.lower (plain_word (codes "_lower") refl))
        (each_append (λ (r : Row). P r.name) _ _
        (declared (codes "_upper") at_most y.upper (plain_word (codes "_upper") refl))
        (bound_names c (suc k) cell ys h.1))
      where
        declared : (end : Name) (relation : Relation) (o : Option Fraction) → IsPlain end →
            Each (λ (r : Row). P r.name) (if_declared (bound_row m c (y.name ++ end) k relation) o)
        declared end relation None e = tt
        declared end relation (Some b) e =
            (made (y.name ++ end) c cell (each_append (λ byte. byte ≢ 46) y.name end h.0 e), tt)

    row_names_kept : (c : ℕ) → IsCell cuts c → Each (λ (r : Row). P r.name) (cell_rows m c)
    row_names_kept c cell = (
      made (codes "cost") c cell (plain_word (codes "cost") refl),
      each_append (λ (r : Row). P r.name) (map (row_over m c) m.rows) (bound_rows m c 0 m.adaptives)
          (each_mapped (λ (r : Row). P r.name) (row_over m c) (λ (r : Row). IsPlain r.name)
          (λ r h. made r.name c cell h) m.rows
          (each_unmapped IsPlain (λ (r : Row). r.name) m.rows
          (each_left IsPlain (row_names m) _ (behind_sets IsPlain plain))))
          (bound_names c 0 cell m.adaptives
          (each_unmapped IsPlain (λ (y : AdaptiveVariable). y.name) m.adaptives
          (each_right IsPlain (variable_names m) _ (behind_rows IsPlain plain)))),
    )

    adaptive_names_kept : (c : ℕ) → IsCell cuts c
        → Each (λ (y : AdaptiveVariable). P y.name) (map (copy_in m c) m.adaptives)
    adaptive_names_kept c cell =
        each_mapped (λ (y : AdaptiveVariable). P y.name) (copy_in m c) (λ (y : AdaptiveVariable). IsPlain y.name)
        (λ y h. made y.name c cell h) m.adaptives
        (each_unmapped IsPlain (λ (y : AdaptiveVariable). y.name) m.adaptives
        (each_right IsPlain (variable_names m) _ (behind_rows IsPlain plain)))

    all_names : Each P (declared_names s)
    all_names =
        each_append P (written_names s) _
        (subst (λ (ns : List Name). Each P ns) (sym same_written) (each_left P (written_names m) _ own))
        (each_append P (cell_names cuts) _
        (to_names P (numbered (codes "cell")) (cell_numbers cuts)
        (each_cell cuts (λ c. P (numbered (codes "cell") c))
        (λ c cell. made (codes "cell") c cell (plain_word (codes "cell") refl))))
        (each_append P (row_names s) _
        (to_names P (λ (r : Row). r.name) s.rows
        (each_flat (λ (r : Row). P r.name) (cell_rows m) (cell_numbers cuts)
        (each_cell cuts (λ c. Each (λ (r : Row). P r.name) (cell_rows m c)) row_names_kept)))
        (each_append P (variable_names s) (adaptive_names s)
        (to_names P (λ (x : Variable). x.name) s.variables
        (each_append (λ (x : Variable). P x.name) m.variables (cells_worst ∷ [])
        (each_unmapped P (λ (x : Variable). x.name) m.variables
        (each_left P (variable_names m) (adaptive_names m) (behind_rows P own)))
        (worst, tt)))
        (to_names P (λ (y : AdaptiveVariable). y.name) s.adaptives
        (each_flat (λ (y : AdaptiveVariable). P y.name) (λ c. map (copy_in m c) m.adaptives) (cell_numbers cuts)
        (each_cell cuts (λ c. Each (λ (y : AdaptiveVariable). P y.name) (map (copy_in m c) m.adaptives))
        adaptive_names_kept))))))

  -- ---- members
  module _ (c : ℕ) where
    numbers_apart : (h : Member) (hs : List Member)
        → Each (λ k. h.parameter ≢ k) (map (λ (b : Member). b.parameter) hs) →
        Each (λ k. parameter_in m c h.parameter ≢ k) (map (λ (b : Member). b.parameter) (map (member_over m c) hs))
    numbers_apart h [] e = tt
    numbers_apart h (b ∷ hs) e = (λ same. e.0 (omega arith), numbers_apart h hs e.1)

    members_apart : (hs : List Member) → AreDistinct (map (λ (b : Member). b.parameter) hs) →
        AreDistinct (map (λ (b : Member). b.parameter) (map (member_over m c) hs))
    members_apart [] e = tt
    members_apart (h ∷ hs) e = (numbers_apart h hs e.0, members_apart hs e.1)

    line_members : (l : SetLine) → HasDistinctMembers l → HasDistinctMembers (line_over m c l)
    line_members (line l relation r) h = tt
    line_members (budget limit hs) h = members_apart hs h

    side_members : (cs : List Cut) → Each HasDistinctMembers (side_lines m c cs)
    side_members [] = tt
    side_members (cut ∷ cs) = (by (bit (length cs) _), side_members cs)
      where
        by : (b : ℕ) → HasDistinctMembers (side_line m c cut b)
        by zero = tt
        by (suc b) = tt

  few_cells : length cuts ≤ 3 → (c : ℕ) → IsCell cuts c → c < 2 ^ 64
  few_cells few c cell = let most = cell.1 in let p : 2 ^ length cuts ≤ 2 ^ 3 = pow_mono few in omega arith

  pub split_is_named : length cuts ≤ 3 → IsNamed m → HasGoodNames s → length s.set_lines < 2 ^ 32 → IsNamed s
  split_is_named few named good short = record {
    plain =
        all_names IsPlain named.plain (λ name c cell h. numbered_plain name c (few_cells few c cell) h) named.plain
        (plain_word (codes "cells_worst") refl);
    free =
        all_names IsFree named.free (λ name c cell h. numbered_free name c) named.plain worst_free;
    distinct = good.distinct;
    lists =
        each_flat (λ (y : AdaptiveVariable). AreDistinct y.on) (λ c. map (copy_in m c) m.adaptives) (cell_numbers cuts)
        (each_cell cuts (λ c. Each (λ (y : AdaptiveVariable). AreDistinct y.on) (map (copy_in m c) m.adaptives))
        (λ c cell.
        each_mapped (λ (y : AdaptiveVariable). AreDistinct y.on) (copy_in m c)
        (λ (y : AdaptiveVariable). AreDistinct y.on) (λ y h. h)
        m.adaptives named.lists));
    members =
        each_flat HasDistinctMembers (λ c. cell_lines m c cuts) (cell_numbers cuts)
        (each_cell cuts (λ c. Each HasDistinctMembers (cell_lines m c cuts))
        (λ c cell.
        each_append HasDistinctMembers (map (line_over m c) m.set_lines) (side_lines m c cuts)
        (each_mapped HasDistinctMembers (line_over m c) HasDistinctMembers (line_members c) m.set_lines named.members)
        (side_members c cuts)));
    few = short;
  }
    where
      worst_free : IsFree (codes "cells_worst")
      worst_free = (other _ refl, other _ refl, other _ refl, other _ refl)
        where
          other : (word : Name) → is_unmarked word ≡ true → codes "cells_worst" ≢ word
          other word h e =
              (each_right (λ b. b ≢ 95) (codes "cells") (codes "_worst") (subst IsUnmarked (sym e) (unmarked word h))).0
              refl
