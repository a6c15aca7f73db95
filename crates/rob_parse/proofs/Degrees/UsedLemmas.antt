-- What is true of the names and numbers of a statement is true of the names that its parts hold.
use Rattle.std.proofs.Common.{◌≡◌, ℕ, Bool, false, List, [], ◌∷◌, ◌++◌, map}
use Rattle.std.specs.List.{list_any, flat_map}
use Rattle.rob_meaning.specs.Places.{Each}
use Rattle.rob_rules.specs.declared.leaf.Leaf.{Leaf}
use Rattle.rob_rules.specs.declared.leaf.Leaf.TheVariants.{Name, Number}
use Rattle.rob_rules.specs.Leaves.{leaves, part_leaves, factor_leaves, member_leaves}
use Rattle.rob_syntax.specs.declared.syntax.Member.{Member}
use Rattle.rob_syntax.specs.Trees.{Tree, number, name, sum, product, Summands, no_summands, summand, Operands, no_operands, operand}
use Rattle.rob_parse.proofs.Degrees.DegreeLemmas.{EachName, EachSummand, EachOperand}
use Rattle.std.proofs.lemmas.Bool.{or_parts}
use Rattle.rob_index.proofs.Names.NamingLemmas.{none_both}

module _ (test : Leaf → Bool) where
  -- no name and no number passes the test
  abbrev pub Free : List Leaf → Type 0
  Free ls = list_any test ls ≡ false

  -- the name doesn't pass it
  abbrev pub IsFreeName : ℕ → Type 0
  IsFreeName k = test (Name k) ≡ false

  pub left : (xs ys : List Leaf) → Free (xs ++ ys) → Free xs
  left xs ys free = (none_both test xs ys free).0

  pub right : (xs ys : List Leaf) → Free (xs ++ ys) → Free ys
  right xs ys free = (none_both test xs ys free).1

  pub head : (x : Leaf) (xs : List Leaf) → Free (x ∷ xs) → test x ≡ false
  head x xs free = (or_parts (test x) (list_any test xs) free).0

  pub tail : (x : Leaf) (xs : List Leaf) → Free (x ∷ xs) → Free xs
  tail x xs free = (or_parts (test x) (list_any test xs) free).1

  mutual
    pub free_tree : (t : Tree) → Free (leaves t) → EachName IsFreeName t
    free_tree (number n) free = tt
    free_tree (name k) free = head (Name k) [] free
    free_tree (sum ts) free = free_parts ts free
    free_tree (product fs) free = free_factors fs free

    free_parts : (ts : Summands) → Free (part_leaves ts) → EachSummand IsFreeName ts
    free_parts no_summands free = tt
    free_parts (summand minus t ts) free =
        (free_tree t (left (leaves t) (part_leaves ts) free), free_parts ts (right (leaves t) (part_leaves ts) free))

    free_factors : (fs : Operands) → Free (factor_leaves fs) → EachOperand IsFreeName fs
    free_factors no_operands free = tt
    free_factors (operand f fs) free = (
      free_tree f (left (leaves f) (factor_leaves fs) free),
      free_factors fs
          (right (leaves f) (factor_leaves fs) free),
    )

  pub free_list : (on : List ℕ) → Free (map Name on) → Each IsFreeName on
  free_list [] free = tt
  free_list (k ∷ on) free = (head (Name k) (map Name on) free, free_list on (tail (Name k) (map Name on) free))

  pub free_members : (ms : List Member) → Free (flat_map member_leaves ms) → Each (λ (h : Member). IsFreeName h.name) ms
  free_members [] free = tt
  free_members (h ∷ ms) free = (
    head (Name h.name) (Number h.spread.centre.number ∷ Number h.spread.deviation ∷ flat_map member_leaves ms) free,
    free_members ms (right (member_leaves h) (flat_map member_leaves ms) free),
  )
