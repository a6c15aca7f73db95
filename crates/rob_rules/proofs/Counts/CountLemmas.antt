-- The canonical tokens of plain statements are enough for what is counted of them.
use Rattle.std.proofs.Common.{ℕ, ◌+◌, ◌*◌, ◌^◌, ◌<◌, ◌≤◌, Bool, true, false, List, [], ◌∷◌, length, map, Option, Some, None, arith}
use Rattle.std.specs.Option.{option_map}
use Rattle.std.proofs.lemmas.List.{length-map}
use Rattle.rob_index.specs.Counting.{members_tokens, names_tokens, line_tokens, lines_tokens}
use Rattle.rob_index.specs.Statements as stated
use Rattle.rob_index.specs.Statements.{Name}
use Rattle.rob_syntax.specs.declared.syntax.Bounds.{Bounds}
use Rattle.rob_syntax.specs.declared.syntax.Bounds.TheVariants.{Between, AtLeast, AtMost}
use Rattle.rob_syntax.specs.declared.syntax.Rel.{Rel}
use Rattle.rob_syntax.specs.declared.syntax.Rel.TheVariants as rel
use Rattle.rob_syntax.specs.Numbered.{own_bounds, own_rel, numbered, numbered_member}
use Rattle.rob_syntax.specs.Symbols.{number_of}
use Rattle.rob_rules.specs.declared.size.Sizes.{Sizes}
use Rattle.rob_rules.specs.Sizes.{counted, bound_count, rel_count, joint_count, IsSmall, IsKept}
use Rattle.rob_rules.specs.Stages.{LeaveRoom}
use Rattle.rob_rules.proofs.Counts.SizeLemmas.{within, factors_at_most, times_more}
use Rattle.rob_model.specs.Limits.{most_size}

-- no count is over this
pub record IsUpTo (n : ℕ) (s : Sizes) : Type 0 where
  pub parameters : s.parameters ≤ n
  pub bounds : s.bounds ≤ n
  pub sets : s.sets ≤ n
  pub variables : s.variables ≤ n
  pub adaptives : s.adaptives ≤ n
  pub columns : s.columns ≤ n
  pub rows : s.rows ≤ n
  pub set_lines : s.set_lines ≤ n
  pub members : s.members ≤ n
  pub forms : s.forms ≤ n
  pub set_rows : s.set_rows ≤ n

small : (n : ℕ) (s : Sizes) → IsUpTo n s → n < 2 ^ 31 → IsSmall s
small n s up few = record {
  parameters = omega (arith, up.parameters, few);
  bounds = omega (arith, up.bounds, few);
  sets = omega (arith, up.sets, few);
  variables = omega (arith, up.variables, few);
  adaptives = omega (arith, up.adaptives, few);
  columns = omega (arith, up.columns, few);
  rows = omega (arith, up.rows, few);
  set_lines = omega (arith, up.set_lines, few);
  members = omega (arith, up.members, few);
  forms = omega (arith, up.forms, few);
  set_rows = omega (arith, up.set_rows, few);
}

few_bounds : (b : Option Bounds) → bound_count b ≤ 2
few_bounds None = omega arith
few_bounds (Some (Between i)) = omega arith
few_bounds (Some (AtLeast x)) = omega arith
few_bounds (Some (AtMost x)) = omega arith

few_sides : (r : Rel) → rel_count r ≤ 2
few_sides rel.AtMost = omega arith
few_sides rel.AtLeast = omega arith
few_sides rel.Equal = omega arith

module _ (limit : ℕ) where
  -- a name has a token, and a member three
  names_enough : (first : Bool) (ns : List Name) → length ns ≤ names_tokens limit first ns
  names_enough first [] = omega arith
  names_enough first (n ∷ ns) = let more = names_enough false ns in omega (arith, more)

  members_enough : (first : Bool) (ms : List stated.Member) → 3 * length ms ≤ members_tokens limit first ms
  members_enough first [] = omega arith
  members_enough first (m ∷ ms) = let more = members_enough false ms in omega (arith, more)

  module _ (words : List Name) where
    -- a statement adds at most twice its tokens to each count
    counted_up_to : (n : ℕ) (s : Sizes) (p : stated.Statement) → IsUpTo n s
        → IsUpTo (n + 2 * line_tokens limit p) (counted s (numbered words p))
    counted_up_to n s (stated.uncertain k b) up =
        let few = few_bounds (option_map own_bounds b) in
        record {
          parameters = omega (arith, up.parameters);
          bounds = omega (arith, up.bounds, few);
          sets = omega (arith, up.sets);
          variables = omega (arith, up.variables);
          adaptives = omega (arith, up.adaptives);
          columns = omega (arith, up.columns);
          rows = omega (arith, up.rows);
          set_lines = omega (arith, up.set_lines);
          members = omega (arith, up.members);
          forms = omega (arith, up.forms);
          set_rows = omega (arith, up.set_rows);
        }
    counted_up_to n s (stated.over k) up =
        record {
          parameters = omega (arith, up.parameters);
          bounds = omega (arith, up.bounds);
          sets = omega (arith, up.sets);
          variables = omega (arith, up.variables);
          adaptives = omega (arith, up.adaptives);
          columns = omega (arith, up.columns);
          rows = omega (arith, up.rows);
          set_lines = omega (arith, up.set_lines);
          members = omega (arith, up.members);
          forms = omega (arith, up.forms);
          set_rows = omega (arith, up.set_rows);
        }
    counted_up_to n s (stated.set l r p o) up =
        let few = few_sides (own_rel r) in
        record {
          parameters = omega (arith, up.parameters);
          bounds = omega (arith, up.bounds);
          sets = omega (arith, up.sets);
          variables = omega (arith, up.variables);
          adaptives = omega (arith, up.adaptives);
          columns = omega (arith, up.columns);
          rows = omega (arith, up.rows);
          set_lines = omega (arith, up.set_lines);
          members = omega (arith, up.members);
          forms = omega (arith, up.forms);
          set_rows = omega (arith, up.set_rows, few);
        }
    counted_up_to n s (stated.budget k ms o) up =
        let some = members_enough true ms in
        let same = length-map ms (numbered_member words) in
        record {
          parameters = omega (arith, up.parameters);
          bounds = omega (arith, up.bounds);
          sets = omega (arith, up.sets);
          variables = omega (arith, up.variables);
          adaptives = omega (arith, up.adaptives);
          columns = omega (arith, up.columns);
          rows = omega (arith, up.rows);
          set_lines = omega (arith, up.set_lines);
          members = omega (arith, up.members, some, same);
          forms = omega (arith, up.forms);
          set_rows = omega (arith, up.set_rows, some, same);
        }
    counted_up_to n s (stated.variable k b) up =
        let few = few_bounds (option_map own_bounds b) in
        record {
          parameters = omega (arith, up.parameters);
          bounds = omega (arith, up.bounds);
          sets = omega (arith, up.sets);
          variables = omega (arith, up.variables);
          adaptives = omega (arith, up.adaptives);
          columns = omega (arith, up.columns);
          rows = omega (arith, up.rows);
          set_lines = omega (arith, up.set_lines);
          members = omega (arith, up.members);
          forms = omega (arith, up.forms, few);
          set_rows = omega (arith, up.set_rows);
        }
    counted_up_to n s (stated.adaptive k on b) up =
        let few = few_bounds (option_map own_bounds b) in
        let some = names_enough true on in
        let same = length-map on (number_of words) in
        record {
          parameters = omega (arith, up.parameters);
          bounds = omega (arith, up.bounds);
          sets = omega (arith, up.sets);
          variables = omega (arith, up.variables);
          adaptives = omega (arith, up.adaptives);
          columns = omega (arith, up.columns, some, same);
          rows = omega (arith, up.rows);
          set_lines = omega (arith, up.set_lines);
          members = omega (arith, up.members);
          forms = omega (arith, up.forms, few);
          set_rows = omega (arith, up.set_rows);
        }
    counted_up_to n s (stated.goal e p o) up =
        record {
          parameters = omega (arith, up.parameters);
          bounds = omega (arith, up.bounds);
          sets = omega (arith, up.sets);
          variables = omega (arith, up.variables);
          adaptives = omega (arith, up.adaptives);
          columns = omega (arith, up.columns);
          rows = omega (arith, up.rows);
          set_lines = omega (arith, up.set_lines);
          members = omega (arith, up.members);
          forms = omega (arith, up.forms);
          set_rows = omega (arith, up.set_rows);
        }
    counted_up_to n s (stated.row k l r p o) up =
        let few = few_sides (own_rel r) in
        record {
          parameters = omega (arith, up.parameters);
          bounds = omega (arith, up.bounds);
          sets = omega (arith, up.sets);
          variables = omega (arith, up.variables);
          adaptives = omega (arith, up.adaptives);
          columns = omega (arith, up.columns);
          rows = omega (arith, up.rows);
          set_lines = omega (arith, up.set_lines);
          members = omega (arith, up.members);
          forms = omega (arith, up.forms, few);
          set_rows = omega (arith, up.set_rows);
        }

    -- so counts with some room for tokens leave room for the statements
    pub leaves_room : (n : ℕ) (s : Sizes) (ps : List stated.Statement) → IsUpTo n s
        → n + 2 * lines_tokens limit ps < 2 ^ 31 → LeaveRoom s (map (numbered words) ps)
    leaves_room n s [] up few = small n s up (omega (arith, few))
    leaves_room n s (p ∷ ps) up few = (
      small n s up (omega (arith, few)),
      leaves_room (n + 2 * line_tokens limit p) (counted s (numbered words p)) ps (counted_up_to n s p up)
          (omega (arith, few)),
    )

-- the counts of a model are far below
pub kept_up_to : (s : Sizes) → IsKept s → IsUpTo 20000 s
kept_up_to s kept =
    let w = within s kept.within in
    let f = factors_at_most s.forms ((s.bounds * (s.sets + 1) + s.set_rows) + 2 * (joint_count s + s.members)) most_size
    kept.forms w.whole in
    let p = times_more s.parameters s.sets in
    let b = times_more s.bounds s.sets in
    record {
      parameters = omega (arith, w.parameters, p);
      bounds = omega (arith, f.1, b);
      sets = omega (arith, w.sets);
      variables = omega (arith, w.columns, kept.variables);
      adaptives = omega (arith, w.columns, kept.adaptives);
      columns = omega (arith, w.columns);
      rows = omega (arith, w.rows);
      set_lines = omega (arith, w.set_lines);
      members = omega (arith, w.members);
      forms = omega (arith, f.0);
      set_rows = omega (arith, f.1);
    }
