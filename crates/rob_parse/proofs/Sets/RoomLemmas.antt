-- The numbers of joint parameters fit a machine's numbers.
use Rattle.std.proofs.Common.{◌≡◌, ℕ, ◌+◌, ◌*◌, ◌^◌, ◌<◌, ◌≤◌, List, [], length, arith}
use Rattle.std.specs.Prelude.{Option, Some, None}
use Rattle.std.proofs.Math.Nat.{mul-le-mul}
use Rattle.rob_meaning.specs.RobustModel.{AdaptiveVariable}
use Rattle.rob_rules.specs.declared.scope.Scope.{Scope}
use Rattle.rob_rules.specs.declared.sort.Sort.{Sort}
use Rattle.rob_rules.specs.declared.sort.Sort.TheVariants as sort
use Rattle.rob_rules.specs.declared.sort.Sort.TheVariants.{Parameter, Decision, Policy, RowName}
use Rattle.rob_syntax.specs.declared.syntax.Statement.{Statement}
use Rattle.rob_parse.specs.Building.{HasRoomForAll}
use Rattle.rob_parse.specs.Written.{parameter_number, parameters}
use Rattle.rob_parse.specs.Models.{set_at}
use Rattle.std.specs.List.{flat_map}
use Rattle.rob_rules.specs.Texts.{Reads}
use Rattle.rob_rules.specs.Scopes.{earlier_of, start}
use Rattle.rob_parse.proofs.Sizes.CountLemmas.{counts, kept_all}
use Rattle.rob_parse.proofs.Sets.SetNumbers.{counted_all, counted_start, set_there}
use Rattle.rob_rules.proofs.Counts.SizeLemmas.{kept_start, times_more, within}
use Rattle.rob_parse.proofs.Names.ChainLemmas.{reads_chain}
use Rattle.rob_parse.proofs.Names.SortLemmas.{Names, all_named, none_named}

number_below : (p v : ℕ) (ys : List AdaptiveVariable) (o : Option Sort) → Names p v ys o → parameter_number o ≤ p
number_below p v ys (Some (Parameter j)) h = omega (arith, h)
number_below p v ys (Some (Decision j)) h = omega arith
number_below p v ys (Some (Policy j d)) h = omega arith
number_below p v ys (Some RowName) h = omega arith
number_below p v ys (Some (sort.Set S)) h = omega arith
number_below p v ys None h = omega arith

room_small : (S p k : ℕ) → S ≤ 8 → p ≤ 96 → k ≤ p → S * p + k < 2 ^ 32
room_small S p k some few small = let h : S * p ≤ 8 * 96 = mul-le-mul some few in omega (arith, h)

pub has_room : (limit : ℕ) (text : List ℕ) (words : List (List ℕ)) (list : List Statement) (scope : Scope)
    → Reads limit text words list (earlier_of scope) → HasRoomForAll scope
has_room limit text words list scope read =
    let begin = start (length words) in
    let e = earlier_of scope in
    let chain = reads_chain limit text words list e read in
    let w = within e.sizes (kept_all limit words begin list e chain kept_start).within in
    let more = times_more e.sizes.parameters e.sizes.sets in
    let all = all_named words e.sorts limit begin list e [] chain (none_named (length words)) in
    let numbered = counted_all limit words begin list e chain (counted_start (length words)) in
    record {
      count = omega (arith, w.parameters, more);
      room = λ over name.
          room_small (set_at e.sorts over) e.sizes.parameters _
          (omega (arith, w.sets, set_there e.sorts e.sizes.sets numbered over)) (omega (arith, w.parameters, more))
          (number_below e.sizes.parameters e.sizes.variables _ _ (all.1 name));
    }

-- the written parameters are counted
pub written_count_is : (limit : ℕ) (text : List ℕ) (words : List (List ℕ)) (list : List Statement) (scope : Scope)
    → Reads limit text words list (earlier_of scope)
    → scope.sizes.parameters ≡ length (flat_map (parameters words) list)
written_count_is limit text words list scope read =
    let e = earlier_of scope in
    let c = counts words e.sorts limit (start (length words)) list e (reads_chain limit text words list e read) in
    omega (arith, c.parameters_are)
