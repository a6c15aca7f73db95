-- The statements behind the first ones, which are judged and taken into account.
use Rattle.std.proofs.Common.{◌≡◌, ℕ, ◌-◌, Bool, List, length, take, drop, Option, Some, None, refl, sym, ap, ◌∙◌, subst, arith}
use Rattle.std.specs.Vec.{with_items}
use Rattle.std.proofs.lemmas.List.{take_rest, with_items_is}
use Rattle.rob_syntax.specs.declared.syntax.Statement.{Statement}
use Rattle.rob_rules.specs.declared.fault.Fault.{Fault}
use Rattle.rob_rules.specs.declared.lines.Reader.{Reader}
use Rattle.rob_rules.specs.declared.lines.Stop.TheVariants as stop
use Rattle.rob_rules.specs.declared.scope.Scope.{Scope}
use Rattle.rob_rules.specs.Faults.{rule_of}
use Rattle.rob_rules.specs.Scopes.{Earlier, earlier_of}
use Rattle.rob_rules.specs.Stages.{behind_all, declare_all, fault_behind, HasFaultStop, IsTaken, LeaveRoom, lowest_fault}
use Rattle.rob_rules.proofs.Steps.LineStatements.{declared_long}

module _ (limit count : ℕ) (r : Reader) (items : List Statement) (items_are : items ≡ r.list) where
  -- what stands behind them, as the code has it
  abbrev more : List Statement
  more = take (length items - count) (drop count items)

  more_are : more ≡ drop count r.list
  more_are = take_rest items count ∙ ap (drop count) items_are

  pub room_behind : LeaveRoom r.scope.sizes (drop count r.list) → LeaveRoom r.scope.sizes more
  room_behind room = subst (λ (l : List Statement). LeaveRoom r.scope.sizes l) (sym more_are) room

  pub room_in_front : LeaveRoom r.scope.sizes (drop count r.list) → earlier_of r.front ≡ earlier_of r.scope
      → LeaveRoom r.front.sizes more
  room_in_front room same = subst (λ (e : Earlier). LeaveRoom e.sizes more) (sym same) (room_behind room)

  module _ (o : Option Fault) (found : o ≡ lowest_fault limit (earlier_of r.front) (earlier_of r.scope) more) where
    fault_is : fault_behind limit count r ≡ o
    fault_is = ap (lowest_fault limit (earlier_of r.front) (earlier_of r.scope)) (sym more_are) ∙ sym found

    -- a fault is found
    pub fault_found : (f : Fault) (rule : ℕ) → o ≡ Some f → rule ≡ rule_of f
        → HasFaultStop limit count r (stop.Rule rule)
    fault_found f rule is rule_is = (f, fault_is ∙ is, sym rule_is)

    -- none is, and the table of declared names is written in place
    pub taken : o ≡ None → (scope front : Scope) (given table : List Bool)
        → earlier_of scope ≡ behind_all (earlier_of r.scope) more
        → earlier_of front ≡ behind_all (earlier_of r.front) more → given ≡ r.declared.items
        → table ≡ declare_all (earlier_of r.front) given more
        → IsTaken limit count r (record r { scope = scope; front = front; declared = with_items r.declared table })
    taken none scope front given table scope_is front_is given_is written =
        let table_is : table ≡ declare_all (earlier_of r.front) r.declared.items (drop count r.list) =
        written ∙ ap (λ (t : List Bool). declare_all (earlier_of r.front) t more) given_is
        ∙ ap (declare_all (earlier_of r.front) r.declared.items) more_are in
        let long : length table ≡ length r.declared.items =
        ap length table_is ∙ declared_long (drop count r.list) (earlier_of r.front) r.declared.items in
        record {
          faultless = fault_is ∙ none;
          list = refl;
          own = refl;
          words = refl;
          total = refl;
          scope = scope_is ∙ ap (behind_all (earlier_of r.scope)) more_are;
          front = front_is ∙ ap (behind_all (earlier_of r.front)) more_are;
          declared = with_items_is r.declared table (omega (arith, long, r.declared.ok.0)) ∙ table_is;
        }
