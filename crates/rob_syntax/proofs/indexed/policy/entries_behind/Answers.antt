use Rattle.std.proofs.Common.{refl}
use Rattle.rob_syntax.specs.Seen.{seen_ranged, seen_ref}
use Rattle.rob_syntax.proofs.Fronts.ChainLemmas.{front_start, front_push, front_end, front_refused}
use Rattle.rob_syntax.proofs.Fronts.IndexLemmas.{comma_stuck}
use Rattle.rob_syntax.proofs.Fronts.ListLemmas.{entry_chain}
use Rattle.rob_syntax.proofs.Fronts.PartLemmas.{pushed, led_found, led_missing, first_pushed, refused_up}
use Rattle.rob_syntax.proofs.indexed.policy.entries_behind.Goals as goal

pub loop-behind-init : goal.loop-behind-init
loop-behind-init c =
    front_start (first_pushed (seen_ranged seen_ref) _ c.new-list.ensures.empty c.in_ok-push.ensures.appended)

pub returns-in_err-next : goal.returns-in_err-next
returns-in_err-next c = record {
  read =
      refused_up _ _ _ c.from_residual-in_err-next.ensures.1 (λ missing. front_refused entry_chain
      c.loop-behind.invariant (led_missing c.in-Some.ensures.read missing) (comma_stuck c.in-Some.ensures.read))
      c.in_err-next.ensures.read;
}

pub loop-behind-preserved : goal.loop-behind-preserved
loop-behind-preserved c =
    front_push entry_chain (seen_ranged seen_ref c.in_ok-next.next)
    (seen_ranged seen_ref c.in_ok-next.next) (λ xs. refl)
    c.loop-behind.invariant (led_found c.in-Some.ensures.read c.in_ok-next.ensures.read)
    (comma_stuck c.in-Some.ensures.read) (pushed (seen_ranged seen_ref) _ _ c.in_ok-push-2.ensures.appended)

pub returns : goal.returns
returns c =
    record {
      read = front_end entry_chain refl c.loop-behind.invariant
          (λ x end same. c.in_default.ensures.read _ same);
    }
