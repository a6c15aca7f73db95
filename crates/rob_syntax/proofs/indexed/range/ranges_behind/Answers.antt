use Rattle.std.proofs.Common.{refl}
use Rattle.rob_syntax.specs.Seen.{seen_range}
use Rattle.rob_syntax.proofs.Fronts.ChainLemmas.{front_start, front_push, front_end, front_refused}
use Rattle.rob_syntax.proofs.Fronts.RangeLemmas.{range_chain, range_stuck, no_range_item}
use Rattle.rob_syntax.proofs.Fronts.PartLemmas.{pushed, led_shorter, led_found, led_missing, first_pushed, refused_up}
use Rattle.rob_syntax.proofs.indexed.range.ranges_behind.Goals as goal

pub loop-behind-init : goal.loop-behind-init
loop-behind-init c = front_start (first_pushed seen_range _ c.new-list.ensures.empty c.in_ok-push.ensures.appended)

pub returns-in_err-next : goal.returns-in_err-next
returns-in_err-next c = record {
  read =
      refused_up _ _ _ c.from_residual-in_err-next.ensures.1 (λ missing. front_refused range_chain
      c.loop-behind.invariant (led_missing c.in-Some.ensures.read.comma missing) (range_stuck c.in-Some.ensures.read))
      c.in_err-next.ensures.read;
}

pub loop-behind-preserved : goal.loop-behind-preserved
loop-behind-preserved c =
    front_push range_chain (seen_range c.in_ok-next.next) (seen_range c.in_ok-next.next) (λ xs. refl)
    c.loop-behind.invariant (led_found c.in-Some.ensures.read.comma c.in_ok-next.ensures.read)
    (range_stuck c.in-Some.ensures.read) (pushed seen_range _ _ c.in_ok-push-2.ensures.appended)

pub loop-behind-smaller : goal.loop-behind-smaller
loop-behind-smaller c = led_shorter c.in-Some.ensures.read.comma c.in_ok-next.ensures.read

pub returns : goal.returns
returns c =
    record { read = front_end range_chain refl c.loop-behind.invariant (no_range_item c.in_default.ensures.read) }
