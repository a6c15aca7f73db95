use Rattle.std.proofs.Common.{ap, map, refl}
use Rattle.rob_syntax.specs.Seen.{seen_atom, seen_step}
use Rattle.rob_syntax.proofs.Fronts.ChainLemmas.{front_start, front_push, front_end, front_refused, chain_read}
use Rattle.rob_syntax.proofs.Fronts.IndexLemmas.{step_chain, step_found, step_missing, step_stuck, no_step}
use Rattle.rob_syntax.proofs.Fronts.PartLemmas.{pushed}
use Rattle.rob_syntax.proofs.indexed.index.steps.Goals as goal

pub loop-minus-init : goal.loop-minus-init
loop-minus-init c = front_start (ap (map seen_step) c.new-list.ensures.empty)

pub returns-in_default-atom : goal.returns-in_default-atom
returns-in_default-atom c =
    record {
      read =
          front_refused step_chain c.loop-minus.invariant
          (step_missing c.in-Some.minus c.in-Some.ensures.read c.in_default-atom.ensures.read)
          (step_stuck c.in-Some.minus c.in-Some.ensures.read);
    }

pub loop-minus-preserved : goal.loop-minus-preserved
loop-minus-preserved c =
    front_push step_chain (record { minus = c.in-Some.minus; atom = seen_atom c.in-Some-atom.atom })
    (record { minus = c.in-Some.minus; atom = seen_atom c.in-Some-atom.atom }) (λ xs. refl) c.loop-minus.invariant
    (step_found c.in-Some.minus (seen_atom c.in-Some-atom.atom) c.in-Some.ensures.read c.in-Some-atom.ensures.read)
    (step_stuck c.in-Some.minus c.in-Some.ensures.read) (pushed seen_step _ _ c.in_ok-push.ensures.appended)

pub returns : goal.returns
returns c =
    record {
      read = chain_read (front_end step_chain refl c.loop-minus.invariant (no_step c.in_default.ensures.read));
    }
