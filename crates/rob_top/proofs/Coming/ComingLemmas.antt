-- An answer that has to come, or a put or memory that was refused.
use Rattle.std.proofs.Common.{◌≡◌, ◌⊎◌, ℕ, List, inl, inr, subst, sym}
use Rattle.rob_top.specs.Calls.{Call}
use Rattle.rob_top.specs.Endings.{EndsAs, IsUnput}
use Rattle.rob_top.specs.Headline.{Means}
use Rattle.rob_commands.specs.declared.ended.Ended.{Ended}
use Rattle.rob_commands.specs.declared.ended.Ended.TheVariants.{ReadFault, WriteFault, Memory}

-- the call has an answer that is allowed, or a put or memory was refused
abbrev pub Comes : Call → Ended → Type 0
Comes call ended = ((text : List ℕ) × Means call ended text) ⊎ IsUnput ended

-- ---- one answer, or the outside failed

allowed_ends : (x ended : Ended) → (ended ≡ x) ⊎ ((ended ≡ ReadFault) ⊎ (ended ≡ Memory)) → EndsAs x ended
allowed_ends x ended (inl e) = inl e
allowed_ends x ended (inr (inl e)) = inr (inl e)
allowed_ends x ended (inr (inr e)) = inr (inr (inr e))

pub comes_ends : (call : Call) (x ended : Ended) → Comes call ended
    → ((text : List ℕ) → Means call ended text → (ended ≡ x) ⊎ ((ended ≡ ReadFault) ⊎ (ended ≡ Memory)))
    → EndsAs x ended
comes_ends call x ended (inl h) decides = allowed_ends x ended (decides h.0 h.1)
comes_ends call x ended (inr e) decides = inr (inr e)

-- what holds of each answer that is allowed, of a refused put and of want of memory, holds of the answer that comes
pub ends_in : (call : Call) (P : Ended → Type 0) (ended : Ended) → P WriteFault → P Memory → Comes call ended
    → ((text : List ℕ) → Means call ended text → P ended) → P ended
ends_in call P ended unput lost (inl h) allowed = allowed h.0 h.1
ends_in call P ended unput lost (inr (inl e)) allowed = subst P (sym e) unput
ends_in call P ended unput lost (inr (inr e)) allowed = subst P (sym e) lost
