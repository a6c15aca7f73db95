-- What a sink took in several puts.
use Rattle.std.proofs.Common.{◌≡◌, ℕ, List, [], ◌++◌, take, drop, Result, Ok, Err, MatchResult, sym, refl, append_assoc, ap, ◌∙◌}
use Rattle.std.proofs.lemmas.List.{take-append-drop, append-nil}
use Rattle.rob_number.specs.Counts.{Rose}
use Rattle.rob_outside.specs.declared.sink.SinkErr.{SinkErr}
use Rattle.rob_outside.specs.declared.sink.SinkErr.TheVariants.{Failed, Memory}
use Rattle.rob_outside.specs.Taken.{IsPrefix, Took, TookPrefix, Takes}

-- Prefixes

-- the first bytes of a text are a prefix of it
pub IsPrefix-take : (n : ℕ) (text : List ℕ) → IsPrefix (take n text) text
IsPrefix-take n text = record { rest = drop n text; whole = sym (take-append-drop n text) }

-- a text is a prefix of itself
pub IsPrefix-refl : (text : List ℕ) → IsPrefix text text
IsPrefix-refl text = record { rest = []; whole = sym (append-nil text) }

-- a prefix of a prefix is a prefix
pub IsPrefix-trans : (a b c : List ℕ) → IsPrefix a b → IsPrefix b c → IsPrefix a c
IsPrefix-trans a b c p q = record {
  rest = p.rest ++ q.rest;
  whole = q.whole ∙ ap (λ (front : List ℕ). front ++ q.rest) p.whole ∙ append_assoc a p.rest q.rest;
}

-- the same bytes may stand in front of both
pub IsPrefix-behind : (a b c : List ℕ) → IsPrefix b c → IsPrefix (a ++ b) (a ++ c)
IsPrefix-behind a b c p = record {
  rest = p.rest;
  whole = ap (λ (end : List ℕ). a ++ end) p.whole ∙ sym (append_assoc a b p.rest);
}

-- What was taken

-- nothing was taken before the first put
pub took_nothing : (before : List ℕ) → Took before before []
took_nothing before = sym (append-nil before)

-- what was taken in two steps is both texts, one behind the other
pub took_both : (before middle now first second : List ℕ) → Took before middle first → Took middle now second
    → Took before now (first ++ second)
took_both before middle now first second p q =
    q ∙ ap (λ (m : List ℕ). m ++ second) p ∙ append_assoc before first second

-- all of a text and then a prefix of another is a prefix of both together
pub took_then_prefix : (before middle now first second : List ℕ) → Took before middle first
    → TookPrefix middle now second
    → TookPrefix before now (first ++ second)
took_then_prefix before middle now first second p q =
    (first ++ q.0, IsPrefix-behind first q.0 second q.1, took_both before middle now first q.0 p q.2)

-- a put behind a text that was taken is a put of both together
pub took_then_put : {T E : Type 0} (before middle now first second : List ℕ) (result : Result T E)
    → Took before middle first → Takes middle now second result → Takes before now (first ++ second) result
took_then_put before middle now first second (Ok value) p q = took_both before middle now first second p q
took_then_put before middle now first second (Err error) p q = took_then_prefix before middle now first second p q

-- without a fault, a put takes the whole piece, or answers want of memory
pub put_answered : (before now piece : List ℕ) (faults later : ℕ) (result : Result (Unit {0}) SinkErr)
    → Takes before now piece result
    → (result ≡ Err Failed → Rose faults later) → (Rose faults later → ⊥)
    → MatchResult result (λ _. Took before now piece) (λ error. error ≡ Memory)
put_answered before now piece faults later (Ok value) took fault no_fault = took
put_answered before now piece faults later (Err Failed) took fault no_fault = absurd (no_fault (fault refl))
put_answered before now piece faults later (Err Memory) took fault no_fault = refl

-- all of a text is a prefix of it
pub took_is_prefix : (before now text : List ℕ) → Took before now text → TookPrefix before now text
took_is_prefix before now text p = (text, IsPrefix-refl text, p)

-- a prefix of a text is a prefix of each text that begins with it
pub took_prefix_of_more : (before now text more : List ℕ) → IsPrefix text more → TookPrefix before now text
    → TookPrefix before now more
took_prefix_of_more before now text more h p = (p.0, IsPrefix-trans p.0 text more p.1 h, p.2)

-- behind what was held, the first bytes of a piece were taken
pub took_first : (n : ℕ) (held taken now piece : List ℕ) → held ≡ taken → now ≡ held ++ take n piece
    → TookPrefix taken now piece
took_first n held taken now piece same e =
    (take n piece, IsPrefix-take n piece, e ∙ ap (λ (front : List ℕ). front ++ take n piece) same)
