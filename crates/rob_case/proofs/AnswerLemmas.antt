-- An error that is passed on explains what the first one explained.
use Rattle.std.proofs.Common.{◌≡◌, Option, Some, None, Result, Ok, Err, IsErrAnd, sym, ◌∙◌}
use Rattle.rob_case.specs.Answers.{Answers, Explains}
use Rattle.rob_case.specs.declared.trouble.Trouble.{Trouble}

pub raised : {X T : Type 0} (wanted : Option X) (view : T → X) (r : Result T Trouble) (e : Trouble)
    → IsErrAnd r (λ f. f ≡ e) → Explains wanted e → Answers wanted view r
raised wanted view (Ok x) e h w = absurd h
raised wanted view (Err f) e h w = (λ line. w.0 (sym h ∙ line), λ stream. w.1 (sym h ∙ stream))

-- where nothing is wanted for the first, nothing is for the whole
pub explains_whole : {X Y : Type 0} (first : Option X) (whole : Option Y) (e : Trouble) → (first ≡ None → whole ≡ None)
    → Explains first e → Explains whole e
explains_whole first whole e f h = (λ line. f (h.0 line), h.1)

-- an error beside a value that is wanted explains that anything isn't there
pub explains_any : {X Y : Type 0} (x : X) (whole : Option Y) (e : Trouble) → Explains (Some x) e → Explains whole e
explains_any x whole e h = (λ line. let no : Some x ≡ None = h.0 line in absurd cc, h.1)
