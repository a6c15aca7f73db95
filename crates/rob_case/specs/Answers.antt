-- What a call answers that reads or makes what the cases have: the value wanted, or why there is none.
use Rattle.std.specs.Prelude.{◌≡◌, ◌≢◌, List, ◌++◌, Option, Some, None, Result, MatchResult, option_map}
use Rattle.rob_case.specs.declared.trouble.Trouble.{Trouble}
use Rattle.rob_case.specs.declared.trouble.Trouble.TheVariants.{Stream, Line}

-- why there is no answer: a line is blamed only where no value is wanted, a stream never; memory may be refused always
abbrev pub Explains : {X : Type 0} → Option X → Trouble → Type 0
Explains wanted trouble = (trouble ≡ Line → wanted ≡ None) × (trouble ≢ Stream)

-- the result, as seen by the view, is the value wanted, or it explains why there is none
abbrev pub Answers : {X T : Type 0} → Option X → (T → X) → Result T Trouble → Type 0
Answers wanted view result = MatchResult result (λ value. wanted ≡ Some (view value)) (Explains wanted)

-- the items wanted stand behind the old ones, or the result explains why they don't; what is there then is open
abbrev pub Appends : {X T : Type 0} → List X → Option (List X) → List X → Result T Trouble → Type 0
Appends old wanted new result = Answers (option_map (λ more. old ++ more) wanted) (λ _. new) result
