-- A case: what is given to the calls behind, what they answered, and what each line that gives something makes of it.
use Rattle.std.specs.Prelude.{ℕ, ℤ, Bool, cond, List, [], ◌∷◌, ◌++◌, codes}
use Rattle.std.specs.Prelude.{Option, Some, None, option_map, option_and_then}
use Rattle.rob_case.specs.Texts.{keyword_of, rest_of, before, behind, has_byte, spelled, repeated, all_numbered, joined}
use Rattle.rob_case.specs.Numbers.{small_of, wholes_of}
use Rattle.rob_case.specs.declared.word.Word.{Word}
use Rattle.rob_case.specs.declared.word.Word.TheVariants.{Nothing, Remark, Case, Text, Line, Times, Lines, Model, Plan}

-- what stands in a case
pub record CaseState : Type 0 where
  -- its name, and the answers so far
  pub name : List ℕ
  pub answer : List ℕ
  -- the bytes that the next calls are given
  pub bytes : List ℕ
  -- the model's text and the plan's columns, which stay for the cases behind
  pub model : List ℕ
  pub plan : List ℤ

-- a case with nothing in it
abbrev pub empty_case : CaseState
empty_case = record { name = []; answer = []; bytes = []; model = []; plan = [] }

-- the first word of a line that gives something
abbrev pub word_text : Word → List ℕ
word_text Nothing = []
word_text Remark = codes "#"
word_text Case = codes "case"
word_text Text = codes "text"
word_text Line = codes "line"
word_text Times = codes "times"
word_text Lines = codes "lines"
word_text Model = codes "model"
word_text Plan = codes "plan"

-- the bytes of `line TEXT`: those that the text spells, and a line end
abbrev pub line_bytes : List ℕ → Option (List ℕ)
line_bytes text = option_map (λ bytes. bytes ++ 10 ∷ []) (spelled text)

-- the bytes of `times N TEXT`: those that the text spells, N times
abbrev pub times_bytes : List ℕ → Option (List ℕ)
times_bytes rest =
    option_and_then (λ count. option_map (λ bytes. repeated count bytes) (spelled (rest_of rest)))
    (small_of (keyword_of rest))

-- so many lines, each the text with its number in place of the first `%`; none where it has no `%`
abbrev pub lines_of : List ℕ → ℕ → Option (List ℕ)
lines_of text count = cond (has_byte 37 text) (Some (all_numbered count (before 37 text) (behind 37 text))) None

-- the bytes of `lines N TEXT`: N such lines
abbrev pub lines_bytes : List ℕ → Option (List ℕ)
lines_bytes rest = option_and_then (lines_of (rest_of rest)) (small_of (keyword_of rest))

-- the case with more bytes
abbrev pub with_bytes : CaseState → Option (List ℕ) → Option CaseState
with_bytes case more = option_map (λ bytes. record case { bytes = case.bytes ++ bytes }) more

-- what a line makes of a case, by its first word and what stands behind; none where it is not of the format
abbrev pub given : Word → List ℕ → CaseState → Option CaseState
given Nothing rest case = Some case
given Remark rest case = Some case
given Case rest case = Some (record case { name = case.name ++ rest })
given Text rest case = with_bytes case (spelled rest)
given Line rest case = with_bytes case (line_bytes rest)
given Times rest case = with_bytes case (times_bytes rest)
given Lines rest case = with_bytes case (lines_bytes rest)
given Model rest case = Some (record case { model = case.bytes; bytes = [] })
given Plan rest case = option_map (λ columns. record case { plan = columns }) (wholes_of rest)

-- the case behind the end of one: the model and the plan stay
abbrev pub ended : CaseState → CaseState
ended case = record case { name = []; answer = []; bytes = [] }

-- a case with one more answer
abbrev pub answered : CaseState → List ℕ → CaseState
answered case answer = record case { answer = joined (codes "; ") case.answer answer }

-- what is said of a case that gave what is wanted, and of one that didn't
abbrev pub verdict_text : Bool → List ℕ → List ℕ → List ℕ → List ℕ
verdict_text same name answer wanted =
    cond same (codes "ok " ++ name)
    (codes "DIFFERS " ++ name ++ codes "\n  gave   " ++ answer ++ codes "\n  wanted " ++ wanted)
