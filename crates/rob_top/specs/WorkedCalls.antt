-- Calls worked by hand, of which the laws say how they must end: commands on `one.rob`, `one.cert`, `one.csv`, where
-- the shelf tells files of these names; and `text N`.
use Rattle.std.specs.Prelude.{ℕ, List, [], ◌∷◌, ◌++◌, Some, None, codes}
use Rattle.rob_cert.specs.Spelling.{cert_text}
use Rattle.rob_dualize.specs.SmallestModel.{one_demand}
use Rattle.rob_meaning.specs.Certificates.{Certificate}
use Rattle.rob_meaning.specs.RobustModel.{RobustModel}
use Rattle.rob_outside.specs.Files.{File, file_of}
use Rattle.rob_write.specs.Canonical.{model_text}
use Rattle.rob_report.specs.Lines.{line as line_of}
use Rattle.rob_top.specs.Calls.{Call, call_of, count}
use Rattle.rob_top.specs.Files.{Request}
use Rattle.rob_words.specs.Values.{Word}

-- the name of a model's file
abbrev pub model_name : Word
model_name = codes "one.rob"

-- that of a certificate
abbrev pub certificate_name : Word
certificate_name = codes "one.cert"

-- that of a scenario file
abbrev pub scenarios_name : Word
scenarios_name = codes "one.csv"

-- the request of a model's file, which is the first
abbrev pub model_request : Request
model_request = record { place = 0; name = model_name; most = 65536 }

-- that of a certificate's file, which is the second
abbrev pub certificate_request : Request
certificate_request = record { place = 1; name = certificate_name; most = 4194304 }

-- a call with these words, where the shelf tells these files
abbrev pub call_over : List Word → List File → Call
call_over words files = call_of words (record { told = Some files; came = None }) (count 0 0) (count 0 0)

-- `solve` on the canonical text of a model
abbrev pub solve_call : RobustModel → Call
solve_call m = call_over (codes "solve" ∷ model_name ∷ []) (file_of model_name (model_text m) ∷ [])

-- the same by cutting planes
abbrev pub cuts_call : RobustModel → Call
cuts_call m =
    call_over (codes "solve" ∷ model_name ∷ codes "--route=cuts" ∷ []) (file_of model_name (model_text m) ∷ [])

-- `check` on the text of a certificate of the smallest model, to minimise x where x >= d for each d in [8, 12]
abbrev pub check_call : Certificate → Call
check_call c =
    call_over (codes "check" ∷ model_name ∷ certificate_name ∷ [])
    (file_of model_name (model_text one_demand) ∷ file_of certificate_name (cert_text one_demand c) ∷ [])

-- `worst` on the canonical text of a model, the text of a certificate of it, and a word that may name a form
abbrev pub worst_on : RobustModel → Certificate → Word → Call
worst_on m c form =
    call_over (codes "worst" ∷ model_name ∷ certificate_name ∷ form ∷ [])
    (file_of model_name (model_text m) ∷ file_of certificate_name (cert_text m c) ∷ [])

-- the same on the smallest model
abbrev pub worst_call : Certificate → Word → Call
worst_call = worst_on one_demand

-- `replay` on the text of a certificate of that model and a scenario file
abbrev pub replay_call : Certificate → List ℕ → Call
replay_call c bytes =
    call_over (codes "replay" ∷ model_name ∷ certificate_name ∷ scenarios_name ∷ [])
    (
    file_of model_name (model_text one_demand)
    ∷ file_of certificate_name (cert_text one_demand c) ∷ file_of scenarios_name bytes ∷ []
    )

-- `text` with a word, where there are no files
abbrev pub text_call : Word → Call
text_call word = call_over (codes "text" ∷ word ∷ []) []

-- what `text 0` prints
abbrev pub first_text : List ℕ
first_text =
    line_of (codes "uncertain d1 in [9, 13]")
    ++ (line_of (codes "uncertain d2 in [10, 14]")
    ++ (line_of (codes "budget 1: d1 at 11 by 2, d2 at 12 by 2")
    ++ (line_of (codes "var x >= 0")
    ++ (line_of (codes "adaptive y2(d1) >= 0")
    ++ (line_of (codes "minimise x + y2 + (x - d1) + (x + y2 - d1 - d2)")
    ++ (line_of (codes "row need1: x >= d1") ++ line_of (codes "row need2: x + y2 >= d1 + d2")))))))

-- `whole` on the canonical text of a model, where these names are to take whole numbers
abbrev pub whole_call : RobustModel → Word → Call
whole_call m names = call_over (codes "whole" ∷ model_name ∷ names ∷ []) (file_of model_name (model_text m) ∷ [])

-- `sweep` or `sweeptext` on the canonical text of a model, for statement 1 and the limit 0
abbrev pub sweep_call : Word → RobustModel → Call
sweep_call name m =
    call_over (name ∷ model_name ∷ codes "1" ∷ codes "0" ∷ []) (file_of model_name (model_text m) ∷ [])

-- `cells` or `celltext` on the canonical text of a model, with this word of cuts
abbrev pub cells_call : Word → Word → RobustModel → Call
cells_call name cuts m = call_over (name ∷ model_name ∷ cuts ∷ []) (file_of model_name (model_text m) ∷ [])

-- `narrow` on the canonical text of a model
abbrev pub narrow_call : RobustModel → Call
narrow_call m = call_over (codes "narrow" ∷ model_name ∷ []) (file_of model_name (model_text m) ∷ [])

-- the lines that `replay` prints of it for an order of 12: the cost, and how much more than `d` is ordered
abbrev pub two_demands_table : List ℕ
two_demands_table = line_of (codes "2 inside objective 12 r 3") ++ line_of (codes "3 outside")
