-- Answers with their texts, before they are put, and what the files' fetch gives the call that asked for them.
use Rattle.std.specs.Prelude.{◌≡◌, ◌≤◌, ℕ, List, [], ◌∷◌, ◌++◌, length, Option, Some, Vec}
use Rattle.std.specs.declared.alloc.Global.{Global}
use Rattle.rob_outside.specs.Fetches.{Fetch, fetch_of}
use Rattle.rob_meaning.specs.Places.{Each}
use Rattle.rob_outside.specs.Files.{Found, whole, missing, too_long}
use Rattle.rob_words.specs.Answers.{line_of}
use Rattle.rob_words.specs.Commands.{Line, IsSpelled}
use Rattle.rob_words.specs.Values.{Word}
use Rattle.rob_words.specs.Verbs.{own_of}
use Rattle.rob_words.specs.declared.verb.Own.{Own}
use Rattle.rob_words.specs.declared.verb.Own.TheVariants as own
use Rattle.rob_words.specs.declared.line.CommandLine.{CommandLine}
use Rattle.rob_commands.specs.Answers.{missing_text, too_long_text, read_text}
use Rattle.rob_top.specs.Calls.{Call, Count, Source, WasRaised}
use Rattle.rob_top.specs.Files.{Came, Request, AsksInOrder, IsFound, IsFoundIn, files_of, requests, request_of}
use Rattle.rob_commands.specs.declared.ended.Ended.{Ended}
use Rattle.rob_commands.specs.declared.ended.Ended.TheVariants.{Missing, TooLong, ReadFault}
use Rattle.rob_top.specs.declared.files.Files.{Files}
use Rattle.rob_top.specs.declared.files.Files.TheVariants as fetch
use Rattle.rob_top.specs.declared.files.Got.{Got}
use Rattle.rob_top.specs.declared.files.Got.TheVariants.{Bytes, Answer}
use Rattle.rob_top.specs.declared.files.Texts.{Texts}

-- some words are the command line
abbrev pub IsRead : CommandLine → Type 0
IsRead line = (words : List Word) × IsSpelled words (line_of line)

-- the words of the call are this command line
abbrev pub IsLine : Call → CommandLine → Type 0
IsLine call line = IsSpelled call.words (line_of line)

-- ---- files

-- the reply to a file that didn't come: there is none of that name, it is too long, or the outside failed
abbrev pub IsAbsence : Source → Request → Count → Ended → List ℕ → Type 0
IsAbsence source request faults Missing text =
    IsFoundIn source request missing × (text ≡ missing_text request.name)
IsAbsence source request faults TooLong text =
    IsFoundIn source request too_long × (text ≡ too_long_text request.name)
IsAbsence source request faults ReadFault text = WasRaised faults × (text ≡ read_text)
IsAbsence source request faults _ text = ⊥

-- what came of a file: its bytes, or a reply
abbrev pub IsGot : Source → Request → Count → Got → Type 0
IsGot source request faults (Bytes bytes) = IsFoundIn source request (whole bytes.items)
IsGot source request faults (Answer reply) = IsAbsence source request faults reply.ended reply.text

-- behind the fetches before stands one, of this file
pub record AsksOnce (request : Request) (before now : List Fetch) : Type 0 where
  pub found : Option Found
  pub grown : now ≡ before ++ fetch_of request.name request.most found ∷ []

-- behind them stand such ones as ask for these files in order
pub record Asks (requests : List Request) (before now : List Fetch) : Type 0 where
  pub added : List Fetch
  pub grown : now ≡ before ++ added
  pub in_order : AsksInOrder requests added

-- no more bytes came
abbrev pub IsGotWithin : ℕ → Got → Type 0
IsGotWithin most (Bytes bytes) = length bytes.items ≤ most
IsGotWithin most (Answer reply) = Unit {0}

-- the text of the file of this kind; none where the kind names no file
abbrev pub text_of : Own → Texts → List ℕ
text_of own.Model texts = texts.model.items
text_of own.Certificate texts = texts.certificate.items
text_of own.Scenarios texts = texts.scenarios.items
text_of own.Number texts = []
text_of own.Names texts = []
text_of own.Form texts = []
text_of own.Tree texts = texts.tree.items
text_of own.Statement texts = []
text_of own.Limit texts = []
text_of own.Limits texts = []
text_of own.Cuts texts = []

-- the texts with these bytes for the file of this kind
abbrev pub with_text : Own → Vec ℕ Global → Texts → Texts
with_text own.Model bytes texts = record texts { model = bytes }
with_text own.Certificate bytes texts = record texts { certificate = bytes }
with_text own.Scenarios bytes texts = record texts { scenarios = bytes }
with_text own.Number bytes texts = texts
with_text own.Names bytes texts = texts
with_text own.Form bytes texts = texts
with_text own.Tree bytes texts = record texts { tree = bytes }
with_text own.Statement bytes texts = texts
with_text own.Limit bytes texts = texts
with_text own.Limits bytes texts = texts
with_text own.Cuts bytes texts = texts

-- what came of files, with these bytes of one more
abbrev pub with_file : Own → Vec ℕ Global → Files → Files
with_file kind bytes (fetch.Texts texts) = fetch.Texts (with_text kind bytes texts)
with_file kind bytes (fetch.Answer reply) = fetch.Answer reply

-- no file was asked for
abbrev pub IsNothing : Files → Type 0
IsNothing (fetch.Texts texts) =
    (texts.model.items ≡ []) × (texts.certificate.items ≡ []) × (texts.scenarios.items ≡ []) × (texts.tree.items ≡ [])
IsNothing (fetch.Answer reply) = ⊥

-- the words are the command line, and the files that it names came with these texts
pub record HasTexts (call : Call) (line : Line) (texts : Texts) : Type 0 where
  pub spelled : IsSpelled call.words line
  pub came : Each (Came call) (requests line)
  pub found : (kind : Own) (request : Request) → request_of kind (own_of line.verb) line.own ≡ Some request
      → IsFound call request (whole (text_of kind texts))

-- the file came whole
abbrev pub CameIn : Source → Request → Type 0
CameIn source request = (bytes : List ℕ) × IsFoundIn source request (whole bytes)

-- the files of own words of these kinds came, with these texts
pub record AreFound (source : Source) (kinds : List Own) (names : List Word) (texts : Texts) : Type 0 where
  pub came : Each (CameIn source) (files_of kinds names)
  pub found : (kind : Own) (request : Request) → request_of kind kinds names ≡ Some request
      → IsFoundIn source request (whole (text_of kind texts))

-- of these files one is the first that didn't come whole, with the reply to that
pub record IsAbsentAmong (source : Source) (files : List Request) (faults : Count) (ended : Ended)
    (text : List ℕ) : Type 0 where
  pub before : List Request
  pub request : Request
  pub behind : List Request
  pub order : files ≡ before ++ request ∷ behind
  pub came : Each (CameIn source) before
  pub absent : IsAbsence source request faults ended text

-- what came of the files of own words of these kinds: their texts, or the answer
abbrev pub IsFetched : List Own → List Word → Source → Count → Files → Type 0
IsFetched kinds names source faults (fetch.Texts texts) = AreFound source kinds names texts
IsFetched kinds names source faults (fetch.Answer reply) =
    IsAbsentAmong source (files_of kinds names) faults reply.ended reply.text
