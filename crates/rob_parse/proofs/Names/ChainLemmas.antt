-- The statements of a model's text are one behind another, each as a reader makes it.
use Rattle.std.proofs.Common.{◌≡◌, ◌≤◌, ◌-◌, ◌^◌, ℕ, ℤ, pos, nat_abs, to_z, of_z, w64, List, length, subst}
use Rattle.rob_meaning.specs.RobustModel.{RobustModel}
use Rattle.rob_number.proofs.CastLemmas.{limit_seen}
use Rattle.rob_syntax.specs.declared.syntax.Statement.{Statement}
use Rattle.rob_rules.specs.Chains.{Chain}
use Rattle.rob_rules.specs.Scopes.{Earlier, start}
use Rattle.rob_rules.specs.Texts.{Reads}
use Rattle.rob_parse.proofs.Chains.TextChains.{AreWords, text_chain, text_words}
use Rattle.rob_parse.specs.Modelled.{ReadsModel}

pub reads_chain : (limit : ℕ) (text : List ℕ) (words : List (List ℕ)) (list : List Statement) (known : Earlier)
    → Reads limit text words list known → Chain limit words (start (length words)) list known
reads_chain limit text words list known read = text_chain limit text words list known read

pub model_chain : (limit : ℕ) (text : List ℕ) (m : RobustModel) (read : ReadsModel limit text m)
    → Chain limit read.words (start (length read.words)) read.list read.known
model_chain limit text m read = text_chain limit text read.words read.list read.known read.reads

-- its words are different words
pub model_words : (limit : ℕ) (text : List ℕ) (m : RobustModel) (read : ReadsModel limit text m) → AreWords read.words
model_words limit text m read = text_words limit text read.words read.list read.known read.reads

-- what is read within a limit as code has it is read within the limit
pub read_within : {bound : ℤ} {limit : ℕ} {text : List ℕ} {words : List (List ℕ)} {list : List Statement}
    {known : Earlier} → bound ≡ pos limit → limit ≤ 2 ^ 62 - 1
    → Reads (nat_abs (to_z w64 (of_z w64 bound))) text words list known → Reads limit text words list known
read_within {bound} {limit} {text} {words} {list} {known} is high read =
    subst (λ k. Reads k text words list known) (limit_seen bound limit is high) read
