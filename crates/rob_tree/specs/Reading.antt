-- How the text of a tree is read line by line, and which line breaks which rule: the first bad line decides, and on it
-- the lowest rule.
use Rattle.std.specs.Fmt.{signed_decimal}
use Rattle.std.specs.Prelude.{◌≡◌, ◌≢◌, ◌+◌, ◌-◌, ◌<◌, ◌≤◌, ℕ, suc, ℤ, pos, nat_abs, List, [], ◌∷◌, ◌++◌, codes, if◌then◌else◌, ◌==◌, Result, Ok, Err}
use Rattle.rob_algebra.specs.Fraction.{Fraction}
use Rattle.rob_algebra.specs.Width.{Fits}
use Rattle.rob_cert.specs.Apart.{FitsLines}
use Rattle.rob_cert.specs.Causes.{HasCause as HasCertCause}
use Rattle.rob_cert.specs.Reading.{BeginsWithLine, Lacks, words_in, start}
use Rattle.rob_cert.specs.Shape.{HasShape}
use Rattle.rob_cert.specs.Spelling.{naming_of, name_at}
use Rattle.rob_cert.specs.declared.error.CertErr.TheVariants as cert
use Rattle.rob_meaning.specs.Certificates.{Status, unbounded}
use Rattle.rob_meaning.specs.Names.{Name, column_names}
use Rattle.rob_meaning.specs.RobustModel.{RobustModel}
use Rattle.rob_reach.specs.Trees.{Node, leaf, split, left_open, Tree, IsIn, leaf_count}
use Rattle.rob_reach.specs.Verdicts.{KeepsBest}
use Rattle.rob_tree.specs.TreeText.{Piece, leaf_piece, branch_piece, open_piece, pieces, pieces_text, claim_text, best_text}
use Rattle.rob_tree.specs.View.{tree_of}
use Rattle.rob_tree.specs.ClaimLines.{greatest_leaf, IsClaimCause, HasBest, IsBestCause, IsBestLine, first_node}
use Rattle.rob_tree.specs.declared.error.Offence.{Offence}
use Rattle.rob_tree.specs.declared.error.Offence.TheVariants.{NoLine, NoName, NoNumber}
use Rattle.rob_tree.specs.declared.error.TreeErr.{TreeErr}
use Rattle.rob_tree.specs.declared.error.TreeErr.TheVariants.{Rule, Memory}
use Rattle.rob_tree.specs.declared.tree.Tree as declared

-- the number of the rule that an offence breaks
abbrev pub rule_of : Offence → ℕ
rule_of NoLine = 71
rule_of NoName = 72
rule_of NoNumber = 73

-- the word spells a K for which K + 1 is within the limit too
abbrev pub IsBranchWord : ℕ → Name → Type 0
IsBranchWord limit word = (z : ℤ) × (nat_abs z ≤ limit) × (z ≢ pos limit) × (word ≡ signed_decimal z)

-- ---- the lines of nodes
-- where a reader stands: how many nodes are still to come, and how many branches have come
pub record Stage : Type 0 where
  pub pending : ℕ
  pub branches : ℕ

-- before the root
abbrev pub at_root : Stage
at_root = record { pending = 1; branches = 0 }

-- behind one piece more: a branch asks for two nodes in place of one
abbrev pub advanced : Stage → Piece → Stage
advanced s (leaf_piece c) = record s { pending = s.pending - 1 }
advanced s (branch_piece j k) = record { pending = suc s.pending; branches = suc s.branches }
advanced s open_piece = record s { pending = s.pending - 1 }

-- how many lines end in a text
abbrev pub line_ends : List ℕ → ℕ
line_ends [] = 0
line_ends (b ∷ text) = if b == 10 then suc (line_ends text) else line_ends text

-- the lines of a leaf's certificate: up to the next line `end`, or, where none comes, up to the end of the text
pub data IsCertificatePart : List ℕ → List ℕ → Type 0 where
  of_end : {text part : List ℕ} (after : List ℕ) → BeginsWithLine text (codes "end") after → part ≡ codes "end\n"
      → IsCertificatePart text part
  of_line : {text part : List ℕ} (line after more : List ℕ) → BeginsWithLine text line after → line ≢ codes "end"
      → IsCertificatePart after more → part ≡ line ++ 10 ∷ more → IsCertificatePart text part
  of_rest : {text part : List ℕ} → Lacks 10 text → part ≡ text → IsCertificatePart text part

-- the words are those of a node's line: a leaf's, a branch's unless it is the 1,000th, or, in an unbounded tree, that
-- of an open leaf
pub data IsNodeLine (status : Status) (branches : ℕ) (words : List Name) : Type 0 where
  of_leaf : words ≡ codes "leaf" ∷ [] → IsNodeLine status branches words
  of_branch : (name word : Name) → branches < 999 → words ≡ codes "branch" ∷ (name ∷ (word ∷ []))
      → IsNodeLine status branches words
  of_open : status ≡ unbounded → words ≡ codes "open" ∷ [] → IsNodeLine status branches words

module _ (limit : ℕ) (m : RobustModel) (names : List ℕ) where
  -- the name is that of a named variable
  abbrev pub IsNamedOne : Name → Type 0
  IsNamedOne name = (j : ℕ) × IsIn j names × (name ≡ name_at (column_names m) j)

  -- why words are no node's line behind that many branches
  abbrev pub IsNodeFault : Status → ℕ → List Name → Offence → Type 0
  IsNodeFault status branches words NoLine = IsNodeLine status branches words → ⊥
  IsNodeFault status branches words NoName = (name word : Name) × (branches < 999)
      × (words ≡ codes "branch" ∷ (name ∷ (word ∷ []))) × (IsNamedOne name → ⊥)
  IsNodeFault status branches words NoNumber = (name word : Name) × (branches < 999)
      × (words ≡ codes "branch" ∷ (name ∷ (word ∷ []))) × IsNamedOne name × (IsBranchWord limit word → ⊥)

  -- why the next line is no node's
  abbrev pub IsNodeCause : Status → ℕ → List ℕ → Offence → Type 0
  IsNodeCause status branches text NoLine =
      (line after : List ℕ) → BeginsWithLine text line after → IsNodeLine status branches (words_in line) → ⊥
  IsNodeCause status branches text NoName =
      (line after : List ℕ) × BeginsWithLine text line after × IsNodeFault status branches (words_in line) NoName
  IsNodeCause status branches text NoNumber =
      (line after : List ℕ) × BeginsWithLine text line after × IsNodeFault status branches (words_in line) NoNumber

  -- the piece may stand there: a certificate has its shape and numbers that fit, a branch is on a named variable at
  -- such a K
  abbrev pub MayStand : Status → Stage → Piece → Type 0
  MayStand status s (leaf_piece c) = (0 < s.pending) × HasShape m c × FitsLines limit m c
  MayStand status s (branch_piece j k) =
      (0 < s.pending) × (s.branches < 999) × IsIn j names × (nat_abs k ≤ limit) × (k ≢ pos limit)
  MayStand status s open_piece = (0 < s.pending) × (status ≡ unbounded)

  -- the pieces lead from a stage to another, each being one that may stand where it stands
  abbrev pub Leads : Status → Stage → List Piece → Stage → Type 0
  Leads status s [] last = s ≡ last
  Leads status s (p ∷ ps) last = MayStand status s p × Leads status (advanced s p) ps last

  -- why the lines of nodes break off: the next one is no node's; the certificate of a leaf breaks a rule of its own; or
  -- something stands behind the last
  pub data IsBreach (status : Status) (s : Stage) (text : List ℕ) (number rule line : ℕ) : Type 0 where
    in_node : (offence : Offence) → 0 < s.pending → IsNodeCause status s.branches text offence
        → rule ≡ rule_of offence → line ≡ number → IsBreach status s text number rule line
    in_certificate : (after part : List ℕ) → 0 < s.pending → text ≡ codes "leaf\n" ++ after
        → IsCertificatePart after part
        → HasCertCause (naming_of m) limit start part (suc number) (cert.Rule rule line)
        → IsBreach status s text number rule line
    in_rest : s.pending ≡ 0 → text ≢ [] → rule ≡ rule_of NoLine → line ≡ number
        → IsBreach status s text number rule line

  -- from a stage on, the nodes' lines are good up to a line that breaks the rule, the first of them being line `number`
  pub record BreaksNodes (status : Status) (from : Stage) (text : List ℕ) (number rule line : ℕ) : Type 0 where
    pub before : List Piece
    pub stage : Stage
    pub rest : List ℕ
    pub good : Leads status from before stage
    pub split : text ≡ pieces_text (naming_of m) before ++ rest
    pub breach : IsBreach status stage rest (number + line_ends (pieces_text (naming_of m) before)) rule line

  -- the text breaks the rule on that line: in the line of what it claims; in that of the leaf that shows it; in its
  -- nodes; or, where all else is good, that leaf is none of the tree
  pub data Breaks (text : List ℕ) (rule line : ℕ) : Type 0 where
    in_claim : (offence : Offence) → IsClaimCause limit text offence → rule ≡ rule_of offence → line ≡ 1
        → Breaks text rule line
    in_best : (offence : Offence) (status : Status) (value : Fraction) (rest : List ℕ) → HasBest status
        → Fits limit value → text ≡ claim_text status value ++ rest → IsBestCause rest offence
        → rule ≡ rule_of offence → line ≡ 2 → Breaks text rule line
    in_nodes : (status : Status) (value : Fraction) (shown : List ℕ) (rest : List ℕ) → Fits limit value
        → text ≡ claim_text status value ++ (shown ++ rest) → IsBestLine status shown
        → BreaksNodes status at_root rest (first_node status) rule line → Breaks text rule line
    no_leaf : (status : Status) (value : Fraction) (shown : List ℕ) (root : Node) (last : Stage) → HasBest status
        → Fits limit value → IsBestLine status shown
        → text ≡ claim_text status value ++ (shown ++ pieces_text (naming_of m) (pieces root))
        → Leads status at_root (pieces root) last
        → ((best : ℕ) → shown ≡ best_text status best → KeepsBest status best (leaf_count root) → ⊥)
        → rule ≡ rule_of NoName → line ≡ 2 → Breaks text rule line

  -- what an error tells; want of memory has no cause
  abbrev pub HasCause : List ℕ → TreeErr → Type 0
  HasCause text (Rule rule line) = Breaks text rule line
  HasCause text Memory = Unit {0}

-- ---- numbers that fit
module _ (limit : ℕ) (m : RobustModel) where
  -- the numbers of a node's certificates fit
  abbrev pub NodeFits : Node → Type 0
  NodeFits (leaf c) = FitsLines limit m c
  NodeFits (split j k below above) = NodeFits below × NodeFits above
  NodeFits left_open = Unit {0}

  -- and so does the tree's value; the number of its best leaf is one that may be told
  pub record TreeFits (t : Tree) : Type 0 where
    pub value : Fits limit t.value
    pub best : t.best ≤ greatest_leaf
    pub root : NodeFits t.root

-- the call answers the tree, unless memory is refused
abbrev pub Reads : {N : Type 0} → (N → Fraction) → Tree → Result (declared.Tree N) TreeErr → Type 0
Reads value t (Ok tree) = tree_of value tree ≡ t
Reads value t (Err (Rule rule line)) = ⊥
Reads value t (Err Memory) = Unit {0}
