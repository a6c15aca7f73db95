-- What is read of a tree's text part by part: its first lines, a line of a node, a node, and its end; and of the whole.
use Rattle.std.specs.Fmt.{signed_decimal}
use Rattle.std.specs.Prelude.{◌≡◌, ◌≢◌, ℕ, suc, ◌+◌, ◌<◌, ◌≤◌, ℤ, pos, nat_abs, ◌<ℤ◌, ◌≤ℤ◌, ◌⊎◌, List, [], ◌∷◌, ◌++◌, codes, length}
use Rattle.rob_algebra.specs.Fraction.{Fraction}
use Rattle.rob_cert.specs.Apart.{FitsLines}
use Rattle.rob_cert.specs.Causes.{HasCause as HasCertCause}
use Rattle.rob_cert.specs.Reading.{start}
use Rattle.rob_cert.specs.Shape.{HasShape}
use Rattle.rob_cert.specs.Spelling.{Naming, cert_text, naming_of, name_at, number_text, spaced, status_word}
use Rattle.rob_cert.specs.declared.error.CertErr.TheVariants as cert
use Rattle.rob_meaning.specs.Certificates.{Certificate, Status, optimal, infeasible, unbounded}
use Rattle.rob_meaning.specs.Named.{IsNamed}
use Rattle.rob_meaning.specs.Names.{Name, column_names}
use Rattle.rob_meaning.specs.Places.{0ℚ, Each}
use Rattle.rob_meaning.specs.RobustModel.{RobustModel}
use Rattle.rob_reach.specs.Trees.{Node, leaf, split, left_open, Tree, IsIn, branch_count}
use Rattle.rob_tree.specs.Reading.{IsCertificatePart, BreaksNodes, TreeFits, at_root, line_ends, rule_of}
use Rattle.rob_tree.specs.TreeText.{IsTextOfTree, pieces, pieces_text}
use Rattle.rob_tree.specs.ClaimLines.{HasBest, IsBestCause, IsBestLineOf, first_node}
use Rattle.rob_tree.specs.declared.error.Offence.{Offence}
use Rattle.rob_tree.specs.declared.error.Offence.TheVariants.{NoLine, NoName}
use Rattle.rob_tree.specs.declared.error.TreeErr.{TreeErr}
use Rattle.rob_tree.specs.declared.error.TreeErr.TheVariants.{Rule, Memory}
use Rattle.rob_tree.specs.declared.nodes.Head.{Head}
use Rattle.rob_tree.specs.declared.nodes.Head.TheVariants.{Leaf, Branch, Open}

-- the words of a claim
abbrev pub claim_words : Status → Fraction → List Name
claim_words optimal value = codes "tree" ∷ (status_word optimal ∷ (number_text value ∷ []))
claim_words infeasible value = codes "tree" ∷ (status_word infeasible ∷ [])
claim_words unbounded value = codes "tree" ∷ (status_word unbounded ∷ [])

-- the value is 0 but for optimal
abbrev pub KeepsNothing : Status → Fraction → Type 0
KeepsNothing optimal value = Unit {0}
KeepsNothing infeasible value = value ≡ 0ℚ
KeepsNothing unbounded value = value ≡ 0ℚ

-- the words make the claim
pub record IsClaim (words : List Name) (status : Status) (value : Fraction) : Type 0 where
  pub words_are : words ≡ claim_words status value
  pub nothing : KeepsNothing status value

-- the text is the line of the claim, and the rest
pub record IsClaimRead (text : List ℕ) (status : Status) (value : Fraction) (rest : List ℕ) : Type 0 where
  pub split : text ≡ spaced (claim_words status value) ++ rest
  pub nothing : KeepsNothing status value

-- the text is the line of the leaf that shows what the tree claims, and the rest; the number of the next line
pub record IsBestRead (status : Status) (text : List ℕ) (best : ℤ) (rest : List ℕ) (line : ℕ) : Type 0 where
  pub shown : List ℕ
  pub split : text ≡ shown ++ rest
  pub is_best : IsBestLineOf status shown best
  pub line_is : line ≡ first_node status

-- why there is no such line
pub record HasBestCause (status : Status) (text : List ℕ) (offence : Offence) : Type 0 where
  pub has : HasBest status
  pub cause : IsBestCause text offence

-- the words of a line of a node
abbrev pub head_words : List Name → Head → List Name
head_words columns Leaf = codes "leaf" ∷ []
head_words columns (Branch j k) = codes "branch" ∷ (name_at columns j ∷ (signed_decimal k ∷ []))
head_words columns Open = codes "open" ∷ []

-- such a line may stand behind that many branches
abbrev pub MayBegin : ℕ → List ℕ → Status → ℕ → Head → Type 0
MayBegin limit names status branches Leaf = Unit {0}
MayBegin limit names status branches (Branch j k) =
    (branches < 999) × IsIn j names × (nat_abs k ≤ limit) × (k ≢ pos limit)
MayBegin limit names status branches Open = status ≡ unbounded

-- the words are those of a line of a node that may stand there
pub record IsHead (limit : ℕ) (names : List ℕ) (columns : List Name) (status : Status) (branches : ℕ)
    (words : List Name) (head : Head) : Type 0 where
  pub words_are : words ≡ head_words columns head
  pub may : MayBegin limit names status branches head

-- the line of a node and the rest; the number of the next line
pub record IsHeadRead (limit : ℕ) (names : List ℕ) (columns : List Name) (status : Status) (text : List ℕ)
    (line branches : ℕ) (head : Head) (rest : List ℕ) (next_line more : ℕ) : Type 0 where
  pub split : text ≡ spaced (head_words columns head) ++ rest
  pub shorter : length rest < length text
  pub line_is : next_line ≡ line + 1
  pub ends : line_ends (spaced (head_words columns head)) ≡ 1
  pub branches_are : more ≡ branches
  pub may : MayBegin limit names status branches head

-- the names are the model's, and each named variable has one
pub record IsSceneOf (m : RobustModel) (names : List ℕ) (naming : Naming) : Type 0 where
  pub names_are : naming ≡ naming_of m
  pub inside : Each (λ j. j < length (column_names m)) names

-- what is asked where nodes are read: the model is well named, and the names are its own, one for each named variable
pub record CanReadNodes (m : RobustModel) (names : List ℕ) (naming : Naming) : Type 0 where
  pub named : IsNamed m
  pub scene : IsSceneOf m names naming

-- the text is the lines of a certificate and what stands behind them, and that many lines end in them
pub record IsPart (text lines behind : List ℕ) (count : ℕ) : Type 0 where
  pub split : text ≡ lines ++ behind
  pub part : IsCertificatePart text lines
  pub counted : count ≡ line_ends lines

-- the text is the lines of a leaf's certificate, and the rest
pub record IsLeafRead (limit : ℕ) (m : RobustModel) (text : List ℕ) (line branches : ℕ) (node : Node) (rest : List ℕ)
    (next_line more : ℕ) : Type 0 where
  pub certificate : Certificate
  pub is : node ≡ leaf certificate
  pub split : text ≡ cert_text m certificate ++ rest
  pub line_is : next_line ≡ line + line_ends (cert_text m certificate)
  pub branches_are : more ≡ branches
  pub shape : HasShape m certificate
  pub fits : FitsLines limit m certificate

-- why it is not
abbrev pub HasLeafCause : ℕ → RobustModel → List ℕ → ℕ → TreeErr → Type 0
HasLeafCause limit m text line (Rule rule at) = (part : List ℕ) × IsCertificatePart text part
    × HasCertCause (naming_of m) limit start part line (cert.Rule rule at)
HasLeafCause limit m text line Memory = Unit {0}

module _ (limit : ℕ) (m : RobustModel) (names : List ℕ) (status : Status) where
  -- certificates have their shape and numbers that fit, branches are on named variables at such a K, and leaves are
  -- open in an unbounded tree alone
  abbrev pub IsGoodNode : Node → Type 0
  IsGoodNode (leaf c) = HasShape m c × FitsLines limit m c
  IsGoodNode (split j k below above) =
      IsIn j names × (nat_abs k ≤ limit) × (k ≢ pos limit) × IsGoodNode below × IsGoodNode above
  IsGoodNode left_open = status ≡ unbounded

  -- the text is a good node and the rest; where line and branches are counted on
  pub record IsNodeRead (text : List ℕ) (line branches : ℕ) (node : Node) (rest : List ℕ)
      (next_line more : ℕ) : Type 0 where
    pub split : text ≡ pieces_text (naming_of m) (pieces node) ++ rest
    pub line_is : next_line ≡ line + line_ends (pieces_text (naming_of m) (pieces node))
    pub branches_are : more ≡ branches + branch_count node
    pub few : more < 1000
    pub good : IsGoodNode node

  -- why a node is not read, whatever stands behind it
  abbrev pub HasNodeCause : List ℕ → (line branches : ℕ) → TreeErr → Type 0
  HasNodeCause text line branches (Rule rule at) =
      (p : ℕ) → BreaksNodes limit m names status (record { pending = suc p; branches = branches }) text line rule at
  HasNodeCause text line branches Memory = Unit {0}

-- ---- the end of a text
-- the number is that of a leaf, in a tree of that many branches; where no leaf shows the status it is 0
abbrev pub IsLeafNumber : Status → ℤ → ℕ → Type 0
IsLeafNumber optimal best branches = (pos 0 <ℤ best) × (best ≤ℤ pos (suc branches))
IsLeafNumber infeasible best branches = best ≡ pos 0
IsLeafNumber unbounded best branches = (pos 0 <ℤ best) × (best ≤ℤ pos (suc branches))

-- the tree of a claim, the number of the leaf that shows it, and a root
abbrev pub tree_with : Status → Fraction → ℤ → Node → Tree
tree_with status value best root = record { status = status; value = value; best = nat_abs best; root = root }

-- nothing stands behind the last node, and the number is a leaf's
pub record IsEnded (status : Status) (best : ℤ) (rest : List ℕ) (branches : ℕ) : Type 0 where
  pub nothing : rest ≡ []
  pub number : IsLeafNumber status best branches

-- why it does not end there: something stands behind the last node; or, where nothing does, the number is no leaf's
abbrev pub HasEndCause : Status → ℤ → List ℕ → (line branches : ℕ) → TreeErr → Type 0
HasEndCause status best rest line branches (Rule rule at) =
    ((rest ≢ []) × (rule ≡ rule_of NoLine) × (at ≡ line))
    ⊎ ((rest ≡ []) × (IsLeafNumber status best branches → ⊥) × (rule ≡ rule_of NoName) × (at ≡ 2))
HasEndCause status best rest line branches Memory = Unit {0}

module _ (limit : ℕ) (m : RobustModel) (names : List ℕ) (status : Status) (best : ℤ) where
  -- the text is the nodes of the root, and the number is a leaf's
  pub record IsRootRead (value : Fraction) (text : List ℕ) (t : Tree) : Type 0 where
    pub root : Node
    pub is : t ≡ tree_with status value best root
    pub spelled : text ≡ pieces_text (naming_of m) (pieces root)
    pub good : IsGoodNode limit m names status root
    pub few : branch_count root < 1000
    pub number : IsLeafNumber status best (branch_count root)

  -- the text is the nodes of a root, of which the number is no leaf's
  pub record HasNoSuchLeaf (text : List ℕ) (rule at : ℕ) : Type 0 where
    pub root : Node
    pub spelled : text ≡ pieces_text (naming_of m) (pieces root)
    pub good : IsGoodNode limit m names status root
    pub few : branch_count root < 1000
    pub number : IsLeafNumber status best (branch_count root) → ⊥
    pub rule_is : rule ≡ rule_of NoName
    pub at_is : at ≡ 2

  -- why the text is not the nodes of a root of which the number is a leaf's
  abbrev pub HasRootCause : List ℕ → (line : ℕ) → TreeErr → Type 0
  HasRootCause text line (Rule rule at) =
      BreaksNodes limit m names status at_root text line rule at ⊎ HasNoSuchLeaf text rule at
  HasRootCause text line Memory = Unit {0}

-- the text is the tree's, whose numbers fit
pub record IsReadTree (limit : ℕ) (m : RobustModel) (names : List ℕ) (t : Tree) (text : List ℕ) : Type 0 where
  pub text_is : IsTextOfTree limit m names t text
  pub fits : TreeFits limit m t
