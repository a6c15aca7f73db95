-- The text of a tree breaks no rule, is that of one tree alone, and a text breaks one rule at one line.
use Rattle.std.proofs.Common.{◌≡◌, ℕ, ◌-◌, ◌^◌, ◌<◌, ◌≤◌, List, ◌++◌, T, length, refl, ap, sym, ◌∙◌, subst}
use Rattle.rob_algebra.specs.Fraction.{Fraction}
use Rattle.rob_algebra.specs.Width.{Fits}
use Rattle.rob_cert.specs.Apart.{IsNamedInWords}
use Rattle.rob_cert.specs.Spelling.{naming_of}
use Rattle.rob_meaning.specs.Certificates.{Status}
use Rattle.rob_meaning.specs.Named.{IsNamed}
use Rattle.rob_meaning.specs.Names.{column_names}
use Rattle.rob_meaning.specs.Places.{Each}
use Rattle.rob_meaning.specs.RobustModel.{RobustModel}
use Rattle.rob_meaning.specs.WellFormed.{IsModel}
use Rattle.rob_reach.specs.Ranges.{are_bounded}
use Rattle.rob_reach.specs.Trees.{Node, Tree, leaf_count}
use Rattle.rob_reach.specs.Verdicts.{KeepsBest}
use Rattle.rob_tree.proofs.Readers.FirstLineLaws.{best_line, best_of, best_same_parts, claims_same, no_best_cause, no_claim_cause, one_best, one_claim, shown_same, shows_text, status_same, value_same}
use Rattle.rob_tree.proofs.Writing.GoodNodes.{columns_inside, good_tree}
use Rattle.rob_tree.proofs.OneText.NodeLaws.{one_breach, one_root, root_breaks_none}
use Rattle.rob_tree.proofs.Readers.ReadingLemmas.{root_back}
use Rattle.rob_tree.specs.Parts.{IsGoodNode}
use Rattle.rob_tree.specs.ClaimLines.{HasBest, IsBestCause, IsBestLine, IsBestLineOf, first_node}
use Rattle.rob_tree.specs.Reading.{BreaksNodes, Breaks, Leads, Stage, TreeFits, at_root, in_best, in_claim, in_nodes, no_leaf, rule_of}
use Rattle.rob_tree.specs.Shape.{KeepsParts}
use Rattle.rob_tree.specs.TreeText.{IsTextOfTree, best_text, claim_text, pieces, pieces_text}
use Rattle.rob_tree.specs.declared.error.Offence.{Offence}

tree_is : (t u : Tree) → t.status ≡ u.status → t.value ≡ u.value → t.best ≡ u.best → t.root ≡ u.root → t ≡ u
tree_is t u s v b r =
    let made : Status → Fraction → ℕ → Node → Tree = λ s v b r. record { status = s; value = v; best = b; root = r } in
    ap (λ x. made x t.value t.best t.root) s ∙ ap (λ x. made u.status x t.best t.root) v
    ∙ ap (λ x. made u.status u.value x t.root) b
    ∙ ap (λ x. made u.status u.value u.best x) r

module _ (m : RobustModel) (limit : ℕ) (names : List ℕ) (model : IsModel m) (named : IsNamed m)
    (in_words : IsNamedInWords m) (low : limit ≤ 2 ^ 62 - 1)
    (bounded : T (are_bounded m.variables names)) where
  inside : Each (λ j. j < length (column_names m)) names
  inside = columns_inside m names bounded

  abbrev texts : Node → List ℕ
  texts n = pieces_text (naming_of m) (pieces n)

  -- what stands behind the claims of one text
  behind_claims : (s t : Status) (v w : Fraction) (a b r q text : List ℕ) → Fits limit v → Fits limit w
      → text ≡ claim_text s v ++ (a ++ r)
      → text ≡ claim_text t w ++ (b ++ q) → (t ≡ s) × (a ++ r ≡ b ++ q)
  behind_claims s t v w a b r q text f g e d =
      let same = claims_same limit low s t v w (a ++ r) (b ++ q) f g (sym e ∙ d) in
      (status_same limit low s t v w same.0, same.1)

  -- ---- the text of a tree breaks no rule
  module _ (t : Tree) (text : List ℕ) (is : IsTextOfTree limit m names t text) (fits : TreeFits limit m t) where
    good : (s : Status) → t.status ≡ s → IsGoodNode limit m names s t.root
    good s e = good_tree limit m names s t e bounded is.shape fits.root

    best_is : IsBestLineOf t.status (best_text t.status t.best) (best_of t.status t.best)
    best_is = best_line t.status t.best fits.best

    pub breaks_none : (rule line : ℕ) → Breaks limit m names text rule line → ⊥
    breaks_none rule line (in_claim o cause r l) =
        no_claim_cause limit low t.status t.value (best_text t.status t.best ++ texts t.root) text o
        fits.value is.spelled cause
    breaks_none rule line (in_best o s v rest has f e cause r l) =
        let same = claims_same limit low t.status s t.value v (best_text t.status t.best ++ texts t.root) rest
        fits.value f (sym is.spelled ∙ e) in
        let status = status_same limit low t.status s t.value v same.0 in
        no_best_cause t.status (best_text t.status t.best) (texts t.root) rest
        (best_of t.status t.best) o (subst HasBest status has) best_is (sym same.1) cause
    breaks_none rule line (in_nodes s v shown rest f e best nodes) =
        let same = behind_claims t.status s t.value v (best_text t.status t.best) shown (texts t.root) rest text
        fits.value f is.spelled e in
        let line_is =
        shown_same t.status (best_text t.status t.best) shown (texts t.root) rest
        (best_of t.status t.best) best.0 best_is
        (subst (λ x. IsBestLineOf x shown best.0) same.0 best.1) same.1 in
        root_breaks_none m limit names model named in_words low inside s t.root (good s (sym same.0)) is.shape.tree.few
        (first_node s) rule line
        (subst (λ x. BreaksNodes limit m names s at_root x (first_node s) rule line) (sym line_is.1) nodes)
    breaks_none rule line (no_leaf s v shown root last has f best e leads none r l) =
        let same = behind_claims t.status s t.value v (best_text t.status t.best) shown (texts t.root) (texts root) text
        fits.value f is.spelled e in
        let line_is =
        shown_same t.status (best_text t.status t.best) shown (texts t.root) (texts root)
        (best_of t.status t.best) best.0 best_is
        (subst (λ x. IsBestLineOf x shown best.0) same.0 best.1) same.1 in
        let back = root_back limit m names s root last leads in
        let root_is =
        one_root m limit names model named in_words low inside s t.root root (good s (sym same.0)) back.0
        is.shape.tree.few back.1 line_is.1 in
        let shown_is =
        shows_text s shown t.best has
        (subst (λ x. IsBestLineOf s shown x)
        (sym line_is.0 ∙ ap (λ x. best_of x t.best) (sym same.0)) best.1) in
        none t.best shown_is
        (subst (λ n. KeepsBest s t.best (leaf_count n)) root_is
        (subst (λ x. KeepsBest x t.best (leaf_count t.root)) (sym same.0) is.shape.tree.best))

  -- ---- and is that of one tree
  pub read_once : (t u : Tree) (text : List ℕ) → IsTextOfTree limit m names t text → IsTextOfTree limit m names u text
      → TreeFits limit m t → TreeFits limit m u → t ≡ u
  read_once t u text it iu ft fu =
      let claims =
      claims_same limit low t.status u.status t.value u.value (best_text t.status t.best ++ texts t.root)
      (best_text u.status u.best ++ texts u.root)
      ft.value fu.value (sym it.spelled ∙ iu.spelled) in
      let status = status_same limit low t.status u.status t.value u.value claims.0 in
      let shown =
      shown_same t.status (best_text t.status t.best) (best_text u.status u.best) (texts t.root)
      (texts u.root) (best_of t.status t.best)
      (best_of u.status u.best) (best_is t text it ft)
      (subst (λ s. IsBestLineOf s (best_text u.status u.best) (best_of u.status u.best)) status
      (best_is u text iu fu)) claims.1 in
      tree_is t u (sym status)
      (value_same limit low t.status u.status t.value u.value t.best u.best it.shape.parts iu.shape.parts claims.0)
      (best_same_parts t.status t.value u.value t.best u.best it.shape.parts
      (subst (λ s. KeepsParts s u.value u.best) status iu.shape.parts)
      (shown.0 ∙ ap (λ s. best_of s u.best) status))
      (one_root m limit names model named in_words low inside t.status t.root u.root (good t text it ft t.status refl)
      (good u text iu fu t.status status)
      it.shape.tree.few iu.shape.tree.few shown.1)

  -- ---- a text breaks one rule
  no_nodes : (s : Status) (root : Node) (last : Stage) (rest : List ℕ) (n rule line : ℕ)
      → Leads limit m names s at_root (pieces root) last → rest ≡ texts root
      → BreaksNodes limit m names s at_root rest n rule line → ⊥
  no_nodes s root last rest n rule line leads e b =
      let back = root_back limit m names s root last leads in
      root_breaks_none m limit names model named in_words low inside s root back.0 back.1 n rule line
      (subst (λ x. BreaksNodes limit m names s at_root x n rule line) e b)

  one_best_here : (text : List ℕ) (a b : Offence) (s t : Status) (v w : Fraction) (r q : List ℕ) → Fits limit v
      → Fits limit w → text ≡ claim_text s v ++ r
      → text ≡ claim_text t w ++ q → IsBestCause r a → IsBestCause q b → a ≡ b
  one_best_here text a b s t v w r q f g e d h k =
      let same = claims_same limit low s t v w r q f g (sym e ∙ d) in
      one_best r a b h (subst (λ x. IsBestCause x b) (sym same.1) k)

  no_best_here : (text : List ℕ) (a : Offence) (s t : Status) (v w : Fraction) (r shown q : List ℕ) → HasBest s
      → Fits limit v → Fits limit w
      → text ≡ claim_text s v ++ r → text ≡ claim_text t w ++ (shown ++ q) → IsBestCause r a
      → IsBestLine t shown → ⊥
  no_best_here text a s t v w r shown q has f g e d h best =
      let same = claims_same limit low s t v w r (shown ++ q) f g (sym e ∙ d) in
      let status = status_same limit low s t v w same.0 in
      no_best_cause s shown q r best.0 a has
      (subst (λ x. IsBestLineOf x shown best.0) status best.1) same.1 h

  pub one_cause : (text : List ℕ) (rule line other at : ℕ) → Breaks limit m names text rule line
      → Breaks limit m names text other at → (rule ≡ other) × (line ≡ at)
  one_cause text rule line other at (in_claim a h r l) (in_claim b k p n) =
      (r ∙ ap rule_of (one_claim limit low text a b h k) ∙ sym p, l ∙ sym n)
  one_cause text rule line other at (in_claim a h r l) (in_best b t w q has g d k p n) =
      absurd (no_claim_cause limit low t w q text a g d h)
  one_cause text rule line other at (in_claim a h r l) (in_nodes t w shown q g d best k) =
      absurd (no_claim_cause limit low t w (shown ++ q) text a g d h)
  one_cause text rule line other at (in_claim a h r l) (no_leaf t w shown root last has g best d leads none p n) =
      absurd (no_claim_cause limit low t w (shown ++ texts root) text a g d h)
  one_cause text rule line other at (in_best a s v rest has f e h r l) (in_claim b k p n) =
      absurd (no_claim_cause limit low s v rest text b f e k)
  one_cause text rule line other at (in_best a s v rest has f e h r l) (in_best b t w q some g d k p n) =
      (r ∙ ap rule_of (one_best_here text a b s t v w rest q f g e d h k) ∙ sym p, l ∙ sym n)
  one_cause text rule line other at (in_best a s v rest has f e h r l) (in_nodes t w shown q g d best k) =
      absurd (no_best_here text a s t v w rest shown q has f g e d h best)
  one_cause text rule line other at (in_best a s v rest has f e h r l)
      (no_leaf t w shown root last some g best d leads none p n) =
      absurd (no_best_here text a s t v w rest shown (texts root) has f g e d h best)
  one_cause text rule line other at (in_nodes s v shown rest f e best h) (in_claim b k p n) =
      absurd (no_claim_cause limit low s v (shown ++ rest) text b f e k)
  one_cause text rule line other at (in_nodes s v shown rest f e best h) (in_best b t w q has g d k p n) =
      absurd (no_best_here text b t s w v q shown rest has g f d e k best)
  one_cause text rule line other at (in_nodes s v shown rest f e best h) (in_nodes t w shown' q g d best' k) =
      let same = behind_claims s t v w shown shown' rest q text f g e d in
      let shows =
      shown_same s shown shown' rest q best.0 best'.0 best.1
      (subst (λ x. IsBestLineOf x shown' best'.0) same.0 best'.1) same.1 in
      one_breach m limit names model named in_words low inside s rest (first_node s) rule line other at h
      (subst (λ x. BreaksNodes limit m names s at_root x (first_node s) other at) (sym shows.1)
      (subst (λ x. BreaksNodes limit m names x at_root q (first_node x) other at) same.0 k))
  one_cause text rule line other at (in_nodes s v shown rest f e best h)
      (no_leaf t w shown' root last has g best' d leads none p n) =
      let same = behind_claims s t v w shown shown' rest (texts root) text f g e d in
      let shows =
      shown_same s shown shown' rest (texts root) best.0 best'.0 best.1
      (subst (λ x. IsBestLineOf x shown' best'.0) same.0 best'.1) same.1 in
      absurd (no_nodes s root last rest (first_node s) rule line
      (subst (λ x. Leads limit m names x at_root (pieces root) last) same.0 leads) shows.1 h)
  one_cause text rule line other at (no_leaf s v shown root last has f best e leads none r l) (in_claim b k p n) =
      absurd (no_claim_cause limit low s v (shown ++ texts root) text b f e k)
  one_cause text rule line other at (no_leaf s v shown root last has f best e leads none r l)
      (in_best b t w q some g d k p n) =
      absurd (no_best_here text b t s w v q shown (texts root) some g f d e k best)
  one_cause text rule line other at (no_leaf s v shown root last has f best e leads none r l)
      (in_nodes t w shown' q g d best' k) =
      let same = behind_claims t s w v shown' shown q (texts root) text g f d e in
      let shows =
      shown_same t shown' shown q (texts root) best'.0 best.0 best'.1
      (subst (λ x. IsBestLineOf x shown best.0) same.0 best.1) same.1 in
      absurd (no_nodes t root last q (first_node t) other at
      (subst (λ x. Leads limit m names x at_root (pieces root) last) same.0 leads) shows.1 k)
  one_cause text rule line other at (no_leaf s v shown root last has f best e leads none r l)
      (no_leaf t w shown' root' last' some g best' d leads' none' p n) =
      (r ∙ sym p, l ∙ sym n)
