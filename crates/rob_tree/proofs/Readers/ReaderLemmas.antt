-- A text that is read is that of its tree, and a text that isn't breaks the rule that is told.
use Rattle.std.proofs.Common.{◌≡◌, ℕ, suc, ◌-◌, ◌^◌, ◌<◌, ◌≤◌, List, [], ◌∷◌, ◌++◌, T, arith, refl, ap, sym, ◌∙◌, subst, append-nil, inl, inr}
use Rattle.std.proofs.lemmas.Fmt.{signed_decimal_injective}
use Rattle.std.proofs.lemmas.Int.{ints}
use Rattle.std.proofs.lemmas.List.{append_cancel_right}
use Rattle.std.specs.Fmt.{decimal, signed_decimal}
use Rattle.std.proofs.lemmas.Result.{IfErr-weaker}
use Rattle.std.specs.Prelude.{codes, ℤ, pos, negsuc, nat_abs, ◌<ℤ◌, ◌≤ℤ◌, Result, Ok, Err, IfOk, IfErr}
use Rattle.rob_algebra.specs.Fraction.{Fraction}
use Rattle.rob_algebra.specs.Width.{Fits}
use Rattle.rob_cert.proofs.Words.NumberLemmas.{mag_small}
use Rattle.rob_cert.specs.Apart.{IsNamedInWords}
use Rattle.rob_cert.specs.Spelling.{naming_of, spaced}
use Rattle.rob_meaning.specs.Certificates.{Status, optimal, infeasible, unbounded}
use Rattle.rob_meaning.specs.Named.{IsNamed}
use Rattle.rob_meaning.specs.Names.{Name}
use Rattle.rob_meaning.specs.RobustModel.{RobustModel}
use Rattle.rob_meaning.specs.WellFormed.{IsModel}
use Rattle.rob_reach.proofs.GrowingLemmas.{leaves-branches}
use Rattle.rob_reach.specs.Ranges.{are_bounded}
use Rattle.rob_reach.specs.Trees.{Node, Tree, branch_count, leaf_count}
use Rattle.rob_reach.specs.Verdicts.{KeepsBest}
use Rattle.rob_tree.proofs.Readers.FirstLineLaws.{claim_line}
use Rattle.rob_tree.proofs.Writing.GoodNodes.{node_fits, tree_of_good}
use Rattle.rob_tree.proofs.Readers.ReadingLemmas.{root_leads, stage}
use Rattle.rob_tree.proofs.OneText.TreeLaws as laws
use Rattle.rob_tree.specs.Parts.{HasBestCause, HasEndCause, HasNodeCause, HasRootCause, IsBestRead, IsClaimRead, IsEnded, IsGoodNode, IsLeafNumber, IsNodeRead, IsReadTree, IsRootRead, KeepsNothing, tree_with}
use Rattle.rob_tree.specs.Reading.{Breaks, BreaksNodes, HasCause, Reads, TreeFits, at_root, in_best, in_claim, in_nodes, in_rest, no_leaf, rule_of}
use Rattle.rob_tree.specs.ClaimLines.{HasBest, IsBestLineOf, IsClaimCause, greatest_leaf}
use Rattle.rob_tree.specs.Shape.{KeepsParts}
use Rattle.rob_tree.specs.TreeText.{IsTextOfTree, best_text, claim_text, pieces, pieces_text}
use Rattle.rob_tree.specs.View.{tree_of}
use Rattle.rob_tree.specs.declared.error.Offence.{Offence}
use Rattle.rob_tree.specs.declared.error.TreeErr.{TreeErr}
use Rattle.rob_tree.specs.declared.error.TreeErr.TheVariants.{Rule, Memory}
use Rattle.rob_tree.specs.declared.tree.Tree as declared

-- ---- the root
module _ (limit : ℕ) (m : RobustModel) (names : List ℕ) (status : Status) (best : ℤ) where
  module _ (text : List ℕ) (line : ℕ) (node : Node) (rest : List ℕ) (next more : ℕ)
      (h : IsNodeRead limit m names status text line 0 node rest next more) where
    count_is : more ≡ branch_count node
    count_is = omega (arith, h.branches_are)

    few : branch_count node < 1000
    few = omega (arith, h.branches_are, h.few)

    whole : rest ≡ [] → text ≡ pieces_text (naming_of m) (pieces node)
    whole e = h.split ∙ ap (λ r. pieces_text (naming_of m) (pieces node) ++ r) e
        ∙ append-nil (pieces_text (naming_of m) (pieces node))

    pub root_read : (value : Fraction) (t : Tree) → IsEnded status best rest more → t ≡ tree_with status value best node
        → IsRootRead limit m names status best value text t
    root_read value t e is = record {
      root = node;
      is = is;
      spelled = whole e.nothing;
      good = h.good;
      few = few;
      number = subst (IsLeafNumber status best) count_is e.number;
    }

    pub root_cause_end : (e : TreeErr) → HasEndCause status best rest next more e
        → HasRootCause limit m names status best text line e
    root_cause_end (Rule rule at) (inl (some, r, l)) = inl record {
      before = pieces node;
      stage = stage 0 (branch_count node);
      rest = rest;
      good = root_leads limit m names status node h.good few;
      split = h.split;
      breach = in_rest refl some r (l ∙ h.line_is);
    }
    root_cause_end (Rule rule at) (inr (none, number, r, l)) = inr record {
      root = node;
      spelled = whole none;
      good = h.good;
      few = few;
      number = λ n. number (subst (IsLeafNumber status best) (sym count_is) n);
      rule_is = r;
      at_is = l;
    }
    root_cause_end Memory e = tt

  pub root_cause_node : (text : List ℕ) (line : ℕ) (e : TreeErr) → HasNodeCause limit m names status text line 0 e
      → HasRootCause limit m names status best text line e
  root_cause_node text line (Rule rule at) h = inl (h 0)
  root_cause_node text line Memory h = tt

-- what is read where a call answers, and why where it doesn't
module _ {N : Type 0} (value : N → Fraction) (limit : ℕ) (m : RobustModel) (names : List ℕ) (status : Status) (best : ℤ)
    (text : List ℕ) (line : ℕ)
    (node : Node) (rest : List ℕ) (next more : ℕ) (h : IsNodeRead limit m names status text line 0 node rest next more)
    (r : Result (declared.Tree N) TreeErr) where
  pub roots_read : (told : ℤ) → told ≡ best → (v : Fraction) → IfOk r (λ t. IsEnded status told rest more)
      → IfOk r (λ t. tree_of value t ≡ tree_with status v told node)
      → IfOk r (λ t. IsRootRead limit m names status best v text (tree_of value t))
  roots_read told same v = by r
    where
      by : (r : Result (declared.Tree N) TreeErr) → IfOk r (λ t. IsEnded status told rest more)
          → IfOk r (λ t. tree_of value t ≡ tree_with status v told node)
          → IfOk r (λ t. IsRootRead limit m names status best v text (tree_of value t))
      by (Ok t) ended is =
          root_read limit m names status best text line node rest next more h v (tree_of value t)
          (subst (λ z. IsEnded status z rest more) same ended) (is ∙ ap (λ z. tree_with status v z node) same)
      by (Err e) ended is = tt

  pub roots_cause : (told : ℤ) → told ≡ best → IfErr r (HasEndCause status told rest next more)
      → IfErr r (HasRootCause limit m names status best text line)
  roots_cause told same =
      IfErr-weaker r (HasEndCause status told rest next more) (HasRootCause limit m names status best text line)
      (λ e k. root_cause_end limit m names status best text line node rest next more h e
      (subst (λ z. HasEndCause status z rest next more e) same k))

-- ---- the line of the leaf
best_word : (v w : Name) → spaced (codes "best" ∷ (v ∷ [])) ≡ spaced (codes "best" ∷ (w ∷ [])) → v ≡ w
best_word v w e = append_cancel_right v w (10 ∷ []) (let p : v ++ 10 ∷ [] ≡ w ++ 10 ∷ [] = cc in p)

-- a number above 0 is spelled without a sign
positive_text : (z : ℤ) → pos 0 <ℤ z → signed_decimal z ≡ decimal (nat_abs z)
positive_text (pos n) h = refl
positive_text (negsuc n) h = absurd (omega (arith, ints, h))

shown_text : (s : Status) (shown : List ℕ) (best : ℤ) (n : ℕ) → IsBestLineOf s shown best
    → IsLeafNumber s best n → shown ≡ best_text s (nat_abs best)
shown_text optimal shown best n h k = h.1 ∙ ap (λ w. spaced (codes "best" ∷ (w ∷ []))) (positive_text best k.0)
shown_text infeasible shown best n h k = h.0
shown_text unbounded shown best n h k = h.1 ∙ ap (λ w. spaced (codes "best" ∷ (w ∷ []))) (positive_text best k.0)

pub best_fits : (s : Status) (shown : List ℕ) (best : ℤ) → IsBestLineOf s shown best → nat_abs best ≤ greatest_leaf
best_fits optimal shown best h = h.0
best_fits infeasible shown best h = omega (arith, ap nat_abs h.1)
best_fits unbounded shown best h = h.0

keeps_number : (z : ℤ) (n count : ℕ) → count ≡ suc n → pos 0 <ℤ z → z ≤ℤ pos (suc n)
    → (0 < nat_abs z) × (nat_abs z ≤ count)
keeps_number (pos k) n count e a b = (omega (arith, ints, a), omega (arith, ints, b, e))
keeps_number (negsuc k) n count e a b = absurd (omega (arith, ints, a))

keeps_best : (s : Status) (best : ℤ) (n count : ℕ) → count ≡ suc n → IsLeafNumber s best n
    → KeepsBest s (nat_abs best) count
keeps_best optimal best n count e h = keeps_number best n count e h.0 h.1
keeps_best infeasible best n count e h = tt
keeps_best unbounded best n count e h = keeps_number best n count e h.0 h.1

keeps_parts : (s : Status) (v : Fraction) (best : ℤ) (n : ℕ) → KeepsNothing s v → IsLeafNumber s best n
    → KeepsParts s v (nat_abs best)
keeps_parts optimal v best n h k = tt
keeps_parts infeasible v best n h k = (h, ap nat_abs k)
keeps_parts unbounded v best n h k = h

-- ---- the whole text
module _ (limit : ℕ) (m : RobustModel) (names : List ℕ) (s : Status) (v : Fraction) (text rest last : List ℕ) (best : ℤ)
    (line : ℕ) (fits : Fits limit v)
    (claim : IsClaimRead text s v rest) (shown : IsBestRead s rest best last line) where
  split_text : text ≡ claim_text s v ++ (shown.shown ++ last)
  split_text = claim.split ∙ ap (λ t. t ++ rest) (sym (claim_line s v)) ∙ ap (λ r. claim_text s v ++ r) shown.split

  made : (root : Node) → T (are_bounded m.variables names) → last ≡ pieces_text (naming_of m) (pieces root)
      → IsGoodNode limit m names s root
      → branch_count root < 1000 → IsLeafNumber s best (branch_count root)
      → IsReadTree limit m names (tree_with s v best root) text
  made root bounded is good few number = record {
    text_is = record {
      shape = tree_of_good limit m names s (tree_with s v best root) refl bounded good few
          (keeps_best s best (branch_count root) (leaf_count root) (leaves-branches root) number)
          (keeps_parts s v best (branch_count root) claim.nothing number);
      spelled = split_text
          ∙ ap (λ r. claim_text s v ++ (r ++ last))
          (shown_text s shown.shown best (branch_count root) shown.is_best number)
          ∙ ap (λ r. claim_text s v ++ (best_text s (nat_abs best) ++ r)) is;
    };
    fits = record {
      value = fits;
      best = best_fits s shown.shown best shown.is_best;
      root = node_fits limit m names s root good;
    };
  }

  pub text_read : (t : Tree) → T (are_bounded m.variables names) → IsRootRead limit m names s best v last t
      → IsReadTree limit m names t text
  text_read t bounded h =
      subst (λ t. IsReadTree limit m names t text) (sym h.is)
      (made h.root bounded h.spelled h.good h.few h.number)

  by_word : (shown : List ℕ) (b n count : ℕ) → count ≡ suc n → n < 1000 → nat_abs best ≤ greatest_leaf
      → shown ≡ spaced (codes "best" ∷ (signed_decimal best ∷ [])) → shown ≡ spaced (codes "best" ∷ (decimal b ∷ []))
      → (0 < b) × (b ≤ count) → (pos 0 <ℤ best) × (best ≤ℤ pos (suc n))
  by_word shown b n count e less small h is keeps =
      let word : signed_decimal best ≡ decimal b = best_word (signed_decimal best) (decimal b) (sym h ∙ is) in
      let same : best ≡ pos b =
      signed_decimal_injective best (pos b) (omega (arith, mag_small best (omega arith)))
      (omega (arith, keeps.1)) word in
      subst (λ z. (pos 0 <ℤ z) × (z ≤ℤ pos (suc n))) (sym same)
      (omega (arith, ints, keeps.0), omega (arith, ints, keeps.1, e))

  number_of : (s : Status) (shown : List ℕ) (b n count : ℕ) → count ≡ suc n → n < 1000 → HasBest s
      → IsBestLineOf s shown best → shown ≡ best_text s b
      → KeepsBest s b count → IsLeafNumber s best n
  number_of infeasible shown b n count e less has h is keeps = absurd has
  number_of optimal shown b n count e less has h is keeps = by_word shown b n count e less h.0 h.1 is keeps
  number_of unbounded shown b n count e less has h is keeps = by_word shown b n count e less h.0 h.1 is keeps

  has_best : (s : Status) (shown : List ℕ) (n : ℕ) → IsBestLineOf s shown best
      → (IsLeafNumber s best n → ⊥) → HasBest s
  has_best optimal shown n h f = tt
  has_best infeasible shown n h f = f h.1
  has_best unbounded shown n h f = tt

  pub text_cause : (e : TreeErr) → HasRootCause limit m names s best last line e
      → HasCause limit m names text e
  text_cause (Rule rule at) (inl h) =
      in_nodes s v shown.shown last fits split_text (best, shown.is_best)
      (subst (λ n. BreaksNodes limit m names s at_root last n rule at) shown.line_is h)
  text_cause (Rule rule at) (inr h) =
      let has = has_best s shown.shown (branch_count h.root) shown.is_best h.number in
      no_leaf s v shown.shown h.root (stage 0 (branch_count h.root)) has fits (best, shown.is_best)
      (split_text ∙ ap (λ r. claim_text s v ++ (shown.shown ++ r)) h.spelled)
      (root_leads limit m names s h.root h.good h.few)
      (λ b is keeps.
      h.number (number_of s shown.shown b (branch_count h.root) (leaf_count h.root) (leaves-branches h.root)
      h.few has shown.is_best is keeps))
      h.rule_is h.at_is
  text_cause Memory h = tt

pub text_best_cause : (limit : ℕ) (m : RobustModel) (names : List ℕ) (s : Status) (v : Fraction) (text rest : List ℕ)
    (o : Offence) → Fits limit v → IsClaimRead text s v rest
    → HasBestCause s rest o → Breaks limit m names text (rule_of o) 2
text_best_cause limit m names s v text rest o fits claim h =
    in_best o s v rest h.has fits (claim.split ∙ ap (λ t. t ++ rest) (sym (claim_line s v))) h.cause refl refl

pub text_claim_cause : (limit : ℕ) (m : RobustModel) (names : List ℕ) (text : List ℕ) (o : Offence)
    → IsClaimCause limit text o → Breaks limit m names text (rule_of o) 1
text_claim_cause limit m names text o h = in_claim o h refl refl

-- the same of a call's answer
module _ {N : Type 0} (value : N → Fraction) (limit : ℕ) (m : RobustModel) (names : List ℕ) (s : Status) (v : Fraction)
    (text rest last : List ℕ)
    (best : ℤ) (line : ℕ) (fits : Fits limit v) (claim : IsClaimRead text s v rest)
    (shown : IsBestRead s rest best last line) where
  pub texts_read : (r : Result (declared.Tree N) TreeErr) → T (are_bounded m.variables names)
      → IfOk r (λ t. IsRootRead limit m names s best v last (tree_of value t))
      → IfOk r (λ t. IsReadTree limit m names (tree_of value t) text)
  texts_read (Ok t) bounded h =
      text_read limit m names s v text rest last best line fits claim shown (tree_of value t) bounded h
  texts_read (Err e) bounded h = tt

  pub texts_cause : (r : Result (declared.Tree N) TreeErr)
      → IfErr r (HasRootCause limit m names s best last line)
      → IfErr r (HasCause limit m names text)
  texts_cause (Ok t) h = tt
  texts_cause (Err e) h = text_cause limit m names s v text rest last best line fits claim shown e h

-- ---- a text of a tree is read as that tree
module _ {N : Type 0} (value : N → Fraction) (m : RobustModel) (limit : ℕ) (names text : List ℕ) (model : IsModel m)
    (named : IsNamed m) (low : limit ≤ 2 ^ 62 - 1)
    (bounded : T (are_bounded m.variables names)) where
  pub reads_exactly : (r : Result (declared.Tree N) TreeErr)
      → IfOk r (λ x. IsReadTree limit m names (tree_of value x) text) → IfErr r (HasCause limit m names text)
      → (t : Tree) → IsNamedInWords m
      → IsTextOfTree limit m names t text → TreeFits limit m t → Reads value t r
  reads_exactly (Ok x) is fault t words it fit =
      laws.read_once m limit names model named words low bounded (tree_of value x) t text is.text_is it is.fits fit
  reads_exactly (Err (Rule rule line)) is fault t words it fit =
      laws.breaks_none m limit names model named words low bounded t text it fit rule line fault
  reads_exactly (Err Memory) is fault t words it fit = tt
