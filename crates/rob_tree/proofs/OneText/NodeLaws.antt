-- The nodes of a text: a text is that of one node, and its lines break one rule.
use Rattle.std.proofs.Common.{◌≡◌, ℕ, ◌+◌, ◌-◌, ◌^◌, ◌<◌, ◌≤◌, List, [], ◌∷◌, ◌++◌, length, arith, refl, ap, sym, ◌∙◌, subst, append_assoc, append-nil, length-append, inl, inr}
use Rattle.std.specs.Fmt.{signed_decimal}
use Rattle.std.specs.Prelude.{◌⊎◌, codes}
use Rattle.rob_cert.proofs.Writing.ShapeLemmas.{spaced_some}
use Rattle.rob_cert.specs.Apart.{IsNamedInWords}
use Rattle.rob_cert.specs.Lines.{lines_of}
use Rattle.rob_cert.specs.Spelling.{naming_of}
use Rattle.rob_cert.specs.Spelling as spelling
use Rattle.rob_meaning.specs.Certificates.{Status}
use Rattle.rob_meaning.specs.Named.{IsNamed}
use Rattle.rob_meaning.specs.Names.{column_names}
use Rattle.rob_meaning.specs.Places.{Each}
use Rattle.rob_meaning.specs.RobustModel.{RobustModel}
use Rattle.rob_meaning.specs.WellFormed.{IsModel}
use Rattle.rob_reach.specs.Trees.{Node, leaf, split, left_open, branch_count}
use Rattle.rob_tree.proofs.Readers.PieceLemmas.{no_breach_here, one_breach_here, one_piece}
use Rattle.rob_tree.proofs.Readers.ReadingLemmas.{pending_some, root_leads, stage}
use Rattle.rob_tree.specs.Parts.{IsGoodNode}
use Rattle.rob_tree.specs.Reading.{BreaksNodes, IsBreach, Leads, MayStand, Stage, advanced, at_root, in_certificate, in_node, in_rest, line_ends}
use Rattle.rob_tree.specs.TreeText.{Piece, branch_piece, leaf_piece, open_piece, piece_text, pieces, pieces_text}

-- ---- a node is told by its pieces
pieces_behind : (n k : Node) (xs ys : List Piece) → pieces n ++ xs ≡ pieces k ++ ys → (n ≡ k) × (xs ≡ ys)
pieces_behind (leaf c) (leaf d) xs ys e = (let p : c ≡ d = cc in ap leaf p, cc)
pieces_behind (leaf c) (split j k a b) xs ys e = absurd (cc)
pieces_behind (leaf c) left_open xs ys e = absurd (cc)
pieces_behind left_open (leaf d) xs ys e = absurd (cc)
pieces_behind left_open (split j k a b) xs ys e = absurd (cc)
pieces_behind left_open left_open xs ys e = (refl, cc)
pieces_behind (split j k a b) (leaf d) xs ys e = absurd (cc)
pieces_behind (split j k a b) left_open xs ys e = absurd (cc)
pieces_behind (split j k a b) (split i l c d) xs ys e =
    let column : j ≡ i = cc in
    let whole : k ≡ l = cc in
    let rest : (pieces a ++ pieces b) ++ xs ≡ (pieces c ++ pieces d) ++ ys = cc in
    let first = pieces_behind a c (pieces b ++ xs) (pieces d ++ ys)
    (sym (append_assoc (pieces a) (pieces b) xs) ∙ rest ∙ append_assoc (pieces c) (pieces d) ys) in
    let second = pieces_behind b d xs ys first.1 in (
      ap (λ (n : ℕ). split n k a b) column ∙ ap (λ z. split i z a b) whole ∙ ap (λ n. split i l n b) first.0
          ∙ ap (λ n. split i l c n) second.0,
      second.1,
    )

-- a piece has some bytes
piece_some : (m : RobustModel) (p : Piece) → 1 ≤ length (piece_text (naming_of m) p)
piece_some m (leaf_piece c) =
    omega (
      arith,
      length-append (spelling.spaced (codes "leaf" ∷ [])) (spelling.lines_text (naming_of m) (lines_of c)),
      spaced_some (codes "leaf" ∷ []),
    )
piece_some m (branch_piece j k) =
    spaced_some (codes "branch" ∷ (spelling.name_at (naming_of m).columns j ∷ (signed_decimal k ∷ [])))
piece_some m open_piece = spaced_some (codes "open" ∷ [])

no_text : (m : RobustModel) (p : Piece) (ps : List Piece) (rest : List ℕ)
    → [] ≡ pieces_text (naming_of m) (p ∷ ps) ++ rest → ⊥
no_text m p ps rest e = omega (
  arith,
  ap length e,
  length-append (pieces_text (naming_of m) (p ∷ ps)) rest,
  length-append (piece_text (naming_of m) p) (pieces_text (naming_of m) ps),
  piece_some m p,
)

module _ (m : RobustModel) (limit : ℕ) (names : List ℕ) (model : IsModel m) (named : IsNamed m)
    (in_words : IsNamedInWords m) (low : limit ≤ 2 ^ 62 - 1)
    (inside : Each (λ j. j < length (column_names m)) names) (status : Status) where
  abbrev texts : List Piece → List ℕ
  texts ps = pieces_text (naming_of m) ps

  -- of two lists of pieces at the front of a text, one begins with the other
  abbrev GoesOn : (ps qs : List Piece) (r t : List ℕ) → Type 0
  GoesOn ps qs r t = (more : List Piece) × (qs ≡ ps ++ more) × (r ≡ texts more ++ t)

  goes_on : (p : Piece) (ps qs : List Piece) (r t : List ℕ) → GoesOn ps qs r t → GoesOn (p ∷ ps) (p ∷ qs) r t
  goes_on p ps qs r t (more, is, rest) = (more, ap (λ l. p ∷ l) is, rest)

  pieces_once : (s : Stage) (ps qs : List Piece) (a b : Stage) (r t : List ℕ) → Leads limit m names status s ps a
      → Leads limit m names status s qs b
      → texts ps ++ r ≡ texts qs ++ t → GoesOn ps qs r t ⊎ GoesOn qs ps t r
  pieces_once s [] qs a b r t h k e = inl (qs, refl, e)
  pieces_once s (p ∷ ps) [] a b r t h k e = inr (p ∷ ps, refl, sym e)
  pieces_once s (p ∷ ps) (q ∷ qs) a b r t h k e =
      let grouped =
      sym (append_assoc (piece_text (naming_of m) p) (texts ps) r) ∙ e
      ∙ append_assoc (piece_text (naming_of m) q) (texts qs) t in
      let same = one_piece m limit names model named in_words low inside status s p q (texts ps ++ r)
      (texts qs ++ t) h.0 k.0 grouped in
      let rest = pieces_once (advanced s p) ps qs a b r t h.1
      (subst (λ l. Leads limit m names status (advanced s l) qs b) (sym same.0) k.1) same.1 in
      elim rest [
        | inl g ↦ inl (subst (λ l. GoesOn (p ∷ ps) (l ∷ qs) r t) same.0 (goes_on p ps qs r t g))
        | inr g ↦ inr (subst (λ l. GoesOn (l ∷ qs) (p ∷ ps) t r) same.0 (goes_on p qs ps t r g))
      ]

  leads_same : (s : Stage) (ps : List Piece) (a b : Stage) → Leads limit m names status s ps a
      → Leads limit m names status s ps b → a ≡ b
  leads_same s [] a b h k = sym h ∙ k
  leads_same s (p ∷ ps) a b h k = leads_same (advanced s p) ps a b h.1 k.1

  leads_split : (s : Stage) (ps qs : List Piece) (b : Stage) → Leads limit m names status s (ps ++ qs) b
      → (c : Stage) × Leads limit m names status s ps c × Leads limit m names status c qs b
  leads_split s [] qs b h = (s, refl, h)
  leads_split s (p ∷ ps) qs b h = let (c, k, l) = leads_split (advanced s p) ps qs b h.1 in (c, (h.0, k), l)

  -- nothing more may stand where no node is to come
  none_behind : (s : Stage) (ps : List Piece) (b : Stage) → s.pending ≡ 0 → Leads limit m names status s ps b → ps ≡ []
  none_behind s [] b e h = refl
  none_behind s (p ∷ ps) b e h = absurd (omega (arith, e, pending_some limit m names status s p h.0))

  -- ---- a text is that of one root
  pub one_root : (n k : Node) → IsGoodNode limit m names status n → IsGoodNode limit m names status k
      → branch_count n < 1000 → branch_count k < 1000
      → texts (pieces n) ≡ texts (pieces k) → n ≡ k
  one_root n k gn gk fn fk e =
      (pieces_behind n k [] [] (ap (λ l. l ++ []) same)).0
    where
      same : pieces n ≡ pieces k
      same = elim (pieces_once at_root (pieces n) (pieces k) (stage 0 (branch_count n)) (stage 0 (branch_count k)) [] []
          (root_leads limit m names status n gn fn) (root_leads limit m names status k gk fk) (ap (λ l. l ++ []) e)) [
            | inl g ↦ sym (only n k gn fn gk fk g.0 g.1)
            | inr g ↦ only k n gk fk gn fn g.0 g.1
          ]
        where
          only : (a b : Node) → IsGoodNode limit m names status a → branch_count a < 1000
              → IsGoodNode limit m names status b → branch_count b < 1000
              → (more : List Piece) → pieces b ≡ pieces a ++ more → pieces b ≡ pieces a
          only a b ga fa gb fb more is =
              let (c, to, on) = leads_split at_root (pieces a) more (stage 0 (branch_count b))
              (subst (λ l. Leads limit m names status at_root l (stage 0 (branch_count b))) is
              (root_leads limit m names status b gb fb)) in
              let at = leads_same at_root (pieces a) c (stage 0 (branch_count a)) to
              (root_leads limit m names status a ga fa) in
              is ∙ ap (λ l. pieces a ++ l)
              (none_behind c more (stage 0 (branch_count b)) (ap (λ (s : Stage). s.pending) at) on)
              ∙ append-nil (pieces a)

  -- ---- the lines of a root break no rule
  pub root_breaks_none : (n : Node) → IsGoodNode limit m names status n → branch_count n < 1000 → (number rule line : ℕ)
      → BreaksNodes limit m names status at_root (texts (pieces n)) number rule line → ⊥
  root_breaks_none n good few number rule line b =
      elim (pieces_once at_root b.before (pieces n) b.stage last b.rest [] b.good
      (root_leads limit m names status n good few) (sym b.split ∙ sym (append-nil (texts (pieces n))))) [
        | inl g ↦ further g.0 g.1 g.2
        | inr g ↦ shorter g.0 g.1 g.2
      ]
    where
      last : Stage
      last = stage 0 (branch_count n)

      at_end : b.rest ≡ [] → pieces n ≡ b.before → ⊥
      at_end none same =
          let at = leads_same at_root b.before b.stage last b.good
          (subst (λ l. Leads limit m names status at_root l last) same
          (root_leads limit m names status n good few)) in
          ended b.stage (number + line_ends (texts b.before)) (ap (λ (s : Stage). s.pending) at)
          (subst (λ t. IsBreach limit m names status b.stage t (number + line_ends (texts b.before)) rule line) none
          b.breach)
        where
          ended : (s : Stage) (k : ℕ) → s.pending ≡ 0 → IsBreach limit m names status s [] k rule line → ⊥
          ended s k e (in_node o some c r l) = omega (arith, e, some)
          ended s k e (in_certificate after part some is p c) = omega (arith, e, some)
          ended s k e (in_rest none some r l) = some refl

      further : (more : List Piece) → pieces n ≡ b.before ++ more → b.rest ≡ texts more ++ [] → ⊥
      further [] same rest = at_end rest (same ∙ append-nil b.before)
      further (p ∷ more) same rest =
          let (c, to, on) =
          leads_split at_root b.before (p ∷ more) last
          (subst (λ l. Leads limit m names status at_root l last) same
          (root_leads limit m names status n good few)) in
          let at = leads_same at_root b.before c b.stage to b.good in
          no_breach_here m limit names model named in_words low inside status b.stage p (texts more ++ []) b.rest
          (number + line_ends (texts b.before)) rule line
          (subst (λ s. MayStand limit m names status s p) at on.0)
          (rest ∙ append_assoc (piece_text (naming_of m) p) (texts more) []) b.breach

      shorter : (more : List Piece) → b.before ≡ pieces n ++ more → [] ≡ texts more ++ b.rest → ⊥
      shorter [] same rest = at_end (sym rest) (sym (same ∙ append-nil (pieces n)))
      shorter (p ∷ more) same rest = no_text m p more b.rest rest

  -- ---- lines of nodes break one rule
  same_breach : (text : List ℕ) (number rule line other at : ℕ)
      (h : BreaksNodes limit m names status at_root text number rule line)
      (g : BreaksNodes limit m names status at_root text number other at) (more : List Piece)
      → g.before ≡ h.before ++ more
      → h.rest ≡ texts more ++ g.rest → (rule ≡ other) × (line ≡ at)
  same_breach text number rule line other at h g [] same rest =
      let good : g.before ≡ h.before = same ∙ append-nil h.before in
      let stages : g.stage ≡ h.stage =
      leads_same at_root h.before g.stage h.stage
      (subst (λ l. Leads limit m names status at_root l g.stage) good g.good) h.good in
      let moved =
      subst (λ l. IsBreach limit m names status g.stage g.rest (number + line_ends (texts l)) other at) good
      g.breach in
      let here = subst (λ s. IsBreach limit m names status s g.rest (number + line_ends (texts h.before)) other at)
      stages moved in
      one_breach_here m limit names model named in_words low inside status h.stage h.rest
      (number + line_ends (texts h.before)) rule line other at h.breach
      (subst (λ r. IsBreach limit m names status h.stage r (number + line_ends (texts h.before)) other at) (sym rest)
      here)
  same_breach text number rule line other at h g (p ∷ more) same rest =
      let (c, to, on) =
      leads_split at_root h.before (p ∷ more) g.stage
      (subst (λ l. Leads limit m names status at_root l g.stage) same g.good) in
      let here = leads_same at_root h.before c h.stage to h.good in
      absurd
      (no_breach_here m limit names model named in_words low inside status h.stage p (texts more ++ g.rest) h.rest
      (number + line_ends (texts h.before)) rule line
      (subst (λ s. MayStand limit m names status s p) here on.0)
      (rest ∙ append_assoc (piece_text (naming_of m) p) (texts more) g.rest) h.breach)

  pub one_breach : (text : List ℕ) (number rule line other at : ℕ)
      → BreaksNodes limit m names status at_root text number rule line
      → BreaksNodes limit m names status at_root text number other at → (rule ≡ other) × (line ≡ at)
  one_breach text number rule line other at h g =
      elim (pieces_once at_root h.before g.before h.stage g.stage h.rest g.rest h.good g.good (sym h.split ∙ g.split)) [
        | inl d ↦ same_breach text number rule line other at h g d.0 d.1 d.2
        | inr d ↦ let same = same_breach text number other at rule line g h d.0 d.1 d.2 in (sym same.0, sym same.1)
      ]
