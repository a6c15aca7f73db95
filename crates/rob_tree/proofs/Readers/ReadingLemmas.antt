-- Lines of a tree's text, and nodes behind one another: what leads on, and how
-- a breach behind some pieces is one of the whole.
use Rattle.std.proofs.Common.{◌≡◌, ℕ, suc, ◌+◌, ◌-◌, ◌<◌, ◌≤◌, List, [], ◌∷◌, ◌++◌, length, arith, refl, ap, sym, ◌∙◌, subst, Bool, true, false, append_assoc, append-nil}
use Rattle.std.proofs.lemmas.Bool.Decides.{nat_tests}
use Rattle.std.specs.Prelude.{if◌then◌else◌, ◌==◌}
use Rattle.rob_cert.proofs.Readers.SectionLemmas.{spaced-words_in}
use Rattle.rob_cert.specs.Reading.{Lacks, words_in}
use Rattle.rob_cert.specs.Spelling.{Naming, naming_of, spaced}
use Rattle.rob_meaning.specs.Certificates.{Status}
use Rattle.rob_meaning.specs.Names.{Name}
use Rattle.rob_meaning.specs.RobustModel.{RobustModel}
use Rattle.rob_reach.specs.Trees.{Node, leaf, split, left_open, branch_count}
use Rattle.rob_tree.specs.Parts.{IsGoodNode}
use Rattle.rob_tree.specs.Reading.{BreaksNodes, IsBreach, Leads, MayStand, Stage, advanced, at_root, line_ends}
use Rattle.rob_tree.specs.TreeText.{Piece, branch_piece, leaf_piece, open_piece, piece_text, pieces, pieces_text}

-- ---- lines
-- a text whose first line has the words is their line and the rest
pub text_of_words : (text front back : List ℕ) (ws : List Name) → text ≡ front ++ 10 ∷ back → words_in front ≡ ws
    → text ≡ spaced ws ++ back
text_of_words text front back ws is e =
    is ∙ sym (append_assoc front (10 ∷ []) back) ∙ ap (λ t. t ++ back) (sym (spaced-words_in front) ∙ ap spaced e)

-- the line ends of a text by its first byte
abbrev more_ends : Bool → ℕ → ℕ
more_ends t n = if t then suc n else n

pub line_ends-append : (xs ys : List ℕ) → line_ends (xs ++ ys) ≡ line_ends xs + line_ends ys
line_ends-append [] ys = omega arith
line_ends-append (b ∷ xs) ys = by (b == 10) (line_ends-append xs ys)
  where
    by : (t : Bool) → line_ends (xs ++ ys) ≡ line_ends xs + line_ends ys
        → more_ends t (line_ends (xs ++ ys)) ≡ more_ends t (line_ends xs) + line_ends ys
    by true h = omega (arith, h)
    by false h = h

pub line_ends_within : (xs : List ℕ) → line_ends xs ≤ length xs
line_ends_within [] = omega arith
line_ends_within (b ∷ xs) = by (b == 10) (line_ends_within xs)
  where
    by : (t : Bool) → line_ends xs ≤ length xs → more_ends t (line_ends xs) ≤ suc (length xs)
    by true h = omega (arith, h)
    by false h = omega (arith, h)

pub no_ends : (xs : List ℕ) → Lacks 10 xs → line_ends xs ≡ 0
no_ends [] h = refl
no_ends (b ∷ xs) h = by (b == 10) refl (no_ends xs h.1)
  where
    by : (t : Bool) → b == 10 ≡ t → line_ends xs ≡ 0 → more_ends t (line_ends xs) ≡ 0
    by true e k = absurd (h.0 (grind (arith, nat_tests)))
    by false e k = k

-- one line ends in a line and its end
pub one_end : (front : List ℕ) → Lacks 10 front → line_ends (front ++ 10 ∷ []) ≡ 1
one_end front h = line_ends-append front (10 ∷ []) ∙ ap (λ n. n + 1) (no_ends front h)

pub one_end_of_words : (front : List ℕ) (ws : List Name) → Lacks 10 front → words_in front ≡ ws
    → line_ends (spaced ws) ≡ 1
one_end_of_words front ws h e = ap line_ends (ap spaced (sym e) ∙ spaced-words_in front) ∙ one_end front h

-- ---- pieces behind one another
pub pieces_text-append : (names : Naming) (ps qs : List Piece)
    → pieces_text names (ps ++ qs) ≡ pieces_text names ps ++ pieces_text names qs
pieces_text-append names [] qs = refl
pieces_text-append names (p ∷ ps) qs =
    ap (λ t. piece_text names p ++ t) (pieces_text-append names ps qs)
    ∙ sym (append_assoc (piece_text names p) (pieces_text names ps) (pieces_text names qs))

-- a stage by its two numbers
abbrev pub stage : ℕ → ℕ → Stage
stage p b = record { pending = p; branches = b }

stage_same : (a p b c : ℕ) → a ≡ p → b ≡ c → stage a b ≡ stage p c
stage_same a p b c e f = ap (λ n. stage n b) e ∙ ap (λ n. stage p n) f

module _ (limit : ℕ) (m : RobustModel) (names : List ℕ) (status : Status) where
  -- a piece may stand where a node is still to come
  pub pending_some : (s : Stage) (p : Piece) → MayStand limit m names status s p → 0 < s.pending
  pending_some s (leaf_piece c) h = h.0
  pending_some s (branch_piece j k) h = h.0
  pending_some s open_piece h = h.0

  pub Leads-append : (a : Stage) (ps qs : List Piece) (b c : Stage) → Leads limit m names status a ps b
      → Leads limit m names status b qs c
      → Leads limit m names status a (ps ++ qs) c
  Leads-append a [] qs b c h k = subst (λ s. Leads limit m names status s qs c) (sym h) k
  Leads-append a (p ∷ ps) qs b c h k = (h.0, Leads-append (advanced a p) ps qs b c h.1 k)

  -- the pieces of a good node lead behind it
  pub node_leads : (p b : ℕ) (n : Node) → IsGoodNode limit m names status n → b + branch_count n < 1000
      → Leads limit m names status (stage (suc p) b) (pieces n) (stage p (b + branch_count n))
  node_leads p b (leaf c) good few =
      ((omega arith, good.0, good.1), stage_same (suc p - 1) p b (b + 0) (omega arith) (omega arith))
  node_leads p b left_open good few =
      ((omega arith, good), stage_same (suc p - 1) p b (b + 0) (omega arith) (omega arith))
  node_leads p b (split j k below above) good few =
      let first = node_leads (suc p) (suc b) below good.3 (omega arith) in
      let second = node_leads p (suc b + branch_count below) above good.4 (omega arith) in
      let same : suc b + branch_count below + branch_count above ≡ b + suc (branch_count below + branch_count above) =
      omega arith in (
        (omega arith, omega arith, good.0, good.1, good.2),
        Leads-append (stage (suc (suc p)) (suc b)) (pieces below) (pieces above)
            (stage (suc p) (suc b + branch_count below))
            (stage p (b + suc (branch_count below + branch_count above))) first
            (subst (λ n. Leads limit m names status (stage (suc p) (suc b + branch_count below)) (pieces above)
            (stage p n)) same second),
      )

  -- what leads behind the pieces of a node makes it a good one
  pub leads_back : (p b : ℕ) (n : Node) (qs : List Piece) (last : Stage) → b < 1000
      → Leads limit m names status (stage (suc p) b) (pieces n ++ qs) last
      → IsGoodNode limit m names status n × (b + branch_count n < 1000)
      × Leads limit m names status (stage p (b + branch_count n)) qs last
  leads_back p b (leaf c) qs last few h = (
    (h.0.1, h.0.2),
    omega arith,
    subst (λ s. Leads limit m names status s qs last)
        (stage_same (suc p - 1) p b (b + 0) (omega arith) (omega arith)) h.1,
  )
  leads_back p b left_open qs last few h = (
    h.0.1,
    omega arith,
    subst (λ s. Leads limit m names status s qs last)
        (stage_same (suc p - 1) p b (b + 0) (omega arith) (omega arith)) h.1,
  )
  leads_back p b (split j k below above) qs last few h =
      let rest = subst (λ l. Leads limit m names status (stage (suc (suc p)) (suc b)) l last)
      (append_assoc (pieces below) (pieces above) qs) h.1 in
      let first = leads_back (suc p) (suc b) below (pieces above ++ qs) last (omega (arith, h.0.1)) rest in
      let second = leads_back p (suc b + branch_count below) above qs last first.1 first.2 in
      let same : suc b + branch_count below + branch_count above ≡ b + suc (branch_count below + branch_count above) =
      omega arith in (
        (h.0.2, h.0.3, h.0.4, first.0, second.0),
        omega (arith, second.1),
        subst (λ n. Leads limit m names status (stage p n) qs last) same second.2,
      )

  -- those of a good root lead behind it, and what leads on is a good root
  pub root_leads : (n : Node) → IsGoodNode limit m names status n → branch_count n < 1000
      → Leads limit m names status at_root (pieces n) (stage 0 (branch_count n))
  root_leads n good few =
      let same : 0 + branch_count n ≡ branch_count n = omega arith in
      subst (λ b. Leads limit m names status at_root (pieces n) (stage 0 b)) same (node_leads 0 0 n good (omega arith))

  pub root_back : (n : Node) (last : Stage) → Leads limit m names status at_root (pieces n) last
      → IsGoodNode limit m names status n × (branch_count n < 1000)
  root_back n last leads =
      let back = leads_back 0 0 n [] last (omega arith)
      (subst (λ l. Leads limit m names status at_root l last) (sym (append-nil (pieces n))) leads) in
      (back.0, omega (arith, back.1))

  -- a breach behind pieces is one of the whole
  pub breach_behind : (a b : Stage) (ps : List Piece) (text rest : List ℕ) (number next rule line : ℕ)
      → Leads limit m names status a ps b
      → text ≡ pieces_text (naming_of m) ps ++ rest → next ≡ number + line_ends (pieces_text (naming_of m) ps)
      → BreaksNodes limit m names status b rest next rule line
      → BreaksNodes limit m names status a text number rule line
  breach_behind a b ps text rest number next rule line leads is counted h =
      let ts = pieces_text (naming_of m) ps in
      let us = pieces_text (naming_of m) h.before in
      let both = pieces_text-append (naming_of m) ps h.before in
      let same : next + line_ends us ≡ number + line_ends (pieces_text (naming_of m) (ps ++ h.before)) =
      omega (arith, counted, ap line_ends both, line_ends-append ts us) in
      record {
        before = ps ++ h.before;
        stage = h.stage;
        rest = h.rest;
        good = Leads-append a ps h.before b h.stage leads h.good;
        split = is ∙ ap (λ t. ts ++ t) h.split ∙ sym (append_assoc ts us h.rest) ∙ ap (λ t. t ++ h.rest) (sym both);
        breach = subst (λ n. IsBreach limit m names status h.stage h.rest n rule line) same h.breach;
      }
