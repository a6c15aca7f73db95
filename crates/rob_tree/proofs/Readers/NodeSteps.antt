-- A node that is read, or that breaks a rule, from its first line and the two nodes behind it.
use Rattle.std.proofs.Common.{◌≡◌, ◌≢◌, ℕ, suc, ◌+◌, ◌-◌, ◌^◌, ◌<◌, ◌≤◌, List, [], ◌∷◌, ◌++◌, length, arith, refl, ap, sym, ◌∙◌, subst, append_assoc, append-nil, length-append, to_z, of_z, w64}
use Rattle.std.proofs.lemmas.Result.{IfErr-weaker}
use Rattle.std.specs.Prelude.{codes, ℤ, pos, nat_abs, Result, Ok, Err, IfOk, IfErr}
use Rattle.rob_algebra.specs.Fraction.{Fraction}
use Rattle.rob_cert.proofs.Writing.ShapeLemmas.{lines_long}
use Rattle.rob_cert.specs.Causes.{HasCause as HasCertCause}
use Rattle.rob_cert.specs.declared.error.CertErr.TheVariants as cert
use Rattle.rob_cert.specs.Reading.{start}
use Rattle.rob_cert.specs.Spelling.{Naming, lines_text, naming_of}
use Rattle.rob_meaning.specs.Certificates.{Status}
use Rattle.rob_meaning.specs.Names.{Name}
use Rattle.rob_meaning.specs.RobustModel.{RobustModel}
use Rattle.rob_number.proofs.CastLemmas.{seen_within}
use Rattle.rob_reach.specs.Trees.{Node, split, IsIn, branch_count}
use Rattle.rob_tree.proofs.Readers.ReadingLemmas.{breach_behind, stage, node_leads, line_ends-append, line_ends_within, pieces_text-append}
use Rattle.rob_tree.specs.Parts.{HasLeafCause, HasNodeCause, IsGoodNode, IsHeadRead, IsNodeRead, IsSceneOf}
use Rattle.rob_tree.specs.Reading.{BreaksNodes, IsCertificatePart, IsNodeCause, in_certificate, in_node, line_ends, rule_of}
use Rattle.rob_tree.specs.TreeText.{Piece, branch_piece, piece_text, pieces, pieces_text}
use Rattle.rob_tree.specs.View.{node_of}
use Rattle.rob_tree.specs.declared.error.Offence.{Offence}
use Rattle.rob_tree.specs.declared.error.TreeErr.{TreeErr}
use Rattle.rob_tree.specs.declared.error.TreeErr.TheVariants.{Rule, Memory}
use Rattle.rob_tree.specs.declared.nodes.Head.{Head}
use Rattle.rob_tree.specs.declared.nodes.Head.TheVariants.{Leaf, Branch}
use Rattle.rob_tree.specs.declared.nodes.Mark.{Mark}
use Rattle.rob_tree.specs.declared.nodes.NodeRead.{NodeRead}

module _ (limit : ℕ) (m : RobustModel) (names : List ℕ) (status : Status) where
  abbrev text_of : Piece → List ℕ
  text_of p = piece_text (naming_of m) p

  abbrev texts : List Piece → List ℕ
  texts ps = pieces_text (naming_of m) ps

  -- ---- what breaks a rule
  -- the next line is no node's
  pub breaks_here : (p b : ℕ) (text : List ℕ) (number : ℕ) (o : Offence) → IsNodeCause limit m names status b text o
      → BreaksNodes limit m names status (stage (suc p) b) text number (rule_of o) number
  breaks_here p b text number o cause = record {
    before = [];
    stage = stage (suc p) b;
    rest = text;
    good = refl;
    split = refl;
    breach = in_node o (omega arith) cause refl (omega arith);
  }

  -- the certificate of the leaf breaks one of its own
  pub breaks_certificate : (p b : ℕ) (text after part : List ℕ) (number rule line : ℕ) → text ≡ codes "leaf\n" ++ after
      → IsCertificatePart after part
      → HasCertCause (naming_of m) limit start part (suc number) (cert.Rule rule line)
      → BreaksNodes limit m names status (stage (suc p) b) text number rule line
  breaks_certificate p b text after part number rule line is is_part cause = record {
    before = [];
    stage = stage (suc p) b;
    rest = text;
    good = refl;
    split = refl;
    breach = in_certificate after part (omega arith) is is_part
        (subst (λ n. HasCertCause (naming_of m) limit start part n (cert.Rule rule line))
        (let e : suc number ≡ suc (number + 0) = omega arith in e) cause);
  }

  module _ (p b j : ℕ) (k : ℤ) (few : b < 999) (on : IsIn j names) (small : nat_abs k ≤ limit)
      (below_limit : k ≢ pos limit) (text after : List ℕ)
      (is : text ≡ text_of (branch_piece j k) ++ after) (number : ℕ) where
    -- the first of a branch's nodes does
    pub breaks_below : (rule line : ℕ)
        → BreaksNodes limit m names status (stage (suc (suc p)) (suc b)) after
        (number + line_ends (text_of (branch_piece j k))) rule line
        → BreaksNodes limit m names status (stage (suc p) b) text number rule line
    breaks_below rule line h =
        breach_behind limit m names status (stage (suc p) b) (stage (suc (suc p)) (suc b))
        (branch_piece j k ∷ []) text after number
        (number + line_ends (text_of (branch_piece j k))) rule line ((omega arith, few, on, small, below_limit), refl)
        (is ∙ ap (λ t. t ++ after) (sym (append-nil (text_of (branch_piece j k)))))
        (ap (λ t. number + line_ends t) (sym (append-nil (text_of (branch_piece j k))))) h

    module _ (below : Node) (rest : List ℕ) (first : after ≡ texts (pieces below) ++ rest)
        (good : IsGoodNode limit m names status below)
        (still : suc b + branch_count below < 1000) where
      both : text ≡ texts (branch_piece j k ∷ pieces below) ++ rest
      both = is ∙ ap (λ t. text_of (branch_piece j k) ++ t) first
          ∙ sym (append_assoc (text_of (branch_piece j k)) (texts (pieces below)) rest)

      counted : (number + line_ends (text_of (branch_piece j k))) + line_ends (texts (pieces below))
          ≡ number + line_ends (texts (branch_piece j k ∷ pieces below))
      counted = omega (arith, line_ends-append (text_of (branch_piece j k)) (texts (pieces below)))

      -- the second does
      pub breaks_above : (rule line : ℕ)
          → BreaksNodes limit m names status (stage (suc p) (suc b + branch_count below)) rest
          ((number + line_ends (text_of (branch_piece j k))) + line_ends (texts (pieces below))) rule line
          → BreaksNodes limit m names status (stage (suc p) b) text number rule line
      breaks_above rule line h =
          breach_behind limit m names status (stage (suc p) b) (stage (suc p) (suc b + branch_count below))
          (branch_piece j k ∷ pieces below) text rest number
          ((number + line_ends (text_of (branch_piece j k))) + line_ends (texts (pieces below))) rule line (
            (omega arith, few, on, small, below_limit),
            node_leads limit m names status (suc p) (suc b) below good still,
          ) both counted h

      -- ---- what is read
      pub reads_both : (above : Node) (last : List ℕ) → rest ≡ texts (pieces above) ++ last
          → IsGoodNode limit m names status above
          → (suc b + branch_count below) + branch_count above < 1000 → (next more : ℕ)
          → next ≡ ((number + line_ends (text_of (branch_piece j k))) + line_ends (texts (pieces below)))
          + line_ends (texts (pieces above))
          → more ≡ (suc b + branch_count below) + branch_count above
          → IsNodeRead limit m names status text number b (split j k below above) last next more
      reads_both above last second good' few' next more next_is more_is =
          let two = pieces_text-append (naming_of m) (pieces below) (pieces above) in
          let whole : text_of (branch_piece j k) ++ (texts (pieces below) ++ texts (pieces above))
          ≡ texts (pieces (split j k below above)) =
          ap (λ t. text_of (branch_piece j k) ++ t) (sym two) in
          record {
            split = both ∙ ap (λ t. texts (branch_piece j k ∷ pieces below) ++ t) second
                ∙ sym (append_assoc (texts (branch_piece j k ∷ pieces below)) (texts (pieces above)) last)
                ∙ ap (λ t. t ++ last)
                (append_assoc (text_of (branch_piece j k)) (texts (pieces below)) (texts (pieces above)) ∙ whole);
            line_is = omega (
              arith,
              next_is,
              ap line_ends whole,
              line_ends-append (text_of (branch_piece j k)) (texts (pieces below) ++ texts (pieces above)),
              line_ends-append (texts (pieces below)) (texts (pieces above)),
            );
            branches_are = omega (arith, more_is);
            few = omega (arith, more_is, few');
            good = (on, small, below_limit, good, good');
          }

  -- ---- a leaf by its line
  pub leaf_cause : (text after : List ℕ) (line mid b : ℕ) (e : TreeErr)
      → text ≡ codes "leaf\n" ++ after → mid ≡ line + 1
      → HasLeafCause limit m after mid e → HasNodeCause limit m names status text line b e
  leaf_cause text after line mid b Memory is one h = tt
  leaf_cause text after line mid b (Rule rule at) is one (part, is_part, cause) = λ p.
      let same : mid ≡ suc line = omega (arith, one) in
      breaks_certificate p b text after part line rule at is is_part
      (subst (λ n. HasCertCause (naming_of m) limit start part n (cert.Rule rule at)) same cause)

  -- how far a reader is behind a node
  pub node_within : (text rest : List ℕ) (number b next more : ℕ) (n : Node)
      → IsNodeRead limit m names status text number b n rest next more
      → next + length rest ≤ number + length text
  node_within text rest number b next more n h =
      omega (
        arith,
        h.line_is,
        ap length h.split,
        length-append (texts (pieces n)) rest,
        line_ends_within (texts (pieces n)),
      )

  pub node_shorter : (text rest : List ℕ) (number b next more : ℕ) (n : Node)
      → IsNodeRead limit m names status text number b n rest next more
      → length rest ≤ length text
  node_shorter text rest number b next more n h =
      omega (arith, ap length h.split, length-append (texts (pieces n)) rest)

-- ---- answers
module _ {N : Type 0} (value : N → Fraction) (limit : ℕ) (m : RobustModel) (names : List ℕ) (status : Status)
    (text : List ℕ) (line b : ℕ) where
  -- where a joined node is read
  pub joined_read : (r : Result (NodeRead N) TreeErr) (at : Mark) (n : Node)
      → IfOk r (λ x. (x.at ≡ at) × (node_of value x.node ≡ n))
      → IsNodeRead limit m names status text line b n at.rest.now at.line at.branches
      → IfOk r (λ x. IsNodeRead limit m names status text line b (node_of value x.node) x.at.rest.now
      x.at.line x.at.branches)
  joined_read (Ok x) at n h read =
      subst (λ (a : Mark). IsNodeRead limit m names status text line b (node_of value x.node) a.rest.now
      a.line a.branches) (sym h.0)
      (subst (λ k. IsNodeRead limit m names status text line b k at.rest.now at.line at.branches) (sym h.1) read)
  joined_read (Err e) at n h read = tt

-- ---- a branch by its line
-- the text is the line of a branch that may stand there, and the rest
pub record IsBranchRead (limit : ℕ) (m : RobustModel) (names : List ℕ) (status : Status) (text : List ℕ) (line b : ℕ)
    (rest : List ℕ) (next more j : ℕ) (k : ℤ) : Type 0 where
  pub few : b < 999
  pub on : IsIn j names
  pub small : nat_abs k ≤ limit
  pub below_limit : k ≢ pos limit
  pub split : text ≡ piece_text (naming_of m) (branch_piece j k) ++ rest
  pub next_is : next ≡ line + line_ends (piece_text (naming_of m) (branch_piece j k))
  pub more_is : more ≡ b
  pub one_line : next ≡ line + 1
  pub shorter : length rest < length text

pub branch_read : {limit : ℕ} {m : RobustModel} {names : List ℕ} {naming : Naming} {status : Status}
    {text rest : List ℕ} {line b next more j : ℕ} {k : ℤ} {head : Head}
    → IsSceneOf m names naming → IsHeadRead limit names naming.columns status text line b head rest next more
    → head ≡ Branch j k → IsBranchRead limit m names status text line b rest next more j k
branch_read {limit = limit} {names = names} {naming = naming} {status = status} {text = text} {rest = rest}
    {line = line} {b = b} {next = next} {more = more} {j = j} {k = k} scene h is =
    let same = ap (λ (n : Naming). n.columns) scene.names_are in
    let moved = subst (λ n. IsHeadRead limit names n status text line b (Branch j k) rest next more) same
    (subst (λ hd. IsHeadRead limit names naming.columns status text line b hd rest next more) is h) in
    record {
      few = moved.may.0;
      on = moved.may.1;
      small = moved.may.2;
      below_limit = moved.may.3;
      split = moved.split;
      next_is = omega (arith, moved.line_is, moved.ends);
      more_is = moved.branches_are;
      one_line = moved.line_is;
      shorter = moved.shorter;
    }

module _ {limit : ℕ} {m : RobustModel} {names : List ℕ} {status : Status} {text : List ℕ} {line b : ℕ}
    {rest : List ℕ} {next more j : ℕ} {k : ℤ}
    (l : IsBranchRead limit m names status text line b rest next more j k) where
  -- what breaks a rule in the first of its nodes does in the branch
  pub below_cause : (e : TreeErr) → HasNodeCause limit m names status rest next (more + 1) e
      → HasNodeCause limit m names status text line b e
  below_cause Memory h = tt
  below_cause (Rule rule at) h = λ p.
      let same : more + 1 ≡ suc b = omega (arith, l.more_is) in
      breaks_below limit m names status p b j k l.few l.on l.small l.below_limit text rest l.split line rule at
      (subst (λ n. BreaksNodes limit m names status (stage (suc (suc p)) (suc b)) rest n rule at) l.next_is
      (subst (λ c. BreaksNodes limit m names status (stage (suc (suc p)) c) rest next rule at) same (h (suc p))))

  module _ {below : Node} {rest2 : List ℕ} {next2 more2 : ℕ}
      (first : IsNodeRead limit m names status rest next (more + 1) below rest2 next2 more2) where
    still : suc b + branch_count below < 1000
    still = omega (arith, l.more_is, first.branches_are, first.few)

    -- the second node is of a shorter text, which is small enough too
    pub second_shorter : length rest2 < length text
    second_shorter = omega (
      arith,
      l.shorter,
      node_shorter limit m names status rest rest2 next (more + 1) next2 more2 below first,
    )

    pub second_small : line + length text ≤ 2 ^ 30 + 1 → next2 + length rest2 ≤ 2 ^ 30 + 1
    second_small small = omega (
      arith,
      l.shorter,
      l.one_line,
      node_within limit m names status rest rest2 next (more + 1) next2 more2 below first,
    )

    -- and so does what breaks a rule in it
    pub above_cause : (e : TreeErr) → HasNodeCause limit m names status rest2 next2 more2 e
        → HasNodeCause limit m names status text line b e
    above_cause Memory h = tt
    above_cause (Rule rule at) h = λ p.
        let same : more2 ≡ suc b + branch_count below = omega (arith, l.more_is, first.branches_are) in
        let there : next2
        ≡ (line + line_ends (piece_text (naming_of m) (branch_piece j k)))
        + line_ends (pieces_text (naming_of m) (pieces below)) =
        omega (arith, first.line_is, l.next_is) in
        breaks_above limit m names status p b j k l.few l.on l.small l.below_limit text rest l.split line below rest2
        first.split first.good still rule at
        (subst (λ n. BreaksNodes limit m names status (stage (suc p) (suc b + branch_count below)) rest2 n rule at)
        there
        (subst (λ c. BreaksNodes limit m names status (stage (suc p) c) rest2 next2 rule at) same (h p)))

    both_read : (above : Node) (rest3 : List ℕ) (next3 more3 : ℕ)
        → IsNodeRead limit m names status rest2 next2 more2 above rest3 next3 more3
        → IsNodeRead limit m names status text line b (split j k below above) rest3 next3 more3
    both_read above rest3 next3 more3 second =
        reads_both limit m names status 0 b j k l.few l.on l.small l.below_limit text rest l.split line below rest2
        first.split first.good still
        above rest3 second.split second.good
        (omega (arith, l.more_is, first.branches_are, second.branches_are, second.few)) next3 more3
        (omega (arith, l.next_is, first.line_is, second.line_is))
        (omega (arith, l.more_is, first.branches_are, second.branches_are))

    -- both nodes joined are the node, where K is read as another number that is the same
    pub both_joined : {N : Type 0} (value : N → Fraction) {above : Node} (r : Result (NodeRead N) TreeErr) (at : Mark)
        → limit ≤ 2 ^ 62 - 1
        → IsNodeRead limit m names status rest2 next2 more2 above at.rest.now at.line at.branches
        → IfOk r (λ x. (x.at ≡ at) × (node_of value x.node ≡ split j (to_z w64 (of_z w64 k)) below above))
        → IfOk r (λ x. IsNodeRead limit m names status text line b (node_of value x.node) x.at.rest.now
        x.at.line x.at.branches)
    both_joined value {above = above} r at high second joined =
        let read : IsNodeRead limit m names status text line b (split j (to_z w64 (of_z w64 k)) below above) at.rest.now
        at.line at.branches =
        subst (λ z. IsNodeRead limit m names status text line b (split j z below above) at.rest.now at.line at.branches)
        (sym (seen_within limit k high l.small)) (both_read above at.rest.now at.line at.branches second) in
        joined_read value limit m names status text line b r at (split j (to_z w64 (of_z w64 k)) below above) joined
        read

-- ---- a line that is no node's, and a leaf by its line
pub head_told : (limit : ℕ) (m : RobustModel) (names : List ℕ) (status : Status) (text : List ℕ) (line b : ℕ)
    (o : Offence) {rule : ℕ} → rule ≡ rule_of o → IsNodeCause limit m names status b text o
    → HasNodeCause limit m names status text line b (Rule rule line)
head_told limit m names status text line b o e h = λ p.
    subst (λ r. BreaksNodes limit m names status (stage (suc p) b) text line r line) (sym e)
    (breaks_here limit m names status p b text line o h)

pub leaf_told : {T : Type 0} {limit : ℕ} (m : RobustModel) {names : List ℕ} {columns : List Name} {status : Status}
    {text rest : List ℕ} {line b next more : ℕ} {head : Head} (r : Result T TreeErr)
    → IsHeadRead limit names columns status text line b head rest next more → head ≡ Leaf
    → IfErr r (HasLeafCause limit m rest next) → IfErr r (HasNodeCause limit m names status text line b)
leaf_told {limit = limit} m {names = names} {columns = columns} {status = status} {text = text} {rest = rest}
    {line = line} {b = b} {next = next} {more = more} r h is =
    let moved = subst (λ hd. IsHeadRead limit names columns status text line b hd rest next more) is h in
    IfErr-weaker r (HasLeafCause limit m rest next) (HasNodeCause limit m names status text line b)
    (λ e cause. leaf_cause limit m names status text rest line next b e moved.split moved.line_is cause)

-- ---- the cause of a certificate, whatever the number of its first line
module _ (names : Naming) (limit : ℕ) (part : List ℕ) (rule line : ℕ)
    (h : HasCertCause names limit start part 1 (cert.Rule rule line)) where
  pub cause_within : (1 ≤ line) × (line ≤ 1 + length part)
  cause_within = (
    omega (arith, h.2.number_is),
    omega (
      arith,
      h.2.number_is,
      lines_long names h.2.before,
      ap length h.2.split,
      length-append (lines_text names h.2.before) h.2.rest,
    ),
  )
