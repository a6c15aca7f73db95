-- The first lines of a text.
use Rattle.std.proofs.Common.{rules, ◌≡◌, ◌≢◌, ℕ, suc, ◌+◌, ◌≤◌, List, [], ◌∷◌, ◌++◌, length, arith, refl, ap, sym, ◌∙◌, subst, true}
use Rattle.std.specs.Prelude.{codes}
use Rattle.rob_algebra.specs.Fraction.{Fraction}
use Rattle.rob_algebra.specs.Width.{Fits}
use Rattle.rob_meaning.specs.Certificates.{Status, optimal, infeasible, unbounded}
use Rattle.rob_meaning.specs.Names.{Name}
use Rattle.rob_cert.specs.Causes.{HasCause, rule_of}
use Rattle.rob_cert.specs.declared.error.CertErr.{CertErr}
use Rattle.rob_cert.specs.declared.error.CertErr.TheVariants.{Rule, Memory}
use Rattle.rob_cert.specs.declared.error.Offence.{Offence}
use Rattle.rob_cert.specs.declared.error.Offence.TheVariants.{NoLine, NoShape, NoNumber}
use Rattle.rob_cert.specs.declared.kind.Bound.{Bound}
use Rattle.rob_cert.specs.declared.kind.Bound.TheVariants.{Value, Scale}
use Rattle.rob_cert.specs.declared.kind.Multipliers.TheVariants.{Covers, Holds}
use Rattle.rob_cert.specs.declared.kind.Vector.TheVariants.{Inside, Plan, Move, At}
use Rattle.rob_cert.specs.FirstLines.{bound_kind, bound_line, status_bytes, HasBoundFault}
use Rattle.rob_cert.specs.Lines.{Line, status_line, value_line, scale_line, entry_line, cover_line, item_line, end_line, bound_lines}
use Rattle.rob_cert.specs.ReadSoFar.{IsReady, SoFar}
use Rattle.rob_cert.specs.Kinds.{Kind, claims, values, scales, items, ends, entries, multipliers, rank, is_used, is_behind, may_follow, word_of, argument_count, kind_of}
use Rattle.rob_cert.specs.Reading.{Lacks, BeginsWithLine, words_in, Stage, start, behind, Leads, Follows, FitsLine, IsNotZeroWord, BreaksFrom, IsCause, HasWords}
use Rattle.rob_cert.specs.ReaderLines.{IsSection}
use Rattle.rob_cert.specs.Spelling.{Naming, words_of, spelled, number_text, status_word}
use Rattle.rob_cert.proofs.Readers.CauseLemmas.{cause_number}
use Rattle.rob_cert.proofs.Readers.EndLemmas.{line_by_words}
use Rattle.rob_cert.proofs.Readers.EntryLemmas.{one_line}
use Rattle.rob_cert.proofs.Readers.RankLemmas.{ready_scales}
use Rattle.rob_cert.proofs.Readers.SectionLemmas.{further, section_further, section_line}
use Rattle.std.proofs.lemmas.Bool.{and_parts}

-- ---- the value and the scale
-- the kind alone may stand behind a line of the other kind
abbrev pub IsOnly : Status → Kind → Kind → Type 0
IsOnly s last kind = (may_follow s last kind ≡ true) × ((other : Kind) → may_follow s last other ≡ true → other ≡ kind)

only_value : (s : Status) → s ≢ infeasible → IsOnly s claims values
only_value optimal h = (refl, by)
  where
    by : (other : Kind) → may_follow optimal claims other ≡ true → other ≡ values
    by values e = refl
    by claims e = cc
    by scales e = cc
    by items e = cc
    by ends e = cc
    by (entries v) e = cc
    by (multipliers w) e = cc
only_value infeasible h = absurd (h refl)
only_value unbounded h = (refl, by)
  where
    by : (other : Kind) → may_follow unbounded claims other ≡ true → other ≡ values
    by values e = refl
    by claims e = cc
    by scales e = cc
    by items e = cc
    by ends e = cc
    by (entries v) e = cc
    by (multipliers w) e = cc

only_scale : (s : Status) → IsOnly s values scales
only_scale s = (refl, by)
  where
    by : (other : Kind) → may_follow s values other ≡ true → other ≡ scales
    by scales e = refl
    by claims e = cc
    by values e = cc
    by items e = cc
    by ends e = cc
    by (entries v) e = cc
    by (multipliers w) e = cc

bound_by_kind : {A : Type 0} (which : Bound) (line : Line A) → kind_of line ≡ bound_kind which → (a : A)
    × (line ≡ bound_line which a)
bound_by_kind Value (value_line a) e = (a, refl)
bound_by_kind Scale (scale_line a) e = (a, refl)
bound_by_kind Value (status_line s) e = absurd (cc)
bound_by_kind Value (scale_line a) e = absurd (cc)
bound_by_kind Value (entry_line v k a) e = absurd (cc)
bound_by_kind Value (cover_line w i r a) e = absurd (cc)
bound_by_kind Value (item_line i w b) e = absurd (cc)
bound_by_kind Value end_line e = absurd (cc)
bound_by_kind Scale (status_line s) e = absurd (cc)
bound_by_kind Scale (value_line a) e = absurd (cc)
bound_by_kind Scale (entry_line v k a) e = absurd (cc)
bound_by_kind Scale (cover_line w i r a) e = absurd (cc)
bound_by_kind Scale (item_line i w b) e = absurd (cc)
bound_by_kind Scale end_line e = absurd (cc)

module _ (names : Naming) (limit : ℕ) where
  bound_follows : {A : Type 0} (NotZero : A → Type 0) (which : Bound) (s : Status) (last : Kind) (a : A)
      → may_follow s last (bound_kind which) ≡ true
      → Follows names limit NotZero (behind s last 0 0) (bound_line which a)
  bound_follows NotZero Value s last a may = record { kind = may; placed = tt }
  bound_follows NotZero Scale s last a may = record { kind = may; placed = tt }

  bound_words : (which : Bound) (a : Name) → words_of names (bound_line which a) ≡ word_of (bound_kind which) ∷ (a ∷ [])
  bound_words Value a = refl
  bound_words Scale a = refl

  spelled-bound : (which : Bound) (q : Fraction) → spelled (bound_line which q) ≡ bound_line which (number_text q)
  spelled-bound Value q = refl
  spelled-bound Scale q = refl

  fits_bound : (which : Bound) (q : Fraction) → FitsLine names limit (bound_line which q) → Fits limit q
  fits_bound Value q h = h
  fits_bound Scale q h = h

  second_of : (words : List Name) (w a b : Name) → words ≡ w ∷ (a ∷ []) → words ≡ w ∷ (b ∷ []) → a ≡ b
  second_of words w a b p q = cc

  -- an offence of the value's or the scale's line is a cause
  pub bound_cause : (which : Bound) (s : Status) (last : Kind) (rest : List ℕ) (o : Offence)
      → IsOnly s last (bound_kind which) → HasBoundFault limit which rest o
      → IsCause names limit (behind s last 0 0) rest o
  bound_cause which s last rest NoLine only fault =
      λ line after b (kind, may, has).
      fault line after b (subst (λ k. HasWords k (words_in line)) (only.1 kind may) has)
  bound_cause which s last rest NoShape only fault = absurd fault
  bound_cause which s last rest NoNumber only (line, after, word, b, words, none) =
      cause_number names limit s last 0 0 rest line after b (bound_kind which) (word ∷ []) words
      (bound_line which word, bound_words which word ∙ sym words, bound_follows IsNotZeroWord which s last word only.0)
      (λ other kind is fol fits.
      let (q, e) = bound_by_kind which other kind in
      none q (fits_bound which q (subst (FitsLine names limit) e fits))
      (second_of (words_in line) (word_of (bound_kind which)) word (number_text q) words
      (sym is ∙ ap (λ (l : Line Fraction). words_of names (spelled l)) e ∙ ap (words_of names) (spelled-bound which q)
      ∙ bound_words which (number_text q))))

-- a text without a line has the causes of a missing line
begins_some : (rest : List ℕ) (o : Offence) (names : Naming) (limit : ℕ) (stage : Stage) (s : Status) (last : Kind)
    (line : ℕ) → stage ≡ behind s last 0 0 → last ≢ ends → IsCause names limit stage rest o
    → BreaksFrom names limit stage rest line o line
begins_some rest o names limit stage s last line is ne cause = record {
  before = [];
  stage = stage;
  rest = rest;
  good = refl;
  split = refl;
  number_is = omega arith;
  cause = cause;
  more = λ t form place e empty. ne (let p : behind s last 0 0 ≡ behind t ends form place = sym is ∙ e in cc);
}

module _ (names : Naming) (limit : ℕ) (s : Status) (plan : s ≢ infeasible) where
  pub value_fails : (rest : List ℕ) (line : ℕ) (o : Offence) (rule : ℕ) → rule ≡ rule_of o
      → HasBoundFault limit Value rest o → HasCause names limit (behind s claims 0 0) rest line (Rule rule line)
  value_fails rest line o rule r fault = (
    o,
    r,
    begins_some rest o names limit (behind s claims 0 0) s claims line refl (λ e. cc)
        (bound_cause names limit Value s claims rest o (only_value s plan) fault),
  )

  pub scale_fails : (rest : List ℕ) (line : ℕ) (value : Fraction) (rest' : List ℕ) (line' : ℕ) (o : Offence) (rule : ℕ)
      → rule ≡ rule_of o → Fits limit value → IsSection names rest line (value_line value ∷ []) rest' line'
      → HasBoundFault limit Scale rest' o → HasCause names limit (behind s claims 0 0) rest line (Rule rule line')
  scale_fails rest line value rest' line' o rule r fits section fault = (
    o,
    r,
    further names limit (behind s claims 0 0) (behind s values 0 0) (value_line value ∷ []) rest
        rest' line line' line' o
        (record { kind = (only_value s plan).0; placed = tt }, fits, refl) section
        (begins_some rest' o names limit (behind s values 0 0) s values line' refl (λ e. cc)
        (bound_cause names limit Scale s values rest' o (only_scale s) fault)),
  )

-- ---- the status
-- a line's words are those of a status exactly where the line is
words_of_status : (s : Status) → words_in (status_bytes s) ≡ codes "certificate" ∷ (status_word s ∷ [])
words_of_status optimal = refl
words_of_status infeasible = refl
words_of_status unbounded = refl

whole_status : (s : Status) → Lacks 10 (status_bytes s)
whole_status optimal = search rules
whole_status infeasible = search rules
whole_status unbounded = search rules

module _ (names : Naming) (limit : ℕ) where
  -- no status line
  pub status_fails : (text : List ℕ) → ((s : Status) (rest : List ℕ) → text ≡ status_bytes s ++ 10 ∷ rest → ⊥)
      → BreaksFrom names limit start text 1 NoLine 1
  status_fails text none = record {
    before = [];
    stage = start;
    rest = text;
    good = refl;
    split = refl;
    number_is = refl;
    cause = λ line after b (s, words).
        none s after
        (b.split ∙ ap (λ l. l ++ 10 ∷ after) (line_by_words line (status_bytes s) (words ∙ sym (words_of_status s))));
    more = λ t form place e. cc;
  }

  status_section : (text : List ℕ) (s : Status) (rest : List ℕ) → text ≡ status_bytes s ++ 10 ∷ rest
      → IsSection names text 1 (status_line s ∷ []) rest 2
  status_section text s rest is =
      section_line names limit text (status_bytes s) rest 1 (status_line s)
      (record { split = is; whole = whole_status s }) (words_of_status s)

  status_leads : (s : Status) → Leads names limit start (status_line s ∷ []) (behind s claims 0 0)
  status_leads s = (record { kind = tt; placed = tt }, tt, refl)

  -- an error behind the status line
  pub bounds_fail : (text : List ℕ) (s : Status) (rest : List ℕ) (e : CertErr) → text ≡ status_bytes s ++ 10 ∷ rest
      → HasCause names limit (behind s claims 0 0) rest 2 e → HasCause names limit start text 1 e
  bounds_fail text s rest (Rule rule line) is (o, r, breaks) = (
    o,
    r,
    further names limit start (behind s claims 0 0) (status_line s ∷ []) text rest 1 2 line o (status_leads s)
        (status_section text s rest is) breaks,
  )
  bounds_fail text s rest Memory is h = tt

  pub ready_claims : IsReady infeasible claims 3
  ready_claims claims l u ne = absurd (omega arith)
  ready_claims values l u ne = absurd (omega arith)
  ready_claims scales l u ne = absurd (omega arith)
  ready_claims items l u ne = (u, refl)
  ready_claims ends l u ne = (u, refl)
  ready_claims (entries Inside) l u ne = (u, refl)
  ready_claims (entries Plan) l u ne = (u, refl)
  ready_claims (entries Move) l u ne = (u, refl)
  ready_claims (entries At) l u ne = absurd (ne refl)
  ready_claims (multipliers Covers) l u ne = (u, refl)
  ready_claims (multipliers Holds) l u ne = (u, refl)

  none_low : (s : Status) (kind : Kind) → is_used s kind ≡ true → 3 ≤ rank kind
  none_low s claims u = cc
  none_low s values u = cc
  none_low s scales u = cc
  none_low s items u = omega arith
  none_low s ends u = omega arith
  none_low s (entries Inside) u = omega arith
  none_low s (entries Plan) u = omega arith
  none_low s (entries Move) u = omega arith
  none_low s (entries At) u = omega arith
  none_low s (multipliers Covers) u = omega arith
  none_low s (multipliers Holds) u = omega arith

  claims_used : (kind : Kind) → may_follow infeasible claims kind ≡ true → is_used infeasible kind ≡ true
  claims_used claims h = h
  claims_used values h = h
  claims_used scales h = h
  claims_used items h = h
  claims_used ends h = h
  claims_used (entries Inside) h = h
  claims_used (entries Plan) h = h
  claims_used (entries Move) h = h
  claims_used (entries At) h = refl
  claims_used (multipliers w) h = h

  front_plan : (s : Status) (text rest rest' : List ℕ) (line' : ℕ) (v c : Fraction) → s ≢ infeasible
      → text ≡ status_bytes s ++ 10 ∷ rest → Fits limit v → Fits limit c
      → IsSection names rest 2 (value_line v ∷ (scale_line c ∷ [])) rest' line'
      → SoFar names limit s text (status_line s ∷ (value_line v ∷ (scale_line c ∷ []))) rest' line' 3
  front_plan s text rest rest' line' v c plan is fv fc section = record {
    last = scales;
    form = 0;
    place = 0;
    leads = (
      record { kind = tt; placed = tt },
      tt,
      (record { kind = (only_value s plan).0; placed = tt }, fv, (record { kind = refl; placed = tt }, fc, refl)),
    );
    section = section_further names limit (status_line s ∷ []) (value_line v ∷ (scale_line c ∷ [])) text rest rest' 1 2
        line' (status_section text s rest is) section;
    ready = ready_scales s;
    passed = λ kind may m.
        absurd (let l = none_low s kind (and_parts (is_used s kind) (is_behind scales kind) may).0 in omega arith);
  }

  -- without a plan the status stands alone
  pub front_alone : (text rest rest' : List ℕ) (line' : ℕ) → text ≡ status_bytes infeasible ++ 10 ∷ rest
      → IsSection names rest 2 [] rest' line'
      → SoFar names limit infeasible text (status_line infeasible ∷ []) rest' line' 3
  front_alone text rest rest' line' is section = record {
    last = claims;
    form = 0;
    place = 0;
    leads = status_leads infeasible;
    section = section_further names limit (status_line infeasible ∷ []) [] text rest rest' 1 2 line'
        (status_section text infeasible rest is) section;
    ready = ready_claims;
    passed = λ kind may m. absurd (let l = none_low infeasible kind (claims_used kind may) in omega arith);
  }

  -- what the first lines are
  pub front_is : (s : Status) (text rest rest' : List ℕ) (line' : ℕ) (v c : Fraction)
      → text ≡ status_bytes s ++ 10 ∷ rest → Fits limit v → Fits limit c
      → IsSection names rest 2 (bound_lines s v c) rest' line'
      → SoFar names limit s text (status_line s ∷ bound_lines s v c) rest' line' 3
  front_is optimal text rest rest' line' v c is fv fc section =
      front_plan optimal text rest rest' line' v c (λ e. cc) is fv fc section
  front_is unbounded text rest rest' line' v c is fv fc section =
      front_plan unbounded text rest rest' line' v c (λ e. cc) is fv fc section
  front_is infeasible text rest rest' line' v c is fv fc section = front_alone text rest rest' line' is section

-- ---- what the readers answer
-- two texts that begin with a line have it in common
pub other_status : (text front back : List ℕ) → text ≡ front ++ 10 ∷ back → Lacks 10 front
    → ((s : Status) → front ≡ status_bytes s → ⊥) → (s : Status) (rest : List ℕ)
    → text ≡ status_bytes s ++ 10 ∷ rest → ⊥
other_status text front back is whole none s rest e =
    none s (one_line text front back (status_bytes s) rest (record { split = is; whole = whole })
    (record { split = e; whole = whole_status s })).0

-- another number of words
pub bound_count : (limit : ℕ) (which : Bound) (text front back : List ℕ) → BeginsWithLine text front back
    → length (words_in front) ≢ 2 → HasBoundFault limit which text NoLine
bound_count limit which text front back b ne line after c has =
    let same = one_line text front back line after b c in
    ne (ap length (ap words_in same.0 ∙ has.spelled) ∙ ap suc (has.count ∙ one which))
  where
    one : (which : Bound) → argument_count (bound_kind which) ≡ 1
    one Value = refl
    one Scale = refl

pub bound_read : (names : Naming) (limit : ℕ) (which : Bound) (text front back : List ℕ) (number : ℕ)
    (word first second : Name) (more : List Name) (q : Fraction) → BeginsWithLine text front back
    → words_in front ≡ word ∷ more → word ≡ word_of (bound_kind which) → words_in front ≡ first ∷ (second ∷ [])
    → second ≡ number_text q → IsSection names text number (bound_line which q ∷ []) back (number + 1)
bound_read names limit which text front back number word first second more q b is e words n =
    section_line names limit text front back number (bound_line which q) b
    (words_are (words_in front) word first second (word_of (bound_kind which)) (number_text q) more is e words n
    ∙ sym (ap (words_of names) (spelled-bound names limit which q) ∙ bound_words names limit which (number_text q)))
  where
    words_are : (words : List Name) (word first second w n : Name) (more : List Name) → words ≡ word ∷ more → word ≡ w
        → words ≡ first ∷ (second ∷ []) → second ≡ n → words ≡ w ∷ (n ∷ [])
    words_are words word first second w n more p e q m = cc
