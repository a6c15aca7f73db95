-- Each text has exactly one list of tokens or breaks exactly one rule at one line.
use Rattle.std.proofs.Common.{◌≡◌, ℕ, zero, suc, ◌+◌, ◌<◌, ◌≤◌, Bool, true, false, ◌⊎◌, inl, inr, List, [], ◌∷◌, ◌++◌, length, refl, sym, ap, ◌∙◌, subst, arith, eqb, length-append, append-nil, ⊎_elim}
use Rattle.std.proofs.str.Laws.{order}
use Rattle.std.proofs.lemmas.Bool.Decides.{nat_tests}
use Rattle.rob_index.specs.Depths.{weight}
use Rattle.rob_lex.specs.declared.token.Kind.{Kind}
use Rattle.rob_lex.specs.declared.token.Kind.TheVariants.{Word, Digits, Sign, LineEnd}
use Rattle.rob_lex.specs.declared.token.Token.{Token}
use Rattle.rob_lex.specs.declared.place.Place.{Place}
use Rattle.rob_lex.specs.declared.piece.Shape.{Shape}
use Rattle.rob_lex.specs.declared.piece.Shape.TheVariants.{Lexeme, Gap, Comment}
use Rattle.rob_lex.specs.Bytes.{begins_word, goes_on_word, is_digit, is_no_line_end, is_gap, is_short_sign, begins_long_sign}
use Rattle.rob_lex.specs.Pieces.{Piece, IsRun, Stands, IsPlace, BeginsNoPiece, BeginsToken}
use Rattle.rob_lex.specs.Places.{start, depth_at, behind, behind_all, token_at, tokens_of}
use Rattle.rob_lex.specs.declared.offence.Offence.{Offence}
use Rattle.rob_lex.specs.declared.offence.Offence.TheVariants.{NotAscii, BadByte}
use Rattle.rob_lex.specs.Offences.{most_tokens, most_open, Cause, not_ascii, bad_byte, too_many_tokens, too_deep, offence_of, Offends, AreTokens, rule_of, Breaks, HasReading}
use Rattle.rob_lex.specs.Found.{BeginsNoShortPiece}
use Rattle.rob_lex.proofs.PieceLemmas.{some_bytes, begins_ascii, no_piece, paren_is_sign}
use Rattle.rob_lex.proofs.OffenceLemmas.{free_of}
use Rattle.rob_lex.proofs.PlaceLemmas.{further, rest_lt, Reached, reached_start, reached_next, offends_here, read_whole}

-- two places with equally many bytes behind them are one
pub same_place : (text : List ℕ) (ps : List Piece) (rest : List ℕ) (qs : List Piece) (end : List ℕ)
    → IsPlace text ps rest → IsPlace text qs end → length end ≡ length rest → (qs ≡ ps) × (end ≡ rest)
same_place text ps rest qs end place other h =
    let way = further text ps rest qs end place other (omega arith) in
    go way.0 way.1 way.2
  where
    go : (more : List Piece) → qs ≡ ps ++ more → IsPlace rest more end → (qs ≡ ps) × (end ≡ rest)
    go [] same is = (same ∙ append-nil ps, sym is)
    go (q ∷ more) same is = absurd (omega (arith, rest_lt rest q more end is))

pub one_list : (text : List ℕ) (a b : List Token) → AreTokens text a → AreTokens text b → a ≡ b
one_list text a b x y =
    let one = same_place text x.pieces [] y.pieces [] x.whole y.whole refl in
    sym x.tokens ∙ ap (tokens_of start) (sym one.0) ∙ y.tokens

-- a token begins with an ASCII byte
token_ascii : (b : ℕ) (rest : List ℕ) → BeginsToken (b ∷ rest) → b < 128
token_ascii b rest token = go token.1 token.2 token.3 token.4
  where
    go : (bytes after : List ℕ) → b ∷ rest ≡ bytes ++ after → Stands (Lexeme token.0) bytes after → b < 128
    go [] after split stands = absurd (some_bytes (Lexeme token.0) after stands)
    go (x ∷ bytes) after split stands =
        let same : b ≡ x = cc in omega (arith, begins_ascii (Lexeme token.0) x bytes after stands)

-- an opening parenthesis is a token
paren_begins : (b : ℕ) (rest : List ℕ) → b ≡ 40 → BeginsToken (b ∷ rest)
paren_begins b rest is = (Sign, b ∷ [], rest, refl, rw is refl)

-- the causes of one place have one rule
one_cause : (at : Place) (rest : List ℕ) (c d : Cause at rest) → offence_of c ≡ offence_of d
one_cause at [] (too_many_tokens m n) (too_many_tokens m' n') = refl
one_cause at [] (not_ascii h) d = absurd h
one_cause at [] (bad_byte h k) d = absurd h
one_cause at [] (too_deep f g h) d = absurd h
one_cause at [] (too_many_tokens m n) (not_ascii h) = absurd h
one_cause at [] (too_many_tokens m n) (bad_byte h k) = absurd h
one_cause at [] (too_many_tokens m n) (too_deep f g h) = absurd h
one_cause at (b ∷ rest) (not_ascii h) (not_ascii h') = refl
one_cause at (b ∷ rest) (bad_byte h k) (bad_byte h' k') = refl
one_cause at (b ∷ rest) (too_many_tokens m n) (too_many_tokens m' n') = refl
one_cause at (b ∷ rest) (too_deep f g h) (too_deep f' g' h') = refl
one_cause at (b ∷ rest) (not_ascii h) (bad_byte h' k) = absurd (omega arith)
one_cause at (b ∷ rest) (bad_byte h' k) (not_ascii h) = absurd (omega arith)
one_cause at (b ∷ rest) (not_ascii h) (too_many_tokens m n) = absurd (omega (arith, token_ascii b rest n))
one_cause at (b ∷ rest) (too_many_tokens m n) (not_ascii h) = absurd (omega (arith, token_ascii b rest n))
one_cause at (b ∷ rest) (not_ascii h) (too_deep f g p) = absurd (omega arith)
one_cause at (b ∷ rest) (too_deep f g p) (not_ascii h) = absurd (omega arith)
one_cause at (b ∷ rest) (bad_byte h k) (too_many_tokens m n) = absurd (k (Lexeme n.0) n.1 n.2 n.3 n.4)
one_cause at (b ∷ rest) (too_many_tokens m n) (bad_byte h k) = absurd (k (Lexeme n.0) n.1 n.2 n.3 n.4)
one_cause at (b ∷ rest) (bad_byte h k) (too_deep f g p) =
    let n = paren_begins b rest p in absurd (k (Lexeme n.0) n.1 n.2 n.3 n.4)
one_cause at (b ∷ rest) (too_deep f g p) (bad_byte h k) =
    let n = paren_begins b rest p in absurd (k (Lexeme n.0) n.1 n.2 n.3 n.4)
one_cause at (b ∷ rest) (too_many_tokens m n) (too_deep f g p) = absurd (omega arith)
one_cause at (b ∷ rest) (too_deep f g p) (too_many_tokens m n) = absurd (omega arith)

pub one_offence : (text : List ℕ) (o : Offence) (line : ℕ) (o' : Offence) (line' : ℕ) → Offends text o line
    → Offends text o' line' → (o ≡ o') × (line ≡ line')
one_offence text o line o' line' x y =
    let h = y.first x.before x.rest x.place x.cause in
    let k = x.first y.before y.rest y.place y.cause in
    let one = same_place text x.before x.rest y.before y.rest x.place y.place (omega arith) in
    let moved : (d : Cause (behind_all start x.before) x.rest) × (offence_of d ≡ o') =
    subst (λ (ps : List Piece). (d : Cause (behind_all start ps) x.rest) × (offence_of d ≡ o')) one.0
    (subst (λ (bs : List ℕ). (d : Cause (behind_all start y.before) bs) × (offence_of d ≡ o')) one.1
    (y.cause, y.offence_is)) in (
      sym x.offence_is ∙ one_cause _ _ x.cause moved.0 ∙ moved.1,
      sym x.line_is
          ∙ ap (λ (ps : List Piece). (behind_all start ps).line) (sym one.0) ∙ y.line_is,
    )

pub one_rule : (text : List ℕ) (rule line rule' line' : ℕ) → Breaks text rule line → Breaks text rule' line'
    → (rule ≡ rule') × (line ≡ line')
one_rule text rule line rule' line' x y =
    let one = one_offence text x.0 line y.0 line' x.2 y.2 in
    (sym x.1 ∙ ap rule_of one.0 ∙ y.1, one.1)

pub not_both : (text : List ℕ) (list : List Token) (rule line : ℕ) → AreTokens text list → Breaks text rule line → ⊥
not_both text list rule line x y = x.sound y.2.before y.2.rest y.2.place y.2.cause

-- the longest run at the front
pub record Split (test : ℕ → Bool) (bytes : List ℕ) : Type 0 where
  run : List ℕ
  after : List ℕ
  split : bytes ≡ run ++ after
  is_run : IsRun test run after

bool_cases : (b : Bool) → (b ≡ true) ⊎ (b ≡ false)
bool_cases true = inl refl
bool_cases false = inr refl

run_at : (test : ℕ → Bool) (bytes : List ℕ) → Split test bytes
run_at test [] = record { run = []; after = []; split = refl; is_run = tt }
run_at test (b ∷ bytes) =
    let more = run_at test bytes in
    ⊎_elim
    (λ (yes : test b ≡ true). record {
      run = b ∷ more.run;
      after = more.after;
      split = ap (λ (l : List ℕ). b ∷ l) more.split;
      is_run = (yes, more.is_run);
    })
    (λ (no : test b ≡ false). record { run = []; after = b ∷ bytes; split = refl; is_run = no })
    (bool_cases (test b))

-- the piece at the front, or that there is none
pub record Front (bytes : List ℕ) : Type 0 where
  shape : Shape
  front : List ℕ
  after : List ℕ
  split : bytes ≡ front ++ after
  stands : Stands shape front after

short_front : (b : ℕ) (rest : List ℕ) → (Front (b ∷ rest)) ⊎ (BeginsNoShortPiece (b ∷ rest))
short_front b rest =
    ⊎_elim (λ (h : eqb b 10 ≡ true).
    inl (record {
      shape = Lexeme LineEnd;
      front = b ∷ [];
      after = rest;
      split = refl;
      stands = grind (arith, nat_tests);
    }))
    (λ (no_end : eqb b 10 ≡ false).
    ⊎_elim (λ (h : is_gap b ≡ true).
    inl (record { shape = Gap; front = b ∷ []; after = rest; split = refl; stands = h }))
    (λ (no_gap : is_gap b ≡ false).
    ⊎_elim (λ (h : is_short_sign b ≡ true).
    inl (record { shape = Lexeme Sign; front = b ∷ []; after = rest; split = refl; stands = h }))
    (λ (no_short : is_short_sign b ≡ false). long rest no_end no_gap no_short)
    (bool_cases (is_short_sign b)))
    (bool_cases (is_gap b)))
    (bool_cases (eqb b 10))
  where
    long : (rest : List ℕ) → eqb b 10 ≡ false → is_gap b ≡ false → is_short_sign b ≡ false → (Front (b ∷ rest))
        ⊎ (BeginsNoShortPiece (b ∷ rest))
    long [] no_end no_gap no_short = inr ((λ (h : b ≡ 10). grind (arith, nat_tests)), no_gap, no_short)
    long (c ∷ rest) no_end no_gap no_short =
        ⊎_elim (λ (h : begins_long_sign b ≡ true).
        ⊎_elim (λ (e : eqb c 61 ≡ true).
        inl (record {
          shape = Lexeme Sign;
          front = b ∷ c ∷ [];
          after = rest;
          split = refl;
          stands = (h, grind (arith, nat_tests));
        }))
        (λ (no : eqb c 61 ≡ false).
        inr (
          (λ (k : b ≡ 10). grind (arith, nat_tests)),
          no_gap,
          no_short,
          (λ (_ : begins_long_sign b ≡ true) (k : c ≡ 61). grind (arith, nat_tests)),
        ))
        (bool_cases (eqb c 61)))
        (λ (no : begins_long_sign b ≡ false).
        inr (
          (λ (k : b ≡ 10). grind (arith, nat_tests)),
          no_gap,
          no_short,
          (λ (k : begins_long_sign b ≡ true) (_ : c ≡ 61). cc),
        ))
        (bool_cases (begins_long_sign b))

front_of : (b : ℕ) (rest : List ℕ) → Front (b ∷ rest) ⊎ BeginsNoPiece (b ∷ rest)
front_of b rest =
    ⊎_elim (λ (h : begins_word b ≡ true). let s = run_at goes_on_word rest in
    inl (record {
      shape = Lexeme Word;
      front = b ∷ s.run;
      after = s.after;
      split = ap (λ (l : List ℕ). b ∷ l) s.split;
      stands = (h, s.is_run);
    }))
    (λ (no_word : begins_word b ≡ false).
    ⊎_elim (λ (h : is_digit b ≡ true). let s = run_at is_digit rest in
    inl (record {
      shape = Lexeme Digits;
      front = b ∷ s.run;
      after = s.after;
      split = ap (λ (l : List ℕ). b ∷ l) s.split;
      stands = (h, s.is_run);
    }))
    (λ (no_digit : is_digit b ≡ false).
    ⊎_elim (λ (h : eqb b 35 ≡ true). let s = run_at is_no_line_end rest in
    inl (record {
      shape = Comment;
      front = b ∷ s.run;
      after = s.after;
      split = ap (λ (l : List ℕ). b ∷ l) s.split;
      stands = (grind (arith, nat_tests), s.is_run);
    }))
    (λ (no_comment : eqb b 35 ≡ false).
    ⊎_elim (λ (f : Front (b ∷ rest)). inl f)
    (λ (short : BeginsNoShortPiece (b ∷ rest)).
    inr (no_piece (b ∷ rest) b rest refl no_word no_digit (λ (k : b ≡ 35). grind (arith, nat_tests)) short))
    (short_front b rest))
    (bool_cases (eqb b 35)))
    (bool_cases (is_digit b)))
    (bool_cases (begins_word b))

-- as many are open as may be, or more
few_or_many : (d : ℕ) → (d ≤ most_open) ⊎ (most_open < d)
few_or_many d =
    ⊎_elim (λ (more : most_open < d). inr more) (λ (few : d ≤ most_open). inl few) (order most_open d)

-- a place with a piece behind it offends, or doesn't
judged_token : (at : Place) (b : ℕ) (rest : List ℕ) (kind : Kind) (front after : List ℕ) → b ∷ rest ≡ front ++ after
    → Stands (Lexeme kind) front after → Cause at (b ∷ rest) ⊎ (Cause at (b ∷ rest) → ⊥)
judged_token at b rest kind front after split stands =
    ⊎_elim
    (λ (few : at.count < most_tokens).
    ⊎_elim (λ (shallow : depth_at at + weight at.behind_sum ≤ most_open).
    inr (free_of at (b ∷ rest) (Lexeme kind) front after split stands (λ _ _. few)
    (λ (deep : most_open < depth_at at + weight at.behind_sum) _. absurd (omega arith))))
    (λ (deep : most_open < depth_at at + weight at.behind_sum).
    ⊎_elim (λ (paren : eqb b 40 ≡ true). inl (too_deep few deep (grind (arith, nat_tests))))
    (λ (other : eqb b 40 ≡ false).
    inr (free_of at (b ∷ rest) (Lexeme kind) front after split stands (λ _ _. few)
    (λ _ (h : b ≡ 40). grind (arith, nat_tests))))
    (bool_cases (eqb b 40)))
    (few_or_many (depth_at at + weight at.behind_sum)))
    (λ (many : most_tokens ≤ at.count). inl (too_many_tokens many (kind, front, after, split, stands)))
    (order at.count most_tokens)

no_paren : (b : ℕ) (rest : List ℕ) (shape : Shape) (front after : List ℕ) → b ∷ rest ≡ front ++ after
    → Stands shape front after → (shape ≡ Lexeme Sign → ⊥) → b ≡ 40 → ⊥
no_paren b rest shape [] after split stands other is = some_bytes shape after stands
no_paren b rest shape (x ∷ front) after split stands other is =
    let same : x ≡ 40 = cc in other (paren_is_sign shape x front after stands same)

judged : (at : Place) (b : ℕ) (rest : List ℕ) (shape : Shape) (front after : List ℕ) → b ∷ rest ≡ front ++ after
    → Stands shape front after → Cause at (b ∷ rest) ⊎ (Cause at (b ∷ rest) → ⊥)
judged at b rest (Lexeme kind) front after split stands = judged_token at b rest kind front after split stands
judged at b rest Gap front after split stands =
    inr (free_of at (b ∷ rest) Gap front after split stands (λ kind (e : Gap ≡ Lexeme kind). cc)
    (λ _ paren. no_paren b rest Gap front after split stands (λ (e : Gap ≡ Lexeme Sign). cc) paren))
judged at b rest Comment front after split stands =
    inr (free_of at (b ∷ rest) Comment front after split stands (λ kind (e : Comment ≡ Lexeme kind). cc)
    (λ _ paren. no_paren b rest Comment front after split stands (λ (e : Comment ≡ Lexeme Sign). cc) paren))

front_shorter : (b : ℕ) (rest : List ℕ) (f : Front (b ∷ rest)) → length f.after ≤ length rest
front_shorter b rest f = go f.front f.split f.stands
  where
    go : (front : List ℕ) → b ∷ rest ≡ front ++ f.after → Stands f.shape front f.after → length f.after ≤ length rest
    go [] split stands = absurd (some_bytes f.shape f.after stands)
    go (x ∷ front) split stands = omega (arith, ap length split, length-append (x ∷ front) f.after)

read_or_open : (at : Place) → (Cause at []) ⊎ (Cause at [] → ⊥)
read_or_open at =
    ⊎_elim
    (λ (few : at.count < most_tokens). inr (λ (cause : Cause at []). go few cause))
    (λ (many : most_tokens ≤ at.count).
    ⊎_elim (λ (begun : at.begun ≡ true). inl (too_many_tokens many begun))
    (λ (closed : at.begun ≡ false). inr (λ (cause : Cause at []). ended closed cause))
    (bool_cases at.begun))
    (order at.count most_tokens)
  where
    go : at.count < most_tokens → Cause at [] → ⊥
    go few (too_many_tokens m n) = absurd (omega arith)
    go few (not_ascii h) = h
    go few (bad_byte h k) = h
    go few (too_deep f d h) = h

    ended : at.begun ≡ false → Cause at [] → ⊥
    ended closed (too_many_tokens m n) = cc
    ended closed (not_ascii h) = h
    ended closed (bad_byte h k) = h
    ended closed (too_deep f d h) = h

breaks : {text rest : List ℕ} {at : Place} {tokens : List Token} → Reached text rest at tokens → (offence : Offence)
    → (cause : Cause at rest) × (offence_of cause ≡ offence) → (rule : ℕ) × (line : ℕ) × Breaks text rule line
breaks {text} {rest} {at} {tokens} r offence cause =
    (rule_of offence, at.line, (offence, refl, offends_here r offence cause))

settle : (n : ℕ) (text rest : List ℕ) (at : Place) (tokens : List Token) → length rest ≤ n
    → Reached text rest at tokens → HasReading text
settle n text [] at tokens h r =
    ⊎_elim (λ (cause : Cause at []). inr (breaks r (offence_of cause) (cause, refl)))
    (λ (free : Cause at [] → ⊥). inl (tokens, read_whole r free))
    (read_or_open at)
settle zero text (b ∷ rest) at tokens h r = absurd (omega arith)
settle (suc n) text (b ∷ rest) at tokens h r =
    ⊎_elim
    (λ (f : Front (b ∷ rest)).
    ⊎_elim (λ (cause : Cause at (b ∷ rest)). inr (breaks r (offence_of cause) (cause, refl)))
    (λ (free : Cause at (b ∷ rest) → ⊥).
    settle n text f.after (behind at f.shape f.front) (tokens ++ token_at at f.shape f.front)
    (omega (arith, front_shorter b rest f)) (reached_next r f.shape f.front f.after f.split f.stands free))
    (judged at b rest f.shape f.front f.after f.split f.stands))
    (λ (none : BeginsNoPiece (b ∷ rest)).
    ⊎_elim (λ (below : b < 128). inr (breaks r BadByte (bad_byte below none, refl)))
    (λ (beyond : 128 ≤ b). inr (breaks r NotAscii (not_ascii beyond, refl)))
    (order b 128))
    (front_of b rest)

pub some_reading : (text : List ℕ) → HasReading text
some_reading text = settle (length text) text text start [] (omega arith) (reached_start text)
