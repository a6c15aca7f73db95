-- From the lines of a text of either version to the text.
use Rattle.std.proofs.Common.{◌≡◌, ℕ, suc, Bool, true, false, inl, inr, List, [], ◌∷◌, ◌++◌, length, map, refl, sym, ap, ◌∙◌, subst}
use Rattle.std.proofs.lemmas.List.{length-map}
use Rattle.std.specs.Prelude.{◌||◌, Result, Err, IfErr}
use Rattle.rob_lex.specs.declared.token.Token.{Token}
use Rattle.rob_lex.specs.Offences.{AreTokens}
use Rattle.rob_index.specs.Symbols.{Symbol}
use Rattle.rob_index.specs.Statements.{Name}
use Rattle.rob_index.specs.Reading.{Version, no_objective}
use Rattle.rob_syntax.specs.declared.syntax.Statement.{Statement}
use Rattle.rob_syntax.specs.Known.{texts}
use Rattle.rob_syntax.specs.Numbered.{numbered}
use Rattle.rob_syntax.specs.SeenSymbols.{seen_line}
use Rattle.rob_syntax.specs.Symbols.{words_of, symbols_of, token_lines}
use Rattle.rob_syntax.specs.Versions.{body, has_token, text_version}
use Rattle.rob_rules.specs.declared.error.ModelErr.{ModelErr}
use Rattle.rob_rules.specs.declared.error.ModelErr.TheVariants as model
use Rattle.rob_rules.specs.declared.lines.Reader.{Reader}
use Rattle.rob_rules.specs.Faults.{rule_of}
use Rattle.rob_rules.specs.declared.fault.Fault.TheVariants.{NoObjective}
use Rattle.rob_rules.specs.Scopes.{earlier_of}
use Rattle.rob_rules.specs.Stages.{BreakRule, HaveStop, IsBetween, ReadsOn, StartsAt, stage_of}
use Rattle.rob_rules.proofs.Steps.MoreLines.{symbols_in}
use Rattle.rob_rules.specs.Texts.{Stage, LinesFollow, in_front, Reads, HasTextCause}

-- what is read of lines are as many lines
body_long : (text : List ℕ) (begun : Bool) (lines : List (List Token)) → length (body text begun lines) ≡ length lines
body_long text begun [] = refl
body_long text begun (line ∷ lines) = ap suc (body_long text (begun || has_token line) lines)

-- the lines of a text of that version, of its own words
abbrev pub lines_in : (text : List ℕ) (own : List Name) (version : Version) (tokens : List Token) → List (List Symbol)
lines_in text own version tokens = symbols_in text own version false (token_lines tokens)

lines_long : (text : List ℕ) (own : List Name) (version : Version) (tokens : List Token)
    → length (lines_in text own version tokens) ≡ length (token_lines tokens)
lines_long text own version tokens =
    length-map (map (symbols_of text version own) (body text false (token_lines tokens))) seen_line
    ∙ length-map (body text false (token_lines tokens)) (symbols_of text version own)
    ∙ body_long text false (token_lines tokens)

module _ (limit : ℕ) (text : List ℕ) (tokens : List Token) (are : AreTokens text tokens) (version : Version)
    (version_is : version ≡ text_version text tokens) (old : Reader)
    (starts : StartsAt (words_of text tokens) old) where
  abbrev own : List Name
  own = words_of text tokens

  own_is : texts old.own.keys ≡ own
  own_is = starts.between.own_are

  -- the reader's start is the start of the definition
  starts_in_front : stage_of limit own version old ≡ in_front limit version own
  starts_in_front =
      let w = starts.words_are in
      let e = starts.earlier_is in
      let t = starts.total in
      (λ i. record { known = record { words = w i; earlier = e i }; total = t i })

  pub start_between : IsBetween (texts old.own.keys) old
  start_between = subst (λ (w : List Name). IsBetween w old) (sym own_is) starts.between

  abbrev lines : Version → List (List Symbol)
  lines v = lines_in text own v tokens

  -- with the words of the definition
  abbrev From : (w : List Name) → Version → Reader → Type 0
  From w v new = ReadsOn limit w v (lines_in text w v tokens) old new

  module _ (new : Reader) (read : From (texts old.own.keys) version new) where
    moved : ReadsOn limit own version (lines version) old new
    moved = subst (λ (w : List Name). From w version new) own_is read

    follows_start : LinesFollow limit own version (in_front limit version own) (lines version) moved.more
        (stage_of limit own version new)
    follows_start =
        subst (λ (e : Stage limit own version). LinesFollow limit own version e (lines version) moved.more
        (stage_of limit own version new)) starts_in_front moved.follows

    abbrev Follow : Version → Type 0
    Follow v = LinesFollow limit own v (in_front limit v own) (lines v) moved.more (stage_of limit own v new)

    follows_text : Follow (text_version text tokens)
    follows_text = subst Follow version_is follows_start

    -- the text reads
    pub text_reads : new.scope.goal ≡ true → Reads limit text (texts new.words.keys) new.list (earlier_of new.scope)
    text_reads goal = record {
      tokens = tokens;
      are_tokens = are;
      plain = moved.more;
      total = new.total;
      lines = record { follows = follows_text; goal = goal };
      list_is = sym (moved.appended
          ∙ ap (λ (l : List Statement). l ++ map (numbered (texts new.words.keys)) moved.more) starts.list_is);
    }

    -- no goal is there
    pub text_ends : new.scope.goal ≡ false → (rule number : ℕ) → rule ≡ rule_of NoObjective
        → number ≡ length (token_lines tokens) → HasTextCause limit text (model.Rule rule number)
    text_ends none rule number is count =
        inr (
          tokens,
          no_objective,
          are,
          inr (record {
            list = moved.more;
            last = stage_of limit own (text_version text tokens) new;
            follows = follows_text;
            no_goal = none;
            fault_is = refl;
            number_is = lines_long text own (text_version text tokens) tokens ∙ sym count;
          }),
          sym is,
        )

  -- why the lines aren't read is why the text isn't
  abbrev Stops : (w : List Name) → Version → ModelErr → Type 0
  Stops w v e = HaveStop limit w v (stage_of limit w v old) (lines_in text w v tokens) e

  abbrev Breaks : Version → ℕ → ℕ → Type 0
  Breaks v rule line = BreakRule limit own v (in_front limit v own) (lines v) rule line

  breaks_text : (rule line : ℕ) → Stops own version (model.Rule rule line)
      → Breaks (text_version text tokens) rule line
  breaks_text rule line stop =
      subst (λ (v : Version). Breaks v rule line) version_is
      (subst (λ (e : Stage limit own version). BreakRule limit own version e (lines version) rule line)
      starts_in_front stop)

  refused : (e : ModelErr) → Stops own version e → HasTextCause limit text e
  refused model.Memory stop = tt
  refused (model.Rule rule line) stop =
      let b = breaks_text rule line stop in inr (tokens, b.fault, are, inl b.breaks, b.rule_is)

  pub text_breaks : (e : ModelErr) → Stops (texts old.own.keys) version e → HasTextCause limit text e
  text_breaks e stop = refused e (subst (λ (w : List Name). Stops w version e) own_is stop)

-- at the exit of a `?`
pub refused_by : {V : Type 0} (limit : ℕ) (text : List ℕ) (r : Result V ModelErr) (e f : ModelErr) → r ≡ Err e → e ≡ f
    → HasTextCause limit text f → IfErr r (λ x. HasTextCause limit text x)
refused_by limit text r e f is same cause = rw is (subst (HasTextCause limit text) (sym same) cause)
