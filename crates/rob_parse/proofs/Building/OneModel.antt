-- Each text reads as one model, at whichever limits, or breaks one rule at one line. A limit only bounds digits, so
-- that at a greater one more texts are read; what a text reads as is the same.
use Rattle.std.proofs.Common.{◌≡◌, ℕ, ◌⊎◌, inl, inr, ⊎_elim, List, [], ◌∷◌, ◌++◌, map, refl, sym, ap, ◌∙◌, subst}
use Rattle.rob_index.proofs.Parsing.Versions.{one_of}
use Rattle.rob_index.specs.Expansion.{expand}
use Rattle.rob_index.specs.Reading as lines
use Rattle.rob_index.specs.Reading.{IsOf, State, Version}
use Rattle.rob_index.specs.Statements as stated
use Rattle.rob_index.specs.Statements.{Indexed, Name, Tree}
use Rattle.rob_index.specs.Symbols as is
use Rattle.rob_lex.proofs.OneReading.{one_list}
use Rattle.rob_lex.specs.declared.token.Token.{Token}
use Rattle.rob_meaning.specs.RobustModel.{RobustModel}
use Rattle.rob_parse.specs.Modelled.{ReadsModel}
use Rattle.rob_parse.specs.Models.{model_of}
use Rattle.rob_rules.proofs.Joining.OneText.{never, some_text}
use Rattle.rob_rules.specs.Faults.{in_order}
use Rattle.rob_rules.specs.Names.{Named, named_behind}
use Rattle.rob_rules.specs.Scopes.{Earlier}
use Rattle.rob_rules.specs.Texts.{Breaks, LinesRead, Reads, has_later, in_front, is_declared}
use Rattle.rob_rules.specs.declared.fault.Fault.{Fault}
use Rattle.rob_syntax.specs.Numbered.{numbered}
use Rattle.rob_syntax.specs.SeenSymbols.{seen_line}
use Rattle.rob_syntax.specs.Symbols.{words_of}
use Rattle.rob_syntax.specs.Versions.{text_lines, text_version}
use Rattle.rob_syntax.specs.declared.syntax.Statement.{Statement}

module _ (limit : ℕ) (text : List ℕ) where
  pub some_model : ((m : RobustModel) × ReadsModel limit text m)
      ⊎ ((rule : ℕ) × (line : ℕ) × Breaks limit text rule line)
  some_model =
      ⊎_elim
      (λ (r : (words : List Name) × (list : List Statement) × (known : Earlier) × Reads limit text words list known).
      inl (model_of r.0 r.2.sorts r.1, record { words = r.0; list = r.1; known = r.2; reads = r.3; model_is = refl }))
      (λ (b : (rule : ℕ) × (line : ℕ) × Breaks limit text rule line). inr b)
      (some_text limit text)

  pub not_both : (m : RobustModel) (rule line : ℕ) → ReadsModel limit text m → Breaks limit text rule line → ⊥
  not_both m rule line x b = never limit text x.words x.list x.known rule line x.reads b

-- ---- two limits
module _ (own : List Name) (v : Version) where
  module _ (limit : ℕ) where
    abbrev St : Type 0
    St = State limit own Named Fault in_order (has_later limit) named_behind is_declared (IsOf v)

    abbrev AreRead : St → List (List is.Symbol) → List stated.Statement → St → Type 0
    AreRead = lines.Follows limit own Named Fault in_order (has_later limit) named_behind is_declared (IsOf v)

    abbrev steps : Named → List stated.Statement → Named
    steps = lines.steps limit own Named Fault in_order (has_later limit) named_behind is_declared (IsOf v)

    abbrev after : St → Indexed Tree → St
    after = lines.behind limit own Named Fault in_order (has_later limit) named_behind is_declared (IsOf v)

  module _ (limit limit' : ℕ) where
    steps_alike : (k : Named) (ps : List stated.Statement) → steps limit k ps ≡ steps limit' k ps
    steps_alike k [] = refl
    steps_alike k (p ∷ ps) = steps_alike (named_behind k p) ps

    -- lines that are read at both are the same statements, and the same is known behind them
    lines_alike : (ls : List (List is.Symbol)) (e : St limit) (e' : St limit') (a b : List stated.Statement)
        (f : St limit)
        (g : St limit') → e.known ≡ e'.known → AreRead limit e ls a f → AreRead limit' e' ls b g → (a ≡ b)
        × (f.known ≡ g.known)
    lines_alike [] e e' a b f g same x y =
        (x.0 ∙ sym y.0, sym (ap (λ (s : St limit). s.known) x.1) ∙ same ∙ ap (λ (s : St limit'). s.known) y.1)
    lines_alike ([] ∷ ls) e e' a b f g same x y = lines_alike ls e e' a b f g same x y
    lines_alike ((c ∷ cs) ∷ ls) e e' a b f g same x y =
        let line = one_of v (c ∷ cs) x.0 y.0 x.2 y.2 in
        let known : (after limit e x.0).known ≡ (after limit' e' y.0).known =
        steps_alike e.known (expand own x.0) ∙ (λ i. steps limit' (same i) (expand own (line i))) in
        let rest = lines_alike ls (after limit e x.0) (after limit' e' y.0) x.1 y.1 f g known x.5 y.5 in
        (x.4 ∙ (λ i. expand own (line i) ++ rest.0 i) ∙ sym y.4, rest.1)

-- a reading at one limit and one at another are the same
pub model_alike : (limit limit' : ℕ) (text : List ℕ) (m m' : RobustModel) → ReadsModel limit text m
    → ReadsModel limit' text m'
    → m ≡ m'
model_alike limit limit' text m m' x y =
    let t = x.reads.tokens in
    let tokens : t ≡ y.reads.tokens = one_list text t y.reads.tokens x.reads.are_tokens y.reads.are_tokens in
    let own = words_of text t in
    let v = text_version text t in
    let there = subst
    (λ (ts : List Token). LinesRead limit' text (words_of text ts) ts y.reads.plain
    (record { words = y.words; earlier = y.known }) y.reads.total)
    (sym tokens) y.reads.lines in
    let here : St own v limit =
    record { known = record { words = x.words; earlier = x.known }; total = x.reads.total } in
    let other : St own v limit' =
    record { known = record { words = y.words; earlier = y.known }; total = y.reads.total } in
    let same = lines_alike own v limit limit' (map seen_line (text_lines text own t)) (in_front limit v own)
    (in_front limit' v own) x.reads.plain y.reads.plain here other refl x.reads.lines.follows there.follows in
    let list : x.list ≡ y.list =
    sym x.reads.list_is ∙ (λ i. map (numbered (same.1 i).words) (same.0 i)) ∙ y.reads.list_is in
    x.model_is ∙ (λ i. model_of (same.1 i).words (same.1 i).earlier.sorts (list i)) ∙ sym y.model_is

-- ---- one limit
pub one_model : (limit : ℕ) (text : List ℕ) (m m' : RobustModel) → ReadsModel limit text m → ReadsModel limit text m'
    → m ≡ m'
one_model limit = model_alike limit limit
