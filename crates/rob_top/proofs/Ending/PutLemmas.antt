-- A text that is put piece by piece.
use Rattle.std.proofs.Common.{◌≡◌, ℕ, true, List, [], ◌∷◌, ◌++◌, Ok, Err, refl, sym, ◌∙◌, ap, subst, append_assoc}
use Rattle.rob_outside.specs.Puts.{Put, PutAll, PutUntil, put_as, put_of}
use Rattle.rob_outside.specs.Taken.{Took, TookPrefix}
use Rattle.rob_outside.proofs.PutsLemmas.{put_none, put_one, put_then, put_until_of_more}
use Rattle.rob_outside.proofs.TakenLemmas.{took_nothing, took_both, took_then_put, took_prefix_of_more}
use Rattle.rob_top.specs.Lines.{text_lines}

-- a part of the text was taken, line by line, and the rest is left; `before` and `now` are the bytes that the sink
-- took, `noted` and `notes` its puts
pub record PutsMore (before now : List ℕ) (noted notes : List Put) (text rest : List ℕ) : Type 0 where
  pub done : List ℕ
  pub whole : text ≡ done ++ rest
  pub took : Took before now done
  pub lines : List (List ℕ)
  pub split : text_lines text ≡ lines ++ text_lines rest
  pub puts : PutAll noted notes lines

-- at first nothing is taken
pub puts_nothing : (before : List ℕ) (noted : List Put) (text : List ℕ) → PutsMore before before noted noted text text
puts_nothing before noted text = record {
  done = [];
  whole = refl;
  took = took_nothing before;
  lines = [];
  split = refl;
  puts = put_none noted;
}

-- one line more
pub puts_piece : (before middle now : List ℕ) (noted some notes : List Put) (text rest piece behind : List ℕ)
    → PutsMore before middle noted some text rest → rest ≡ piece ++ behind → text_lines rest ≡ piece ∷ text_lines behind
    → Took middle now piece → notes ≡ some ++ put_as true piece ∷ [] → PutsMore before now noted notes text behind
puts_piece before middle now noted some notes text rest piece behind p e f took put = record {
  done = p.done ++ piece;
  whole = p.whole ∙ ap (λ (r : List ℕ). p.done ++ r) e ∙ sym (append_assoc p.done piece behind);
  took = took_both before middle now p.done piece p.took took;
  lines = p.lines ++ piece ∷ [];
  split = p.split ∙ ap (λ (r : List (List ℕ)). p.lines ++ r) f
      ∙ sym (append_assoc p.lines (piece ∷ []) (text_lines behind));
  puts = put_then {T = Unit {0}} {E = Unit {0}} noted some notes p.lines (piece ∷ []) (Ok tt) p.puts put;
}

-- after an error in a piece a prefix of the text is taken
pub puts_prefix : (before middle now : List ℕ) (noted some : List Put) (text rest piece behind : List ℕ)
    → PutsMore before middle noted some text rest → rest ≡ piece ++ behind → TookPrefix middle now piece
    → TookPrefix before now text
puts_prefix before middle now noted some text rest piece behind p e took =
    let part : TookPrefix before now (p.done ++ piece) =
    took_then_put {T = Unit {0}} {E = Unit {0}} before middle now p.done piece (Err tt) p.took took in
    took_prefix_of_more before now (p.done ++ piece) text
    record {
      rest = behind;
      whole = p.whole ∙ ap (λ (r : List ℕ). p.done ++ r) e
          ∙ sym (append_assoc p.done piece behind);
    }
    part

-- after an error in a line none was put behind it
pub lines_some : {E : Type 0} (before middle : List ℕ) (noted some notes : List Put)
    (text rest piece behind : List ℕ) (error : E)
    → PutsMore before middle noted some text rest → text_lines rest ≡ piece ∷ text_lines behind
    → notes ≡ some ++ put_of {T = Unit {0}} piece (Err error) ∷ [] → PutUntil noted notes (text_lines text)
lines_some {E = E} before middle noted some notes text rest piece behind error p f put =
    let part : PutUntil noted notes (p.lines ++ piece ∷ []) =
    put_then {T = Unit {0}} {E = E} noted some notes p.lines (piece ∷ []) (Err error) p.puts
    (put_one {T = Unit {0}} some notes piece (Err error) put) in
    let split : (p.lines ++ piece ∷ []) ++ text_lines behind ≡ text_lines text =
    append_assoc p.lines (piece ∷ []) (text_lines behind)
    ∙ sym (p.split ∙ ap (λ (r : List (List ℕ)). p.lines ++ r) f) in
    subst (λ (list : List (List ℕ)). PutUntil noted notes list) split
    (put_until_of_more noted notes (p.lines ++ piece ∷ []) (text_lines behind) part)
