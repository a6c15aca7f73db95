-- Writing a piece in several writes.
use Rattle.std.proofs.Common.{◌≡◌, ℕ, List, ◌++◌, length, take, drop, Option, Some, None, sym, append_assoc, ap, ◌∙◌, subst, arith, slice_range}
use Rattle.std.proofs.lemmas.List.{take-append-drop}
use Rattle.std.proofs.lemmas.Slice.{between_to_end}
use Rattle.std.specs.Io.KnownBytes.{Appends}
use Rattle.rob_outside.specs.Taken.{Took, TookKnown}
use Rattle.rob_outside.proofs.TakenLemmas.{took_both}

-- a part of the piece was written and noted, and the rest is left; `before` and `now` are the writer's bytes, where
-- they are known, and `noted` and `notes` what was noted
pub record Writes (before now : Option (List ℕ)) (noted notes piece rest : List ℕ) : Type 0 where
  pub written : List ℕ
  pub split : piece ≡ written ++ rest
  pub known : TookKnown before now written
  pub taken : Took noted notes written

-- known bytes that grew by two texts grew by both
known_both : (before middle now : Option (List ℕ)) (first second : List ℕ)
    → TookKnown before middle first → Appends middle now second → TookKnown before now (first ++ second)
known_both None middle now first second p q = tt
known_both (Some held) middle now first second p q =
    appended now (subst (λ (m : Option (List ℕ)). Appends m now second) p q)
  where
    appended : (after : Option (List ℕ)) → Appends (Some (held ++ first)) after second
        → after ≡ Some (held ++ (first ++ second))
    appended None h = absurd h
    appended (Some new) h = ap Some (h ∙ append_assoc held first second)

-- the first bytes of the rest were written and noted
pub writes_more : (before middle now : Option (List ℕ)) (noted some notes piece rest : List ℕ) (count : ℕ)
    → Writes before middle noted some piece rest → Appends middle now (take count rest)
    → Took some notes (take count rest)
    → Writes before now noted notes piece (slice_range rest count (length rest))
writes_more before middle now noted some notes piece rest count p q t =
    let P : List ℕ → Type 0 = Writes before now noted notes piece in
    subst P (sym (between_to_end rest count (length rest) (omega arith))) (record {
      written = p.written ++ take count rest;
      split = p.split ∙ ap (λ (end : List ℕ). p.written ++ end) (sym (take-append-drop count rest))
          ∙ sym (append_assoc p.written (take count rest) (drop count rest));
      known = known_both before middle now p.written (take count rest) p.known q;
      taken = took_both noted some notes p.written (take count rest) p.taken t;
    })
