-- Several puts, one behind the other.
use Rattle.std.proofs.Common.{◌≡◌, ℕ, true, false, List, [], ◌∷◌, ◌++◌, map, Result, Ok, Err, sym, refl, append_assoc, ap, ◌∙◌}
use Rattle.std.proofs.lemmas.List.{append-nil, map-append}
use Rattle.rob_outside.specs.declared.sink.SinkErr.{SinkErr}
use Rattle.rob_outside.specs.declared.sink.SinkErr.TheVariants.{Failed, Memory}
use Rattle.rob_outside.specs.Puts.{Put, PutAll, PutEach, PutUntil, StandsBut, put_as, put_of}

-- the pieces were put one by one, each taken whole
abbrev whole : List (List ℕ) → List Put
whole pieces = map (put_as true) pieces

-- before the first put there is none
pub put_none : (before : List Put) → PutAll before before []
put_none before = sym (append-nil before)

-- a put of one piece, whatever it answers
pub put_one : {T E : Type 0} (before now : List Put) (piece : List ℕ) (result : Result T E)
    → now ≡ before ++ put_of piece result ∷ [] → PutEach before now (piece ∷ []) result
put_one before now piece (Ok value) e = e
put_one before now piece (Err error) e = record { done = []; refused = piece; left = []; split = refl; grown = e }

-- pieces that weren't put may stand behind
pub put_until_of_more : (before now : List Put) (pieces more : List (List ℕ)) → PutUntil before now pieces
    → PutUntil before now (pieces ++ more)
put_until_of_more before now pieces more h = record {
  done = h.done;
  refused = h.refused;
  left = h.left ++ more;
  split = ap (λ (list : List (List ℕ)). list ++ more) h.split ∙ append_assoc h.done (h.refused ∷ h.left) more;
  grown = h.grown;
}

-- puts behind others
grown_twice : (before middle now first second : List Put) → middle ≡ before ++ first → now ≡ middle ++ second
    → now ≡ before ++ (first ++ second)
grown_twice before middle now first second p q =
    q ∙ ap (λ (list : List Put). list ++ second) p ∙ append_assoc before first second

-- what is put behind pieces that were taken whole is put with them
pub put_then : {T E : Type 0} (before middle now : List Put) (first second : List (List ℕ)) (result : Result T E)
    → PutAll before middle first → PutEach middle now second result → PutEach before now (first ++ second) result
put_then before middle now first second (Ok value) p q =
    grown_twice before middle now (whole first) (whole second) p q
    ∙ ap (λ (list : List Put). before ++ list) (sym (map-append (put_as true) first second))
put_then before middle now first second (Err error) p q =
    let last = put_as false q.refused ∷ [] in
    record {
      done = first ++ q.done;
      refused = q.refused;
      left = q.left;
      split = ap (λ (list : List (List ℕ)). first ++ list) q.split
          ∙ sym (append_assoc first q.done (q.refused ∷ q.left));
      grown =
          grown_twice before middle now (whole first) (whole q.done ++ last) p q.grown
          ∙ ap (λ (list : List Put). before ++ list)
          (sym (append_assoc (whole first) (whole q.done) last)
          ∙ ap (λ (list : List Put). list ++ last) (sym (map-append (put_as true) first q.done)));
    }

-- where the count stood before a put that answered an error, it stands behind it in the same way
pub stands_behind : (before middle now : ℕ) (error : SinkErr) → middle ≡ before
    → StandsBut {T = Unit {0}} middle now (Err error) → StandsBut {T = Unit {0}} before now (Err error)
stands_behind before middle now Failed e h = tt
stands_behind before middle now Memory e h = h ∙ e
