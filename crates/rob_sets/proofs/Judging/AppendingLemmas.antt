-- Lines that a call appends, and further ones behind them.
use Rattle.std.specs.Prelude.{◌≡◌, ℕ, ◌+◌, ◌≤◌, List, [], ◌++◌, length, map, Result, Ok, Err, IsErrAnd}
use Rattle.std.proofs.Common.{sym, ◌∙◌, ap, arith, subst, append_assoc, append-nil, length-append}
use Rattle.std.proofs.lemmas.List.{length-map, map-append}
use Rattle.std.proofs.lemmas.Result.{err_from_is_err_and}
use Rattle.rob_meaning.specs.Places.{Each}
use Rattle.rob_meaning.specs.RobustModel.{RobustModel}
use Rattle.rob_meaning.proofs.Lists.EachLemmas.{each_append}
use Rattle.rob_sets.specs.Appending.{AppendsLines, AppendsOr, StopsAt}
use Rattle.rob_sets.specs.FirstWide.{Judged, IsWideThere, NothingWide}
use Rattle.rob_sets.specs.declared.error.ElabErr.{ElabErr}
use Rattle.rob_sets.proofs.Judging.JudgedLemmas.{stops_right}

-- the answer of a call that stops
pub appends_err : {A B : Type 0} {limit : ℕ} {m : RobustModel} {js : List Judged} {now : ℕ} {e : ElabErr} (made : B → A)
    (Fits : A → Type 0) (lines : List B)
    (a b : List A) (start : ℕ) (r : Result (Unit {0}) ElabErr) → StopsAt limit m js start now e
    → IsErrAnd r (λ d. d ≡ e)
    → AppendsOr made Fits limit m lines js a b start now r
appends_err {limit} {m} {js} {now} {e} made Fits lines a b start r h is =
    let q = err_from_is_err_and r is in
    subst (λ (x : Result (Unit {0}) ElabErr). AppendsOr made Fits limit m lines js a b start now x) (sym q.1)
    (subst (λ (x : ElabErr). StopsAt limit m js start now x) (sym q.2) h)

module _ {A B : Type 0} {made : B → A} {Fits : A → Type 0} {limit : ℕ} {m : RobustModel} where
  -- nothing is appended for what is judged and not wide
  pub appends_nothing : {judged : List Judged} (old : List A) → NothingWide limit m judged
      → AppendsLines made Fits limit m [] judged old old
  appends_nothing old none = record { appended = sym (append-nil old); fit = tt; none_wide = none }

  pub appends_both : {xs ys : List B} {js ks : List Judged} {a b c : List A} → AppendsLines made Fits limit m xs js a b
      → AppendsLines made Fits limit m ys ks b c
      → AppendsLines made Fits limit m (xs ++ ys) (js ++ ks) a c
  appends_both {xs} {ys} {js} {ks} {a} {b} {c} f g = record {
    appended = g.appended ∙ ap (λ (zs : List A). zs ++ map made ys) f.appended
        ∙ append_assoc a (map made xs) (map made ys)
        ∙ ap (λ (zs : List A). a ++ zs) (sym (map-append made xs ys));
    fit = subst (λ (zs : List A). Each Fits zs) (sym (map-append made xs ys))
        (each_append Fits (map made xs) (map made ys) f.fit g.fit);
    none_wide = each_append (λ j. IsWideThere limit m j → ⊥) js ks f.none_wide g.none_wide;
  }

  -- lines are appended, and then further ones, or the call says why not
  pub appends_then : {xs : List B} {js : List Judged} {a b : List A} (ys : List B) (ks : List Judged)
      (c : List A) (start before now : ℕ)
      (r : Result (Unit {0}) ElabErr) → AppendsLines made Fits limit m xs js a b → start ≤ before
      → AppendsOr made Fits limit m ys ks b c before now r
      → AppendsOr made Fits limit m (xs ++ ys) (js ++ ks) a c start now r
  appends_then ys ks c start before now (Ok _) f least g = appends_both f g
  appends_then {js} ys ks c start before now (Err e) f least g =
      stops_right limit m js ks e start before now least f.none_wide g

  pub appended_length : {lines : List B} {js : List Judged} {a b : List A} → AppendsLines made Fits limit m lines js a b
      → length b ≡ length a + length lines
  appended_length {lines} {js} {a} {b} f =
      omega (arith, ap length f.appended, length-append a (map made lines), length-map lines made)
