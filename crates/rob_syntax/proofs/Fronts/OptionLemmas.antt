-- A part that may be there, with a symbol in front: the digits behind `/`, and the set behind `over`.
use Rattle.std.proofs.Common.{◌≡◌, List, [], ◌∷◌, ◌++◌, Option, Some, None, refl, sym, ap, ◌∙◌}
use Rattle.rob_index.specs.Symbols.{Symbol, word}
use Rattle.rob_index.specs.Symbols as is
use Rattle.rob_index.specs.Grammar.{spell_over, spell_ref}
use Rattle.rob_syntax.specs.Fronts.{BeginsNot, EndsRef, EndsOver, Found, IsMissing}
use Rattle.rob_syntax.proofs.Fronts.PartLemmas.{tails}

-- how such a part is spelled, and where it ends
pub record Optional {A : Type 0} (s : Symbol) (spell : A → List Symbol) (EndsItem : List Symbol → Type 0)
    (spell_all : Option A → List Symbol) (EndsAll : List Symbol → Type 0) : Type 0 where
  pub none_is : spell_all None ≡ []
  pub some_is : (x : A) → spell_all (Some x) ≡ s ∷ spell x
  pub first : (end : List Symbol) → EndsAll end → BeginsNot s end
  pub item : (end : List Symbol) → EndsAll end → EndsItem end

module _ {A : Type 0} {s : Symbol} {spell : A → List Symbol} {EndsItem : List Symbol → Type 0}
    {spell_all : Option A → List Symbol} {EndsAll : List Symbol → Type 0}
    (optional : Optional s spell EndsItem spell_all EndsAll) where
  -- the spelling of what is there, with its symbol apart
  there : {symbols : List Symbol} (x : A) (end : List Symbol) → symbols ≡ spell_all (Some x) ++ end
      → symbols ≡ s ∷ (spell x ++ end)
  there x end same = same ∙ ap (λ (l : List Symbol). l ++ end) (optional.some_is x)

  not_there : {symbols : List Symbol} (end : List Symbol) → symbols ≡ spell_all None ++ end → symbols ≡ end
  not_there end same = same ∙ ap (λ (l : List Symbol). l ++ end) optional.none_is

  pub nothing_found : {symbols : List Symbol} → BeginsNot s symbols → Found spell_all EndsAll symbols symbols None
  nothing_found {symbols} none = record {
    spelled = ap (λ (l : List Symbol). l ++ symbols) (sym optional.none_is);
    only = only;
  }
    where
      only : (other : Option A) (end : List Symbol) → symbols ≡ spell_all other ++ end → EndsAll end
          → (other ≡ None) × (end ≡ symbols)
      only None end same stop = (refl, sym (not_there end same))
      only (Some x) end same stop = absurd (none _ (there x end same))

  module _ {symbols behind : List Symbol} (leads : symbols ≡ s ∷ behind) where
    pub something_found : {rest : List Symbol} {x : A} → Found spell EndsItem behind rest x
        → Found spell_all EndsAll symbols rest (Some x)
    something_found {rest} {x} found = record {
      spelled =
          leads ∙ ap (λ (l : List Symbol). s ∷ l) found.spelled
          ∙ ap (λ (l : List Symbol). l ++ rest) (sym (optional.some_is x));
      only = only;
    }
      where
        only : (other : Option A) (end : List Symbol) → symbols ≡ spell_all other ++ end → EndsAll end
            → (other ≡ Some x) × (end ≡ rest)
        only None end same stop = absurd (optional.first end stop behind (sym (not_there end same) ∙ leads))
        only (Some y) end same stop =
            let e = found.only y end (tails (sym leads ∙ there y end same)) (optional.item end stop) in
            (ap Some e.0, e.1)

    pub something_missing : IsMissing spell EndsItem behind → IsMissing spell_all EndsAll symbols
    something_missing missing = record { none = none }
      where
        none : (other : Option A) (end : List Symbol) → symbols ≡ spell_all other ++ end → EndsAll end → ⊥
        none None end same stop = optional.first end stop behind (sym (not_there end same) ∙ leads)
        none (Some y) end same stop =
            missing.none y end (tails (sym leads ∙ there y end same)) (optional.item end stop)

-- the set behind `over`
pub over_optional : Optional (word is.over) spell_ref EndsRef spell_over EndsOver
over_optional = record {
  none_is = refl;
  some_is = λ r. refl;
  first = λ end stop. stop.over;
  item = λ end stop. stop.ref;
}
