-- Marks that are looked at in turn.
use Rattle.std.proofs.Common.{◌≡◌, ℕ, ◌+◌, ◌-◌, ◌<◌, ◌≤◌, sym, ◌∙◌, subst, arith, true, false, Bool, List, length, drop, get_or}
use Rattle.std.proofs.lemmas.List.{get_or-take, get_or-drop}
use Rattle.rob_entries.proofs.WrittenRows.{part, part_length}

pub part_mark : (marks : List Bool) (a w k : ℕ) → k < w → get_or (part marks a w) k true ≡ get_or marks (a + k) true
part_mark marks a w k l =
    get_or-take (a + w - a) (drop a marks) k true (omega arith) ∙ get_or-drop a marks k true

-- where the marks of a part are off, those of the whole are off there
pub off_in_part : (marks : List Bool) (a w : ℕ) → a + w ≤ length marks
    → ((j : ℕ) → j < length (part marks a w) → get_or (part marks a w) j true ≡ false) → (k : ℕ) → a ≤ k → k < a + w
    → get_or marks k true ≡ false
off_in_part marks a w inside off k low high =
    let e : a + (k - a) ≡ k = omega arith in
    let l : k - a < length (part marks a w) = omega (arith, part_length marks a w inside) in
    subst (λ t. get_or marks t true ≡ false) e (sym (part_mark marks a w (k - a) (omega arith)) ∙ off (k - a) l)
