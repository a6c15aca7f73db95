use Rattle.std.proofs.Common.{refl, ◌≡◌, ◌+◌, ◌∙◌, ap, sym, length, take, drop, ◌++◌}
use Rattle.rob_simplex.specs.Dictionaries.{Table}
use Rattle.rob_entries.proofs.WrittenRows.{written_back}
use Rattle.rob_simplex.proofs.Rows.CopiedTables.{same_table, copied_sound}
use Rattle.rob_simplex.proofs.dictionary.Dictionary.copy_from.Goals as goal

pub returns : goal.returns
returns g c =
    let el : g.E.Entry.top ≡ g.E.Entry.top = refl in
    let en : c.self.inside.columns ≡ c.other.inside.columns =
    ap (λ (t : Table). t.columns) c.self.view_is ∙ c.requires.columns
    ∙ sym (ap (λ (t : Table). t.columns) c.other.view_is) in
    let ebasis =
    written_back c.copy_from_slice.new.self c.self.inside.basis.items c.self.inside.basis.len
    (c.copy_from_slice.auto.self ∙ ap length c.as_mut_slice.ensures.value ∙ sym c.self.inside.basis.ok.0)
    ∙ c.copy_from_slice.ensures.after ∙ c.as_slice.ensures.value in
    let eplaces =
    written_back c.copy_from_slice-2.new.self c.self.inside.places.items c.self.inside.places.len
    (c.copy_from_slice-2.auto.self ∙ ap length c.as_mut_slice-2.ensures.value ∙ sym c.self.inside.places.ok.0)
    ∙ c.copy_from_slice-2.ensures.after ∙ c.as_slice-2.ensures.value in
    let erows = c.copy_from.ensures.same in
    record {
      same =
          same_table g.E.Entry.top g.E.Entry.top c.self.inside.columns c.other.inside.columns
          (take c.self.inside.basis.len
          (c.copy_from_slice.new.self ++ drop (length c.copy_from_slice.new.self) c.self.inside.basis.items))
          c.other.inside.basis.items
          (take c.self.inside.places.len
          (c.copy_from_slice-2.new.self ++ drop (length c.copy_from_slice-2.new.self) c.self.inside.places.items))
          c.other.inside.places.items
          c.copy_from.new.self c.other.inside.rows el en ebasis eplaces erows
          ∙ c.other.view_is;
    }

pub invariant_of-self : goal.invariant_of-self
invariant_of-self g c =
    let el : g.E.Entry.top ≡ g.E.Entry.top = refl in
    let en : c.self.inside.columns ≡ c.other.inside.columns =
    ap (λ (t : Table). t.columns) c.self.view_is ∙ c.requires.columns
    ∙ sym (ap (λ (t : Table). t.columns) c.other.view_is) in
    let ebasis =
    written_back c.copy_from_slice.new.self c.self.inside.basis.items c.self.inside.basis.len
    (c.copy_from_slice.auto.self ∙ ap length c.as_mut_slice.ensures.value ∙ sym c.self.inside.basis.ok.0)
    ∙ c.copy_from_slice.ensures.after ∙ c.as_slice.ensures.value in
    let eplaces =
    written_back c.copy_from_slice-2.new.self c.self.inside.places.items c.self.inside.places.len
    (c.copy_from_slice-2.auto.self ∙ ap length c.as_mut_slice-2.ensures.value ∙ sym c.self.inside.places.ok.0)
    ∙ c.copy_from_slice-2.ensures.after ∙ c.as_slice-2.ensures.value in
    let enear =
    written_back c.copy_from_slice-3.new.self c.self.inside.near.items c.self.inside.near.len
    (c.copy_from_slice-3.auto.self ∙ ap length c.as_mut_slice-3.ensures.value ∙ sym c.self.inside.near.ok.0)
    ∙ c.copy_from_slice-3.ensures.after ∙ c.as_slice-3.ensures.value in
    let erows = c.copy_from.ensures.same in
    let ebounds =
    written_back c.copy_from_slice-4.new.self c.self.inside.bounds.items c.self.inside.bounds.len
    (c.copy_from_slice-4.auto.self ∙ ap length c.as_mut_slice-4.ensures.value ∙ sym c.self.inside.bounds.ok.0)
    ∙ c.copy_from_slice-4.ensures.after ∙ c.as_slice-4.ensures.value in
    copied_sound g.E.Entry.top g.E.Entry.top c.self.inside.columns c.other.inside.columns
    (take c.self.inside.basis.len
    (c.copy_from_slice.new.self ++ drop (length c.copy_from_slice.new.self) c.self.inside.basis.items))
    c.other.inside.basis.items
    (take c.self.inside.places.len
    (c.copy_from_slice-2.new.self ++ drop (length c.copy_from_slice-2.new.self) c.self.inside.places.items))
    c.other.inside.places.items
    (take c.self.inside.near.len
    (c.copy_from_slice-3.new.self ++ drop (length c.copy_from_slice-3.new.self) c.self.inside.near.items))
    c.other.inside.near.items
    c.copy_from.new.self c.other.inside.rows
    (take c.self.inside.bounds.len
    (c.copy_from_slice-4.new.self ++ drop (length c.copy_from_slice-4.new.self) c.self.inside.bounds.items))
    c.other.inside.bounds.items
    (length c.self.inside.pivot_row.entries) (length c.other.inside.pivot_row.entries) el en ebasis eplaces enear erows
    ebounds
    (c.self.invariant.workspace_is ∙ ap (λ k. k + 4) en ∙ sym c.other.invariant.workspace_is) c.other.invariant
