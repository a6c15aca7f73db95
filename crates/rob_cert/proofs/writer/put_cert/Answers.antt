use Rattle.std.proofs.Common.{◌∷◌, [], map, ◌++◌, ap, sym, ◌∙◌}
use Rattle.std.proofs.lemmas.Result.{on_ok_weaker}
use Rattle.rob_cert.proofs.Writing.WriterLemmas.{nine, pieces_text}
use Rattle.rob_cert.specs.declared.kind.Multipliers.TheVariants.{Covers, Holds}
use Rattle.rob_cert.specs.declared.kind.Vector.TheVariants.{Inside, Plan, Move}
use Rattle.rob_cert.specs.Lines.{bound_lines, cover_lines, entry_lines, item_lines, status_line, end_line}
use Rattle.rob_cert.specs.Spelling.{line_text, lines_text}
use Rattle.rob_cert.specs.NamesView.{naming}
use Rattle.rob_cert.specs.View.{certificate_of, cover_of, item_of}
use Rattle.rob_cert.proofs.writer.put_cert.Goals as goal

pub returns : goal.returns
returns g c =
    let names = naming c.args.names.now in
    let d = certificate_of g.N.Exact.value c.args.cert.now in
    let text = lines_text names in
    let a = bound_lines d.status d.value d.scale in
    let b = entry_lines Inside 0 d.inside in
    let p = entry_lines Plan 0 d.plan in
    let m = entry_lines Move 0 (d.step ++ d.step_bound ∷ []) in
    let e = cover_lines Covers d.covers in
    let f = cover_lines Holds d.holds in
    let i = item_lines d.items in
    let value = g.N.Exact.value in
    record {
      appended = on_ok_weaker c.put_end.result
          (λ last. nine c.args.out.now _ _ _ _ _ _ _ _ _ (line_text names (status_line d.status)) (text a) (text b)
          (text p) (text m) (text e) (text f) (text i) (text (end_line ∷ []))
          (c.in_ok-put_status.ensures.appended names) (c.in_ok-put_bounds.ensures.appended names)
          (c.in_ok-put_entries.ensures.appended
          ∙ ap (λ xs. c.put_bounds.new.out ++ text (entry_lines Inside 0 (map value xs))) c.items.ensures.list)
          (c.in_ok-put_entries-2.ensures.appended
          ∙ ap (λ xs. c.put_entries.new.out ++ text (entry_lines Plan 0 (map value xs))) c.items-2.ensures.list)
          (c.in_ok-put_move.ensures.appended
          ∙ ap (λ xs. c.put_entries-2.new.out ++ text (entry_lines Move 0 (map value xs ++ d.step_bound ∷ [])))
          c.items-3.ensures.list)
          (c.in_ok-put_covers.ensures.appended
          ∙ ap (λ xs. c.put_move.new.out ++ text (cover_lines Covers (map (cover_of value) xs)))
          c.items-4.ensures.list)
          (c.in_ok-put_covers-2.ensures.appended
          ∙ ap (λ xs. c.put_covers.new.out ++ text (cover_lines Holds (map (cover_of value) xs)))
          c.items-5.ensures.list)
          (c.in_ok-put_items.ensures.appended
          ∙ ap (λ xs. c.put_covers-2.new.out ++ text (item_lines (map (item_of value) xs))) c.items-6.ensures.list)
          last
          ∙ ap (λ t. c.args.out.now ++ t)
          (sym (pieces_text names (status_line d.status) a b p m e f i (end_line ∷ []))))
          (c.put_end.ensures.appended names);
    }
