use Rattle.std.proofs.Common.{◌≡◌, ℕ, ◌+◌, ◌<◌, List, ◌∷◌, [], ◌++◌, length, take, get_or, sym, ap, ◌∙◌, append_assoc}
use Rattle.std.specs.List.{flat_map}
use Rattle.std.proofs.lemmas.List.{take_more, take_all, flat_map_more}
use Rattle.lift_model.specs.declared.entry.Entry.{Entry}
use Rattle.lift_lump.specs.Comparing.{target_text, poly_text, entry_text, row_text}
use Rattle.lift_lump.proofs.texts.text_of.Goals as goal

more : (text with_target new : List ℕ) (row : List Entry) (i : ℕ) (entry : Entry) → i < length row → get_or row i entry ≡ entry → text ≡ flat_map entry_text (take i row) → with_target ≡ text ++ target_text entry.target → new ≡ with_target ++ poly_text entry.poly → new ≡ flat_map entry_text (take (i + 1) row)
unfolding entry_text
more text with_target new row i entry lt is e f g =
    g ∙ ap (λ (xs : List ℕ). xs ++ poly_text entry.poly) f
    ∙ append_assoc text (target_text entry.target) (poly_text entry.poly)
    ∙ ap (λ (xs : List ℕ). xs ++ (target_text entry.target ++ poly_text entry.poly)) e
    ∙ flat_map_more entry_text [] (take i row) entry
    ∙ ap (flat_map entry_text) (ap (λ (x : Entry). take i row ++ x ∷ []) (sym is) ∙ sym (take_more row i entry lt))

whole : (text : List ℕ) (row : List Entry) → text ≡ flat_map entry_text row → text ≡ row_text row
unfolding row_text
whole text row e = e

pub loop-entry-init : goal.loop-entry-init
loop-entry-init c = c.new-text.ensures.items

pub loop-entry-preserved : goal.loop-entry-preserved
loop-entry-preserved c =
    let entry = c.entry-item.result in
    more c.loop-entry.text.items c.add_target.new.text.items c.add_poly.new.text.items c.args.row.now c.loop-entry.entry-index entry c.loop-entry-test.true (sym c.entry-item.is) c.loop-entry.invariant c.in_ok-add_target.ensures
    (c.in_ok-add_poly.ensures ∙ ap (λ p. c.add_target.new.text.items ++ poly_text p) c.deref.ensures)

pub returns : goal.returns
returns c = whole c.loop-entry.text.items c.args.row.now (c.loop-entry.invariant ∙ ap (flat_map entry_text) (take_all c.loop-entry.entry-index c.args.row.now c.loop-entry-test.false))
