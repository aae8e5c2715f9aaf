use Rattle.std.proofs.Common.{◌≡◌, ℕ, ◌+◌, ◌<◌, ◌≤◌, List, ◌∷◌, [], ◌++◌, length, take, get_or, sym, ap, ◌∙◌, append_assoc, subst, FitsSigned, rules}
use Rattle.std.specs.Int.{w128}
use Rattle.std.proofs.lemmas.Int.{to_z-of_z}
use Rattle.std.proofs.lemmas.Option.{get_or_from_slice_get}
use Rattle.std.specs.List.{flat_map}
use Rattle.std.proofs.lemmas.List.{take_more, take_all, flat_map_more, append-nil}
use Rattle.lift_poly.specs.Polynomial.{Term}
use Rattle.lift_lump.specs.Comparing.{size_text, term_text, poly_text}
use Rattle.lift_lump.proofs.texts.add_poly.Goals as goal

more : (text head : List ℕ) (poly : List Term) (i : ℕ) (term : Term) → i < length poly → get_or poly i term ≡ term → text ≡ head ++ flat_map term_text (take i poly) → text ++ term_text term ≡ head ++ flat_map term_text (take (i + 1) poly)
more text head poly i term lt is e =
    ap (λ (xs : List ℕ). xs ++ term_text term) e
    ∙ flat_map_more term_text head (take i poly) term
    ∙ ap (λ (ts : List Term). head ++ flat_map term_text ts) (ap (λ (t : Term). take i poly ++ t ∷ []) (sym is) ∙ sym (take_more poly i term lt))

whole : (old text : List ℕ) (poly : List Term) → text ≡ (old ++ size_text (length poly)) ++ flat_map term_text poly → text ≡ old ++ poly_text poly
unfolding poly_text
whole old text poly e = e ∙ append_assoc old (size_text (length poly)) (flat_map term_text poly)

pub loop-index-init : goal.loop-index-init
loop-index-init c = c.in_ok-add_size.ensures ∙ ap (λ n. c.args.text.now.items ++ size_text n) c.len.ensures.value ∙ sym (append-nil (c.args.text.now.items ++ size_text (length c.args.poly.now)))

pub loop-index-preserved : goal.loop-index-preserved
loop-index-preserved c =
    let poly = c.args.poly.now in
    let term = c.term-set.result in
    let fits : FitsSigned w128 term.1 = search rules in
    let same = ap (λ z. c.loop-index.text.items ++ term_text (term.0, z)) (to_z-of_z w128 term.1 fits) in
    c.in_ok-add_term.ensures ∙ same ∙ more c.loop-index.text.items (c.args.text.now.items ++ size_text (length poly)) poly c.loop-index.index term (subst (λ n. c.loop-index.index < n) c.len-index-end.ensures.value c.loop-index-test.true)
    (get_or_from_slice_get poly c.loop-index.index term term c.term-set.ensures) c.loop-index.invariant

pub returns : goal.returns
returns c =
    let poly = c.args.poly.now in
    whole c.args.text.now.items c.loop-index.text.items poly (c.loop-index.invariant ∙ ap (λ (ts : List Term). (c.args.text.now.items ++ size_text (length poly)) ++ flat_map term_text ts) (take_all c.loop-index.index poly (subst (λ n. n ≤ c.loop-index.index) c.len-index-end.ensures.value c.loop-index-test.false)))
