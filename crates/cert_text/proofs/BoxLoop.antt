-- The spans of the root, one after the other.
use Rattle.std.proofs.Common.{◌≡◌, ℕ, ◌+◌, ◌*◌, ◌<◌, Bool, true, false, List, [], ◌∷◌, ◌++◌, length, take, drop, get_or, Ok, Err, refl, sym, ap, ap₂, subst, ◌∙◌, append_assoc, arith}
use Rattle.std.specs.Prelude.{ℤ, int_lt, nat_lt, unsigned_abs, ◌&&◌}
use Rattle.std.proofs.lemmas.List.{drop_more, take_more}
use Rattle.lift_frac.specs.Limits.{size_limit}
use Rattle.lift_grid.specs.Rectangle.{spans_of, AreSides}
use Rattle.line_text.specs.declared.error.TextCause.{TextCause}
use Rattle.line_text.specs.declared.error.TextCause.TheVariants.{Syntax, Limit}
use Rattle.line_text.specs.Reading.{◌>>=◌}
use Rattle.line_text.specs.Parts.{Read, must}
use Rattle.cert_text.specs.Lines.{spans_in, is_multiple}
use Rattle.cert_text.specs.Shown.{span_in, sides_in, root_in}
use Rattle.cert_text.proofs.LaterLines.{paired, reads_spans}
use Rattle.cert_text.proofs.HeadForms.{boxed_spans}

two_left : (zs : List ℤ) (i : ℕ) (x y : ℤ) → i + 1 < length zs → x ≡ get_or zs i x → y ≡ get_or zs (i + 1) y → drop i zs ≡ x ∷ y ∷ drop (i + 1 + 1) zs
two_left zs i x y h e f = drop_more zs i x (omega (arith, h)) ∙ ap₂ (λ z t. z ∷ t) (sym e) (drop_more zs (i + 1) y h ∙ ap (λ z. z ∷ drop (i + 1 + 1) zs) (sym f))

two_taken : (zs : List ℤ) (i : ℕ) (x y : ℤ) → i + 1 < length zs → x ≡ get_or zs i x → y ≡ get_or zs (i + 1) y → take (i + 1 + 1) zs ≡ take i zs ++ x ∷ y ∷ []
two_taken zs i x y h e f = take_more zs (i + 1) y h ∙ ap₂ (λ t z. t ++ z ∷ []) (take_more zs i x (omega (arith, h)) ∙ ap (λ z. take i zs ++ z ∷ []) (sym e)) (sym f) ∙ append_assoc (take i zs) (x ∷ []) (y ∷ [])

-- a span that is read is the one of its ends, and leaves the spans behind it
span_read : (n : ℕ) (low high : ℤ) (s : ℤ × ℤ) (zs : List ℤ) → span_in n low high ≡ Ok s → (s ≡ (low, high)) × (spans_in n (spans_of (low ∷ high ∷ zs)) ≡ spans_in n (spans_of zs))
span_read n low high s zs e = by_tests (int_lt low high) (is_multiple n low) (nat_lt (unsigned_abs low) size_limit) (is_multiple n high) (nat_lt (unsigned_abs high) size_limit) e
  where
    by_tests : (a b c d f : Bool) → (must a Syntax >>= λ _. (must b Syntax >>= λ _. must c Limit >>= λ _. Ok low) >>= λ x. (must d Syntax >>= λ _. must f Limit >>= λ _. Ok high) >>= λ y. Ok (x, y)) ≡ Ok s
        → (s ≡ (low, high)) × ((must (a && b) Syntax >>= λ _. must c Limit >>= λ _. must d Syntax >>= λ _. must f Limit >>= λ _. spans_in n (spans_of zs)) ≡ spans_in n (spans_of zs))
    by_tests true true true true true e = (cc, refl)
    by_tests true true true true false e = absurd cc
    by_tests true true true false f e = absurd cc
    by_tests true true false d f e = absurd cc
    by_tests true false c d f e = absurd cc
    by_tests false b c d f e = absurd cc

pub sides_go : (n i : ℕ) (zs done : List ℤ) (low high : ℤ) (s : ℤ × ℤ) → 2 * i + 1 < length zs → low ≡ get_or zs (2 * i) low → high ≡ get_or zs (2 * i + 1) high → span_in n low high ≡ Ok s → done ≡ take (2 * i) zs → spans_in n (spans_of zs) ≡ spans_in n (spans_of (drop (2 * i) zs))
    → (done ++ s.0 ∷ s.1 ∷ [] ≡ take (2 * (i + 1)) zs) × (spans_in n (spans_of zs) ≡ spans_in n (spans_of (drop (2 * (i + 1)) zs)))
sides_go n i zs done low high s h first second e kept same =
    let on : 2 * i + 1 + 1 ≡ 2 * (i + 1) = omega arith in
    let r = span_read n low high s (drop (2 * i + 1 + 1) zs) e in (
      ap₂ (λ t p. t ++ p.0 ∷ p.1 ∷ []) kept r.0 ∙ sym (two_taken zs (2 * i) low high h first second) ∙ ap (λ k. take k zs) on,
      same ∙ ap (λ t. spans_in n (spans_of t)) (two_left zs (2 * i) low high h first second) ∙ r.1 ∙ ap (λ k. spans_in n (spans_of (drop k zs))) on,
    )

-- ends that are read make a rectangle
are_read : (n : ℕ) (zs ss : List ℤ) → sides_in n zs ≡ Ok ss → (spans_in n (spans_of zs) ≡ Ok tt) × (zs ≡ ss)
are_read n zs ss e = by_read (spans_in n (spans_of zs)) e
  where
    by_read : (r : Read (Unit {0})) → (r >>= λ _. Ok zs) ≡ Ok ss → (r ≡ Ok tt) × (zs ≡ ss)
    by_read (Ok x) e = (refl, cc)
    by_read (Err f) e = absurd cc

pub are_sides : (n k : ℕ) (zs ss : List ℤ) → length zs ≡ 2 * k → sides_in n zs ≡ Ok ss → AreSides ss
are_sides n k zs ss size e =
    let r = are_read n zs ss e in
    subst AreSides r.1 (record { paired = (paired zs k size).0; spans = boxed_spans n (spans_of zs) ((reads_spans n (spans_of zs)).takes tt r.0) })

pub root_is : (n : ℕ) (zs ss : List ℤ) → sides_in n zs ≡ Ok ss → root_in n zs ≡ Ok (spans_of ss)
root_is n zs ss e = let r = are_read n zs ss e in ap (λ t. t >>= λ _. Ok (spans_of zs)) r.0 ∙ ap (λ t. Ok (spans_of t)) r.1

pub root_fails : (n : ℕ) (zs : List ℤ) (cause : TextCause) → sides_in n zs ≡ Err cause → root_in n zs ≡ Err cause
root_fails n zs cause e = by_read (spans_in n (spans_of zs)) e
  where
    by_read : (r : Read (Unit {0})) → (r >>= λ _. Ok zs) ≡ Err cause → (r >>= λ _. Ok (spans_of zs)) ≡ Err cause
    by_read (Ok x) e = absurd cc
    by_read (Err f) e = cc
