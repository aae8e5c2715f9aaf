-- The terms of an entry, read one after the other, make a polynomial.
use Rattle.std.proofs.Common.{◌≡◌, ℕ, ◌+◌, ◌≤◌, ◌<◌, ◌^◌, Bool, true, false, List, [], ◌∷◌, ◌++◌, length, Option, Some, None, Ok, Err, refl, sym, ap, ◌∙◌, append_assoc, append-nil, length-append, add-zero, zero-add, arith}
use Rattle.std.specs.Prelude.{ℤ, pos, unsigned_abs, nat_le, bit_or, count_ones, not, nat_lt}
use Rattle.std.proofs.lemmas.Bool.{le-leb}
use Rattle.std.proofs.Math.Nat.{pow-le-pow_right}
use Rattle.std.proofs.lemmas.List.Elements.{All-from_recursion}
use Rattle.std.specs.List.{AllByRecursion}
use Rattle.lift_poly.specs.Polynomial.{Term}
use Rattle.lift_poly.specs.MultiAffine.{IsMultiAffine}
use Rattle.lift_model.specs.Valid.{coefficient_limit}
use Rattle.corner_lift.specs.Case.{most_row_parameters}
use Rattle.std.specs.Ordering.{int_eq}
use Rattle.line_text.specs.declared.error.TextCause.{TextCause}
use Rattle.line_text.specs.declared.error.TextCause.TheVariants.{Syntax, Limit}
use Rattle.line_text.specs.Words.{pair_of}
use Rattle.line_text.specs.Reading.{◌>>=◌}
use Rattle.line_text.specs.Parts.{Words, Read, must, each, between, is_above}
use Rattle.line_text.specs.Shown.{first_of, is_none_left}
use Rattle.cert_text.specs.Lines.{most_terms, terms_in}
use Rattle.cert_text.specs.Shown.{next_term, term_first, terms_of, term_in}
use Rattle.cert_text.proofs.LineLoops.{first_map, first_shorter, map_none, each_first, each_none, each_end, regroup, then_same, same_read}
use Rattle.cert_text.proofs.FirstLines.{reads_terms, AreTerms}
use Rattle.cert_text.proofs.ModelOf.{polynomial_of, all_low, all_small}

all_under : (f : Term → ℕ) (low high : ℕ) (terms : List Term) → low ≤ high → AllByRecursion (λ term. f term < low) terms → AllByRecursion (λ term. f term < high) terms
all_under f low high [] h a = tt
all_under f low high (t ∷ terms) h a = (omega (arith, h, a.0), all_under f low high terms h a.1)

are_terms : (parameters : ℕ) (zs : List (ℤ × ℤ)) (terms : List Term) → parameters ≤ 16 → terms_in parameters 0 None zs ≡ Ok terms → IsMultiAffine terms
are_terms parameters zs terms few e =
    let h : AreTerms parameters 0 0 terms = ((reads_terms parameters 0 None zs).takes terms e).1 in
    let top : 2 ^ parameters ≤ 2 ^ 16 = pow-le-pow_right {n = 2} (omega arith) few in
    record {
      polynomial = polynomial_of parameters terms h;
      sets = All-from_recursion (λ term. term.0 < 2 ^ 16) terms (all_under (λ term. term.0) (2 ^ parameters) (2 ^ 16) terms top (all_low parameters 0 0 terms h));
      sizes = All-from_recursion (λ term. unsigned_abs term.1 < 2 ^ 125) terms (all_under (λ term. unsigned_abs term.1) (2 ^ 100) (2 ^ 125) terms (omega arith) (all_small parameters 0 0 terms h));
    }

-- what words write makes a polynomial
pub read_terms : (parameters : ℕ) (ws : Words) (terms : List Term) → parameters ≤ 16 → terms_of parameters ws ≡ Ok (Ok terms) → IsMultiAffine terms
read_terms parameters ws terms few e = by_pairs (each (pair_of 58) ws) e
  where
    by_size : (b : Bool) (zs : List (ℤ × ℤ)) → ◌≡◌ {A = Read (Read (List Term))} (must b Syntax >>= λ _. Ok (terms_in parameters 0 None zs)) (Ok (Ok terms)) → IsMultiAffine terms
    by_size true zs e = are_terms parameters zs terms few cc
    by_size false zs e = absurd cc

    by_pairs : (r : Read (List (ℤ × ℤ))) → ◌≡◌ {A = Read (Read (List Term))} (r >>= λ zs. must (nat_le (length zs) most_terms) Syntax >>= λ _. Ok (terms_in parameters 0 None zs)) (Ok (Ok terms)) → IsMultiAffine terms
    by_pairs (Ok zs) e = by_size (nat_le (length zs) most_terms) zs e
    by_pairs (Err f) e = absurd cc

-- ---- term by term

-- what is made of pairs behind terms that were read, or behind a fault
pub kept : Option TextCause → List Term → ℕ → ℕ → Option ℕ → List (ℤ × ℤ) → Read (List Term)
kept (Some cause) done parameters seen before zs = Err cause
kept None done parameters seen before zs = terms_in parameters seen before zs >>= λ ts. Ok (done ++ ts)

-- what is made of few pairs in all
abbrev few_in : Option TextCause → List Term → ℕ → ℕ → Option ℕ → List (ℤ × ℤ) → Read (Read (List Term))
few_in fault done parameters seen before zs = must (nat_le (length done + length zs) most_terms) Syntax >>= λ _. Ok (kept fault done parameters seen before zs)

-- what is made of words that are left
abbrev pub terms_left : Option TextCause → List Term → ℕ → ℕ → Option ℕ → Words → Read (Read (List Term))
terms_left fault done parameters seen before ws = each (pair_of 58) ws >>= few_in fault done parameters seen before

pub terms_begin : (parameters : ℕ) (ws : Words) → terms_left None [] parameters 0 None ws ≡ terms_of parameters ws
unfolding kept
terms_begin parameters ws = then_same (each (pair_of 58) ws) (few_in None [] parameters 0 None) (λ zs. must (nat_le (length zs) most_terms) Syntax >>= λ _. Ok (terms_in parameters 0 None zs)) (λ zs. rw (zero-add (length zs), same_read (terms_in parameters 0 None zs)) refl)

-- one term, and those behind it
one_term : (parameters seen : ℕ) (before : Option ℕ) (z : ℤ × ℤ) (zs : List (ℤ × ℤ)) → terms_in parameters seen before (z ∷ zs) ≡ (term_in parameters seen before z >>= λ t. terms_in parameters (bit_or seen t.0) (Some t.0) zs >>= λ ts. Ok (t ∷ ts))
one_term parameters seen before z zs = by_above (is_above before z.0)
  where
    by_size : (b : Bool) (set : ℕ) → ◌≡◌ {A = Read (List Term)} (must b Limit >>= λ _. terms_in parameters (bit_or seen set) (Some set) zs >>= λ rest. Ok ((set, z.1) ∷ rest)) ((must b Limit >>= λ _. Ok z.1) >>= λ c. terms_in parameters (bit_or seen set) (Some set) zs >>= λ ts. Ok ((set, c) ∷ ts))
    by_size true set = refl
    by_size false set = refl

    by_zero : (b : Bool) (set : ℕ) → ◌≡◌ {A = Read (List Term)} (must b Syntax >>= λ _. must (nat_lt (unsigned_abs z.1) coefficient_limit) Limit >>= λ _. terms_in parameters (bit_or seen set) (Some set) zs >>= λ rest. Ok ((set, z.1) ∷ rest)) (((must b Syntax >>= λ _. must (nat_lt (unsigned_abs z.1) coefficient_limit) Limit >>= λ _. Ok z.1) >>= λ c. Ok (set, c)) >>= λ t. terms_in parameters (bit_or seen t.0) (Some t.0) zs >>= λ ts. Ok (t ∷ ts))
    by_zero false set = refl
    by_zero true set = by_limit (nat_lt (unsigned_abs z.1) coefficient_limit)
      where
        by_limit : (b : Bool) → ◌≡◌ {A = Read (List Term)} (must b Limit >>= λ _. terms_in parameters (bit_or seen set) (Some set) zs >>= λ rest. Ok ((set, z.1) ∷ rest)) (((must b Limit >>= λ _. Ok z.1) >>= λ c. Ok (set, c)) >>= λ t. terms_in parameters (bit_or seen t.0) (Some t.0) zs >>= λ ts. Ok (t ∷ ts))
        by_limit true = refl
        by_limit false = refl

    by_few : (b : Bool) (set : ℕ) → ◌≡◌ {A = Read (List Term)} (must b Limit >>= λ _. must (not (int_eq z.1 (pos 0))) Syntax >>= λ _. must (nat_lt (unsigned_abs z.1) coefficient_limit) Limit >>= λ _. terms_in parameters (bit_or seen set) (Some set) zs >>= λ rest. Ok ((set, z.1) ∷ rest)) (((must b Limit >>= λ _. Ok set) >>= λ s. (must (not (int_eq z.1 (pos 0))) Syntax >>= λ _. must (nat_lt (unsigned_abs z.1) coefficient_limit) Limit >>= λ _. Ok z.1) >>= λ c. Ok (s, c)) >>= λ t. terms_in parameters (bit_or seen t.0) (Some t.0) zs >>= λ ts. Ok (t ∷ ts))
    by_few false set = refl
    by_few true set = by_zero (not (int_eq z.1 (pos 0))) set

    by_set : (r : Read ℕ) → ◌≡◌ {A = Read (List Term)} (r >>= λ set. must (nat_le (count_ones (bit_or seen set)) most_row_parameters) Limit >>= λ _. must (not (int_eq z.1 (pos 0))) Syntax >>= λ _. must (nat_lt (unsigned_abs z.1) coefficient_limit) Limit >>= λ _. terms_in parameters (bit_or seen set) (Some set) zs >>= λ rest. Ok ((set, z.1) ∷ rest)) (((r >>= λ set. must (nat_le (count_ones (bit_or seen set)) most_row_parameters) Limit >>= λ _. Ok set) >>= λ s. (must (not (int_eq z.1 (pos 0))) Syntax >>= λ _. must (nat_lt (unsigned_abs z.1) coefficient_limit) Limit >>= λ _. Ok z.1) >>= λ c. Ok (s, c)) >>= λ t. terms_in parameters (bit_or seen t.0) (Some t.0) zs >>= λ ts. Ok (t ∷ ts))
    by_set (Err e) = refl
    by_set (Ok set) = by_few (nat_le (count_ones (bit_or seen set)) most_row_parameters) set

    by_above : (b : Bool) → ◌≡◌ {A = Read (List Term)} (must b Syntax >>= λ _. between 0 (2 ^ parameters) z.0 >>= λ set. must (nat_le (count_ones (bit_or seen set)) most_row_parameters) Limit >>= λ _. must (not (int_eq z.1 (pos 0))) Syntax >>= λ _. must (nat_lt (unsigned_abs z.1) coefficient_limit) Limit >>= λ _. terms_in parameters (bit_or seen set) (Some set) zs >>= λ rest. Ok ((set, z.1) ∷ rest)) (((must b Syntax >>= λ _. between 0 (2 ^ parameters) z.0 >>= λ set. must (nat_le (count_ones (bit_or seen set)) most_row_parameters) Limit >>= λ _. Ok set) >>= λ s. (must (not (int_eq z.1 (pos 0))) Syntax >>= λ _. must (nat_lt (unsigned_abs z.1) coefficient_limit) Limit >>= λ _. Ok z.1) >>= λ c. Ok (s, c)) >>= λ t. terms_in parameters (bit_or seen t.0) (Some t.0) zs >>= λ ts. Ok (t ∷ ts))
    by_above false = refl
    by_above true = by_set (between 0 (2 ^ parameters) z.0)

more_kept : (r : Read (List Term)) (done : List Term) (t : Term) → ((r >>= λ ts. Ok (t ∷ ts)) >>= λ ts. Ok (done ++ ts)) ≡ (r >>= λ ts. Ok ((done ++ t ∷ []) ++ ts))
more_kept (Ok ts) done t = ap (λ all. Ok all) (sym (append_assoc done (t ∷ []) ts))
more_kept (Err e) done t = refl

kept_more : (fault : Option TextCause) (done : List Term) (parameters seen : ℕ) (before : Option ℕ) (z : ℤ × ℤ) (t : Term) (zs : List (ℤ × ℤ)) → next_term fault parameters seen before z ≡ Ok t → kept fault done parameters seen before (z ∷ zs) ≡ kept fault (done ++ t ∷ []) parameters (bit_or seen t.0) (Some t.0) zs
unfolding kept
kept_more (Some cause) done parameters seen before z t zs e = absurd cc
kept_more None done parameters seen before z t zs e =
    ap (λ r. r >>= λ ts. Ok (done ++ ts)) (one_term parameters seen before z zs ∙ ap (λ r. r >>= λ t. terms_in parameters (bit_or seen t.0) (Some t.0) zs >>= λ ts. Ok (t ∷ ts)) e)
    ∙ more_kept (terms_in parameters (bit_or seen t.0) (Some t.0) zs) done t

kept_fault : (fault : Option TextCause) (done now : List Term) (parameters seen : ℕ) (before : Option ℕ) (z : ℤ × ℤ) (cause : TextCause) (zs : List (ℤ × ℤ)) → next_term fault parameters seen before z ≡ Err cause → kept fault done parameters seen before (z ∷ zs) ≡ kept (Some cause) now parameters seen before zs
unfolding kept
kept_fault (Some other) done now parameters seen before z cause zs e = cc
kept_fault None done now parameters seen before z cause zs e = ap (λ r. r >>= λ ts. Ok (done ++ ts)) (one_term parameters seen before z zs ∙ ap (λ r. r >>= λ t. terms_in parameters (bit_or seen t.0) (Some t.0) zs >>= λ ts. Ok (t ∷ ts)) e)

sizes : (done : List Term) (t : Term) (zs : List (ℤ × ℤ)) (z : ℤ × ℤ) → length done + length (z ∷ zs) ≡ length (done ++ t ∷ []) + length zs
sizes done t zs z = omega (arith, length-append done (t ∷ []))

terms_go : (fault : Option TextCause) (done : List Term) (parameters seen : ℕ) (before : Option ℕ) (z : ℤ × ℤ) (t : Term) (rest behind : Words) → first_of (pair_of 58) rest ≡ Some (z, behind) → next_term fault parameters seen before z ≡ Ok t → terms_left fault done parameters seen before rest ≡ terms_left fault (done ++ t ∷ []) parameters (bit_or seen t.0) (Some t.0) behind
terms_go fault done parameters seen before z t rest behind e is =
    ap (λ r. r >>= few_in fault done parameters seen before) (each_first (pair_of 58) rest behind z e)
    ∙ regroup (each (pair_of 58) behind) z (few_in fault done parameters seen before) (few_in fault (done ++ t ∷ []) parameters (bit_or seen t.0) (Some t.0)) (λ zs. rw (sizes done t zs z, kept_more fault done parameters seen before z t zs is) refl)

terms_fail : (fault : Option TextCause) (done : List Term) (parameters seen : ℕ) (before : Option ℕ) (z : ℤ × ℤ) (t : Term) (cause : TextCause) (rest behind : Words) → first_of (pair_of 58) rest ≡ Some (z, behind) → next_term fault parameters seen before z ≡ Err cause → terms_left fault done parameters seen before rest ≡ terms_left (Some cause) (done ++ t ∷ []) parameters seen before behind
terms_fail fault done parameters seen before z t cause rest behind e is =
    ap (λ r. r >>= few_in fault done parameters seen before) (each_first (pair_of 58) rest behind z e)
    ∙ regroup (each (pair_of 58) behind) z (few_in fault done parameters seen before) (few_in (Some cause) (done ++ t ∷ []) parameters seen before) (λ zs. rw (sizes done t zs z, kept_fault fault done (done ++ t ∷ []) parameters seen before z cause zs is) refl)

pub term_goes : (fault : Option TextCause) (done : List Term) (parameters seen : ℕ) (before : Option ℕ) (t : Term) (rest behind : Words) → term_first fault parameters seen before rest ≡ Some (Ok t, behind) → terms_left fault done parameters seen before rest ≡ terms_left fault (done ++ t ∷ []) parameters (bit_or seen t.0) (Some t.0) behind
term_goes fault done parameters seen before t rest behind e =
    let one = first_map (next_term fault parameters seen before) (first_of (pair_of 58) rest) (Ok t) behind e in
    terms_go fault done parameters seen before one.0 t rest behind one.1 one.2

pub term_fails : (fault : Option TextCause) (done : List Term) (parameters seen : ℕ) (before : Option ℕ) (t : Term) (cause : TextCause) (rest behind : Words) → term_first fault parameters seen before rest ≡ Some (Err cause, behind) → terms_left fault done parameters seen before rest ≡ terms_left (Some cause) (done ++ t ∷ []) parameters seen before behind
term_fails fault done parameters seen before t cause rest behind e =
    let one = first_map (next_term fault parameters seen before) (first_of (pair_of 58) rest) (Err cause) behind e in
    terms_fail fault done parameters seen before one.0 t cause rest behind one.1 one.2

pub term_shorter : (fault : Option TextCause) (parameters seen : ℕ) (before : Option ℕ) (read : Read Term) (rest behind : Words) → term_first fault parameters seen before rest ≡ Some (read, behind) → length behind < length rest
term_shorter fault parameters seen before read rest behind e =
    let one = first_map (next_term fault parameters seen before) (first_of (pair_of 58) rest) read behind e in
    first_shorter (pair_of 58) rest behind one.0 one.1

pub terms_none : (fault : Option TextCause) (done : List Term) (parameters seen : ℕ) (before : Option ℕ) (rest : Words) → term_first fault parameters seen before rest ≡ None → is_none_left rest ≡ false → terms_left fault done parameters seen before rest ≡ Err Syntax
terms_none fault done parameters seen before rest e some = ap (λ r. r >>= few_in fault done parameters seen before) (each_none (pair_of 58) rest (map_none (next_term fault parameters seen before) (first_of (pair_of 58) rest) e) some)

-- what was read, or the fault
abbrev pub verdict : Option TextCause → List Term → Read (List Term)
verdict None done = Ok done
verdict (Some cause) done = Err cause

pub terms_end : (fault : Option TextCause) (done : List Term) (parameters seen : ℕ) (before : Option ℕ) (rest : Words) → is_none_left rest ≡ true → terms_left fault done parameters seen before rest ≡ (must (nat_le (length done) most_terms) Syntax >>= λ _. Ok (verdict fault done))
unfolding kept
terms_end fault done parameters seen before rest e = ap (λ r. r >>= few_in fault done parameters seen before) (each_end (pair_of 58) rest e) ∙ rw (add-zero (length done), by_fault fault) refl
  where
    by_fault : (fault : Option TextCause) → kept fault done parameters seen before [] ≡ verdict fault done
    by_fault None = ap (λ ts. Ok ts) (append-nil done)
    by_fault (Some cause) = refl

pub terms_whole : (fault : Option TextCause) (done : List Term) (parameters seen : ℕ) (before : Option ℕ) (rest : Words) → is_none_left rest ≡ true → length done ≤ 16 → terms_left fault done parameters seen before rest ≡ Ok (verdict fault done)
terms_whole fault done parameters seen before rest e few = terms_end fault done parameters seen before rest e ∙ ap (λ b. must b Syntax >>= λ _. Ok (verdict fault done)) (le-leb (length done) most_terms few)
