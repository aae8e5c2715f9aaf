-- What the parts of a line say, both ways.
use Rattle.std.proofs.Common.{◌≡◌, ℕ, ◌^◌, ◌<◌, ◌≤◌, ◌&&◌, List, [], ◌∷◌, map, Ok, Option, Some, refl, sym, ap, subst, ◌∙◌, arith}
use Rattle.std.specs.Prelude.{ℤ, pos, negsuc, nat_lt, nat_le, unsigned_abs}
use Rattle.std.specs.List.{AllZip, AllByRecursion}
use Rattle.std.specs.Str.{bytes_eq}
use Rattle.std.specs.Fmt.{signed_decimal}
use Rattle.std.specs.Bool.{Decides}
use Rattle.std.proofs.lemmas.Bool.Decides.{Decides-and}
use Rattle.std.proofs.lemmas.Slice.Eq.{bytes_eq-Decides}
use Rattle.std.proofs.lemmas.Bool.{leb-true, ltb-true, le-leb, lt-ltb}
use Rattle.line_text.specs.declared.error.TextCause.TheVariants.{Syntax, Limit}
use Rattle.cert_text.specs.Report.{number_words, numbers_words}
use Rattle.line_text.specs.Words.{number_of}
use Rattle.line_text.specs.Reading.{◌>>=◌}
use Rattle.line_text.specs.Parts.{Words, Read, spelled, keyed, single, each, numbers_of, between, number_in}
use Rattle.cert_text.proofs.Steps.{Reads, Both, ok_is, reads_ok, reads_spelled, reads_single, reads_so, reads_pass, reads_test}
use Rattle.cert_text.proofs.Decimals.{number_back, number_again}

-- ---- words and numbers

pub reads_keyed : (key : List ℕ) (ws : Words) → Reads (λ rest. ws ≡ key ∷ rest) (keyed key ws)
reads_keyed key [] = record { takes = λ x e. absurd cc; again = λ x e. absurd cc }
reads_keyed key (w ∷ ws) =
    reads_so (reads_test (bytes_eq w key) Syntax (bytes_eq-Decides w key) (λ _. reads_ok ws)) (λ rest. w ∷ ws ≡ key ∷ rest)
    (λ rest t. ap (λ z. z ∷ ws) t.0 ∙ ap (λ z. key ∷ z) t.1)
    (λ rest e. (cc, cc))

abbrev pub Writes : {A : Type 0} → (List ℕ → Option A) → Words → List A → Type 0
Writes of ws xs = AllZip (λ w x. of w ≡ Some x) ws xs

one_more : {A : Type 0} (of : List ℕ → Option A) (w : List ℕ) (ws : Words) (r : Read (List A)) → Reads (λ xs. Writes of ws xs) r → Reads (λ xs. Writes of (w ∷ ws) xs) (spelled (of w) >>= λ x. r >>= λ xs. Ok (x ∷ xs))
one_more {A} of w ws r h =
    reads_so (reads_pass (reads_spelled (of w)) (λ x _. reads_pass h (λ xs _. reads_ok (x ∷ xs)))) (λ xs. Writes of (w ∷ ws) xs)
    (λ xs t. subst (λ ys. Writes of (w ∷ ws) ys) t.2.2 (t.1, t.2.1))
    (λ xs g. back xs g)
  where
    back : (xs : List A) → Writes of (w ∷ ws) xs → Both (λ (x : A). of w ≡ Some x) (λ x. Both (λ (ys : List A). Writes of ws ys) (λ ys zs. x ∷ ys ≡ zs)) xs
    back [] g = absurd g
    back (x ∷ xs) g = (x, g.0, (xs, g.1, refl))

none_more : {A : Type 0} (of : List ℕ → Option A) (xs : List A) → Writes of [] xs → ◌≡◌ {A = Read (List A)} (Ok []) (Ok xs)
none_more of [] h = refl
none_more of (x ∷ xs) h = absurd h

pub reads_each : {A : Type 0} (of : List ℕ → Option A) (ws : Words) → Reads (λ xs. Writes of ws xs) (each of ws)
reads_each of [] = record { takes = λ xs e. subst (λ ys. Writes of [] ys) (ok_is [] xs e) tt; again = λ xs h. none_more of xs h }
reads_each of (w ∷ ws) = one_more of w ws (each of ws) (reads_each of ws)

pub reads_numbers : (key : List ℕ) (ws : Words) → Reads (λ zs. (rest : Words) × (ws ≡ key ∷ rest) × Writes number_of rest zs) (numbers_of key ws)
reads_numbers key ws = reads_pass (reads_keyed key ws) (λ rest _. reads_each number_of rest)

-- numbers that aren't too large are written by their decimal texts
abbrev pub IsSmall : ℤ → Type 0
IsSmall z = unsigned_abs z < 10 ^ 64

pub numbers_back : (ws : Words) (zs : List ℤ) → Writes number_of ws zs → AllByRecursion IsSmall zs → ws ≡ map signed_decimal zs
numbers_back [] [] h s = refl
numbers_back [] (z ∷ zs) h s = absurd h
numbers_back (w ∷ ws) [] h s = absurd h
numbers_back (w ∷ ws) (z ∷ zs) h s = ap (λ t. w ∷ t) (numbers_back ws zs h.1 s.1) ∙ ap (λ t. t ∷ map signed_decimal zs) (sym (number_back w z h.0 s.0))

pub numbers_again : (zs : List ℤ) → AllByRecursion IsSmall zs → Writes number_of (map signed_decimal zs) zs
numbers_again [] s = tt
numbers_again (z ∷ zs) s = (number_again z s.0, numbers_again zs s.1)

-- a word and numbers, where what is known of the numbers makes them small
pub reads_numbers_in : (key : List ℕ) (ws : Words) (P : List ℤ → Type 0) → ((zs : List ℤ) → P zs → AllByRecursion IsSmall zs) → {A : Type 0} {Q : List ℤ → A → Type 0} (f : List ℤ → Read A) → ((zs : List ℤ) → Reads (λ x. P zs × Q zs x) (f zs)) → Reads (λ x. (zs : List ℤ) × (ws ≡ numbers_words key zs) × P zs × Q zs x) (numbers_of key ws >>= f)
reads_numbers_in key ws P small {A} {Q} f h =
    reads_so (reads_pass (reads_numbers key ws) (λ zs _. h zs)) (λ x. (zs : List ℤ) × (ws ≡ numbers_words key zs) × P zs × Q zs x)
    (λ x t. (t.0, t.1.1 ∙ ap (λ rest. key ∷ rest) (numbers_back t.1.0 t.0 t.1.2 (small t.0 t.2.0)), t.2.0, t.2.1))
    (λ x t. (t.0, (map signed_decimal t.0, t.1, numbers_again t.0 (small t.0 t.2)), (t.2, t.3)))

-- ---- ranges

pub reads_between : (low end : ℕ) (z : ℤ) → Reads (λ n. (z ≡ pos n) × (low ≤ n) × (n < end)) (between low end z)
reads_between low end (pos n) =
    reads_so (reads_test (nat_le low n && nat_lt n end) Limit (decided low n end) (λ _. reads_ok n)) (λ m. (pos n ≡ pos m) × (low ≤ m) × (m < end))
    (λ m t. (ap pos t.1, omega (arith, t.1, t.0.0), omega (arith, t.1, t.0.1)))
    (λ m t. let same : n ≡ m = cc in ((omega arith, omega arith), same))
  where
    decided : (a b c : ℕ) → Decides (nat_le a b && nat_lt b c) ((a ≤ b) × (b < c))
    decided a b c = Decides-and (nat_le a b) (nat_lt b c) (leb-true a b, le-leb a b) (ltb-true b c, lt-ltb b c)
reads_between low end (negsuc n) = record { takes = λ x e. absurd cc; again = λ x t. let e : negsuc n ≡ pos x = t.0 in absurd cc }

-- a word and one number, where what is known of it makes it small
pub reads_one : {A : Type 0} {Q : ℤ → A → Type 0} (key : List ℕ) (ws : Words) (f : ℤ → Read A) → ((z : ℤ) (x : A) → Q z x → IsSmall z) → ((z : ℤ) → Reads (Q z) (f z)) → Reads (λ x. (z : ℤ) × (ws ≡ numbers_words key (z ∷ [])) × Q z x) (numbers_of key ws >>= single >>= f)
reads_one {A} {Q} key ws f small h =
    reads_so (reads_pass (reads_pass (reads_numbers key ws) (λ zs _. reads_single zs)) (λ z _. h z)) (λ x. (z : ℤ) × (ws ≡ numbers_words key (z ∷ [])) × Q z x)
    (λ x (z, (zs, (rest, is, writes), one), q).
    (z, is ∙ ap (λ t. key ∷ t) (numbers_back rest (z ∷ []) (subst (λ t. Writes number_of rest t) one writes) (small z x q, tt)), q))
    (λ x (z, is, q). (z, (z ∷ [], (signed_decimal z ∷ [], is, (number_again z (small z x q), tt)), refl), q))

pub reads_number_in : (key : List ℕ) (low end : ℕ) (ws : Words) → end ≤ 10 ^ 64 → Reads (λ n. (ws ≡ number_words key n) × (low ≤ n) × (n < end)) (number_in key low end ws)
reads_number_in key low end ws limit =
    reads_so (reads_one key ws (between low end) (λ z n q. small z n q.0 q.2) (reads_between low end)) (λ n. (ws ≡ number_words key n) × (low ≤ n) × (n < end))
    (λ n (z, is, q). (is ∙ ap (λ y. numbers_words key (y ∷ [])) q.0, q.1, q.2))
    (λ n (is, least, most). (pos n, is, (refl, least, most)))
  where
    small : (z : ℤ) (n : ℕ) → z ≡ pos n → n < end → IsSmall z
    small z n e h = subst IsSmall (sym e) (omega (arith, h, limit))
