-- The first piece of a text.
use Rattle.std.proofs.Common.{◌≡◌, ◌+◌, ◌-◌, ◌<◌, ◌≤◌, ℕ, zero, suc, Bool, true, false, refl, List, [], ◌∷◌, length, take, drop, sym, ◌∙◌, ap, cond, not, arith, one-add, get_or, length-drop, length-take-le}
use Rattle.std.proofs.lemmas.Grind.{common_steps}
use Rattle.std.proofs.lemmas.List.{take_rest}
use Rattle.std.specs.Prelude.{slice_range}
use Rattle.std.specs.List.{prefix_len, position_or_len, list_all, list_any}
use Rattle.lift_bytes.specs.Bytes.{is_blank}
use Rattle.drn_lexer.specs.Cutting.{Piece, pieces_behind}
use Rattle.drn_lexer.specs.Spans.{IsFirst}
use Rattle.drn_lexer.specs.Steps.{IsBehindBlanks}

-- ---- parts of lists

drop-none : {A : Type 0} (n : ℕ) → drop {A = A} n [] ≡ []
drop-none zero = refl
drop-none (suc n) = refl

pub drop-drop : {A : Type 0} (i j : ℕ) (xs : List A) → drop j (drop i xs) ≡ drop (i + j) xs
drop-drop zero j xs = ap (λ k. drop k xs) (omega arith)
drop-drop (suc i) j [] = drop-none j ∙ sym (drop-none (suc i + j))
drop-drop (suc i) j (x ∷ xs) = let e : suc i + j ≡ suc (i + j) = omega arith in drop-drop i j xs ∙ ap (λ k. drop k (x ∷ xs)) (sym e)

pub drop-take_less : {A : Type 0} (n m : ℕ) (xs : List A) → drop n (take m xs) ≡ take (m - n) (drop n xs)
drop-take_less zero m xs = ap (λ k. take k xs) (omega arith)
drop-take_less (suc n) zero xs = let e : zero - suc n ≡ 0 = omega arith in ap (λ k. take k (drop (suc n) xs)) (sym e)
drop-take_less (suc n) (suc m) [] = taken (suc m - suc n)
  where
    taken : {A : Type 0} (k : ℕ) → ◌≡◌ {A = List A} [] (take k [])
    taken zero = refl
    taken (suc k) = refl
drop-take_less (suc n) (suc m) (x ∷ xs) = let e : m - n ≡ suc m - suc n = omega arith in drop-take_less n m xs ∙ ap (λ k. take k (drop n xs)) e

pub take-take : {A : Type 0} (n m : ℕ) (xs : List A) → n ≤ m → take n (take m xs) ≡ take n xs
take-take zero m xs h = refl
take-take (suc n) zero xs h = absurd (omega arith)
take-take (suc n) (suc m) [] h = refl
take-take (suc n) (suc m) (x ∷ xs) h = ap (λ t. x ∷ t) (take-take n m xs (omega arith))

-- a part without its first n elements
pub range-drop : {A : Type 0} (n from to : ℕ) (xs : List A) → drop n (slice_range xs from to) ≡ slice_range xs (from + n) to
range-drop n from to xs =
    let e : to - from - n ≡ to - (from + n) = omega arith in
    drop-take_less n (to - from) (drop from xs) ∙ ap (take (to - from - n)) (drop-drop from n xs) ∙ ap (λ k. take k (drop (from + n) xs)) e

-- the first n elements of a part
pub range-take : {A : Type 0} (n from to : ℕ) (xs : List A) → from + n ≤ to → take n (slice_range xs from to) ≡ slice_range xs from (from + n)
range-take n from to xs h =
    let e : n ≡ from + n - from = omega arith in
    take-take n (to - from) (drop from xs) (omega arith) ∙ ap (λ k. take k (drop from xs)) e

pub length-range : {A : Type 0} (from to : ℕ) (xs : List A) → from ≤ to → to ≤ length xs → length (slice_range xs from to) ≡ to - from
length-range from to xs h g = length-take-le (to - from) (drop from xs) (omega (arith, length-drop from xs))

-- ---- fronts that pass a test

fails_step : {A : Type 0} (p : A → Bool) (x y : A) (xs ys : List A) (b : Bool) → p x ≡ b → (drop (prefix_len p xs) xs ≡ y ∷ ys → p y ≡ false)
    → drop (cond b (1 + prefix_len p xs) 0) (x ∷ xs) ≡ y ∷ ys → p y ≡ false
fails_step p x y xs ys true t more e = more (rw one-add at e)
fails_step p x y xs ys false t more e = let same : x ≡ y = cc in ap p (sym same) ∙ t

-- what stands behind the front begins with an element that doesn't pass
pub first_fails : {A : Type 0} (p : A → Bool) (xs ys : List A) (y : A) → drop (prefix_len p xs) xs ≡ y ∷ ys → p y ≡ false
first_fails p [] ys y e = cc
first_fails p (x ∷ xs) ys y e = fails_step p x y xs ys (p x) refl (first_fails p xs ys y) e

all_step : {A : Type 0} (p : A → Bool) (x : A) (xs : List A) (b : Bool) → p x ≡ b → (length (drop (prefix_len p xs) xs) < 1 → list_all p xs ≡ true)
    → length (drop (cond b (1 + prefix_len p xs) 0) (x ∷ xs)) < 1 → list_all p (x ∷ xs) ≡ true
all_step p x xs true t more h = rw t (more (rw one-add at h))
all_step p x xs false t more h = absurd (omega arith)

-- where nothing stands behind the front, all pass
pub all_pass : {A : Type 0} (p : A → Bool) (xs : List A) → length (drop (prefix_len p xs) xs) < 1 → list_all p xs ≡ true
all_pass p [] h = refl
all_pass p (x ∷ xs) h = all_step p x xs (p x) refl (all_pass p xs) h

none_step : {A : Type 0} (p : A → Bool) (x : A) (xs : List A) (b : Bool) → p x ≡ b → (list_all p xs ≡ true → length (drop (prefix_len p xs) xs) < 1)
    → list_all p (x ∷ xs) ≡ true → length (drop (cond b (1 + prefix_len p xs) 0) (x ∷ xs)) < 1
none_step p x xs true t more h = rw one-add (more (rw t at h))
none_step p x xs false t more h = let g : false ≡ true = rw t at h in cc

-- where all pass, nothing stands behind the front
pub none_behind : {A : Type 0} (p : A → Bool) (xs : List A) → list_all p xs ≡ true → length (drop (prefix_len p xs) xs) < 1
none_behind p [] h = omega arith
none_behind p (x ∷ xs) h = none_step p x xs (p x) refl (none_behind p xs) h

any_step : {A : Type 0} (p : A → Bool) (x : A) (xs : List A) (b : Bool) → p x ≡ b → (position_or_len p xs < length xs → list_any p xs ≡ true)
    → cond (not b) (1 + position_or_len p xs) 0 < length (x ∷ xs) → list_any p (x ∷ xs) ≡ true
any_step p x xs true t more h = rw t refl
any_step p x xs false t more h = rw t (more (omega arith))

-- an element passes where one stands behind those that don't
pub any_passes : {A : Type 0} (p : A → Bool) (xs : List A) → position_or_len p xs < length xs → list_any p xs ≡ true
any_passes p [] h = absurd (omega arith)
any_passes p (x ∷ xs) h = any_step p x xs (p x) refl (any_passes p xs) h

no_step : {A : Type 0} (p : A → Bool) (x : A) (xs : List A) (b : Bool) → p x ≡ b → (length xs ≤ position_or_len p xs → list_any p xs ≡ false)
    → length (x ∷ xs) ≤ cond (not b) (1 + position_or_len p xs) 0 → list_any p (x ∷ xs) ≡ false
no_step p x xs true t more h = absurd (omega arith)
no_step p x xs false t more h = rw t (more (omega arith))

-- and none where none does
pub none_passes : {A : Type 0} (p : A → Bool) (xs : List A) → length xs ≤ position_or_len p xs → list_any p xs ≡ false
none_passes p [] h = refl
none_passes p (x ∷ xs) h = no_step p x xs (p x) refl (none_passes p xs) h

-- ---- pieces

-- the pieces of a text by its first byte
by_first : {Form : Type 0} → (ℕ → List ℕ → ℕ × Form) → ℕ → List ℕ → Bool → List (Piece Form)
by_first front b tail true = pieces_behind front 0 tail
by_first front b tail false = record { form = (front b tail).1; bytes = b ∷ take (front b tail).0 tail } ∷ pieces_behind front (front b tail).0 tail

pieces-cons : {Form : Type 0} (front : ℕ → List ℕ → ℕ × Form) (b : ℕ) (tail : List ℕ) (c : Bool) → is_blank b ≡ c → pieces_behind front 0 (b ∷ tail) ≡ by_first front b tail c
unfolding pieces_behind by_first
pieces-cons front b tail c e = ap (by_first front b tail) e

-- n bytes fewer
skipped : {Form : Type 0} (front : ℕ → List ℕ → ℕ × Form) (n : ℕ) (text : List ℕ) → pieces_behind front n text ≡ pieces_behind front 0 (drop n text)
unfolding pieces_behind
skipped front zero [] = refl
skipped front (suc n) [] = refl
skipped front zero (b ∷ tail) = refl
skipped front (suc n) (b ∷ tail) = skipped front n tail

blanks_step : {Form : Type 0} (front : ℕ → List ℕ → ℕ × Form) (b : ℕ) (tail : List ℕ) (c : Bool) → is_blank b ≡ c
    → pieces_behind front 0 tail ≡ pieces_behind front 0 (drop (prefix_len is_blank tail) tail)
    → pieces_behind front 0 (b ∷ tail) ≡ pieces_behind front 0 (drop (cond c (1 + prefix_len is_blank tail) 0) (b ∷ tail))
unfolding by_first
blanks_step front b tail true e more = pieces-cons front b tail true e ∙ more ∙ rw one-add refl
blanks_step front b tail false e more = refl

-- blanks at the front are no piece
blanks : {Form : Type 0} (front : ℕ → List ℕ → ℕ × Form) (text : List ℕ) → pieces_behind front 0 text ≡ pieces_behind front 0 (drop (prefix_len is_blank text) text)
blanks front [] = refl
blanks front (b ∷ tail) = blanks_step front b tail (is_blank b) refl (blanks front tail)

-- the piece at a front that is no blank
at_front : {Form : Type 0} (front : ℕ → List ℕ → ℕ × Form) (b : ℕ) (tail : List ℕ) (n : ℕ) (form : Form) → is_blank b ≡ false → (n, form) ≡ front b tail
    → pieces_behind front 0 (b ∷ tail) ≡ record { form = form; bytes = b ∷ take n tail } ∷ pieces_behind front 0 (drop n tail)
unfolding by_first
at_front {Form} front b tail n form e f =
    pieces-cons front b tail false e
    ∙ ap (λ (r : ℕ × Form). let piece : Piece Form = record { form = r.1; bytes = b ∷ take r.0 tail } in piece ∷ pieces_behind front r.0 tail) (sym f)
    ∙ ap (λ (ps : List (Piece Form)). let piece : Piece Form = record { form = form; bytes = b ∷ take n tail } in piece ∷ ps) (skipped front n tail)

-- the first piece of a text is the one at the front behind the blanks
pub front_piece : {Form : Type 0} (front : ℕ → List ℕ → ℕ × Form) (text tail : List ℕ) (b n : ℕ) (form : Form) → drop (prefix_len is_blank text) text ≡ b ∷ tail → (n, form) ≡ front b tail
    → pieces_behind front 0 text ≡ record { form = form; bytes = b ∷ take n tail } ∷ pieces_behind front 0 (drop n tail)
front_piece front text tail b n form d f = blanks front text ∙ ap (pieces_behind front 0) d ∙ at_front front b tail n form (first_fails is_blank text tail b d) f

-- the same, its first byte counted
next_piece : {Form : Type 0} (front : ℕ → List ℕ → ℕ × Form) (rest behind tail : List ℕ) (b len : ℕ) (form : Form)
    → drop (prefix_len is_blank rest) rest ≡ behind → behind ≡ b ∷ tail → 0 < len → (len - 1, form) ≡ front b tail
    → pieces_behind front 0 rest ≡ record { form = form; bytes = take len behind } ∷ pieces_behind front 0 (drop len behind)
next_piece front rest behind tail b zero form d e pos f = absurd (omega arith)
next_piece {Form} front rest behind tail b (suc n) form d e pos f =
    let one : suc n - 1 ≡ n = omega arith in
    let same : (n, form) ≡ front b tail = ap (λ k. let r : ℕ × Form = (k, form) in r) (sym one) ∙ f in
    front_piece front rest tail b n form (d ∙ e) same
    ∙ ap (λ (t : List ℕ). let piece : Piece Form = record { form = form; bytes = take (suc n) t } in piece ∷ pieces_behind front 0 (drop (suc n) t)) (sym e)

empty_text : {Form : Type 0} (front : ℕ → List ℕ → ℕ × Form) (text : List ℕ) → length text < 1 → pieces_behind front 0 text ≡ []
unfolding pieces_behind
empty_text front [] h = refl
empty_text front (b ∷ tail) h = absurd (omega arith)

-- ---- pieces as spans, from what is found behind the blanks

-- what stands behind the blanks
pub behind_blanks : (text rest : List ℕ) (at to from : ℕ) → IsBehindBlanks text at to from rest → drop (prefix_len is_blank (slice_range text at to)) (slice_range text at to) ≡ rest
behind_blanks text rest at to from r =
    range-drop (prefix_len is_blank (slice_range text at to)) at to text ∙ ap (λ k. slice_range text k to) (sym r.from_is) ∙ sym r.rest_is

-- this is found by cutting off the blanks
pub blanks_cut : (text : List ℕ) (at to n : ℕ) → n ≡ prefix_len is_blank (slice_range text at to) → n ≤ length (slice_range text at to) → at ≤ to → to ≤ length text
    → IsBehindBlanks text at to (at + n) (take (length (slice_range text at to) - n) (drop n (slice_range text at to)))
blanks_cut text at to n count fits begins ends = record {
  from_is = ap (λ k. at + k) count;
  rest_is = take_rest (slice_range text at to) n ∙ range-drop n at to text;
  within = omega (arith, fits, length-range at to text begins ends);
  ends = ends;
}

-- where only blanks are left, there is no piece
pub no_front : {Form : Type 0} (front : ℕ → List ℕ → ℕ × Form) (text : List ℕ) → length (drop (prefix_len is_blank text) text) < 1 → pieces_behind front 0 text ≡ []
no_front front text short = blanks front text ∙ empty_text front (drop (prefix_len is_blank text) text) short

-- nothing is left: no piece, and only blanks
pub no_piece : {Form : Type 0} (front : ℕ → List ℕ → ℕ × Form) (text rest : List ℕ) (at to from : ℕ) → IsBehindBlanks text at to from rest → length rest < 1
    → pieces_behind front 0 (slice_range text at to) ≡ []
no_piece front text rest at to from r short =
    no_front front (slice_range text at to) (omega (arith, ap length (behind_blanks text rest at to from r), short))

pub only_blanks : (text rest : List ℕ) (at to from : ℕ) → IsBehindBlanks text at to from rest → length rest < 1 → list_all is_blank (slice_range text at to) ≡ true
only_blanks text rest at to from r short = all_pass is_blank (slice_range text at to) (omega (arith, ap length (behind_blanks text rest at to from r), short))

-- something is left
pub not_only_blanks : (text rest : List ℕ) (at to from : ℕ) → IsBehindBlanks text at to from rest → 1 ≤ length rest → list_all is_blank (slice_range text at to) ≡ true → ⊥
not_only_blanks text rest at to from r long all =
    omega (arith, ap length (behind_blanks text rest at to from r), long, none_behind is_blank (slice_range text at to) all)

pub first_and_rest : (text : List ℕ) → 1 ≤ length text → text ≡ get_or text 0 0 ∷ take (length text - 1) (drop 1 text)
first_and_rest text h = grind (arith, common_steps)

-- the first piece stands behind the blanks
pub first_is : {Form : Type 0} (front : ℕ → List ℕ → ℕ × Form) (text rest : List ℕ) (at to from len : ℕ) (form : Form)
    → IsBehindBlanks text at to from rest → 1 ≤ length rest → 0 < len → len ≤ length rest → (len - 1, form) ≡ front (get_or rest 0 0) (take (length rest - 1) (drop 1 rest))
    → IsFirst (pieces_behind front 0) text at to from (from + len) form
first_is {Form} front text rest at to from len form r long pos fits f =
    let size : length rest ≡ to - from = ap length r.rest_is ∙ length-range from to text r.within r.ends in
    record {
      behind = omega (arith, r.from_is);
      some = omega arith;
      within = omega (arith, size, fits);
      first = next_piece front (slice_range text at to) rest _ _ len form (behind_blanks text rest at to from r) (first_and_rest rest long) pos f
          ∙ ap (λ (t : List ℕ). let piece : Piece Form = record { form = form; bytes = take len t } in piece ∷ pieces_behind front 0 (drop len t)) r.rest_is
          ∙ ap (λ (t : List ℕ). let piece : Piece Form = record { form = form; bytes = t } in piece ∷ pieces_behind front 0 (drop len (slice_range text from to)))
          (range-take len from to text (omega (arith, size, fits, r.within)))
          ∙ ap (λ (t : List ℕ). let piece : Piece Form = record { form = form; bytes = slice_range text from (from + len) } in piece ∷ pieces_behind front 0 t) (range-drop len from to text);
    }

-- the length of the first piece
pub first_size : {Form : Type 0} (pieces : List ℕ → List (Piece Form)) (text : List ℕ) (at to from end : ℕ) (form : Form) → IsFirst pieces text at to from end form → to ≤ length text
    → end ≡ from + length (slice_range text from end)
first_size pieces text at to from end form i h = omega (arith, i.some, i.within, length-range from end text (omega (arith, i.some)) (omega (arith, i.within)))
