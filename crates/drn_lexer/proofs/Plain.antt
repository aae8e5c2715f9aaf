-- Lines whose bytes are text.
use Prim.Native.Char.{code}
use Rattle.std.proofs.Common.{◌≡◌, ◌+◌, ◌-◌, ℕ, zero, suc, Bool, true, false, ◌&&◌, refl, List, [], ◌∷◌, length, take, drop, sym, ◌∙◌, ap, cond, eqb, eqb-true, inl, inr, arith, one-add}
use Rattle.std.proofs.lemmas.Bool.{cases_eq, eq-eqb, ne_eqb}
use Rattle.std.specs.Prelude.{nat_eq, codes, ◌==◌}
use Rattle.std.specs.List.{prefix_len, position_or_len, list_all, suffix_len, ends_with}
use Rattle.lift_bytes.specs.Bytes.{is_blank, behind, first_passes}
use Rattle.lift_bytes.specs.Trimming.{trimmed}
use Rattle.drn_lexer.specs.Bytes.{is_text_byte}
use Rattle.drn_lexer.specs.Lines.{without_return}

-- ---- the front of a text that passes

front_step : (p : ℕ → Bool) (x : ℕ) (xs : List ℕ) (b : Bool) → p x ≡ b → list_all p (take (prefix_len p xs) xs) ≡ true → list_all p (take (cond b (1 + prefix_len p xs) 0) (x ∷ xs)) ≡ true
front_step p x xs true e more = rw one-add (rw e more)
front_step p x xs false e more = refl

pub front_passes : (p : ℕ → Bool) (xs : List ℕ) → list_all p (take (prefix_len p xs) xs) ≡ true
front_passes p [] = refl
front_passes p (x ∷ xs) = front_step p x xs (p x) refl (front_passes p xs)

whole_step : (b : Bool) (n l : ℕ) (all : Bool) → eqb n l ≡ all → eqb (cond b (1 + n) 0) (suc l) ≡ (b && all)
whole_step true n l all more = elim (cases_eq n l) [
  | inl same ↦ eq-eqb (1 + n) (suc l) (omega (arith, same)) ∙ sym (eq-eqb n l same) ∙ more
  | inr other ↦ ne_eqb (1 + n) (suc l) (λ (h : 1 + n ≡ suc l). other (omega (arith, h))) ∙ sym (ne_eqb n l other) ∙ more
]
whole_step false n l all more = ne_eqb 0 (suc l) (λ (h : 0 ≡ suc l). omega (arith, h))

-- all pass exactly where the front that passes is the whole
pub all_by_front : (p : ℕ → Bool) (xs : List ℕ) → eqb (prefix_len p xs) (length xs) ≡ list_all p xs
all_by_front p [] = refl
all_by_front p (x ∷ xs) = whole_step (p x) (prefix_len p xs) (length xs) (list_all p xs) (all_by_front p xs)

-- ---- a line feed is no text

no_feed : (x : ℕ) → is_text_byte x ≡ true → (x == code "\n") ≡ false
no_feed x h = elim (cases_eq x 10) [
  | inl same ↦ let wrong : is_text_byte 10 ≡ true = ap is_text_byte (sym same) ∙ h in cc
  | inr other ↦ ne_eqb x 10 other
]

feed_step : (x : ℕ) (xs : List ℕ) (b : Bool) → is_text_byte x ≡ b
    → position_or_len (λ c. c == code "\n") xs ≡ prefix_len is_text_byte xs + position_or_len (λ c. c == code "\n") (drop (prefix_len is_text_byte xs) xs)
    → position_or_len (λ c. c == code "\n") (x ∷ xs)
    ≡ cond b (1 + prefix_len is_text_byte xs) 0 + position_or_len (λ c. c == code "\n") (drop (cond b (1 + prefix_len is_text_byte xs) 0) (x ∷ xs))
feed_step x xs true e more =
    let n = prefix_len is_text_byte xs in
    let feed = λ (t : List ℕ). position_or_len (λ c. c == code "\n") t in
    let behind : feed (drop (cond true (1 + n) 0) (x ∷ xs)) ≡ feed (drop n xs) = ap (λ k. feed (drop k (x ∷ xs))) (one-add n) in
    rw (no_feed x e) (omega (arith, more, behind))
feed_step x xs false e more = omega arith

-- the first line feed stands behind the front that is text
pub feed_behind : (xs : List ℕ) → position_or_len (λ c. c == code "\n") xs ≡ prefix_len is_text_byte xs + position_or_len (λ c. c == code "\n") (drop (prefix_len is_text_byte xs) xs)
feed_behind [] = refl
feed_behind (x ∷ xs) = feed_step x xs (is_text_byte x) refl (feed_behind xs)

-- where the front that is text has n bytes
pub feed_at : (xs rest : List ℕ) (n : ℕ) → n ≡ prefix_len is_text_byte xs → rest ≡ drop n xs → n + position_or_len (λ c. c == code "\n") rest ≡ position_or_len (λ c. c == code "\n") xs
feed_at xs rest n e r = ap (λ t. n + position_or_len (λ c. c == code "\n") t) r ∙ ap (λ k. k + position_or_len (λ c. c == code "\n") (drop k xs)) e ∙ sym (feed_behind xs)

-- where it begins with a line feed
pub feed_first : (xs : List ℕ) → first_passes (λ c. c == code "\n") xs ≡ true → 0 ≡ position_or_len (λ c. c == code "\n") xs
feed_first [] h = refl
feed_first (x ∷ xs) h = rw h refl

-- where no more stands before the line feed than text
pub text_before : (xs : List ℕ) (front more : ℕ) → front ≡ prefix_len is_text_byte xs → eqb more 0 ≡ true → list_all is_text_byte (take (front + more) xs) ≡ true
text_before xs front more e none =
    let whole : front + more ≡ prefix_len is_text_byte xs = omega (arith, e, eqb-true more 0 none) in
    ap (λ n. list_all is_text_byte (take n xs)) whole ∙ front_passes is_text_byte xs

-- ---- parts of what passes

take_step : (p : ℕ → Bool) (n x : ℕ) (xs : List ℕ) (b : Bool) → p x ≡ b → (b && list_all p xs) ≡ true → (list_all p xs ≡ true → list_all p (take n xs) ≡ true) → (p x && list_all p (take n xs)) ≡ true
take_step p n x xs true e all more = rw e (more all)
take_step p n x xs false e all more = cc

pub take_passes : (p : ℕ → Bool) (n : ℕ) (xs : List ℕ) → list_all p xs ≡ true → list_all p (take n xs) ≡ true
take_passes p zero xs all = refl
take_passes p (suc n) [] all = refl
take_passes p (suc n) (x ∷ xs) all = take_step p n x xs (p x) refl all (take_passes p n xs)

rest_passes : (b : Bool) (c : Bool) → (b && c) ≡ true → c ≡ true
rest_passes true c h = h
rest_passes false c h = cc

pub drop_passes : (p : ℕ → Bool) (n : ℕ) (xs : List ℕ) → list_all p xs ≡ true → list_all p (drop n xs) ≡ true
drop_passes p zero xs all = all
drop_passes p (suc n) [] all = refl
drop_passes p (suc n) (x ∷ xs) all = drop_passes p n xs (rest_passes (p x) (list_all p xs) all)

return_passes : (p : ℕ → Bool) (b : Bool) (xs : List ℕ) → list_all p xs ≡ true → list_all p (cond b (take (length xs - 1) xs) xs) ≡ true
return_passes p true xs all = take_passes p (length xs - 1) xs all
return_passes p false xs all = all

-- what a line says passes where its bytes do
pub content_passes : (p : ℕ → Bool) (bytes : List ℕ) → list_all p bytes ≡ true → list_all p (trimmed (without_return bytes)) ≡ true
content_passes p bytes all =
    let kept = without_return bytes in
    let front = behind is_blank kept in
    take_passes p (length front - suffix_len is_blank front) front (drop_passes p (prefix_len is_blank kept) kept (return_passes p (ends_with nat_eq bytes (codes "\r")) bytes all))
