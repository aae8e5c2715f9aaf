-- The literal that is read at a front is the longest that the grammar writes there.
use Rattle.std.proofs.Common.{◌≡◌, ◌-◌, ◌≤◌, ℕ, Bool, true, false, ◌⊎◌, inl, inr, List, [], ◌∷◌, ◌++◌, take, drop, length, cond, refl, sym, subst, ap, ◌∙◌, arith, append_assoc, length-append, length-drop}
use Rattle.std.specs.List.{prefix_len}
use Rattle.std.specs.Prelude.{take_while}
use Rattle.std.specs.Char.{is_ascii_digit}
use Rattle.std.proofs.Math.Seq.{take-append_seam, drop-append_seam}
use Rattle.std.proofs.lemmas.List.{take-append-drop}
use Rattle.lift_bytes.specs.Bytes as byte
use Rattle.lift_frac.specs.Literal.{Literal, decimals_at, sign_at, exponent_at, literal_at}
use Rattle.lift_frac.specs.Grammar.{IsDigits, Decimals, no_decimals, point, Sign, small_e, capital_e, Exponent, no_exponent, power, Writes, written}
use Rattle.lift_frac.proofs.Writing.{Front, front_sum, rest_read, begins_more, sign_read, after_mark, decimals_by, decimals_front, exponent_front, literal_front}

-- ---- what was read is a front

front_shorter : (P : List ℕ → Type 0) (text rest : List ℕ) → Front P text rest → length rest ≤ length text
front_shorter P text rest f = omega (arith, ap length f.text_is, length-append f.front rest)

front_len : (P : List ℕ → Type 0) (text rest : List ℕ) (f : Front P text rest) → length text - length rest ≡ length f.front
front_len P text rest f = omega (arith, ap length f.text_is, length-append f.front rest)

front_taken : (P : List ℕ → Type 0) (text rest : List ℕ) → Front P text rest → P (take (length text - length rest) text)
front_taken P text rest f =
    let front = ap (λ n. take n text) (front_len P text rest f) ∙ ap (λ t. take (length f.front) t) f.text_is ∙ take-append_seam f.front rest in
    subst P (sym front) f.writes

pub literal_taken : (text : List ℕ) → byte.first_passes is_ascii_digit text ≡ true → Writes (take (length text - length (literal_at text).1) text) (literal_at text).0
literal_taken text h = front_taken (λ t. Writes t (literal_at text).0) text (literal_at text).1 (literal_front text h)

pub literal_dropped : (text : List ℕ) → byte.first_passes is_ascii_digit text ≡ true → drop (length text - length (literal_at text).1) text ≡ (literal_at text).1
literal_dropped text h =
    let f = literal_front text h in
    let rest = (literal_at text).1 in
    ap (λ n. drop n text) (front_len (λ t. Writes t (literal_at text).0) text rest f) ∙ ap (λ t. drop (length f.front) t) f.text_is ∙ drop-append_seam f.front rest

-- ---- and no longer front is a literal

-- digits at the front are passed over
digits_within : (digits rest : List ℕ) → IsDigits digits → length (byte.behind is_ascii_digit (digits ++ rest)) ≤ length rest
digits_within digits rest h =
    omega (arith, front_sum digits rest h.all, length-drop (prefix_len is_ascii_digit (digits ++ rest)) (digits ++ rest), length-append digits rest)

decimals_shorter : (text : List ℕ) → length (decimals_at text).1 ≤ length text
decimals_shorter text = front_shorter _ text (decimals_at text).1 (decimals_front text)

exponent_shorter : (text : List ℕ) → length (exponent_at text).2 ≤ length text
exponent_shorter text = front_shorter _ text (exponent_at text).2 (exponent_front text)

after_mark_within : (text sign digits rest : List ℕ) (negative : Bool) → Sign sign negative → IsDigits digits
    → length (after_mark text (sign_at ((sign ++ digits) ++ rest))).2 ≤ length rest
after_mark_within text sign digits rest negative s h =
    let signed = ap sign_at (append_assoc sign digits rest) ∙ sign_read sign (digits ++ rest) negative s (begins_more digits rest h.some) in
    let test = begins_more digits rest h.some in
    let taken : (after_mark text (negative, digits ++ rest)).2 ≡ byte.behind is_ascii_digit (digits ++ rest) =
    ap (λ t. let marked : Bool × List ℕ × List ℕ = cond t (negative, take_while is_ascii_digit (digits ++ rest), byte.behind is_ascii_digit (digits ++ rest)) (false, [], text) in marked.2) test in
    omega (arith, ap (λ t. length (after_mark text t).2) signed, ap length taken, digits_within digits rest h)

exponent_within : (tail digits rest : List ℕ) (negative : Bool) → Exponent tail negative digits → length (exponent_at (tail ++ rest)).2 ≤ length rest
exponent_within _ _ rest _ no_exponent = exponent_shorter rest
exponent_within _ _ rest _ (power _ sign negative digits small_e s h) = after_mark_within (101 ∷ ((sign ++ digits) ++ rest)) sign digits rest negative s h
exponent_within _ _ rest _ (power _ sign negative digits capital_e s h) = after_mark_within (69 ∷ ((sign ++ digits) ++ rest)) sign digits rest negative s h

-- behind a point's digits
after_point : (ds tail digits rest : List ℕ) (negative : Bool) → IsDigits ds → Exponent tail negative digits → length (exponent_at (byte.behind is_ascii_digit (ds ++ (tail ++ rest)))).2 ≤ length rest
after_point ds _ _ rest _ h no_exponent = omega (arith, exponent_shorter (byte.behind is_ascii_digit (ds ++ rest)), digits_within ds rest h)
after_point ds tail _ rest _ h (power _ sign negative digits small_e s d) =
    let e = power 101 sign negative digits small_e s d in
    omega (arith, ap (λ t. length (exponent_at t).2) (rest_read ds (101 ∷ ((sign ++ digits) ++ rest)) h refl), exponent_within (101 ∷ (sign ++ digits)) digits rest negative e)
after_point ds tail _ rest _ h (power _ sign negative digits capital_e s d) =
    let e = power 69 sign negative digits capital_e s d in
    omega (arith, ap (λ t. length (exponent_at t).2) (rest_read ds (69 ∷ ((sign ++ digits) ++ rest)) h refl), exponent_within (69 ∷ (sign ++ digits)) digits rest negative e)

-- behind the whole digits
tail_within : (behind decimals tail digits rest : List ℕ) (negative : Bool) → Decimals behind decimals → Exponent tail negative digits
    → length (exponent_at (decimals_at (behind ++ (tail ++ rest))).1).2 ≤ length rest
tail_within _ _ _ _ rest _ no_decimals no_exponent = omega (arith, exponent_shorter (decimals_at rest).1, decimals_shorter rest)
tail_within _ _ _ _ rest _ no_decimals (power _ sign negative digits small_e s d) = exponent_within (101 ∷ (sign ++ digits)) digits rest negative (power 101 sign negative digits small_e s d)
tail_within _ _ _ _ rest _ no_decimals (power _ sign negative digits capital_e s d) = exponent_within (69 ∷ (sign ++ digits)) digits rest negative (power 69 sign negative digits capital_e s d)
tail_within _ _ tail digits rest negative (point ds h) e =
    let text = ds ++ (tail ++ rest) in
    let taken = ap (λ t. length (exponent_at (decimals_by 46 text t).1).2) (begins_more ds (tail ++ rest) h.some) in
    omega (arith, taken, after_point ds tail digits rest negative h e)

-- where the whole digits end
apart : (behind decimals tail digits rest : List ℕ) (negative : Bool) → Decimals behind decimals → Exponent tail negative digits
    → ((behind ++ tail ≡ []) ⊎ (byte.first_passes is_ascii_digit (behind ++ (tail ++ rest)) ≡ false))
apart _ _ _ _ rest _ no_decimals no_exponent = inl refl
apart _ _ _ _ rest _ no_decimals (power _ _ _ _ small_e _ _) = inr refl
apart _ _ _ _ rest _ no_decimals (power _ _ _ _ capital_e _ _) = inr refl
apart _ _ _ _ rest _ (point _ _) e = inr refl

-- what is read reaches at least as far as what is written
written_within : (text rest : List ℕ) (l : Literal) → Writes text l → length (literal_at (text ++ rest)).1 ≤ length rest
written_within _ rest _ (written whole behind decimals tail digits negative w d e) =
    let within = tail_within behind decimals tail digits rest negative d e in
    let all = append_assoc whole (behind ++ tail) rest ∙ ap (λ t. whole ++ t) (append_assoc behind tail rest) in
    let moved = ap (λ t. length (literal_at t).1) all in
    let from_rest = λ (t : List ℕ). length (exponent_at (decimals_at t).1).2 in
    let bound : from_rest (byte.behind is_ascii_digit (whole ++ (behind ++ (tail ++ rest)))) ≤ length rest =
    elim (apart behind decimals tail digits rest negative d e) [
      | inl none ↦
          let plain : behind ++ (tail ++ rest) ≡ rest = sym (append_assoc behind tail rest) ∙ ap (λ t. t ++ rest) none in
          let left = byte.behind is_ascii_digit (whole ++ rest) in
          omega (arith, ap (λ t. from_rest (byte.behind is_ascii_digit (whole ++ t))) plain, exponent_shorter (decimals_at left).1, decimals_shorter left, digits_within whole rest w)
      | inr other ↦ omega (arith, ap from_rest (rest_read whole (behind ++ (tail ++ rest)) w other), within)
    ] in
    omega (arith, moved, bound)

pub longest : (text : List ℕ) (n : ℕ) (l : Literal) → n ≤ length text → Writes (take n text) l → n ≤ length text - length (literal_at text).1
longest text n l h w =
    omega (arith, written_within (take n text) (drop n text) l w, ap (λ t. length (literal_at t).1) (take-append-drop n text), length-drop n text)
