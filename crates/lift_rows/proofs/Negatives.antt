-- Weights below 0, entry by entry and corner by corner.
use Rattle.std.proofs.Common.{◌≡◌, ℕ, ◌+◌, ◌*◌, ◌%◌, ◌^◌, ◌<◌, ◌≤◌, ◌⊎◌, ⊎_elim, List, [], ◌∷◌, length, ℤ, pos, ◌≤ℤ◌, ◌<ℤ◌, count_ones, refl, ap, ◌∙◌, arith, mul-le-mul_left}
use Rattle.std.proofs.Math.Nat.{mod-eq_of_lt}
use Rattle.std.proofs.Math.Pow.{pow_mono}
use Rattle.std.proofs.lemmas.Nat.{pow_pos}
use Rattle.lift_grid.specs.Rectangle.{Spans, sides_of}
use Rattle.lift_model.specs.declared.entry.Entry.{Entry}
use Rattle.lift_model.specs.Model.{ModelData, support, choices, row_at}
use Rattle.corner_lift.specs.Corner.{corner_weight}
use Rattle.corner_lift.specs.Case.{CaseData, greatest_size, abs_sum, IsAsked, IsNarrow, row_parameters, most_row_parameters}
use Rattle.corner_lift.specs.Laws.{BitsAreParameters}
use Rattle.lift_rows.specs.Fault.{IsFirstNegative}

-- no weight below 0 of the entries before that one
abbrev pub NoneBefore : CaseData → List Entry → ℕ → Type 0
NoneBefore k row entry = (j c : ℕ) → j < entry → c < 2 ^ row_parameters k row → pos 0 ≤ℤ corner_weight k.d k.root row c j

-- none of that entry at the corners before that one
abbrev pub NoneAt : CaseData → List Entry → ℕ → ℕ → Type 0
NoneAt k row entry corner = (c : ℕ) → c < corner → pos 0 ≤ℤ corner_weight k.d k.root row c entry

last : (i n : ℕ) → i < n + 1 → (i ≡ n) ⊎ (i < n)
last i n lt = grind arith

pub none_at-more : (k : CaseData) (row : List Entry) (entry corner : ℕ) → NoneAt k row entry corner → pos 0 ≤ℤ corner_weight k.d k.root row corner entry → NoneAt k row entry (corner + 1)
none_at-more k row entry corner none here c lt = ⊎_elim (λ (e : c ≡ corner). rw e here) (λ (less : c < corner). none c less) (last c corner lt)

pub none_before-more : (k : CaseData) (row : List Entry) (entry : ℕ) → NoneBefore k row entry → NoneAt k row entry (2 ^ row_parameters k row) → NoneBefore k row (entry + 1)
none_before-more k row entry none here j c lt corner = ⊎_elim (λ (e : j ≡ entry). rw e (here c corner)) (λ (less : j < entry). none j c less corner) (last j entry lt)

pub first_here : (k : CaseData) (row : List Entry) (entry corner : ℕ) (weight : ℤ) → entry < length row → corner < 2 ^ row_parameters k row → weight ≡ corner_weight k.d k.root row corner entry → weight <ℤ pos 0
    → NoneBefore k row entry → NoneAt k row entry corner → IsFirstNegative k row entry corner weight
first_here k row entry corner weight entry_in corner_in is negative none here = record {
  entry_in = entry_in;
  corner_in = corner_in;
  is = is;
  negative = negative;
  first = λ j c lt before. ⊎_elim (λ (less : j < entry). none j c less lt) (λ (same : (j ≡ entry) × (c < corner)). rw same.0 (here c same.1)) before;
}

length-sides : (spans : Spans) → length (sides_of spans) ≡ 2 * length spans
length-sides [] = refl
length-sides (span ∷ spans) = omega (arith, length-sides spans)

-- a pair of sides for each declared parameter
pub pairs_asked : (k : CaseData) → IsAsked k → length (sides_of k.root) ≡ 2 * length k.model.names
pairs_asked k is = length-sides k.root ∙ ap (λ n. 2 * n) is.grid.one_each

-- a narrow row has room for its weights
pub weights_room : (k : CaseData) (row : List Entry) → IsNarrow k row → abs_sum row * greatest_size k.d k.root ^ row_parameters k row < 2 ^ 126
weights_room k row narrow = omega (arith, narrow, mul-le-mul_left (abs_sum row * greatest_size k.d k.root ^ row_parameters k row) (pow_pos k.w))

-- 1 shifted by a row's parameters
one_shifted : (n : ℕ) → n ≤ most_row_parameters → 1 * 2 ^ n % 2 ^ 32 ≡ 2 ^ n
one_shifted n few =
    let small : 2 ^ n ≤ 2 ^ most_row_parameters = pow_mono few in
    let one : 1 * 2 ^ n ≡ 2 ^ n = omega arith in
    rw one (mod-eq_of_lt (omega arith))

-- how many corners the code tries, which has the model, the row and its set
pub corners_asked : BitsAreParameters → (k : CaseData) (s a : ℕ) (m : ModelData) (row : List Entry) (set : ℕ) → IsAsked k → s < length k.model.states → a < length (choices k.model s) → m ≡ k.model → row ≡ row_at m s a → set ≡ support row
    → row_parameters k (row_at k.model s a) ≤ most_row_parameters → 1 * 2 ^ count_ones set % 4294967296 ≡ 2 ^ row_parameters k (row_at k.model s a)
corners_asked bits k s a m row set is state choice m_is row_is set_is few =
    let ones = ap count_ones (rw (row_is, m_is) at set_is) ∙ bits k s a is (record { state = state; choice = choice }) in
    rw ones (one_shifted (row_parameters k (row_at k.model s a)) few)
