-- A row with a fault isn't admitted, and a model has one first fault at most.
use Rattle.std.proofs.Common.{◌≡◌, ℕ, ◌^◌, ◌<◌, inl, inr, List, length, ℤ, pos, ◌≤ℤ◌, sym, ◌∙◌, arith}
use Rattle.lift_poly.proofs.Ring.{linear}
use Rattle.lift_model.specs.declared.entry.Entry.{Entry}
use Rattle.lift_model.specs.Model.{choices, row_at}
use Rattle.corner_lift.specs.Corner.{corner_weight, no_entry}
use Rattle.corner_lift.specs.Case.{CaseData, IsAdmittedRow, SumsToOne, row_parameters}
use Rattle.lift_rows.specs.Fault.{ComesBefore, IsSumFault, IsRowFault, IsFirstFault}
use Rattle.lift_rows.specs.declared.error.RowError.{RowError}
use Rattle.lift_rows.specs.declared.error.RowError.TheVariants.{RowSum, Negative, RowParameters, TooWide}

pub fault_refused : (k : CaseData) (s a : ℕ) (row : List Entry) (e : RowError) → IsRowFault k s a row e → IsAdmittedRow k row → ⊥
fault_refused k s a row (RowSum t b set sum) f h = f.2.wrong (f.2.is ∙ h.sum set)
fault_refused k s a row (Negative t b target corner weight) f h = let n = f.5.1 in omega (arith, linear, h.least corner n.corner_in f.5.0 no_entry n.entry_in, n.is, n.negative)
fault_refused k s a row (RowParameters t b n) f h = omega (arith, h.few, f.3, f.4)
fault_refused k s a row (TooWide t b) f h = f.4 h.narrow

-- ---- one first

neither_less : (m n : ℕ) → (m < n → ⊥) → (n < m → ⊥) → m ≡ n
neither_less m n f g = omega arith

-- two places, each the first at which something doesn't hold
first_is_one : (In P : ℕ → ℕ → Type 0) (i j m n : ℕ) → In i j → In m n → (P i j → ⊥) → (P m n → ⊥) → ((s a : ℕ) → In s a → ComesBefore (s, a) (i, j) → P s a) → ((s a : ℕ) → In s a → ComesBefore (s, a) (m, n) → P s a) → (i ≡ m) × (j ≡ n)
first_is_one In P i j m n in_one in_two not_one not_two one two =
    let e = neither_less i m (λ lt. not_one (two i j in_one (inl lt))) (λ lt. not_two (one m n in_two (inl lt))) in
    (e, neither_less j n (λ lt. not_one (two i j in_one (inr (e, lt)))) (λ lt. not_two (one m n in_two (inr (sym e, lt)))))

sum_fault_not : (common : ℤ) (row : List Entry) (set : ℕ) (sum : ℤ) → IsSumFault common row set sum → SumsToOne common row → ⊥
sum_fault_not common row set sum f h = f.wrong (f.is ∙ h set)

-- ---- one fault of a row

same_fault : (k : CaseData) (s a : ℕ) (row : List Entry) (e f : RowError) → IsRowFault k s a row e → IsRowFault k s a row f → e ≡ f
same_fault k s a row (RowSum t b set sum) (RowSum u c other more) x y =
    let e : set ≡ other = neither_less set other (λ lt. x.2.wrong (x.2.is ∙ y.2.least set lt)) (λ lt. y.2.wrong (y.2.is ∙ x.2.least other lt)) in
    cc (x.2.is, y.2.is)
same_fault k s a row (RowSum t b set sum) (Negative u c target corner weight) x y = absurd (sum_fault_not _ row set sum x.2 y.2)
same_fault k s a row (RowSum t b set sum) (RowParameters u c n) x y = absurd (sum_fault_not _ row set sum x.2 y.2)
same_fault k s a row (RowSum t b set sum) (TooWide u c) x y = absurd (sum_fault_not _ row set sum x.2 y.2)
same_fault k s a row (Negative t b target corner weight) (RowSum u c set sum) x y = absurd (sum_fault_not _ row set sum y.2 x.2)
same_fault k s a row (Negative t b target corner weight) (Negative u c other edge more) x y =
    let In : ℕ → ℕ → Type 0 = λ j at. at < 2 ^ row_parameters k row in
    let P : ℕ → ℕ → Type 0 = λ j at. pos 0 ≤ℤ corner_weight k.d k.root row at j in
    let n = x.5.1 in
    let m = y.5.1 in
    let place = first_is_one In P x.5.0 corner y.5.0 edge n.corner_in m.corner_in
    (λ h. omega (arith, linear, h, n.is, n.negative)) (λ h. omega (arith, linear, h, m.is, m.negative)) n.first m.first in
    cc (n.is, m.is, x.5.2, y.5.2)
same_fault k s a row (Negative t b target corner weight) (RowParameters u c n) x y = absurd (omega arith)
same_fault k s a row (Negative t b target corner weight) (TooWide u c) x y = absurd (y.4 x.4)
same_fault k s a row (RowParameters t b n) (RowSum u c set sum) x y = absurd (sum_fault_not _ row set sum y.2 x.2)
same_fault k s a row (RowParameters t b n) (Negative u c target corner weight) x y = absurd (omega arith)
same_fault k s a row (RowParameters t b n) (RowParameters u c m) x y = cc
same_fault k s a row (RowParameters t b n) (TooWide u c) x y = absurd (omega arith)
same_fault k s a row (TooWide t b) (RowSum u c set sum) x y = absurd (sum_fault_not _ row set sum y.2 x.2)
same_fault k s a row (TooWide t b) (Negative u c target corner weight) x y = absurd (x.4 y.4)
same_fault k s a row (TooWide t b) (RowParameters u c n) x y = absurd (omega arith)
same_fault k s a row (TooWide t b) (TooWide u c) x y = cc

same_at : (k : CaseData) (s a t b : ℕ) (e f : RowError) → s ≡ t → a ≡ b → IsRowFault k s a (row_at k.model s a) e → IsRowFault k t b (row_at k.model t b) f → e ≡ f
same_at k s a t b e f p q x y = same_fault k s a (row_at k.model s a) e f x (rw (p, q) y)

pub first_fault_one : (k : CaseData) (e f : RowError) → IsFirstFault k e → IsFirstFault k f → e ≡ f
first_fault_one k e f x y =
    let In : ℕ → ℕ → Type 0 = λ s a. (s < length k.model.states) × (a < length (choices k.model s)) in
    let P : ℕ → ℕ → Type 0 = λ s a. IsAdmittedRow k (row_at k.model s a) in
    let place = first_is_one In P x.state x.choice y.state y.choice (x.state_in, x.choice_in) (y.state_in, y.choice_in)
    (fault_refused k x.state x.choice (row_at k.model x.state x.choice) e x.fault) (fault_refused k y.state y.choice (row_at k.model y.state y.choice) f y.fault)
    (λ s a at. x.before s a at.0 at.1) (λ s a at. y.before s a at.0 at.1) in
    same_at k x.state x.choice y.state y.choice e f place.0 place.1 x.fault y.fault
