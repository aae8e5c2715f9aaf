-- A placeholder's line: its name, and then its value.
use Rattle.std.proofs.Common.{◌≡◌, ◌≢◌, ℕ, refl, List, [], ◌∷◌, ◌++◌, drop, sym, ◌∙◌, ap, Option, Some, None, Result, Ok, Err}
use Rattle.lift_bytes.specs.Bytes.{is_name_byte, behind}
use Rattle.drn_expr.specs.RatPolys.{OverOne}
use Rattle.drn_read.specs.Faults.{first_of, fault_of}
use Rattle.drn_read.specs.Text.{value_behind}
use Rattle.drn_read.specs.Sections.{Header, Placeholder, placeholder_name, placeholder_value}
use Rattle.drn_read.specs.Judging.{placeholder_fault, placeholder_name_fault}
use Rattle.drn_read.specs.Keeping.{with_placeholder}
use Rattle.drn_read.specs.declared.error.DrnCause.{DrnCause}
use Rattle.drn_read.specs.declared.error.DrnCause.TheVariants.{Memory}

first_of_one : (e : Option DrnCause) → first_of (e ∷ []) ≡ e
first_of_one (Some e) = refl
first_of_one None = refl

-- a fault of the name
pub name_refused : (h : Header) (line : List ℕ) (cause : DrnCause) → Some cause ≡ placeholder_name_fault h.placeholders line → placeholder_fault h line ≡ Some cause
name_refused h line cause e = ap (λ (o : Option DrnCause). first_of (o ∷ fault_of (placeholder_value h.names line) ∷ [])) (sym e)

value_judged : (h : Header) (line : List ℕ) → None ≡ placeholder_name_fault h.placeholders line → placeholder_fault h line ≡ fault_of (placeholder_value h.names line)
value_judged h line e =
    ap (λ (o : Option DrnCause). first_of (o ∷ fault_of (placeholder_value h.names line) ∷ [])) (sym e) ∙ first_of_one (fault_of (placeholder_value h.names line))

-- a fault of the value
pub value_refused : (h : Header) (line rest : List ℕ) (result : Result OverOne DrnCause) (cause : DrnCause) → None ≡ placeholder_name_fault h.placeholders line → rest ≡ behind is_name_byte (drop 1 line)
    → result ≡ Err cause → (result ≢ Err Memory → result ≡ value_behind h.names rest) → cause ≢ Memory → placeholder_fault h line ≡ Some cause
value_refused h line rest result cause n r e v m =
    let no : result ≢ Err Memory = (λ f. m (cc (e, f))) in
    let same : placeholder_value h.names line ≡ Err cause = sym (ap (value_behind h.names) r) ∙ sym (v no) ∙ e in
    value_judged h line n ∙ ap fault_of same

-- a value without fault
pub value_read : (h : Header) (line rest : List ℕ) (result : Result OverOne DrnCause) (value : OverOne) → rest ≡ behind is_name_byte (drop 1 line)
    → result ≡ Ok value → (result ≢ Err Memory → result ≡ value_behind h.names rest) → placeholder_value h.names line ≡ Ok value
value_read h line rest result value r e v =
    let no : result ≢ Err Memory = (λ f. cc (e, f)) in
    sym (ap (value_behind h.names) r) ∙ sym (v no) ∙ e

-- no fault
pub place_sound : (h : Header) (line : List ℕ) (value : OverOne) → None ≡ placeholder_name_fault h.placeholders line → placeholder_value h.names line ≡ Ok value → placeholder_fault h line ≡ None
place_sound h line value n v = value_judged h line n ∙ ap fault_of v

-- one more placeholder
pub placed : (h : Header) (line name : List ℕ) (value : OverOne) (new : List Placeholder) → name ≡ placeholder_name line → placeholder_value h.names line ≡ Ok value
    → new ≡ h.placeholders ++ record { name = name; value = value } ∷ [] → Path Header (record h { placeholders = new }) (with_placeholder h line)
placed h line name value new n v e =
    ap (λ (ps : List Placeholder). record h { placeholders = ps }) (e ∙ ap (λ (m : List ℕ). h.placeholders ++ record { name = m; value = value } ∷ []) n)
    ∙ ap (λ (r : Result OverOne DrnCause). record h { placeholders = h.placeholders ++ elim r [ Ok x ↦ record { name = placeholder_name line; value = x } ∷ [] | Err cause ↦ [] ] }) (sym v)
