-- Lines before the model: what they declare stays sound.
use Rattle.std.proofs.Common.{◌≡◌, ◌≢◌, ℕ, ◌<◌, ◌≤◌, ◌^◌, Bool, true, false, cond, not, List, [], ◌∷◌, ◌++◌, length, get_or, map, Option, Some, None, Result, Ok, Err, count_ones, refl, sym, ap, subst, arith, append_assoc, length-append}
use Rattle.std.specs.Prelude.{nat_lt, nat_le}
use Rattle.std.specs.List.{list_any}
use Rattle.std.specs.Str.{bytes_eq}
use Rattle.std.proofs.Math.Nat.{pow-le-pow_right}
use Rattle.std.proofs.lemmas.Bool.{both_ways, leb-false, not-false}
use Rattle.std.proofs.lemmas.Bool.Decides.{nat_tests}
use Rattle.std.proofs.lemmas.List.{append-nil, length_push}
use Rattle.std.proofs.lemmas.List.Elements.{All-push, All-weaker}
use Rattle.std.proofs.lemmas.List.Quantifiers.{all_pairs_push}
use Rattle.std.proofs.lemmas.Slice.Eq.{bytes_eq-Decides}
use Rattle.drn_lexer.specs.Cutting.{Piece}
use Rattle.drn_lexer.specs.Lines.{TextLine, content, is_blank_line}
use Rattle.drn_lexer.specs.Words.{WordKind, words}
use Rattle.drn_expr.specs.Values.{reading}
use Rattle.drn_expr.specs.RatPolys.{OverOne, IsOver}
use Rattle.drn_expr.specs.declared.error.ExprError.{ExprError}
use Rattle.lift_poly.specs.Arithmetic.{support}
use Rattle.drn_read.specs.Laws.{IsShortName}
use Rattle.drn_read.specs.Faults.{when, first_of, fault_of, valued, reported}
use Rattle.lift_bytes.specs.Bytes.{is_name}
use Rattle.drn_read.specs.Text.{most_value_parameters, with_few_parameters, value_of}
use Rattle.drn_read.specs.Sections.{Header, Placeholder, is_head, section_of, placeholder_name, placeholder_value, placeholder}
use Rattle.drn_read.specs.Judging.{name_fault, names_fault, count_fault, placeholder_fault, head_fault, header_fault, headed, unless_blank, new_name_fault, most_placeholders, placeholder_name_fault, nameless_fault}
use Rattle.drn_read.specs.Keeping.{with_section, with_head, headed_with, with_names, with_state_count, with_choice_count, with_placeholder, unless_blank_with, header_with}
use Rattle.drn_read.specs.declared.error.DrnCause.{DrnCause}
use Rattle.drn_read.specs.declared.error.DrnCause.TheVariants.{Syntax, RepeatedName, LimitName, LimitParameters, LimitPlaces, LimitValueParameters}
use Rattle.drn_read.specs.declared.section.Phase.{Phase}
use Rattle.drn_read.specs.declared.section.Phase.TheVariants as phase
use Rattle.drn_read.specs.declared.section.Section.{Section}
use Rattle.drn_read.proofs.Kept.{Laws, IsValue, AreNames, IsDeclared}
use Rattle.drn_read.proofs.Lists.{any_false}
use Rattle.lift_model.specs.Valid.{most_name_bytes, most_parameters}

-- ---- tests

-- where none of several tests finds a fault, the first doesn't, and the others don't
pub first_none : {A : Type 0} (o : Option A) (tests : List (Option A)) → first_of (o ∷ tests) ≡ None → (o ≡ None) × (first_of tests ≡ None)
first_none None tests e = (refl, e)
first_none (Some x) tests e = cc

pub when_none : (b : Bool) (cause : DrnCause) → when b cause ≡ None → b ≡ false
when_none true cause e = cc
when_none false cause e = refl

pub fault_none : {A : Type 0} (r : Result A DrnCause) → fault_of r ≡ None → (x : A) × (r ≡ Ok x)
fault_none (Ok x) e = (x, refl)
fault_none (Err cause) e = cc

pub reported_none : (number : ℕ) (cause : Option DrnCause) → reported number cause ≡ None → cause ≡ None
reported_none number None e = refl
reported_none number (Some cause) e = cc

-- ---- values

few_is : (p v : OverOne) → with_few_parameters p ≡ Ok v → (p ≡ v) × (count_ones (support v.terms) ≤ most_value_parameters)
few_is p v e = by_test (nat_lt most_value_parameters (count_ones (support p.terms))) refl e
  where
    by_test : (b : Bool) → nat_lt most_value_parameters (count_ones (support p.terms)) ≡ b → cond b (Err LimitValueParameters) (Ok p) ≡ Ok v → (p ≡ v) × (count_ones (support v.terms) ≤ most_value_parameters)
    by_test true is e = cc
    by_test false is e =
        let same : p ≡ v = cc in
        let few : count_ones (support p.terms) ≤ most_value_parameters = grind (arith, nat_tests) in
        (same, subst (λ (q : OverOne). count_ones (support q.terms) ≤ most_value_parameters) same few)

pub value_over : (laws : Laws) (names : List (List ℕ)) (text : List ℕ) (v : OverOne) → value_of names text ≡ Ok v → IsValue (length names) v
value_over laws names text v e = by_reading (reading names text) refl e
  where
    by_reading : (r : Result OverOne ExprError) → reading names text ≡ r → (elim r as (λ r. Result OverOne DrnCause) [ Ok p ↦ with_few_parameters p | Err fault ↦ Err (valued fault) ]) ≡ Ok v → IsValue (length names) v
    by_reading (Ok p) is e = let f = few_is p v e in record { over = subst (IsOver (length names)) f.0 (laws.readings names text p is); few = f.1 }
    by_reading (Err fault) is e = cc

-- a value over so many parameters is over more of them
over_more : (k m : ℕ) (p : OverOne) → k ≤ m → IsValue k p → IsValue m p
over_more k m p le h = record {
  over = record {
    value = h.over.value;
    sets = All-weaker (λ t. t.0 < 2 ^ k) (λ t. t.0 < 2 ^ m) (λ t lt. let more = pow-le-pow_right {n = 2} (omega arith) le in omega (arith, lt, more)) p.terms h.over.sets;
  };
  few = h.few;
}

-- ---- names

other_names : (name : List ℕ) (names : List (List ℕ)) → list_any (bytes_eq name) names ≡ false → (k : ℕ) (d : List ℕ) → k < length names → get_or names k d ≢ name
other_names name names e k d lt same = both_ways (bytes_eq name (get_or names k d)) (any_false (bytes_eq name) names e k d lt) ((bytes_eq-Decides name (get_or names k d)).1 (sym same))

name_sound : (names : List (List ℕ)) (w : Piece WordKind) (form : WordKind) → name_fault names (record w { form = form }) ≡ None → AreNames names → AreNames (names ++ w.bytes ∷ [])
name_sound names w (Err fault) e h = cc
name_sound names w (Ok form) e h =
    let repeated = when (list_any (bytes_eq w.bytes) names) RepeatedName in
    let many = when (nat_le most_parameters (length names)) LimitParameters in
    let long = when (nat_lt most_name_bytes (length w.bytes)) LimitName in
    let a = first_none (when (not (is_name w.bytes)) Syntax) (long ∷ repeated ∷ many ∷ []) e in
    let b = first_none long (repeated ∷ many ∷ []) a.1 in
    let c = first_none repeated (many ∷ []) b.1 in
    let d = first_none many [] c.1 in
    let few = leb-false most_parameters (length names) (when_none (nat_le most_parameters (length names)) LimitParameters d.0) in
    let new = when_none (list_any (bytes_eq w.bytes) names) RepeatedName c.0 in
    let named = not-false (is_name w.bytes) (when_none (not (is_name w.bytes)) Syntax a.0) in
    let small = when_none (nat_lt most_name_bytes (length w.bytes)) LimitName b.0 in
    let short : IsShortName w.bytes = record { named = named; short = grind (arith, nat_tests) } in
    (omega (arith, length_push names w.bytes, few), all_pairs_push (λ a b. a ≢ b) names w.bytes h.1 (other_names w.bytes names new), All-push IsShortName names w.bytes h.2 short)

names_sound : (names : List (List ℕ)) (ws : List (Piece WordKind)) → names_fault names ws ≡ None → AreNames names → AreNames (names ++ map (λ word. word.bytes) ws)
names_sound names [] e h = subst AreNames (sym (append-nil names)) h
names_sound names (w ∷ ws) e h =
    by_fault (name_fault names w) refl e (names_sound (names ++ w.bytes ∷ []) ws)
  where
    by_fault : (o : Option DrnCause) → name_fault names w ≡ o → (elim o as (λ o. Option DrnCause) [ Some cause ↦ Some cause | None ↦ names_fault (names ++ w.bytes ∷ []) ws ]) ≡ None
        → (names_fault (names ++ w.bytes ∷ []) ws ≡ None → AreNames (names ++ w.bytes ∷ []) → AreNames ((names ++ w.bytes ∷ []) ++ map (λ (word : Piece WordKind). word.bytes) ws))
        → AreNames (names ++ map (λ (word : Piece WordKind). word.bytes) (w ∷ ws))
    by_fault (Some cause) is e rest = cc
    by_fault None is e rest = subst AreNames (append_assoc names (w.bytes ∷ []) (map (λ (word : Piece WordKind). word.bytes) ws)) (rest e (name_sound names w w.form is h))

-- ---- what is declared

more_names : (names more : List (List ℕ)) (places : List Placeholder) → AreNames (names ++ more) → IsDeclared names places → IsDeclared (names ++ more) places
more_names names more places h d = record {
  parameters = h;
  few = d.few;
  values =
      All-weaker (λ place. IsValue (length names) place.value) (λ place. IsValue (length (names ++ more)) place.value)
      (λ place over. over_more (length names) (length (names ++ more)) place.value (omega (arith, length-append names more)) over) places d.values;
}

place_over : (laws : Laws) (names : List (List ℕ)) (line : List ℕ) (v : OverOne) → placeholder_value names line ≡ Ok v → IsValue (length names) v
place_over laws names line v e = by_colon _ e
  where
    by_colon : (o : Option (List ℕ)) → (elim o as (λ o. Result OverOne DrnCause) [ Some text ↦ value_of names text | None ↦ Err Syntax ]) ≡ Ok v → IsValue (length names) v
    by_colon (Some text) e = value_over laws names text v e
    by_colon None e = cc

placed : (laws : Laws) (names : List (List ℕ)) (line : List ℕ) (places : List Placeholder) → length places < most_placeholders → (v : OverOne) → placeholder_value names line ≡ Ok v → IsDeclared names places
    → IsDeclared names (places ++ placeholder names line)
placed laws names line places few v e d =
    let new : Placeholder = record { name = placeholder_name line; value = v } in
    let one : placeholder names line ≡ new ∷ [] =
    ap (λ (r : Result OverOne DrnCause). elim r as (λ r. List Placeholder) [ Ok value ↦ record { name = placeholder_name line; value = value } ∷ [] | Err cause ↦ [] ]) e in
    subst (λ more. IsDeclared names (places ++ more)) (sym one) (record {
      parameters = d.parameters;
      few = omega (arith, length_push places new, few);
      values = All-push (λ place. IsValue (length names) place.value) places new d.values (place_over laws names line v e);
    })

place_sound : (laws : Laws) (h : Header) (line : List ℕ) → placeholder_fault h line ≡ None → IsDeclared h.names h.placeholders → IsDeclared h.names (with_placeholder h line).placeholders
place_sound laws h line e d =
    let name = placeholder_name line in
    let long = when (nat_lt most_name_bytes (length name)) LimitName in
    let repeated = when (list_any (λ p. bytes_eq name p.name) h.placeholders) RepeatedName in
    let many = when (nat_le most_placeholders (length h.placeholders)) LimitPlaces in
    let value = fault_of (placeholder_value h.names line) in
    let a = first_none (placeholder_name_fault h.placeholders line) (value ∷ []) e in
    let b = first_none (nameless_fault line) (new_name_fault h.placeholders name ∷ []) a.0 in
    let c = first_none (new_name_fault h.placeholders name) [] b.1 in
    let f = first_none long (repeated ∷ many ∷ []) c.0 in
    let g = first_none repeated (many ∷ []) f.1 in
    let few = leb-false most_placeholders (length h.placeholders) (when_none (nat_le most_placeholders (length h.placeholders)) LimitPlaces (first_none many [] g.1).0) in
    let read = fault_none (placeholder_value h.names line) (first_none value [] a.1).0 in
    placed laws h.names line h.placeholders few read.0 read.1 d

-- ---- a line before the model

-- what a header declares is sound
abbrev pub Stays : Header → Type 0
Stays h = IsDeclared h.names h.placeholders

head_stays : (h : Header) (line : List ℕ) → Stays h → Stays (with_head h line)
head_stays h line d = by_section (section_of line)
  where
    by_section : (o : Option Section) → Stays (elim o as (λ o. Header) [ Some s ↦ with_section line h s | None ↦ h ])
    by_section (Some s) = d
    by_section None = d

headed_stays : (h : Header) (line : TextLine) (after : Header) (fault : Option DrnCause) → headed h line fault ≡ None → Stays h → (fault ≡ None → Stays after) → Stays (headed_with h line after)
headed_stays h line after fault e d next = by_head (is_head line) e
  where
    by_head : (b : Bool) → cond b (head_fault h (content line)) fault ≡ None → Stays (cond b (with_head h (content line)) after)
    by_head true e = head_stays h (content line) d
    by_head false e = next e

blank_stays : (h : Header) (line : TextLine) (after : Header) (fault : Option DrnCause) → unless_blank line fault ≡ None → Stays h → (fault ≡ None → Stays after) → Stays (unless_blank_with h line after)
blank_stays h line after fault e d next = by_blank (is_blank_line line) e
  where
    by_blank : (b : Bool) → cond b None fault ≡ None → Stays (cond b h after)
    by_blank true e = d
    by_blank false e = next e

pub header_stays : (laws : Laws) (h : Header) (p : Phase) (line : TextLine) → header_fault (record h { phase = p }) line ≡ None → Stays h → Stays (header_with (record h { phase = p }) line)
header_stays laws h phase.NameList line e d =
    let g : Header = record h { phase = phase.NameList } in
    headed_stays g line (with_names g (content line)) (names_fault h.names (words (content line))) e d
    (λ f. more_names h.names (map (λ word. word.bytes) (words (content line))) h.placeholders (names_sound h.names (words (content line)) f d.parameters) d)
header_stays laws h phase.RewardList line e d =
    let g : Header = record h { phase = phase.RewardList } in
    headed_stays g line (record h { phase = phase.Sections }) None e d (λ f. d)
header_stays laws h phase.StateCount line e d =
    let g : Header = record h { phase = phase.StateCount } in
    blank_stays g line (with_state_count g (content line)) (count_fault (content line)) e d (λ f. d)
header_stays laws h phase.ChoiceCount line e d =
    let g : Header = record h { phase = phase.ChoiceCount } in
    blank_stays g line (with_choice_count g (content line)) (count_fault (content line)) e d (λ f. d)
header_stays laws h phase.Placeholders line e d =
    let g : Header = record h { phase = phase.Placeholders } in
    headed_stays g line (unless_blank_with g line (with_placeholder g (content line))) (unless_blank line (placeholder_fault g (content line))) e d
    (λ f. blank_stays g line (with_placeholder g (content line)) (placeholder_fault g (content line)) f d (λ k. place_sound laws g (content line) k d))
header_stays laws h phase.Sections line e d = headed_stays (record h { phase = phase.Sections }) line (record h { phase = phase.Sections }) (unless_blank line (Some Syntax)) e d (λ f. d)
header_stays laws h phase.Model line e d = headed_stays (record h { phase = phase.Model }) line (record h { phase = phase.Model }) (unless_blank line (Some Syntax)) e d (λ f. d)
