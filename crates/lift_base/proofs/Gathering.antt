-- What a buffered sink has handed on.
use Rattle.std.proofs.Common.{◌≡◌, ◌≤◌, ◌-◌, ◌+◌, ℕ, List, [], ◌++◌, length, take, drop, None, Some, Ok, Err, Result, IsErr, refl, sym, ap, ◌∙◌, arith, subst, append-nil, append_assoc, length-take, take_all, take-append-drop}
use Rattle.std.proofs.lemmas.List.{take-append-le}
use Rattle.std.proofs.Math.Seq.{take-append-add, take-append_seam}
use Rattle.std.specs.declared.option.Option.{Option}
use Rattle.std.specs.Io.KnownBytes.{Appends, Keeps, append_known}
use Rattle.lift_base.specs.Begins.{BeginsWith}
use Rattle.std.proofs.KnownBytes.{append_known-moved, Appends-kept}
use Rattle.lift_base.specs.Outside.{AppendsFront, Rose, Wrote, WroteSome}

-- a list that begins with as many elements as it has left
at_least : (xs ys : List ℕ) → take (length xs) ys ≡ xs → length xs ≤ length ys
at_least xs ys h = omega (arith, ap length h, length-take (length xs) ys)

pub begins_itself : (a : Option (List ℕ)) → BeginsWith a a
begins_itself None = λ _. refl
begins_itself (Some xs) = λ _. ap (λ (l : List ℕ). Some l) (take_all (length xs) xs (omega arith))

-- what stands in front stays there where bytes are appended
pub begins_appends : (o a b : Option (List ℕ)) (bytes : List ℕ) → BeginsWith o a → Appends a b bytes → BeginsWith o b
begins_appends None a b bytes h p = λ x. absurd (cc x)
begins_appends (Some xs) None b bytes h p = λ x. absurd (cc (h x))
begins_appends (Some xs) (Some ys) None bytes h p = absurd p
begins_appends (Some xs) (Some ys) (Some zs) bytes h p = λ x.
    let same : take (length xs) ys ≡ xs = cc (h x) in
    ap (λ (l : List ℕ). Some (take (length xs) l)) p ∙ ap (λ (l : List ℕ). Some l) (take-append-le (length xs) ys bytes (at_least xs ys same) ∙ same)

pub begins_kept : (o a b : Option (List ℕ)) → BeginsWith o a → Keeps a b → BeginsWith o b
begins_kept None a b h p = λ x. absurd (cc x)
begins_kept (Some xs) None b h p = λ x. absurd (cc (h x))
begins_kept (Some xs) (Some ys) None h p = absurd p
begins_kept (Some xs) (Some ys) (Some zs) h p = λ x. ap (λ (l : List ℕ). Some (take (length xs) l)) p ∙ h x

-- all that was held was handed on
pub all_handed : (a b c : Option (List ℕ)) (held bytes : List ℕ) → Appends (append_known a []) (append_known b held) bytes → Appends b c held → Appends a c bytes
all_handed None b c held bytes p q = tt
all_handed (Some xs) None c held bytes p q = absurd p
all_handed (Some xs) (Some ys) None held bytes p q = absurd q
all_handed (Some xs) (Some ys) (Some zs) held bytes p q = q ∙ p ∙ ap (λ (l : List ℕ). l ++ bytes) (append-nil xs)

-- what is held still is the back of what was written
pub front_handed : (a b : Option (List ℕ)) (held front bytes back : List ℕ) → BeginsWith a b → Appends (append_known a []) (append_known b held) front → bytes ≡ front ++ back → AppendsFront a b bytes
front_handed None b held front bytes back h p is = ([], bytes, refl, tt)
front_handed (Some xs) None held front bytes back h p is = absurd p
front_handed (Some xs) (Some ys) held front bytes back h p is =
    let begins : take (length xs) ys ≡ xs = cc (h refl) in
    let count : ℕ = length ys - length xs in
    let some : length xs + count ≡ length ys = omega (arith, at_least xs ys begins) in
    let whole : ys ++ held ≡ xs ++ front = p ∙ ap (λ (l : List ℕ). l ++ front) (append-nil xs) in (
      take count front,
      drop count front ++ back,
      is ∙ ap (λ (l : List ℕ). l ++ back) (sym (take-append-drop count front)) ∙ append_assoc (take count front) (drop count front) back,
      sym (take-append_seam ys held) ∙ ap (λ (l : List ℕ). take (length ys) l) whole ∙ ap (λ (n : ℕ). take n (xs ++ front)) (sym some) ∙ take-append-add xs front count,
    )

-- a text was written to an empty buffer, and what the buffer held then was handed on
pub gathered : {K T F : Type 0} (taken : K → Option (List ℕ)) (faults : K → ℕ) (old mid new : K) (empty held bytes : List ℕ) (result : Result T F)
    → empty ≡ [] → BeginsWith (taken old) (taken new) → Appends (append_known (taken old) empty) (append_known (taken mid) held) bytes → faults mid ≡ faults old
    → Wrote taken faults mid new result held → Wrote taken faults old new result bytes
gathered taken faults old mid new empty held bytes (Ok x) none begins p calm q = record {
  whole = all_handed (taken old) (taken mid) (taken new) held bytes (subst (λ (l : List ℕ). Appends (append_known (taken old) l) (append_known (taken mid) held) bytes) none p) q.whole;
  calm = q.calm ∙ calm;
  part = tt;
  cause = tt;
  later = omega (arith, calm, q.later);
}
gathered taken faults old mid new empty held bytes (Err e) none begins p calm q = record {
  whole = tt;
  calm = tt;
  part =
      front_handed (taken old) (taken new) q.part.1 bytes bytes [] begins
      (Appends-kept (append_known (taken old) []) (append_known (taken mid) held) (append_known (taken new) q.part.1) bytes
      (subst (λ (l : List ℕ). Appends (append_known (taken old) l) (append_known (taken mid) held) bytes) none p)
      (append_known-moved (taken mid) (taken new) q.part.0 q.part.1 held q.part.3 q.part.2))
      (sym (append-nil bytes));
  cause = subst (λ n. Rose n (faults new)) calm q.cause;
  later = omega (arith, calm, q.later);
}

-- a fault came while a text was written to an empty buffer
pub gathered_in_part : {K T F : Type 0} (taken : K → Option (List ℕ)) (faults : K → ℕ) (old new : K) (empty held bytes : List ℕ) (result : Result T F) → IsErr result
    → empty ≡ [] → BeginsWith (taken old) (taken new) → AppendsFront (append_known (taken old) empty) (append_known (taken new) held) bytes
    → Rose (faults old) (faults new) → faults old ≤ faults new → Wrote taken faults old new result bytes
gathered_in_part taken faults old new empty held bytes (Ok x) bad none begins p cause later = absurd (cc)
gathered_in_part taken faults old new empty held bytes (Err e) bad none begins p cause later = record {
  whole = tt;
  calm = tt;
  part = front_handed (taken old) (taken new) held p.0 bytes p.1 begins (subst (λ (l : List ℕ). Appends (append_known (taken old) l) (append_known (taken new) held) p.0) none p.3) p.2;
  cause = cause;
  later = later;
}

-- a text was made and written to an empty buffer, and what the buffer held then was handed on
pub gathered_some : {K T F : Type 0} (is_text : List ℕ → Type 0) (taken : K → Option (List ℕ)) (faults : K → ℕ) (old mid new : K) (empty held : List ℕ) (result : Result T F)
    → empty ≡ [] → BeginsWith (taken old) (taken new) → ((bytes : List ℕ) × is_text bytes) → ((bytes : List ℕ) → is_text bytes → Appends (append_known (taken old) empty) (append_known (taken mid) held) bytes)
    → faults old ≤ faults mid → Wrote taken faults mid new result held → WroteSome is_text taken faults old new result
gathered_some is_text taken faults old mid new empty held (Ok y) none begins some p later q = record {
  some = some;
  whole = λ bytes is. all_handed (taken old) (taken mid) (taken new) held bytes (subst (λ (l : List ℕ). Appends (append_known (taken old) l) (append_known (taken mid) held) bytes) none (p bytes is)) q.whole;
  part = tt;
  cause = tt;
  later = omega (arith, later, q.later);
}
gathered_some is_text taken faults old mid new empty held (Err e) none begins some p later q = record {
  some = tt;
  whole = tt;
  part = λ bytes is.
      front_handed (taken old) (taken new) q.part.1 bytes bytes [] begins
      (Appends-kept (append_known (taken old) []) (append_known (taken mid) held) (append_known (taken new) q.part.1) bytes
      (subst (λ (l : List ℕ). Appends (append_known (taken old) l) (append_known (taken mid) held) bytes) none (p bytes is))
      (append_known-moved (taken mid) (taken new) q.part.0 q.part.1 held q.part.3 q.part.2))
      (sym (append-nil bytes));
  cause = let rose = q.cause in omega (arith, rose, later);
  later = omega (arith, later, q.later);
}

-- a fault came while a text was made and written to an empty buffer
pub gathered_some_in_part : {K T F : Type 0} (is_text : List ℕ → Type 0) (taken : K → Option (List ℕ)) (faults : K → ℕ) (old new : K) (empty held : List ℕ) (result : Result T F) → IsErr result
    → empty ≡ [] → BeginsWith (taken old) (taken new) → ((bytes : List ℕ) → is_text bytes → AppendsFront (append_known (taken old) empty) (append_known (taken new) held) bytes)
    → Rose (faults old) (faults new) → faults old ≤ faults new → WroteSome is_text taken faults old new result
gathered_some_in_part is_text taken faults old new empty held (Ok x) bad none begins p cause later = absurd (cc)
gathered_some_in_part is_text taken faults old new empty held (Err e) bad none begins p cause later = record {
  some = tt;
  whole = tt;
  part = λ bytes is.
      let f = p bytes is in
      front_handed (taken old) (taken new) held f.0 bytes f.1 begins (subst (λ (l : List ℕ). Appends (append_known (taken old) l) (append_known (taken new) held) f.0) none f.3) f.2;
  cause = cause;
  later = later;
}
