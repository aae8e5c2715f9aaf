-- What several writes in a row leave.
use Rattle.std.proofs.Common.{◌≡◌, ◌<◌, ◌≤◌, ℕ, List, [], ◌∷◌, ◌++◌, length, take, drop, Ok, Err, refl, sym, ap, ◌∙◌, append_assoc, append-nil, take-append-drop, arith, subst, Result, IsErr, get_or, zero, suc}
use Rattle.std.specs.List.{flat_map}
use Rattle.std.specs.declared.option.Option.{Option}
use Rattle.std.specs.Io.KnownBytes.{Appends}
use Rattle.std.proofs.KnownBytes.{Appends-nil, Appends-trans}
use Rattle.std.proofs.lemmas.Grind.{flat_map-append}
use Rattle.lift_base.specs.Outside.{Rose, Wrote}
use Rattle.lift_base.specs.Laws.{WroteUpTo}
use Rattle.lift_base.specs.declared.output.WriteFault.{WriteFault}

-- nothing is written
pub wrote_nothing : {K T E : Type 0} (taken : K → Option (List ℕ)) (faults : K → ℕ) (k : K) (x : T) → Wrote {E = E} taken faults k k (Ok x) []
wrote_nothing taken faults k x = record { whole = Appends-nil (taken k); calm = refl; part = tt; cause = tt; later = omega arith }

pub at_first : {K : Type 0} (taken : K → Option (List ℕ)) (faults : K → ℕ) (k : K) (bytes : List ℕ) → WroteUpTo taken faults k k bytes bytes
at_first taken faults k bytes = record { front = []; parts = refl; wrote = wrote_nothing taken faults k tt }

-- one more piece behind what was written
wrote_part : {K : Type 0} {taken : K → Option (List ℕ)} {faults : K → ℕ} {old mid new : K} {front : List ℕ} → Wrote {T = Unit {0}} {E = WriteFault} taken faults old mid (Ok tt) front
    → (piece : List ℕ) → Appends (taken mid) (taken new) piece → faults new ≡ faults mid → Wrote {T = Unit {0}} {E = WriteFault} taken faults old new (Ok tt) (front ++ piece)
wrote_part {taken = taken} {old = old} {mid = mid} {new = new} {front = front} so_far piece appended calm = record {
  whole = Appends-trans (taken old) (taken mid) (taken new) front piece so_far.whole appended;
  calm = calm ∙ so_far.calm;
  part = tt;
  cause = tt;
  later = omega (arith, so_far.later, calm);
}

-- one more write
pub one_more : {K : Type 0} (taken : K → Option (List ℕ)) (faults : K → ℕ) (old mid new : K) (bytes rest left : List ℕ) (n : ℕ)
    → WroteUpTo taken faults old mid bytes rest → Appends (taken mid) (taken new) (take n rest) → faults new ≡ faults mid → left ≡ drop n rest
    → WroteUpTo taken faults old new bytes left
one_more taken faults old mid new bytes rest left n so_far appended calm left_is = record {
  front = so_far.front ++ take n rest;
  parts = so_far.parts ∙ ap (λ r. so_far.front ++ r) (sym (take-append-drop n rest)) ∙ sym (append_assoc so_far.front (take n rest) (drop n rest)) ∙ ap (λ r. (so_far.front ++ take n rest) ++ r) (sym left_is);
  wrote = wrote_part so_far.wrote (take n rest) appended calm;
}

-- a call that stopped before the end of its piece
pub wrote_most : {K T E : Type 0} {taken : K → Option (List ℕ)} {faults : K → ℕ} {old new : K} (e : E) (piece : List ℕ) (count : ℕ)
    → Appends (taken old) (taken new) (take count piece) → Rose (faults old) (faults new) → faults old ≤ faults new → Wrote {T = T} taken faults old new (Err e) piece
wrote_most e piece count appended cause later = record {
  whole = tt;
  calm = tt;
  part = (take count piece, drop count piece, sym (take-append-drop count piece), appended);
  cause = cause;
  later = later;
}

-- one call after another: what both write, where the first wrote all
pub wrote_then : {K T U E F : Type 0} {taken : K → Option (List ℕ)} {faults : K → ℕ} {old mid new : K} {x : T} {result : Result U F} {a b : List ℕ}
    → Wrote {E = E} taken faults old mid (Ok x) a → Wrote taken faults mid new result b → Wrote taken faults old new result (a ++ b)
wrote_then {taken = taken} {faults = faults} {old = old} {mid = mid} {new = new} {result = Ok y} {a = a} {b = b} p q = record {
  whole = Appends-trans (taken old) (taken mid) (taken new) a b p.whole q.whole;
  calm = q.calm ∙ p.calm;
  part = tt;
  cause = tt;
  later = omega (arith, p.later, q.later);
}
wrote_then {taken = taken} {faults = faults} {old = old} {mid = mid} {new = new} {result = Err e} {a = a} {b = b} p q = record {
  whole = tt;
  calm = tt;
  part = (a ++ q.part.0, q.part.1, ap (λ (r : List ℕ). a ++ r) q.part.2 ∙ sym (append_assoc a q.part.0 q.part.1), Appends-trans (taken old) (taken mid) (taken new) a q.part.0 p.whole q.part.3);
  cause = subst (λ n. Rose n (faults new)) p.calm q.cause;
  later = omega (arith, p.later, q.later);
}

-- a call that failed, before others that weren't made
pub stopped : {K T U E F : Type 0} {taken : K → Option (List ℕ)} {faults : K → ℕ} {old new : K} {e : E} (a b : List ℕ) (result : Result U F) → IsErr result
    → Wrote {T = T} taken faults old new (Err e) a → Wrote taken faults old new result (a ++ b)
stopped a b (Ok x) bad p = absurd (cc)
stopped a b (Err f) bad p = record {
  whole = tt;
  calm = tt;
  part = (p.part.0, p.part.1 ++ b, ap (λ (r : List ℕ). r ++ b) p.part.2 ∙ append_assoc p.part.0 p.part.1 b, p.part.3);
  cause = p.cause;
  later = p.later;
}

pub ruleset writing = (wrote_then, stopped, wrote_nothing)

-- the pieces before an item, the item's, and those behind it
pub flat_map_at : {X : Type 0} (f : X → List ℕ) (xs : List X) (i : ℕ) (d : X) → i < length xs
    → flat_map f xs ≡ (flat_map f (take i xs) ++ f (get_or xs i d)) ++ flat_map f (drop (suc i) xs)
flat_map_at f [] i d h = absurd (omega arith)
flat_map_at f (x ∷ xs) zero d h = refl
flat_map_at f (x ∷ xs) (suc i) d h =
    ap (λ (r : List ℕ). f x ++ r) (flat_map_at f xs i d (omega arith))
    ∙ sym (append_assoc (f x) (flat_map f (take i xs) ++ f (get_or xs i d)) (flat_map f (drop (suc i) xs)))
    ∙ ap (λ (r : List ℕ). r ++ flat_map f (drop (suc i) xs)) (sym (append_assoc (f x) (flat_map f (take i xs)) (f (get_or xs i d))))

-- a loop that writes an item's bytes each turn, and stops at one
pub stopped_at : {X K T U V E F G : Type 0} {taken : K → Option (List ℕ)} {faults : K → ℕ} {old mid new : K} {x : T} {e : E} (f : X → List ℕ) (xs : List X) (i : ℕ) (d : X)
    (result : Result U F) → IsErr result → i < length xs → Wrote {E = G} taken faults old mid (Ok x) (flat_map f (take i xs))
    → Wrote {T = V} taken faults mid new (Err e) (f (get_or xs i d)) → Wrote taken faults old new result (flat_map f xs)
stopped_at {taken = taken} {faults = faults} {old = old} {new = new} f xs i d result bad h p q =
    subst (λ (text : List ℕ). Wrote taken faults old new result text) (sym (flat_map_at f xs i d h)) (stopped _ _ result bad (wrote_then p q))

-- the pieces of the first items, and those of the others
pub flat_map_parts : {X : Type 0} (f : X → List ℕ) (xs front back : List X) → xs ≡ front ++ back → flat_map f xs ≡ flat_map f front ++ flat_map f back
flat_map_parts {X = X} f xs front back is = ap (λ (l : List X). flat_map f l) is ∙ flat_map-append f front back

-- a call wrote the next piece of what is to come
pub next_piece : {K T E : Type 0} {taken : K → Option (List ℕ)} {faults : K → ℕ} {old mid new : K} {x : T} {all rest : List ℕ} (piece more : List ℕ)
    → WroteUpTo taken faults old mid all rest → rest ≡ piece ++ more → Wrote {E = E} taken faults mid new (Ok x) piece → WroteUpTo taken faults old new all more
next_piece {taken = taken} {old = old} {mid = mid} {new = new} piece more so_far is p = record {
  front = so_far.front ++ piece;
  parts = so_far.parts ∙ ap (λ r. so_far.front ++ r) is ∙ sym (append_assoc so_far.front piece more);
  wrote = wrote_part so_far.wrote piece p.whole p.calm;
}

-- a call failed at the next piece
pub stops_there : {K T U E F : Type 0} {taken : K → Option (List ℕ)} {faults : K → ℕ} {old mid new : K} {e : E} {all rest : List ℕ} (piece more : List ℕ) (result : Result U F) → IsErr result
    → WroteUpTo taken faults old mid all rest → rest ≡ piece ++ more → Wrote {T = T} taken faults mid new (Err e) piece → Wrote taken faults old new result all
stops_there {F = F} {taken = taken} {faults = faults} {old = old} {mid = mid} {new = new} {all = all} piece more result bad so_far is p =
    let text : (so_far.front ++ piece) ++ more ≡ all = append_assoc so_far.front piece more ∙ ap (λ r. so_far.front ++ r) (sym is) ∙ sym so_far.parts in
    subst (λ (t : List ℕ). Wrote taken faults old new result t) text (stopped _ _ result bad (wrote_then so_far.wrote p))

-- nothing is to come
pub all_written : {K : Type 0} {taken : K → Option (List ℕ)} {faults : K → ℕ} {old new : K} {all : List ℕ}
    → WroteUpTo taken faults old new all [] → Wrote {T = Unit {0}} {E = WriteFault} taken faults old new (Ok tt) all
all_written {taken = taken} {faults = faults} {old = old} {new = new} so_far =
    subst (λ (t : List ℕ). Wrote {T = Unit {0}} {E = WriteFault} taken faults old new (Ok tt) t) (sym (so_far.parts ∙ append-nil so_far.front)) so_far.wrote
