-- What a step of reading gives, both ways.
use Rattle.std.proofs.Common.{◌≡◌, Bool, true, false, List, [], ◌∷◌, Result, Ok, Err, Option, Some, None, refl, sym, ap, subst, ◌∙◌}
use Rattle.std.specs.Bool.{Decides}
use Rattle.line_text.specs.declared.error.TextCause.{TextCause}
use Rattle.line_text.specs.Reading.{◌>>=◌}
use Rattle.line_text.specs.Parts.{Read, must, spelled, first, ended, single}

-- Ok exactly with the values of which P holds
pub record Reads {A : Type 0} (P : A → Type 0) (r : Read A) : Type 0 where
  pub takes : (x : A) → r ≡ Ok x → P x
  pub again : (x : A) → P x → r ≡ Ok x

pub ok_is : {A E : Type 0} (x y : A) → ◌≡◌ {A = Result A E} (Ok x) (Ok y) → x ≡ y
ok_is x y e = cc

pub reads_ok : {A : Type 0} (v : A) → Reads (λ x. v ≡ x) (Ok v)
reads_ok v = record { takes = λ x e. ok_is v x e; again = λ x e. ap (λ z. Ok z) e }

pub reads_err : {A : Type 0} (P : A → Type 0) (cause : TextCause) → ((x : A) → P x → ⊥) → Reads P (Err cause)
reads_err P cause h = record { takes = λ x e. absurd cc; again = λ x p. absurd (h x p) }

-- two steps
abbrev pub Both : {A B : Type 0} → (A → Type 0) → (A → B → Type 0) → B → Type 0
Both {A} P Q y = (x : A) × P x × Q x y

pub reads_bind : {A B : Type 0} (P : A → Type 0) (Q : A → B → Type 0) (r : Read A) (f : A → Read B) → Reads P r → ((x : A) → P x → Reads (Q x) (f x)) → Reads (Both P Q) (r >>= f)
reads_bind P Q (Ok x) f h g = record {
  takes = λ y e. let p = h.takes x refl in (x, p, (g x p).takes y e);
  again = λ y t. let same : x ≡ t.0 = ok_is x t.0 (h.again t.0 t.1) in let p = h.takes x refl in (g x p).again y (subst (λ z. Q z y) (sym same) t.2);
}
reads_bind P Q (Err cause) f h g = record { takes = λ y e. absurd cc; again = λ y t. let e : Err cause ≡ Ok t.0 = h.again t.0 t.1 in absurd cc }

-- a test
pub reads_must : (X : Type 0) (b : Bool) (cause : TextCause) → (b ≡ true → X) → (X → b ≡ true) → Reads (λ _. X) (must b cause)
reads_must X true cause f g = record { takes = λ _ e. f refl; again = λ u x. refl }
reads_must X false cause f g = record { takes = λ _ e. absurd cc; again = λ u x. let e = g x in absurd cc }

-- the same in other words
pub reads_as : {A : Type 0} (P Q : A → Type 0) (r : Read A) → ((x : A) → P x → Q x) → ((x : A) → Q x → P x) → Reads P r → Reads Q r
reads_as P Q r f g h = record { takes = λ x e. f x (h.takes x e); again = λ x q. h.again x (g x q) }

pub reads_spelled : {A : Type 0} (o : Option A) → Reads (λ x. o ≡ Some x) (spelled o)
reads_spelled None = record { takes = λ x e. absurd cc; again = λ x e. absurd cc }
reads_spelled (Some v) = record { takes = λ x e. ap (λ z. Some z) (ok_is v x e); again = λ x e. cc }

first_is : {A : Type 0} (v : A) (vs : List A) (p : A × List A) → v ∷ vs ≡ p.0 ∷ p.1 → first (v ∷ vs) ≡ Ok p
first_is v vs (w, ws) e = let a : v ≡ w = cc in let b : vs ≡ ws = cc in cc

pub reads_first : {A : Type 0} (xs : List A) → Reads (λ p. xs ≡ p.0 ∷ p.1) (first xs)
reads_first [] = record { takes = λ x e. absurd cc; again = λ x e. absurd cc }
reads_first (v ∷ vs) = record { takes = λ p e. ap (λ q. q.0 ∷ q.1) (ok_is (v, vs) p e); again = λ p e. first_is v vs p e }

pub reads_ended : {A : Type 0} (xs : List A) → Reads (λ _. xs ≡ []) (ended xs)
reads_ended [] = record { takes = λ _ e. refl; again = λ u e. refl }
reads_ended (v ∷ vs) = record { takes = λ _ e. absurd cc; again = λ u e. absurd cc }

pub reads_single : {A : Type 0} (xs : List A) → Reads (λ x. xs ≡ x ∷ []) (single xs)
reads_single {A} xs =
    reads_as (Both (λ (p : A × List A). xs ≡ p.0 ∷ p.1) (λ p. Both (λ (_ : Unit {0}). p.1 ≡ []) (λ _ x. p.0 ≡ x))) (λ x. xs ≡ x ∷ []) (single xs)
    (λ x t. t.1 ∙ ap (λ rest. t.0.0 ∷ rest) t.2.1 ∙ ap (λ y. y ∷ []) t.2.2)
    (λ x e. ((x, []), e, (tt, refl, refl)))
    (reads_bind (λ (p : A × List A). xs ≡ p.0 ∷ p.1) (λ p. Both (λ (_ : Unit {0}). p.1 ≡ []) (λ _ x. p.0 ≡ x)) (first xs) (λ p. ended p.1 >>= λ _. Ok p.0) (reads_first xs)
    (λ p _. reads_bind (λ (_ : Unit {0}). p.1 ≡ []) (λ _ x. p.0 ≡ x) (ended p.1) (λ _. Ok p.0) (reads_ended p.1) (λ _ _. reads_ok p.0)))

-- ---- the same with fewer arguments

pub reads_so : {A : Type 0} {P : A → Type 0} {r : Read A} → Reads P r → (Q : A → Type 0) → ((x : A) → P x → Q x) → ((x : A) → Q x → P x) → Reads Q r
reads_so {A} {P} {r} h Q f g = reads_as P Q r f g h

pub reads_pass : {A B : Type 0} {P : A → Type 0} {Q : A → B → Type 0} {r : Read A} {f : A → Read B} → Reads P r → ((x : A) → P x → Reads (Q x) (f x)) → Reads (Both P Q) (r >>= f)
reads_pass {A} {B} {P} {Q} {r} {f} h g = reads_bind P Q r f h g

-- a test, and what follows it
pub reads_test : {A : Type 0} {X : Type 0} {P : A → Type 0} {r : Read A} (b : Bool) (cause : TextCause) → Decides b X → (X → Reads P r) → Reads (λ x. X × P x) (must b cause >>= λ _. r)
reads_test true cause d h = let x = d.0 refl in record { takes = λ y e. (x, (h x).takes y e); again = λ y t. (h x).again y t.1 }
reads_test false cause d h = record { takes = λ y e. absurd cc; again = λ y t. let e = d.1 t.0 in absurd cc }

pub bind_assoc : {A B C : Type 0} (r : Read A) (f : A → Read B) (g : B → Read C) → ((r >>= f) >>= g) ≡ (r >>= λ x. f x >>= g)
bind_assoc (Ok x) f g = refl
bind_assoc (Err e) f g = refl
