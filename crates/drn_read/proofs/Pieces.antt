-- A colon behind blanks.
use Prim.Native.Char.{code}
use Rattle.std.proofs.Common.{◌≡◌, ◌==◌, ℕ, Bool, true, false, refl, List, drop, sym, ap, Some, None}
use Rattle.std.specs.Prelude.{if◌then◌else◌}
use Rattle.std.specs.List.{prefix_len}
use Rattle.lift_bytes.specs.Bytes.{is_blank, first_passes, behind}
use Rattle.drn_read.specs.Text.{behind_colon}

colon_by : (text rest : List ℕ) (b : Bool) → behind is_blank text ≡ rest → first_passes (λ b. b == code ":") rest ≡ b → behind_colon text ≡ (if b then Some (drop 1 rest) else None)
colon_by text rest b e f = rw (e, f) refl

front_is : (text : List ℕ) (blanks : ℕ) → blanks ≡ prefix_len is_blank text → behind is_blank text ≡ drop blanks text
front_is text blanks e = ap (λ k. drop k text) (sym e)

-- a colon stands behind these blanks
pub colon_found : (text : List ℕ) (blanks : ℕ) → blanks ≡ prefix_len is_blank text → first_passes (λ b. b == code ":") (drop blanks text) ≡ true → Some (drop 1 (drop blanks text)) ≡ behind_colon text
colon_found text blanks e h = sym (colon_by text (drop blanks text) true (front_is text blanks e) h)

-- no colon stands there
pub no_colon : (text : List ℕ) (blanks : ℕ) → blanks ≡ prefix_len is_blank text → first_passes (λ b. b == code ":") (drop blanks text) ≡ false → None ≡ behind_colon text
no_colon text blanks e h = sym (colon_by text (drop blanks text) false (front_is text blanks e) h)
