use Rattle.std.proofs.Common.{◌≡◌, ◌∙◌, ◌⊎◌, inl, inr, length, take, get_or, rules, sym, arith}
use Rattle.std.proofs.lemmas.Bool.{eqb-true}
use Rattle.line_text.proofs.Keys.{key_len}
use Rattle.line_text.proofs.words.is_key.Goals.{else-text-key-2-via-then-text-key-2+else-text-key-ne32, else-text-key-2-via-else-text-key-2}
use Rattle.line_text.proofs.words.is_key.Goals as goal

pub returns-clause-len : goal.returns-clause-len
returns-clause-len c is =
    let text = c.args.text.now in
    let key = c.args.key.now in
    let word : take (length key) text ≡ key = search rules in
    let end : (length key ≡ length text) ⊎ (get_or text (length key) 0 ≡ 32) = elim c.else-text-key-2.branch [
      | else-text-key-2-via-then-text-key-2+else-text-key-ne32 w ↦ inr w.if-text-key-ne32.false
      | else-text-key-2-via-else-text-key-2 w ↦ inl (omega (arith, w.if-text-key-2.false))
    ] in
    key_len key text word (omega (arith, c.if-text-key.false)) end (sym (eqb-true _ _ is) ∙ c.len_before.ensures.len)
