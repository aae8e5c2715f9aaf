-- The symbols of a value, by this project's profile of the DRN format.
use Prim.Native.Char.{code}
use Rattle.std.specs.Prelude.{ℕ, List, ◌∷◌, ◌==◌, ◌&&◌, ◌-◌, length, if◌then◌else◌}
use Rattle.std.specs.List.{prefix_len}
use Rattle.std.specs.Char.{is_ascii_digit}
use Rattle.lift_frac.specs.Literal.{literal_at}
use Rattle.lift_bytes.specs.Bytes.{begins_name, is_name_byte, first_passes}
use Rattle.drn_lexer.specs.Cutting.{Piece, pieces_behind}
use Rattle.drn_lexer.specs.declared.symbol.SymbolForm.{SymbolForm}
use Rattle.drn_lexer.specs.declared.symbol.SymbolForm.TheVariants.{Literal, Name, Dollar, Plus, Minus, Times, Over, Power, Left, Right, Colon, Other}

-- A byte that is a symbol by itself: one of `+ - * / ^ ( ) :`, in this order, or any other.
abbrev pub mark_form : ℕ → SymbolForm
mark_form b = if b == code "+" then Plus else (if b == code "-" then Minus else (if b == code "*" then Times else (if b == code "/" then Over else
    (if b == code "^" then Power else (if b == code "(" then Left else (if b == code ")" then Right else (if b == code ":" then Colon else Other)))))))

-- The longest symbol that begins with the byte b: how many bytes of the tail belong to it, and its form. It is a literal, a name, `$` with letters, digits and underscores, or a single byte.
abbrev pub symbol_front : ℕ → List ℕ → ℕ × SymbolForm
symbol_front b tail = if is_ascii_digit b then (length tail - length (literal_at (b ∷ tail)).1, Literal)
    else (if begins_name b then (prefix_len is_name_byte tail, Name)
    else (if (b == code "$") && first_passes is_name_byte tail then (prefix_len is_name_byte tail, Dollar)
    else (0, mark_form b)))

-- the symbols of a text
abbrev pub symbols : List ℕ → List (Piece SymbolForm)
symbols text = pieces_behind symbol_front 0 text
