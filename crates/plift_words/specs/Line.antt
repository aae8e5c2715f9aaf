-- The words of the command line, and which lines are plain.
use Prim.Native.Char.{code}
use Rattle.std.specs.Prelude.{◌&&◌, ◌||◌, is_some, ℕ, List, [], ◌∷◌, codes, drop, Option, Some, None, Bool, true, false, not, option_and_then, if◌then◌else◌, nat_eq}
use Rattle.std.specs.List.{starts_with, list_all, list_any, find}
use Rattle.std.specs.Str.{bytes_eq}
use Rattle.lift_frac.specs.Written.{cut_at}

-- an option as it stands in a line: its name, and its value where it has one
pub record Setting : Type 0 where
  pub name : List ℕ
  pub value : Option (List ℕ)

-- the value behind `=` in one word; none where nothing stands there
abbrev pub attached : List ℕ → Option (List ℕ)
attached [] = None
attached (b ∷ text) = Some (b ∷ text)

-- an option in one word `--name=value`, by its two parts
abbrev pub in_one : List ℕ × List ℕ → Setting
in_one parts = record { name = parts.0; value = attached parts.1 }

-- The options of the words, in their order: one word, which is cut at its first `=`, or two words, a name and its value.
abbrev pub options : List (List ℕ) → List Setting
options [] = []
options (word ∷ []) = elim (cut_at (code "=") word) [ Some parts ↦ in_one parts ∷ [] | None ↦ record { name = word; value = None } ∷ [] ]
options (word ∷ next ∷ words) = elim (cut_at (code "=") word) [
  | Some parts ↦ in_one parts ∷ options (next ∷ words)
  | None ↦ record { name = word; value = Some next } ∷ options words
]

-- an option of this name stands there
abbrev pub stands : List ℕ → List Setting → Bool
stands name settings = list_any (λ s. bytes_eq s.name name) settings

-- the value of the first option of this name
abbrev pub value_of : List ℕ → List Setting → Option (List ℕ)
value_of name settings = option_and_then (λ s. s.value) (find (λ s. bytes_eq s.name name) settings)

-- one of these names
abbrev pub is_among : List (List ℕ) → List ℕ → Bool
is_among names name = list_any (bytes_eq name) names

-- a value is there, and doesn't begin with `-`
abbrev pub is_value : Option (List ℕ) → Bool
is_value None = false
is_value (Some word) = not (starts_with nat_eq word (codes "-"))

-- options of these names, each with its value, and each at most once
abbrev pub are_options : List (List ℕ) → List (List ℕ) → List Setting → Bool
are_options must may [] = true
are_options must may (s ∷ more) = (is_among must s.name || is_among may s.name) && is_value s.value && not (stands s.name more) && are_options must may more

-- ---- plain lines, by their commands

-- this command, and behind it in any order each of the options that have to stand there, and of those that may stand there any
abbrev pub is_command : List ℕ → List (List ℕ) → List (List ℕ) → List (List ℕ) → Bool
is_command name must may [] = false
is_command name must may (command ∷ words) = bytes_eq command name && are_options must may (options words) && list_all (λ option. stands option (options words)) must

-- the options that may stand behind each command that asks
abbrev pub common_options : List (List ℕ)
common_options = codes "--region" ∷ codes "--depth" ∷ codes "--precision" ∷ []

-- those that may stand where a range of precisions may be asked for
abbrev pub range_options : List (List ℕ)
range_options = codes "--from" ∷ common_options

-- the command `verify`
abbrev pub is_verify : List (List ℕ) → Bool
is_verify = is_command (codes "verify") (codes "--goal" ∷ codes "--bound" ∷ []) range_options

-- the command `bounded`
abbrev pub is_bounded : List (List ℕ) → Bool
is_bounded = is_command (codes "bounded") (codes "--goal" ∷ codes "--bound" ∷ codes "--steps" ∷ []) common_options

-- the command `lumped`
abbrev pub is_lumped : List (List ℕ) → Bool
is_lumped = is_command (codes "lumped") (codes "--goal" ∷ codes "--bound" ∷ []) common_options

-- the command `property`
abbrev pub is_property : List (List ℕ) → Bool
is_property = is_command (codes "property") (codes "--formula" ∷ []) range_options

-- the command `cost`
abbrev pub is_cost : List (List ℕ) → Bool
is_cost = is_command (codes "cost") (codes "--goal" ∷ codes "--reward" ∷ codes "--budget" ∷ codes "--cap" ∷ []) common_options

-- one of these five
abbrev pub is_asking : List (List ℕ) → Bool
is_asking words = is_verify words || is_bounded words || is_lumped words || is_property words || is_cost words

-- this command, and nothing behind it
abbrev pub is_alone : List ℕ → List (List ℕ) → Bool
is_alone name (command ∷ []) = bytes_eq command name
is_alone name _ = false

-- the command `check`, and nothing behind it
abbrev pub is_check : List (List ℕ) → Bool
is_check words = is_alone (codes "check") words

-- the command `migrate`, and nothing behind it
abbrev pub is_migrate : List (List ℕ) → Bool
is_migrate words = is_alone (codes "migrate") words

-- the one word behind this command, where it doesn't begin with `-`
abbrev pub word_behind : List ℕ → List (List ℕ) → Option (List ℕ)
word_behind name (command ∷ word ∷ []) = if bytes_eq command name && is_value (Some word) then Some word else None
word_behind name _ = None

-- the option that stands there alone
abbrev pub only : List Setting → Option Setting
only (s ∷ []) = Some s
only _ = None

-- the value of an option, where that is `--depth` and its value doesn't begin with `-`
abbrev pub depth_in : Setting → Option (List ℕ)
depth_in s = if bytes_eq s.name (codes "--depth") && is_value s.value then s.value else None

-- the value of the one option behind this command, where that is `--depth`
abbrev pub depth_behind : List ℕ → List (List ℕ) → Option (List ℕ)
depth_behind name [] = None
depth_behind name (command ∷ words) = if bytes_eq command name then option_and_then depth_in (only (options words)) else None

-- a plain line: one of the ten commands, and what stands behind it
abbrev pub is_plain : List (List ℕ) → Bool
is_plain words = is_asking words || is_check words || is_migrate words || is_some (depth_behind (codes "refine") words) || is_some (word_behind (codes "generate") words) || is_some (word_behind (codes "selftest") words)
