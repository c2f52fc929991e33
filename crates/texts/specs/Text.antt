-- A text of at most so many characters. Definitions alone.
use Rattle.std.specs.Prelude.{ℕ, List, take}
use Rattle.texts.specs.declared.Text.{Text}

-- more characters than any message has
abbrev pub room : ℕ
room = 256

-- a text's characters
unfoldable pub told : Text → List ℕ
told t = take t.count t.octets
