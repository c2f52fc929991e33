-- The line of a frame that was given, as a gateway keeps it in its journal: written of its octets, or the line
-- itself. Document 01, Lines, Sessions and failover. Assumes nothing.
use Rattle.std.specs.Prelude.{ℕ, List}
use Rattle.lines.specs.Hex.{text_of}
use Rattle.sessions.specs.Machine.{Form, octets, text}

unfoldable pub line_given : Form → List ℕ → List ℕ
line_given octets raw = text_of raw
line_given text t = t
