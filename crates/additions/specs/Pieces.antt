-- The text of additions read in pieces of any size: how the giving stands after each character. The line that has no
-- LF yet is held in a room of one character more than the longest line of an addition: of a longer one so much stays
-- as makes it too long. Definitions alone.
use Rattle.refusals.specs.declared.Refusal.{Refusal}
use Rattle.std.specs.Prelude.{ℕ, ◌+◌, min, is_err, List, [], ◌∷◌, eqb, take, set, Result, Ok, Err}
use Rattle.lines.specs.Hex.{lf}
use Rattle.laws.specs.Tests.{pick}
use Rattle.sessions.specs.Machine.{Outcome}
use Rattle.sessions.specs.Session.{state_after}
use Rattle.engine.specs.Tries.{tried_of}
use Rattle.additions.specs.declared.Course.{Course}
use Rattle.additions.specs.Additions.{line_most, add_line, next}

-- the block, the room for a line, and the rest of how it stands
pub record Standing : Type 0 where
  pub state : List ℕ
  pub line : List ℕ
  pub course : Course

unfoldable pub begun : Course
begun = record { held = 0; lines = 0; stop = Ok tt }

-- after a line: a refused one stops
unfoldable pub course_after : ℕ → Result Unit Refusal → Course
course_after lines (Ok tt) = record { held = 0; lines = next lines; stop = Ok tt }
course_after lines (Err x) = record { held = 0; lines = lines; stop = Err x }

-- after a line, by its outcome; the room as the line was held in it
unfoldable pub given : List ℕ → List ℕ → ℕ → Outcome (List ℕ) → Standing
given s line lines o = record { state = state_after s o; line = line; course = course_after lines (tried_of o) }

-- the characters held, at most as many as the longest line has
unfoldable pub held_in : ℕ → ℕ
held_in n = min n line_most

-- a character behind those held
unfoldable pub placed : Standing → ℕ → List ℕ
placed g c = set g.line (held_in g.course.held) c

-- the line that an LF ends
unfoldable pub ended : Standing → ℕ → Standing
ended g c = given g.state (placed g c) g.course.lines
    (add_line g.state (take (held_in g.course.held + 1) (placed g c)))

-- any other character is held
unfoldable pub longer : Standing → ℕ → Standing
longer g c =
    record {
      state = g.state;
      line = placed g c;
      course = record {
        held = held_in (held_in g.course.held + 1);
        lines = g.course.lines;
        stop = g.course.stop;
      };
    }

-- one character more; after a refusal nothing is read
unfoldable pub stepped : Standing → ℕ → Standing
stepped g c = pick (is_err g.course.stop) g (pick (eqb c lf) (ended g c) (longer g c))

-- so many characters more
unfoldable pub fed : Standing → List ℕ → Standing
fed g [] = g
fed g (c ∷ r) = fed (stepped g c) r
