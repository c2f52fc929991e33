-- Laws of the definitions in Given.
use Rattle.std.specs.Prelude.{ℕ, ◌≡◌, refl, Bool, true, false, ◌&&◌, List}
use Rattle.std.proofs.Common.{sym, ap, ◌∙◌}
use Rattle.std.proofs.Math.Option.{none, some}
use Rattle.laws.specs.Tests.{pick}
use Rattle.laws.specs.Loops.{every}
use Rattle.octets.specs.Little.{is_octet}
use Rattle.lines.specs.Hex.{text_of, is_text, octets_in}
use Rattle.lines.specs.TextsLaws.{written_read}
use Rattle.lines.specs.Frame.{is_frame}
use Rattle.lines.specs.FrameLaws.{frame-least}
use Rattle.rule.specs.BaseLaws.{none≢some, some_inj}
use Rattle.sessions.specs.Machine.{Form, octets, text, Line}
use Rattle.model.specs.Frames.{Body, frame_of, raw_of, read_raw, read, write}
use Rattle.failover.specs.ReadLaws.{raw_of_lem}
use Rattle.delivery.specs.Given.{line_given}

raw-read : (raw : List ℕ) (x : Line Body) → read_raw raw ≡ some x → raw_of x ≡ raw
unfolding read_raw pick
raw-read raw x e = go (every is_octet raw) (is_frame raw) refl refl e
  where
    go : (a b : Bool) → every is_octet raw ≡ a → is_frame raw ≡ b → pick (a && b) (some (frame_of raw)) none ≡ some x
        → raw_of x ≡ raw
    go true true p q u = ap raw_of (sym (some_inj u)) ∙ raw_of_lem raw p (frame-least raw q)
    go true false p q u = absurd (none≢some u)
    go false b p q u = absurd (none≢some u)

-- it is the line that is written of the frame which was read
pub line-given : (w : Form) (r : List ℕ) (x : Line Body) → read w r ≡ some x → write x ≡ line_given w r
unfolding write read line_given pick
line-given octets r x e = ap text_of (raw-read r x e)
line-given text t x e = go (is_text t) refl e
  where
    go : (b : Bool) → is_text t ≡ b → pick b (read_raw (octets_in t)) none ≡ some x → text_of (raw_of x) ≡ t
    go true p u = ap text_of (raw-read (octets_in t) x u) ∙ written_read t p
    go false p u = absurd (none≢some u)
