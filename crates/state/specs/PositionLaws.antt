-- The position moved by one frame, and whether a frame may be taken at all, as the code does it. Document 01, Lines
-- ("the position"), Refusal numbers (3). Assumes nothing.
use Rattle.std.specs.Prelude.{◌≡◌, ℕ, ◌+◌, ◌%◌, ◌^◌, ◌<◌, ◌≤◌, Bool, true, false, ◌&&◌, List, length, ◌==◌, ◌≢◌, nat_le, nat_lt, refl}
use Rattle.std.proofs.Math.Path.{sym}
use Rattle.std.proofs.Common.{ap, ◌∙◌, arith}
use borrow.Author.Tests.{ne_eqb, eq-eqb, le-leb, lt-leb}
use Rattle.laws.specs.Tests.{pick}
use Rattle.laws.specs.TestsLaws.{pick_true, and-not-left, and-not-right}
use Rattle.laws.specs.Put.{put, put_if}
use Rattle.laws.specs.PutLaws.{put-if-true, put-if-false}
use Rattle.octets.specs.Little.{little, octets_of}
use Rattle.octets.specs.LittleLaws.{octets-mod}
use Rattle.octets.specs.Numbers.{number_at}
use Rattle.octets.specs.NumbersLaws.{number-of}
use Rattle.sessions.specs.Machine.{answer_room, last_number}
use Rattle.model.specs.Block.{advanced, ready}
use Rattle.model.specs.Layout.{block_size, position_at}

-- the number read, one more written
pub advanced-by : (s : List ℕ) {v x : ℕ} {t : List ℕ} {r : Bool} → v ≡ number_at 4 s position_at → x ≡ (v + 1) % 2 ^ 32
    → r ≡ nat_le (position_at + 4) (length s) → t ≡ put_if r s position_at (octets_of 4 x) → t ≡ advanced s
unfolding advanced number_at put_if
advanced-by s {v} {x} {t} {r} e f g w = go (nat_le 4 (length s)) refl
  where
    go : (b : Bool) → nat_le 4 (length s) ≡ b
        → t ≡ put_if (nat_le 4 (length s)) s position_at (octets_of 4 (little 4 s position_at + 1))
    go true q =
        let n : v ≡ little 4 s position_at = e ∙ pick_true (little 4 s position_at) 0 q in
        let o : octets_of 4 x ≡ octets_of 4 (little 4 s position_at + 1) =
        ap (octets_of 4) (f ∙ ap (λ (z : ℕ). (z + 1) % 4294967296) n) ∙ octets-mod 4 (little 4 s position_at + 1) in
        w ∙ sym (put-if-true s position_at (octets_of 4 x) (g ∙ q)) ∙ ap (put s position_at) o
        ∙ put-if-true s position_at (octets_of 4 (little 4 s position_at + 1)) q
    go false q =
        w ∙ sym (put-if-false s position_at (octets_of 4 x) (g ∙ q))
        ∙ put-if-false s position_at (octets_of 4 (little 4 s position_at + 1)) q

-- a block of another length, an output too short, else what the position says
module _ (s out : List ℕ) where
  pub ready-block : (length s ≢ block_size) → false ≡ ready s out
  unfolding ready
  ready-block n = sym (and-not-left _ _ (ne_eqb (length s) block_size n))

  pub ready-room : length out < answer_room → false ≡ ready s out
  unfolding ready
  ready-room n = sym (and-not-right (length s == block_size) _ (and-not-left _ _ (lt-leb answer_room (length out) n)))

  pub ready-last : {v : ℕ} → length s ≡ block_size → answer_room ≤ length out → v ≡ number_at 4 s position_at
      → nat_lt v 4294967295 ≡ ready s out
  unfolding ready last_number
  ready-last {v} l o e =
      let k : v ≡ little 4 s position_at = number-of 4 s position_at e (omega arith) in
      rw (eq-eqb (length s) block_size l, le-leb answer_room (length out) o, k)
