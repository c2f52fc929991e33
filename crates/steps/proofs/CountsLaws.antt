-- T-11: what it rests on that a window never overflows, so that no refusal is needed for it: a window of a sound
-- state holds no more packets than the position, and a frame is executed only below the last number (sessions,
-- History.at-the-end). So the count that a packet writes fits 4 octets, and the sum 8. Assumes nothing.
use Rattle.std.specs.Prelude.{ℕ, ◌+◌, ◌*◌, ◌≤◌, ◌<◌, ◌≡◌, Bool, true, false}
use Rattle.std.proofs.Common.{arith}
use Rattle.rule.specs.Base.{All}
use Rattle.sessions.specs.Machine.{last_number}
use Rattle.model.specs.Types.{Model, Monitor, Pair}
use Rattle.model.specs.Monitors.{windowed}
use Rattle.model.specs.Sound.{sound_model}
use Rattle.steps.specs.ListsLaws.{all-weaken}
use Rattle.steps.specs.FactsLaws.{Gathers, gathers-of, shut-of}
use Rattle.steps.specs.WholeLaws.{Kept, Held}
use Rattle.steps.proofs.WholeLaws.{sound-of}
use Rattle.steps.proofs.MovesLaws.{by-test}

kept-count : (k : ℕ) (m : Monitor) (q : Pair) → Kept k m q → q.packets ≤ k
kept-count k m q s =
    by-test (windowed m) (λ w. (gathers-of k m q w s.window).packets-most)
    (λ w. omega (arith, (shut-of k m q w s.window).no-packets))

-- a window holds no more packets than the position
pub window-count : (m : Model) → sound_model m ≡ true → All (λ q. q.packets ≤ m.position) m.pairs
window-count m s =
    all-weaken (Held m.position m.mons) (λ q. q.packets ≤ m.position)
    (λ q t. kept-count m.position t.mon q t.kept) m.pairs (sound-of m s).pairs.held

-- so below the last number one packet more is counted in 4 octets,
pub count_fits_lem : (m : Model) → sound_model m ≡ true → m.position < last_number
    → All (λ q. q.packets + 1 < 4294967296) m.pairs
unfolding last_number
count_fits_lem m s h =
    all-weaken (λ q. q.packets ≤ m.position) (λ q. q.packets + 1 < 4294967296) (λ q n. omega arith) m.pairs
    (window-count m s)

-- and the RSSI of so many packets, −127 to 20 each, add up to what 8 octets hold
pub sum_fits_lem : (m : Model) → sound_model m ≡ true → m.position < last_number
    → All (λ q. 127 * (q.packets + 1) < 9223372036854775808) m.pairs
unfolding last_number
sum_fits_lem m s h =
    all-weaken (λ q. q.packets ≤ m.position) (λ q. 127 * (q.packets + 1) < 9223372036854775808) (λ q n. omega arith)
    m.pairs (window-count m s)
