-- What was read of a row that stays and stands at its place says that it goes on, and that its count has room.
use Rattle.std.specs.Prelude.{◌≡◌, ℕ, ◌+◌, ◌≤◌, ◌<◌, Bool, true, List, length, get_or, ltb}
use Rattle.std.proofs.Common.{sym, ◌∙◌, arith, ltb-true}
use Rattle.octets.specs.Little.{little}
use Rattle.octets.specs.Numbers.{number_at}
use Rattle.octets.specs.NumbersLaws.{number-of}
use Rattle.model.specs.Types.{ticks_of}
use Rattle.model.specs.Layout.{pair_size, since_good_at}
use Rattle.ticks.specs.Row.{goes_on, run_in}

pub calm-on : (intervals r : List ℕ) {low run silent : ℕ} {on : Bool} → length r ≡ pair_size
    → low ≡ get_or intervals (get_or r 0 0) 0 → run ≡ ticks_of low
    → silent ≡ number_at 2 r since_good_at → on ≡ ltb (silent + 1) run → on ≡ true → goes_on (run_in intervals r) r ≡ true
unfolding goes_on run_in
calm-on intervals r h e1 e2 e4 e5 o =
    let s = number-of 2 r since_good_at e4 (omega arith) in
    rw (← s, ← e1, ← e2) (sym e5 ∙ o)

pub calm-silent : (r : List ℕ) {run silent : ℕ} {on : Bool} → length r ≡ pair_size → silent ≡ number_at 2 r since_good_at
    → on ≡ ltb (silent + 1) run
    → on ≡ true → run ≤ 65535 → little 2 r since_good_at < 65535
calm-silent r {run} {silent} h e4 e5 o b =
    let s : silent ≡ little 2 r since_good_at = number-of 2 r since_good_at e4 (omega arith) in
    let n : silent + 1 < run = ltb-true (silent + 1) run (sym e5 ∙ o) in
    omega arith
