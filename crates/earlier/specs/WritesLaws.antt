-- A write that told whether it was done, where there is room.
use Rattle.std.specs.Prelude.{◌≡◌, ℕ, ◌+◌, ◌≤◌, Bool, List, length, nat_le}
use Rattle.laws.specs.Put.{put, put_if}
use Rattle.laws.specs.PutLaws.{put_of}

pub put-made : (xs : List ℕ) (at : ℕ) (ys : List ℕ) {r : Bool} {m : List ℕ}
    → (r ≡ nat_le (at + length ys) (length xs)) × (m ≡ put_if r xs at ys) → at + length ys ≤ length xs → m ≡ put xs at ys
put-made xs at ys e h = put_of xs at ys (length ys) (length xs) e.0 h e.1
