-- What asking answers. Document 02, T-02: "Asking gives how many monitors watch it and the lowest such handle, or
-- that there is none." Document 01, What form each place takes: "ones and trailing zeros of the 16-bit handle mask of
-- a device". Assumes nothing.
use Rattle.std.specs.Prelude.{ℕ, suc, List, [], ◌∷◌, length, Option, Some, None}
use Rattle.index.specs.declared.Watchers.{Watchers}

-- how many handles there are and the lowest, or that there is none
unfoldable pub watch_of : List ℕ → Option Watchers
watch_of [] = None
watch_of (h ∷ hs) = Some (record { count = suc (length hs); lowest = h })

-- the values of what asking answers: how many, 0 where there is none; the lowest handle, 0 where there is none
unfoldable pub watch_count : Option Watchers → ℕ
watch_count (Some w) = w.count
watch_count None = 0

unfoldable pub lowest_in : Option Watchers → ℕ
lowest_in (Some w) = w.lowest
lowest_in None = 0
