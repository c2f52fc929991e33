-- A tick on the pair table, row by row: what a turn leaves, what all turns leave. Document 01, Watching, by history
-- (Tick).
-- Assumes nothing.
use Rattle.std.specs.Prelude.{ℕ, ◌+◌, ◌-◌, ◌*◌, ◌≤◌, ◌≡◌, List, [], ◌∷◌, ◌++◌, eqb, length, get_or, replicate}
use Rattle.laws.specs.Tests.{pick}
use Rattle.laws.specs.Put.{put}
use Rattle.laws.specs.Loops.{up_to}
use Rattle.blocks.specs.Added.{filtering_of}
use Rattle.model.specs.Layout.{report_most}
use Rattle.model.specs.Layout.{extra_at, monitor_size, monitors_at, pair_size}

-- what one row's turn leaves: K the octets of the rows kept, T the octets written
pub record Turned (t₀ t out₀ out : List ℕ) (kept at k n : ℕ) (K T : List ℕ) : Type 0 where
  pub table : t ≡ put t₀ (pair_size * kept) K
  pub size : pair_size * k ≡ pair_size * kept + length K
  pub octets : out ≡ put out₀ at T
  pub count : n ≡ at + length T
  pub kept-most : k ≤ kept + 1
  pub wrote-most : n ≤ at + report_most

-- what the turns of the rows below i leave
pub record Passed (t₀ t out₀ out : List ℕ) (k n : ℕ) (f g : ℕ → List ℕ) (i : ℕ) : Type 0 where
  pub table : t ≡ put t₀ 0 (up_to f i)
  pub size : pair_size * k ≡ length (up_to f i)
  pub octets : out ≡ put out₀ 0 (up_to g i)
  pub count : n ≡ length (up_to g i)

-- what a pass over all rows leaves, the freed rows cleared
pub record Cleared (t₀ t out₀ out : List ℕ) (k n : ℕ) (f g : ℕ → List ℕ) (i : ℕ) : Type 0 where
  pub table : t ≡ put t₀ 0 (up_to f i ++ replicate (pair_size * (i - k)) 0)
  pub size : pair_size * k ≡ length (up_to f i)
  pub octets : out ≡ put out₀ 0 (up_to g i)
  pub count : n ≡ length (up_to g i)
  pub kept-most : k ≤ i
  pub wrote-most : n ≤ report_most * i

-- a number for each of the first n handles; one octet of each of the monitor rows
unfoldable pub column_by : (ℕ → ℕ) → ℕ → List ℕ
column_by f n = up_to (λ h. f h ∷ []) n

abbrev pub column_of : List ℕ → ℕ → ℕ → List ℕ
column_of s at n = column_by (λ h. get_or s (at + monitor_size * h) 0) n

-- the report filtering of a monitor's row where the filter is on, else 0
unfoldable pub filter_by : ℕ → ℕ → ℕ → ℕ
filter_by filter options bits = pick (eqb filter 1) (filtering_of options bits) 0

unfoldable pub filter_in : List ℕ → ℕ → ℕ → ℕ
filter_in s filter h =
    filter_by filter (get_or s (monitors_at + monitor_size * h + extra_at) 0)
    (get_or s (monitors_at + monitor_size * h + (extra_at + 1)) 0)
