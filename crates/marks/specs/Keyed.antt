-- Handles with a key, and packets with a resolvable private address (document 02, T-03). Assumes nothing.
use Rattle.std.specs.Prelude.{ℕ, ◌+◌, ◌*◌, ◌<◌, ◌≡◌, Bool, false, ◌&&◌, List, eqb, take, drop, get_or, Option, is_some, IfSome}
use Rattle.laws.specs.Rows.{row}
use Rattle.resolve.specs.Resolve.{resolvable}
use Rattle.model.specs.Frames.{packet_of}
use Rattle.model.specs.Monitors.{meets_condition}
use Rattle.model.specs.Image.{monitor_in}
use Rattle.model.specs.Layout.{monitor_size, monitors_at, most_monitors}

-- whether a payload's address is a random one with top bits 01
unfoldable pub private_of : List ℕ → Bool
private_of l = eqb (get_or l 1 0) 1 && resolvable (take 6 (drop 2 l))

-- the monitor of a handle has a key: its condition is of type 3
abbrev pub KeyAt : List ℕ → ℕ → Type 0
KeyAt s h = get_or s (monitors_at + monitor_size * h + 5) 0 ≡ 3

-- whether the key of a handle resolves the packet's address
abbrev pub FoundAt : List Bool → List ℕ → List ℕ → ℕ → Type 0
FoundAt m s l h =
    KeyAt s h → get_or m h false ≡ meets_condition (monitor_in (row monitor_size h (drop monitors_at s))).1 (packet_of l)

-- so of the handles before h that are asked
abbrev pub Keyed : List Bool → List ℕ → List ℕ → List ℕ → ℕ → Type 0
Keyed m s a l h = (j : ℕ) → j < h → (get_or a j 0 ≡ 0 → ⊥) → FoundAt m s l j

-- what the turn of a handle is told: for such an address what was found for its key
pub record Told (met : Option (List Bool)) (s l : List ℕ) (h : ℕ) : Type 0 where
  pub is : is_some met ≡ private_of l
  pub keyed : IfSome met (λ m. FoundAt m s l h)

-- and the loop over the handles
pub record ToldAll (met : Option (List Bool)) (s a l : List ℕ) : Type 0 where
  pub is : is_some met ≡ private_of l
  pub keyed : IfSome met (λ m. Keyed m s a l most_monitors)
