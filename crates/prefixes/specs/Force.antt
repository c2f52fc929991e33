-- Which edition is in force at a frame, and its prefix written into the head of a block. Document 02, T-12 ("A frame
-- uses the edition with the greatest starting number not above its own"). Assumes nothing.
use Rattle.std.specs.Prelude.{ℕ, ◌-◌, ◌≤◌, ◌<◌, ◌≡◌, Bool, ◌&&◌, List, [], eqb, length}
use Rattle.laws.specs.Put.{put}
use Rattle.laws.specs.Tests.{pick}
use Rattle.laws.specs.Loops.{some}
use Rattle.model.specs.Layout.{prefix_length_at}
use Rattle.editions.specs.Editions.{Edition, prefix_for, most_editions}
use Rattle.wholes.specs.Layout.{whole_size}
use Rattle.wholes.specs.Heads.{prefix_row}
use Rattle.prefixes.specs.Held.{listed, edition_at}

-- The place in force plus 1, or 0.
pub record InForce (s : List ℕ) (n r : ℕ) : Type 0 where
  pub most : r ≤ most_editions
  pub none : r ≡ 0 → prefix_for n (listed s) ≡ []
  pub some : 0 < r → prefix_for n (listed s) ≡ (edition_at s (r - 1)).prefix

-- the head with the prefix in force at frame n; a block of another size as it is
unfoldable pub enforced : ℕ → List ℕ → List ℕ
enforced n s = pick (eqb (length s) whole_size) (put s prefix_length_at (prefix_row (prefix_for n (listed s)))) s

-- whether an edition begins at frame n
unfoldable pub begins_at : ℕ → List Edition → Bool
begins_at n es = some (λ (e : Edition). eqb e.from n) es

unfoldable pub starts_at : ℕ → List ℕ → Bool
starts_at n s = eqb (length s) whole_size && begins_at n (listed s)
