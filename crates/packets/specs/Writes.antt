-- Writes inside the pair rows of a block: a pair changed, a pair at its start. Document 01, The image (A3), Watching,
-- by history. Assumes nothing.
use Rattle.std.specs.Prelude.{◌≡◌, ℕ, Bool, List, [], length}
use Rattle.laws.specs.Tests.{pick}
use Rattle.laws.specs.Put.{put}
use Rattle.model.specs.Types.{Packet, Pair}
use Rattle.model.specs.Watch.{with_latest}

-- the pair read past the end
unfoldable pub no_pair : Pair
no_pair =
    record {
      handle = 0;
      address_type = 0;
      address = [];
      since_good = 0;
      ticks = 0;
      packets = 0;
      sum = 0;
      kept = 0;
      event = 0;
      adv = [];
    }

-- ys written into out at an index, and how many
pub record PutAt (out : List ℕ) (at : ℕ) (ys after : List ℕ) (n : ℕ) : Type 0 where
  pub octets : after ≡ put out at ys
  pub count : n ≡ length ys

-- with its monitor's octet: the packet is kept for duplicates, or none is
unfoldable pub begun_as : Bool → Bool → Packet → Pair → Pair
begun_as sifting reason p q = pick sifting (pick reason (with_latest p.event p.adv q) (with_latest 255 [] q)) q
