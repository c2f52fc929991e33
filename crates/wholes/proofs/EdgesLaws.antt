-- Document 02, T-02, in rows that the checker computes: the index after frames, from the pairs that they leave, and
-- which handles it says of a device. None, one, sixteen handles; two devices with one address and the two types; a
-- device whose first pair ends while another is held, by a cancel and by a tick; a pair that is displaced. The
-- expected rows follow from the document by hand.
use Rattle.std.specs.Prelude.{ℕ, suc, ◌+◌, ◌≡◌, refl, Bool, true, ◌&&◌, List, [], ◌∷◌, ◌++◌, map, length}
use Rattle.laws.specs.Tests.{sames}
use Rattle.laws.specs.Loops.{every}
use Rattle.laws.specs.Rows.{flat}
use Rattle.octets.specs.Little.{octets_of}
use Rattle.model.specs.Types.{Pair, fresh}
use Rattle.model.specs.Engine.{models}
use Rattle.model.specs.Rows.{reached, cmd, pkt, tcks, add_watch}
use Rattle.model.specs.Requests.{from, add_commands, crowd, aa, bb}
use Rattle.wholes.specs.Index.{bit_of, with_handle, noted, noted_all, index_of, entry_row, mask_in, handles_from, handles_of}

-- frames from a fresh state on, the rows of the index after them, and the handles that watch a device
pub record Asking : Type 0 where
  pub frames : List (List ℕ)
  pub index : List (List ℕ)
  pub device : List ℕ
  pub handles : List ℕ

unfoldable pub pairs_after : List (List ℕ) → List Pair
pairs_after fs = (reached models fresh (fresh 0xFC1E (0x4D ∷ 0x53 ∷ [])) fs).pairs

unfoldable pub rightly : Asking → Bool
rightly r =
    sames (flat (map entry_row (index_of (pairs_after r.frames)))) (flat r.index)
    && sames (handles_of (mask_in r.device (map entry_row (index_of (pairs_after r.frames))))) r.handles

-- the device d 5 4 3 2 1, public; its row with a mask's two octets
unfoldable pub at : ℕ → List ℕ
at d = 0 ∷ d ∷ 5 ∷ 4 ∷ 3 ∷ 2 ∷ 1 ∷ []

unfoldable pub row : ℕ → ℕ → ℕ → List ℕ
row d low high = at d ++ (low ∷ high ∷ [])

-- a monitor of so many seconds from a level on, low −127, of `aa`; a monitor of the address 6 5 4 3 2 1 and a packet
-- of it, by address type
unfoldable pub add_short : ℕ → ℕ → List ℕ
add_short high seconds = 0x03 ∷ high ∷ 0x81 ∷ seconds ∷ 0xFF ∷ 1 ∷ 1 ∷ 3 ∷ 0xFF ∷ 0 ∷ 0xAA ∷ []

unfoldable pub add_of : ℕ → List ℕ
add_of kind = 0x03 ∷ 0xC4 ∷ 0xB0 ∷ 0x03 ∷ 0x00 ∷ 0x04 ∷ kind ∷ 0x06 ∷ 0x05 ∷ 0x04 ∷ 0x03 ∷ 0x02 ∷ 0x01 ∷ []

unfoldable pub pkt_of : ℕ → ℕ → List ℕ
pkt_of n kind = 2 ∷ (octets_of 4 n ++ (0 ∷ kind ∷ 6 ∷ 5 ∷ 4 ∷ 3 ∷ 2 ∷ 1 ∷ 0 ∷ 0xC4 ∷ []))

-- two monitors, of 1 s from −60 and of 60 s from −50: device 1 starts under the first, device 2 under both, device 1
-- under the second
unfoldable pub crossed : List (List ℕ)
crossed = cmd 1 (add_short 0xC4 1) ∷ cmd 2 (add_short 0xCE 60) ∷ from 3 1 aa 0xC4 ∷ from 4 2 aa 0xCE ∷ from 5 1 aa 0xCE
    ∷ []

unfoldable pub askings : List Asking
askings =
    -- no pair: of no device
    record { frames = []; index = []; device = at 1; handles = [] }
    ∷ record { frames = add_commands 16 1; index = []; device = at 1; handles = [] }
    -- one handle; another device, and the address with the other type
    ∷ record { frames = cmd 1 add_watch ∷ pkt 2 0xC4 ∷ []; index = row 6 1 0 ∷ []; device = at 6; handles = 0 ∷ [] }
    ∷ record { frames = cmd 1 add_watch ∷ pkt 2 0xC4 ∷ []; index = row 6 1 0 ∷ []; device = at 7; handles = [] }
    ∷ record {
      frames = cmd 1 add_watch ∷ pkt 2 0xC4 ∷ [];
      index = row 6 1 0 ∷ [];
      device = 1 ∷ 6 ∷ 5 ∷ 4 ∷ 3 ∷ 2 ∷ 1 ∷ [];
      handles = [];
    }
    -- sixteen handles; two of them cancelled
    ∷ record {
      frames = add_commands 16 1 ++ (from 17 1 aa 0xCE ∷ []);
      index = row 1 0xFF 0xFF ∷ [];
      device = at 1;
      handles = 0 ∷ 1 ∷ 2 ∷ 3 ∷ 4 ∷ 5 ∷ 6 ∷ 7 ∷ 8 ∷ 9 ∷ 10 ∷ 11 ∷ 12 ∷ 13 ∷ 14 ∷ 15 ∷ [];
    }
    ∷ record {
      frames = add_commands 16 1 ++ (from 17 1 aa 0xCE ∷ cmd 18 (0x04 ∷ 0 ∷ []) ∷ cmd 19 (0x04 ∷ 15 ∷ []) ∷ []);
      index = row 1 0xFE 0x7F ∷ [];
      device = at 1;
      handles = 1 ∷ 2 ∷ 3 ∷ 4 ∷ 5 ∷ 6 ∷ 7 ∷ 8 ∷ 9 ∷ 10 ∷ 11 ∷ 12 ∷ 13 ∷ 14 ∷ [];
    }
    -- one address, two types: two devices
    ∷ record {
      frames = cmd 1 (add_of 0) ∷ cmd 2 (add_of 1) ∷ pkt_of 3 1 ∷ pkt_of 4 0 ∷ [];
      index = (1 ∷ 6 ∷ 5 ∷ 4 ∷ 3 ∷ 2 ∷ 1 ∷ 2 ∷ 0 ∷ []) ∷ row 6 1 0 ∷ [];
      device = 1 ∷ 6 ∷ 5 ∷ 4 ∷ 3 ∷ 2 ∷ 1 ∷ [];
      handles = 1 ∷ [];
    }
    -- the order is that of the first held pair, not of the latest start; it moves where that pair ends and another is
    -- held
    ∷ record { frames = crossed; index = row 1 3 0 ∷ row 2 3 0 ∷ []; device = at 1; handles = 0 ∷ 1 ∷ [] }
    ∷ record {
      frames = crossed ++ (cmd 6 (0x04 ∷ 0 ∷ []) ∷ []);
      index = row 2 2 0 ∷ row 1 2 0 ∷ [];
      device = at 1;
      handles = 1 ∷ [];
    }
    ∷ record { frames = crossed ++ tcks 9 6; index = row 1 3 0 ∷ row 2 3 0 ∷ []; device = at 2; handles = 0 ∷ 1 ∷ [] }
    ∷ record { frames = crossed ++ tcks 10 6; index = row 2 2 0 ∷ row 1 2 0 ∷ []; device = at 2; handles = 1 ∷ [] }
    -- 64 pairs, and one of them displaced by a packet of another device
    ∷ record {
      frames = crowd ++ (from 25 8 bb 0xC4 ∷ []);
      index = row 1 0xFF 0x7F ∷ row 2 0xFF 0x7F ∷ row 3 0xFF 0x7F ∷ row 4 0xFF 0x7F ∷ row 5 0 0x80 ∷ row 6 0 0x80
          ∷ row 7 0 0x80 ∷ row 8 0 0x80 ∷ [];
      device = at 8;
      handles = 15 ∷ [];
    }
    ∷ record {
      frames = crowd ++ (from 25 8 bb 0xC4 ∷ from 26 9 bb 0xC5 ∷ []);
      index = row 1 0xFF 0x7F ∷ row 2 0xFF 0x7F ∷ row 3 0xFF 0x7F ∷ row 4 0xFF 0x7F ∷ row 5 0 0x80 ∷ row 6 0 0x80
          ∷ row 7 0 0x80 ∷ row 9 0 0x80 ∷ [];
      device = at 8;
      handles = [];
    }
    ∷ []

pub askings-hold : every rightly askings ≡ true
unfolding pairs_after rightly at row add_short add_of pkt_of crossed askings bit_of with_handle noted noted_all index_of
    entry_row mask_in handles_from handles_of Rattle.model.specs.Computed.computed
askings-hold = refl
