-- Worked examples, computed by the checker as rows of one list: source document 000's appendix (one condition of
-- two patterns, packets A, B, C, D: pass, pass, pass, fail) and document 01's edge P9 (a 16-bit UUID straddling two
-- others: no match), with the two UUIDs that it straddles; then request T-06's two texts. Assumes nothing.
use Rattle.std.specs.Prelude.{◌≡◌, ℕ, Bool, true, false, not, ◌&&◌, List, [], ◌∷◌, ◌++◌, refl}
use Rattle.laws.specs.Loops.{every, some, when}
use Rattle.laws.specs.Rows.{rows}
use Rattle.laws.specs.Tests.{pick, sames}
use Rattle.advert.specs.Parts.{parts_from, parts}
use Rattle.advert.specs.Sections.{sections, is_type, contents_of, contents}
use Rattle.advert.specs.Either.{both}
use Rattle.advert.specs.Pattern.{holds_at, patterns, extent, fills, patterns_form, pattern_meets, patterns_meet}
use Rattle.advert.specs.Uuid.{uuids, lists_uuid, uuid_size, uuid_form, uuid_meets}
use Rattle.advert.specs.Address.{address_form, address_meets}
use Rattle.advert.specs.Condition.{well_formed, meets}

-- a condition, an advertisement and a scan response, and whether the one matches the others
pub record Row : Type 0 where
  pub kind : ℕ
  pub condition : List ℕ
  pub adv : List ℕ
  pub scan : List ℕ
  pub matched : Bool

-- whether a row comes out as it says: its condition is well formed, and its packet matches or not; the address does
-- not count for these types
unfoldable pub worked : Row → Bool
worked r =
    let m = meets r.kind r.condition 0 [] r.adv r.scan in
    well_formed r.kind r.condition && pick r.matched m (not m)

-- document 000's condition
unfoldable pub two : List ℕ
two = 2 ∷ 3 ∷ 0x01 ∷ 0 ∷ 0x01 ∷ 6 ∷ 0xFF ∷ 0 ∷ 0x00 ∷ 0x06 ∷ 0xFF ∷ 0xFF ∷ []

-- document 000's packets
unfoldable pub packet_a : List ℕ
packet_a = 2 ∷ 0x01 ∷ 0x01 ∷ 7 ∷ 0x09 ∷ 0x54 ∷ 0x61 ∷ 0x62 ∷ 0x6C ∷ 0x65 ∷ 0x74 ∷ 5 ∷ 0xFF ∷ 0x00 ∷ 0x06 ∷ 0xFF ∷
    0xFF ∷ []

unfoldable pub packet_b : List ℕ
packet_b = 2 ∷ 0x01 ∷ 0x01 ∷ 7 ∷ 0x09 ∷ 0x54 ∷ 0x61 ∷ 0x62 ∷ 0x6C ∷ 0x65 ∷ 0x74 ∷ 4 ∷ 0xFF ∷ 0x00 ∷ 0x06 ∷ 0xFF ∷ []

unfoldable pub packet_c : List ℕ
packet_c = 7 ∷ 0x09 ∷ 0x54 ∷ 0x61 ∷ 0x62 ∷ 0x6C ∷ 0x65 ∷ 0x74 ∷ 5 ∷ 0xFF ∷ 0x00 ∷ 0x06 ∷ 0xFF ∷ 0xFF ∷ []

unfoldable pub packet_d : List ℕ
packet_d = 2 ∷ 0x01 ∷ 0x02 ∷ 5 ∷ 0xFF ∷ 0x00 ∷ 0x06 ∷ 0xFF ∷ 0x01 ∷ []

-- a list of the UUIDs 0x180D and 0x1810, as sent 0D 18 10 18; 0x1018 straddles them
unfoldable pub two_uuids : List ℕ
two_uuids = 5 ∷ 0x03 ∷ 0x0D ∷ 0x18 ∷ 0x10 ∷ 0x18 ∷ []

-- one octet 0xAA at the front of a section of AD type 0xFF, and sections that have it and that do not
unfoldable pub aa : List ℕ
aa = 1 ∷ 3 ∷ 0xFF ∷ 0 ∷ 0xAA ∷ []

unfoldable pub with_aa : List ℕ
with_aa = 2 ∷ 0xFF ∷ 0xAA ∷ []

unfoldable pub with_bb : List ℕ
with_bb = 2 ∷ 0xFF ∷ 0xBB ∷ []

-- the rows
unfoldable pub examples : List Row
examples =
    record { kind = 1; condition = two; adv = packet_a; scan = []; matched = true }
    ∷ record { kind = 1; condition = two; adv = packet_b; scan = []; matched = true }
    ∷ record { kind = 1; condition = two; adv = packet_c; scan = []; matched = true }
    ∷ record { kind = 1; condition = two; adv = packet_d; scan = []; matched = false }
    ∷ record { kind = 2; condition = 1 ∷ 0x18 ∷ 0x10 ∷ []; adv = two_uuids; scan = []; matched = false }
    ∷ record { kind = 2; condition = 1 ∷ 0x0D ∷ 0x18 ∷ []; adv = two_uuids; scan = []; matched = true }
    ∷ record { kind = 2; condition = 1 ∷ 0x10 ∷ 0x18 ∷ []; adv = two_uuids; scan = []; matched = true }
    ∷ record { kind = 1; condition = aa; adv = with_aa; scan = []; matched = true }
    ∷ record { kind = 1; condition = aa; adv = []; scan = with_aa; matched = true }
    ∷ record { kind = 1; condition = aa; adv = with_aa; scan = with_bb; matched = true }
    ∷ record { kind = 1; condition = aa; adv = with_bb; scan = with_aa; matched = true }
    ∷ record { kind = 1; condition = aa; adv = with_bb; scan = with_bb ++ with_aa; matched = true }
    ∷ record { kind = 1; condition = aa; adv = with_bb; scan = with_bb; matched = false }
    ∷ record { kind = 1; condition = aa; adv = 0 ∷ []; scan = with_aa; matched = true }
    ∷ record { kind = 1; condition = aa; adv = 9 ∷ 0xFF ∷ []; scan = with_aa; matched = true }
    ∷ record { kind = 1; condition = aa; adv = 2 ∷ 0xFF ∷ []; scan = 0xAA ∷ []; matched = false }
    ∷ record { kind = 2; condition = 1 ∷ 0x0D ∷ 0x18 ∷ []; adv = []; scan = two_uuids; matched = true }
    ∷ record {
      kind = 2;
      condition = 1 ∷ 0x0D ∷ 0x18 ∷ [];
      adv = 2 ∷ 0x03 ∷ 0x0D ∷ [];
      scan = 2 ∷ 0x03 ∷ 0x18 ∷ [];
      matched = false;
    }
    ∷ []

-- every row comes out as it says
pub examples-work : every worked examples ≡ true
unfolding examples worked two packet_a packet_b packet_c packet_d two_uuids aa with_aa with_bb well_formed meets pick
    parts_from parts
    sections is_type contents_of contents both holds_at patterns extent fills patterns_form pattern_meets patterns_meet uuids
    lists_uuid uuid_size uuid_form uuid_meets address_form address_meets every some when rows sames
examples-work = refl
