-- Which monitors are accepted, which packets they match, and which reports they let through. Document 01, Commands
-- (03), Conditions, Watching; document 02, T-13 (0F, version 2 of 03), with the tables of 000,
-- HCI_VS_MSFT_LE_Monitor_Advertisement. Requests that change a rule change it here: nothing outside looks into these
-- definitions.
use Rattle.std.specs.Prelude.{ℕ, ◌+◌, ◌*◌, ◌/◌, ◌%◌, Bool, ◌&&◌, ◌||◌, not, List, [], ◌∷◌, leb, ltb, eqb, length, take, drop, get_or, replicate}
use Rattle.std.proofs.Math.Option.{Option, none, some}
use Rattle.std.specs.Int.Signed.{le_z, lt_z}
use Rattle.laws.specs.Tests.{pick, sames}
use Rattle.laws.specs.Loops.{every}
use Rattle.advert.specs.Irk.{irk_meets}
use Rattle.advert.specs.Condition.{meets, form_of, form_status}
use Rattle.model.specs.Types.{Monitor, Packet, device, device_of, scan_text, ticks_of}
use Rattle.model.specs.Level.{d_bm, in_range}
use Rattle.model.specs.Layout.{address_size, extra_size, filtering_in, first_type_in, irk_in, irk_size, most_condition, options_in, peer_in, peer_type_in, second_type_in}

-- The status codes (Core): invalid parameters, memory capacity exceeded, command disallowed, unknown command.
abbrev pub invalid : ℕ
invalid = 0x12

abbrev pub full : ℕ
full = 0x07

abbrev pub disallowed : ℕ
disallowed = 0x0C

abbrev pub unknown : ℕ
unknown = 0x01

-- T-01: "Accept equality; low above high stays 0x12"
unfoldable pub ordered : ℕ → ℕ → Bool
ordered high low = le_z (d_bm low) (d_bm high)

-- Commands, 03: "a threshold outside −127 to 20", low above high (T-01), "interval outside 0x01 to 0x3C": none of these
unfoldable pub settings_good : ℕ → ℕ → ℕ → Bool
settings_good high low interval = in_range high && in_range low && ordered high low && leb 1 interval && leb interval 0x3C

-- what is said of a condition's form has its status (advert, Condition); a well-formed one may be too long:
-- "condition type outside 1 to 4: 0x12 .. Malformed condition: 0x12. Condition over 64 octets .. 0x07"
unfoldable pub condition_fault : ℕ → List ℕ → ℕ
condition_fault kind condition =
    pick (eqb (form_status (form_of kind condition)) 0) (pick (ltb most_condition (length condition)) full 0)
    (form_status (form_of kind condition))

-- 000, Missing parameters, what version 1 stands for: "Monitor_options: bit 5 set;
-- Advertisement_report_filter_options: bits 1 and 2 set", all else 0
unfoldable pub missing : List ℕ
missing = 0x20 ∷ 0x06 ∷ replicate 23 0

-- the added parameters that hold for a monitor of either version; all that follows is stated over them
unfoldable pub parameters_of : Option (List ℕ) → List ℕ
parameters_of none = missing
parameters_of (some l) = l

unfoldable pub parameters : Monitor → List ℕ
parameters m = parameters_of m.extra

unfoldable pub options : List ℕ → ℕ
options a = get_or a options_in 0

unfoldable pub filtering : List ℕ → ℕ
filtering a = get_or a filtering_in 0

-- the peer device, and its key
unfoldable pub peer_type : List ℕ → ℕ
peer_type a = get_or a peer_type_in 0

unfoldable pub peer : List ℕ → List ℕ
peer a = device (peer_type a) (take address_size (drop peer_in a))

unfoldable pub irk : List ℕ → List ℕ
irk a = take irk_size (drop irk_in a)

-- whether an octet has the bit of that weight
unfoldable pub has_bit : ℕ → ℕ → Bool
has_bit weight o = eqb (o / weight % 2) 1

-- bit 0 of report filtering: "Filter duplicate advertising PDUs"
unfoldable pub sifts_by : List ℕ → Bool
sifts_by a = has_bit 1 (filtering a)

unfoldable pub sifts : Monitor → Bool
sifts m = sifts_by (parameters m)

-- whether a number is 0
abbrev pub is_none : ℕ → Bool
is_none o = eqb o 0

-- 000: "If all bits of Monitor_options are clear": bits 0 to 5, the others being reserved
unfoldable pub no_option : List ℕ → Bool
no_option a = is_none (options a % 64)

-- "If bit 1 or bit 3 of Monitor_options is set and Peer_device_IRK is an invalid IRK", which is the one of zeros
unfoldable pub no_key : List ℕ → Bool
no_key a = (has_bit 2 (options a) || has_bit 8 (options a)) && every is_none (irk a)

-- "If bit 0 or bit 1 or bit 2 or bit 3 of Monitor_options is set and Condition_type is 0x03 or 0x04"
unfoldable pub two_devices : List ℕ → ℕ → Bool
two_devices a kind = not (is_none (options a % 16)) && (eqb kind 3 || eqb kind 4)

-- "If bit 0 of Advertisement_report_filter_options is set and RSSI_sampling_period is other than 0x00"
unfoldable pub sampled_sifting : List ℕ → ℕ → Bool
sampled_sifting a sampling = sifts_by a && not (is_none sampling)

-- T-13, "whatever its tables forbid is 0x12": none of these, and Peer_device_address_type is not a reserved value
unfoldable pub allowed : List ℕ → ℕ → ℕ → Bool
allowed a sampling kind =
    not (no_option a) && not (no_key a) && not (two_devices a kind) && not (sampled_sifting a sampling)
    && leb (peer_type a) 1

-- Commands, 03 and 0F, in this order: the settings and the added parameters, all of them 0x12, then the condition; 0
-- where all are met.
unfoldable pub fault_of : Monitor → ℕ
fault_of m =
    pick (settings_good m.high m.low m.interval && allowed (parameters m) m.sampling m.condition_type)
    (condition_fault m.condition_type m.condition) invalid

-- the monitor's command would accept it, but for the room for one more
unfoldable pub accepts : Monitor → Bool
accepts m = eqb (fault_of m) 0

-- a parameter list is version 2's: the sub-opcode is octet 0
unfoldable pub is_second : List ℕ → Bool
is_second l = eqb (get_or l 0 0) 0x0F

-- where the condition's type stands, and what version 2 has before it
unfoldable pub type_in : List ℕ → ℕ
type_in l = pick (is_second l) second_type_in first_type_in

unfoldable pub extra_of : List ℕ → Option (List ℕ)
extra_of l = pick (is_second l) (some (take extra_size (drop first_type_in l))) none

-- "Parameters after it: high, low, interval, sampling, condition type, condition"; 0F has the added ones before the
-- condition type
unfoldable pub monitor_of : List ℕ → Monitor
monitor_of l =
    record {
      high = get_or l 1 0;
      low = get_or l 2 0;
      interval = get_or l 3 0;
      sampling = get_or l 4 0;
      condition_type = get_or l (type_in l) 0;
      condition = drop (type_in l + 1) l;
      extra = extra_of l;
    }

-- Conditions: the packet matches the monitor's condition. 000: MatchesCondition
unfoldable pub meets_condition : Monitor → Packet → Bool
meets_condition m p = meets m.condition_type m.condition p.address_type p.address p.adv
    (scan_text p.scan)

-- 000: "Monitor_options bit 5 is set"; IsAdvAMatch: "(bit 0 is set) && ((AdvA == Peer_device_address) && (TxAdd ==
-- Peer_device_address_type)) || (bit 1 is set) && (AdvA resolvable with Peer_device_IRK)". Bits 2, 3 and 4 ask for a
-- TargetA, which no packet carries (H): they match nothing.
unfoldable pub admits : List ℕ → Packet → Bool
admits a p =
    has_bit 32 (options a)
    || ((has_bit 1 (options a) && sames (peer a) (device_of p))
    || (has_bit 2 (options a) && irk_meets (irk a) p.address_type p.address))

-- 000: MonitorOptionsMatch
unfoldable pub matches : Monitor → Packet → Bool
matches m p = meets_condition m p && admits (parameters m) p

-- 000: ShouldGenerateLegacyReport or ShouldGenerateDirectedReport. Bit 1 of report filtering is for legacy PDUs,
-- which all packets are, bit 3 for directed ones, those of event type 1 (Core, ADV_DIRECT_IND); bit 2 is for extended
-- ones.
unfoldable pub lets_through : ℕ → ℕ → Bool
lets_through bits event = has_bit 2 bits || (has_bit 8 bits && eqb event 1)

unfoldable pub allows : Monitor → ℕ → Bool
allows m event = lets_through (filtering (parameters m)) event

-- "A packet is good if its RSSI is above low." T-01: "While under watch, a packet at the shared value is low." A
-- start packet is good whatever `low` is: a pair starts with no ticks since a good packet (Watch, `start_pair`).
unfoldable pub good : Monitor → Packet → Bool
good m p = lt_z (d_bm m.low) (d_bm p.rssi)

-- "its RSSI is at least high"
unfoldable pub strong : Monitor → Packet → Bool
strong m p = le_z (d_bm m.high) (d_bm p.rssi)

-- "10 × interval ticks": the run without a good packet that ends a watch
unfoldable pub run_of : Monitor → ℕ
run_of m = ticks_of m.interval

-- "for sampling P from 0x01 to 0xFE"
unfoldable pub windowed : Monitor → Bool
windowed m = leb 1 m.sampling && leb m.sampling 0xFE
