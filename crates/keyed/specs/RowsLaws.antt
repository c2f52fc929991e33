-- Document 02, T-03 and T-13: a monitor of a key, watched by the whole model, as rows that the checker computes, and
-- the same of the engine over blocks, which the calls' contracts cite. Keys and addresses are those of resolve
-- (Examples). Assumes nothing.
use Rattle.std.specs.Prelude.{ℕ, ◌+◌, ◌≡◌, refl, Bool, true, false, List, [], ◌∷◌, ◌++◌, map, length, replicate}
use Rattle.std.proofs.Common.{ap, ◌∙◌}
use Rattle.std.proofs.lemmas.Bool.{false≢true}
use Rattle.std.proofs.Math.Option.{none}
use Rattle.laws.specs.Loops.{every}
use Rattle.laws.specs.TestsLaws.{and_both, and_left, and_right}
use Rattle.octets.specs.Little.{octets_of}
use Rattle.resolve.specs.Examples.{sample_key}
use Rattle.resolve.specs.ExamplesLaws.{address, address_later, address_off, top00, top10, top11}
use Rattle.sessions.specs.Machine.{octets, answer_room}
use Rattle.sessions.specs.Session.{answer, state_after}
use Rattle.model.specs.Types.{Model, fresh}
use Rattle.model.specs.Engine.{models}
use Rattle.wholes.specs.Engine.{engine, begin}
use Rattle.model.specs.Rows.{Example, Reply, wrote, reply_of, same, answered, reached, imaged, right, session, cmd, quiet, added0, on, on_answer}
use Rattle.model.specs.Requests.{add_key, aa, bb}
use Rattle.model.specs.Second.{add_second, of_aa, second}
use Rattle.model.specs.Sound.{sound_settings, octets_up_to}
use Rattle.edges.specs.Edges.{example_with_edition}
use Rattle.edges.specs.EdgesLaws.{in_range, opens_full, rows-so}

-- a packet of kind 02 with no data: number, address type, address, RSSI; the event of a start and the report of such
-- a packet, with the address received
unfoldable pub from : ℕ → ℕ → List ℕ → ℕ → List ℕ
from n t a rssi = 2 ∷ (octets_of 4 n ++ (0 ∷ t ∷ (a ++ (0 ∷ rssi ∷ []))))

unfoldable pub start_of : List ℕ → List ℕ
start_of a = 0xFF ∷ 0x0C ∷ 0x4D ∷ 0x53 ∷ 0x02 ∷ 0x01 ∷ (a ++ (0x00 ∷ 0x01 ∷ []))

unfoldable pub report_of : List ℕ → ℕ → List ℕ
report_of a rssi = 0x3E ∷ 0x0C ∷ 0x02 ∷ 0x01 ∷ 0 ∷ 1 ∷ (a ++ (0 ∷ rssi ∷ []))

-- an address that the key resolves starts a watch: "Pairs and events keep the address received", so the image has it
unfoldable pub t03image : Example
t03image = session
    (cmd 1 (add_key sample_key) ∷ from 2 1 address 0xC4 ∷ [])
    (wrote added0 ∷ wrote (start_of address ++ report_of address 0xC4) ∷ [])
    ((0xA0 ∷ 2 ∷ 0 ∷ 0 ∷ 0 ∷ 0 ∷ 0x1E ∷ 0xFC ∷ 2 ∷ 0x4D ∷ 0x53 ∷ []) ∷
    (0xA1 ∷ 0 ∷ 0xC4 ∷ 0xB0 ∷ 3 ∷ 0 ∷ 3 ∷ 16 ∷ sample_key)
    ∷ (0xA3 ∷ 0 ∷ 1 ∷ (address ++ (replicate 15 0 ++ (0xC4 ∷ 0 ∷ 0 ∷ [])))) ∷ (0xAF ∷ 1 ∷ 1 ∷ []) ∷ [])

-- the next address of the same device starts another pair
unfoldable pub t03watch : Example
t03watch = session
    (cmd 1 (add_key sample_key) ∷ from 2 1 address 0xC4 ∷ from 3 1 address_later 0xC4 ∷ [])
    (wrote added0 ∷ wrote (start_of address ++ report_of address 0xC4)
    ∷ wrote (start_of address_later ++ report_of address_later 0xC4) ∷ [])
    []

-- the same address as a public one starts none, nor one with the hash off by a bit, nor ones with top bits 00, 10 and
-- 11
unfoldable pub t03not : Example
t03not = session
    (cmd 1 (add_key sample_key) ∷ cmd 2 on ∷ from 3 0 address 0xC4 ∷ from 4 1 address_off 0xC4 ∷ from 5 1 top00 0xC4
    ∷ from 6 1 top10 0xC4
    ∷ from 7 1 top11 0xC4 ∷ [])
    (wrote added0 ∷ wrote on_answer ∷ quiet 5)
    []

-- T-13: a packet of such an address with data, and its report
unfoldable pub from_data : ℕ → ℕ → List ℕ → List ℕ → ℕ → List ℕ
from_data n t a l rssi = 2 ∷ (octets_of 4 n ++ (0 ∷ t ∷ (a ++ (length l ∷ (l ++ (rssi ∷ []))))))

unfoldable pub report_data : List ℕ → List ℕ → ℕ → List ℕ
report_data a l rssi = 0x3E ∷ (12 + length l) ∷ 0x02 ∷ 0x01 ∷ 0 ∷ 1 ∷ (a ++ (length l ∷ (l ++ (rssi ∷ []))))

-- bit 1 of Monitor_options: the key does not resolve a public address, nor does an address alone, without the
-- condition, match; both together do
unfoldable pub t13key : Example
t13key = session
    (cmd 1 (add_second 0 0x02 2 sample_key of_aa) ∷ cmd 2 on ∷ from_data 3 0 address aa 0xC4 ∷ from_data 4 1 address bb 0xC4
    ∷ from_data 5 1 address aa 0xC4 ∷ [])
    (second 0 0 ∷ wrote on_answer ∷ wrote [] ∷ wrote [] ∷ wrote (start_of address ++ report_data address aa 0xC4) ∷ [])
    []

-- the rows
unfoldable pub keyed : List Example
keyed = t03image ∷ t03watch ∷ t03not ∷ t13key ∷ []

-- a session in two parts: the second goes on from the state that the first reached
two-parts : (m : Model) (fs gs : List (List ℕ)) (rs ts : List Reply) → answered models fresh m fs rs ≡ true
    → answered models fresh (reached models fresh m fs) gs ts ≡ true
    → answered models fresh m (fs ++ gs) (rs ++ ts) ≡ true
unfolding answered reached
two-parts m [] gs [] ts a b = b
two-parts m [] gs (r ∷ rs) ts a b = absurd (false≢true a)
two-parts m (f ∷ fs) gs [] ts a b = absurd (false≢true a)
two-parts m (f ∷ fs) gs (r ∷ rs) ts a b =
    let x = answer models answer_room m octets f in
    let t : Bool = same (reply_of x) r in
    let u : Bool = answered models fresh (state_after m x) fs rs in
    let v : Bool = answered models fresh (state_after m x) (fs ++ gs) (rs ++ ts) in
    and_both {a = t} {b = v} (and_left t u a) (two-parts (state_after m x) fs gs rs ts (and_right t u a) b)

-- the state that t03image reaches
unfoldable watching : Model
watching =
    record {
      position = 2;
      filter = 0;
      opcode = 0xFC1E;
      prefix = 0x4D ∷ 0x53 ∷ [];
      mons = (
        0,
        record {
          high = 0xC4;
          low = 0xB0;
          interval = 3;
          sampling = 0;
          condition_type = 3;
          condition = sample_key;
          extra = none;
        },
      ) ∷ [];
      pairs = record {
        handle = 0;
        address_type = 1;
        address = address;
        since_good = 0;
        ticks = 0;
        packets = 0;
        sum = 0;
        kept = 0xC4;
        event = 0;
        adv = [];
      } ∷ [];
    }

-- come out as they say; the checker runs the cipher at most a few times in one claim
image-answers : answered models fresh (fresh t03image.opcode t03image.prefix) t03image.frames
    t03image.replies ≡ true
unfolding t03image add_key from start_of report_of sample_key address address_later address_off top00 top10 top11
    Rattle.resolve.specs.Computed.computed Rattle.model.specs.Computed.computed
image-answers = refl

parts-hold : (reached models fresh (fresh t03image.opcode t03image.prefix) t03image.frames ≡ watching)
    × (answered models fresh watching (from 3 1 address_later 0xC4 ∷ [])
    (wrote (start_of address_later ++ report_of address_later 0xC4) ∷ []) ≡ true)
unfolding t03image watching add_key from start_of report_of sample_key address address_later address_off top00 top10 top11
    Rattle.resolve.specs.Computed.computed Rattle.model.specs.Computed.computed
parts-hold = (refl, refl)

not-holds : right models fresh t03not ≡ true
unfolding t03not add_key from sample_key address address_later address_off top00 top10 top11
    Rattle.resolve.specs.Computed.computed Rattle.model.specs.Computed.computed
not-holds = refl

second_holds : right models fresh t13key ≡ true
unfolding t13key from_data report_data start_of add_second second of_aa aa bb sample_key address address_later address_off top00
    top10 top11 Rattle.resolve.specs.Computed.computed Rattle.model.specs.Computed.computed
second_holds = refl

image-shown : imaged t03image.image (models.encode watching) ≡ true
unfolding t03image watching session imaged sample_key address
    Rattle.model.specs.Image.head_row Rattle.model.specs.Image.monitor_row Rattle.model.specs.Image.extra_text
    Rattle.model.specs.Image.name_of Rattle.model.specs.Image.monitor_text Rattle.model.specs.Image.pair_row
    Rattle.model.specs.Image.end_row Rattle.model.specs.Image.records Rattle.model.specs.Image.image_text
    Rattle.laws.specs.Tests.pick Rattle.laws.specs.Tests.sames Rattle.laws.specs.Loops.each
    Rattle.octets.specs.Little.octets_of Rattle.lines.specs.Hex.digit Rattle.lines.specs.Hex.hex_of
    Rattle.lines.specs.Hex.text_of
image-shown = refl

image_holds : right models fresh t03image ≡ true
unfolding right
image_holds =
    and_both image-answers
    (ap (λ (m : Model). imaged t03image.image (models.encode m)) parts-hold.0 ∙ image-shown)

watch-holds : right models fresh t03watch ≡ true
unfolding right imaged t03watch t03image session
watch-holds =
    let m : Model = fresh t03image.opcode t03image.prefix in
    let e = t03image.frames in
    let later = from 3 1 address_later 0xC4 ∷ [] in
    let says = wrote (start_of address_later ++ report_of address_later 0xC4) ∷ [] in
    let h = and_left (answered models fresh m e t03image.replies)
    (imaged t03image.image (models.encode (reached models fresh m e))) image_holds in
    and_both {b = true} (two-parts m e later t03image.replies says h (rw parts-hold.0 parts-hold.1)) refl

pub keyed-hold : every (right models fresh) keyed ≡ true
unfolding keyed every
keyed-hold = rw (image_holds, watch-holds, not-holds, second_holds)

in-range : every in_range keyed ≡ true
unfolding every in_range opens_full keyed session t03image t03watch t03not t13key sound_settings octets_up_to
in-range = refl

-- and of the engine over blocks, with the A4 line in images
pub engine-keyed : every (right engine begin) (map example_with_edition keyed) ≡ true
engine-keyed = rows-so keyed in-range keyed-hold
