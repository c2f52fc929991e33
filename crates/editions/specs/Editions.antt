-- Editions of the event prefix. Document 02, T-12: "Keep up to 32 editions of the prefix, each with the frame number
-- from which it holds, strictly rising, the first 0. A frame uses the edition with the greatest starting number not
-- above its own." The state is the core of document 01 with the editions beside it; the core's prefix is the edition
-- in force at its position, as A0 carries it. Definitions alone.
use Rattle.std.specs.Prelude.{ℕ, suc, ◌+◌, Bool, true, false, ◌&&◌, ◌||◌, not, List, [], ◌∷◌, ◌++◌, map, leb, ltb, eqb, length, take, drop, get_or}
use Rattle.std.proofs.Math.Option.{Option, none, some}
use Rattle.laws.specs.Tests.{pick, sames}
use Rattle.laws.specs.Loops.{each, every}
use Rattle.octets.specs.Little.{little, octets_of}
use Rattle.lines.specs.Hex.{text_of, octets_in}
use Rattle.sessions.specs.Machine.{Outcome, refused, done, last_number}
use Rattle.sessions.specs.Session.{refuse_if}
use Rattle.sessions.specs.Saved.{cut}
use Rattle.model.specs.Types.{Model, fresh}
use Rattle.model.specs.Frames.{Body}
use Rattle.model.specs.Step.{act}
use Rattle.model.specs.Sound.{sound_model, octets_up_to}
use Rattle.model.specs.Image.{head_row, records, rows_named, held_in}
use Rattle.model.specs.Layout.{most_prefix}

-- "up to 32 editions"
abbrev pub most_editions : ℕ
most_editions = 32

-- an edition: the frame number from which it holds, and the prefix
pub record Edition : Type 0 where
  pub from : ℕ
  pub prefix : List ℕ

-- the state: document 01's, and the editions in rising order
pub record Gateway : Type 0 where
  pub core : Model
  pub editions : List Edition

unfoldable pub with_prefix : Model → List ℕ → Model
with_prefix m p =
    record {
      position = m.position;
      filter = m.filter;
      opcode = m.opcode;
      prefix = p;
      mons = m.mons;
      pairs = m.pairs;
    }

-- the prefix for frame n: that of the last of the rising editions with a number not above n, p where there is none
unfoldable pub in_force : List ℕ → ℕ → List Edition → List ℕ
in_force p n [] = p
in_force p n (e ∷ es) = in_force (pick (leb e.from n) e.prefix p) n es

unfoldable pub prefix_for : ℕ → List Edition → List ℕ
prefix_for n es = in_force [] n es

-- "strictly rising": each number above the one before, the first of them above k
unfoldable pub rising : ℕ → List Edition → Bool
rising k [] = true
rising k (e ∷ es) = ltb k e.from && rising e.from es

-- an edition's own fields: a number of 4 octets, a prefix of 0 to 32 octets
unfoldable pub sound_edition : Edition → Bool
sound_edition e = leb e.from last_number && octets_up_to most_prefix e.prefix

unfoldable pub sound_editions : List Edition → Bool
sound_editions [] = false
sound_editions (e ∷ es) =
    eqb e.from 0 && rising 0 es && leb (length (e ∷ es)) most_editions && every sound_edition (e ∷ es)

-- the core sound, the editions sound, and the core's prefix the edition in force at its position
unfoldable pub sound_gateway : Gateway → Bool
sound_gateway g =
    sound_model g.core && sound_editions g.editions
    && sames g.core.prefix (prefix_for g.core.position g.editions)

-- a fresh state: its settings' prefix is the edition from 0 on
unfoldable pub fresh_on : ℕ → List ℕ → Gateway
fresh_on opcode prefix = record { core = fresh opcode prefix; editions = record { from = 0; prefix = prefix } ∷ [] }

-- a frame: document 01's step with the edition of its own number
unfoldable pub beside : List Edition → Outcome Model → Outcome Gateway
beside es (refused n) = refused n
beside es (done m wrote) = done (record { core = m; editions = es }) wrote

unfoldable pub act_on : Gateway → Body → Outcome Gateway
act_on g b = beside g.editions (act (with_prefix g.core (prefix_for (suc g.core.position) g.editions)) b)

-- the number of the last edition
unfoldable pub last_from : ℕ → List Edition → ℕ
last_from k [] = k
last_from k (e ∷ es) = last_from e.from es

-- adding one: "7, 15, 14, 13": not sound; prefix too long; "number not rising or not above the position"; list full
unfoldable pub add_edition : Gateway → Edition → Outcome Gateway
add_edition g e =
    refuse_if (not (sound_gateway g)) 7 (
    refuse_if (ltb most_prefix (length e.prefix)) 15 (
    refuse_if (leb e.from (last_from 0 g.editions) || leb e.from g.core.position) 14 (
    refuse_if (leb most_editions (length g.editions)) 13 (
    done (record { core = g.core; editions = g.editions ++ (e ∷ []) }) []))))

-- "Editions go into the image as A4 lines after A0 .. an A4 line is its starting number (4), prefix length and prefix"
unfoldable pub edition_row : Edition → List ℕ
edition_row e = octets_of 4 e.from ++ (length e.prefix ∷ e.prefix)

unfoldable pub records_on : Gateway → List (List ℕ)
records_on g =
    (0xA0 ∷ head_row g.core) ∷ (map (λ (e : Edition). 0xA4 ∷ edition_row e) g.editions
    ++ drop 1 (records g.core))

unfoldable pub image_on : Gateway → List ℕ
image_on g = each text_of (records_on g)

-- the state that a text holds, whatever it is: a text is an image where that is sound and is saved as that very text
unfoldable pub edition_in : List ℕ → Edition
edition_in r = record { from = little 4 r 0; prefix = take (get_or r 4 0) (drop 5 r) }

unfoldable pub held_on : List ℕ → Gateway
held_on t = record { core = held_in t; editions = map edition_in (rows_named 0xA4 (map octets_in (cut t))) }

unfoldable pub is_image_on : List ℕ → Bool
is_image_on t = sound_gateway (held_on t) && sames (image_on (held_on t)) t

unfoldable pub read_on : List ℕ → Option Gateway
read_on t = pick (is_image_on t) (some (held_on t)) none
