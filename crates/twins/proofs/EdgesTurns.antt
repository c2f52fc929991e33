-- Rows of the twin that the checker computes: 127, 128 and 129 frames; 11 behind 6 and before nothing; a block of
-- frames out of turn; sessions of the documents, which it answers as they say. The expected octets are the documents'
-- own, or follow from their rules by hand.
use Rattle.std.specs.Prelude.{ℕ, ◌≡◌, refl, Bool, true, List, [], ◌∷◌, ◌++◌}
use Rattle.laws.specs.Loops.{every}
use Rattle.octets.specs.Little.{octets_of}
use Rattle.sessions.specs.Machine.{answer_room, octets}
use Rattle.sessions.specs.Session.{answer}
use Rattle.model.specs.Rows.{Reply, add_watch, added0, answered, cmd, pkt, quiet, refusal, reply_of, report60, right, same, session, start0, stop0, tck, tcks, wrote}
use Rattle.twins.specs.Twin.{Twin, fresh_twin, sound_twin, twins}

-- a twin that holds so many ticks
unfoldable pub ticked : ℕ → Twin
ticked n = record { opcode = 0xFC1E; editions = record { from = 0; prefix = [] } ∷ []; frames = tcks n 1 }

-- a frame given to it, with so many octets lent, and what it is answered
pub record Given : Type 0 where
  pub state : Twin
  pub lent : ℕ
  pub frame : List ℕ
  pub reply : Reply

unfoldable pub rightly : Given → Bool
rightly g = same (reply_of (answer twins g.lent g.state octets g.frame)) g.reply

-- the opcode 0xFC1F, and a command with no parameters
unfoldable pub other : ℕ → List ℕ
other n = 1 ∷ (octets_of 4 n ++ (0x1F ∷ 0xFC ∷ 1 ∷ 0 ∷ []))

unfoldable pub empty : ℕ → List ℕ
empty n = 1 ∷ (octets_of 4 n ++ (0x1E ∷ 0xFC ∷ 0 ∷ []))

unfoldable pub givens : List Given
givens =
    record { state = ticked 126; lent = answer_room; frame = tck 127; reply = wrote [] }
    ∷ record { state = ticked 127; lent = answer_room; frame = tck 128; reply = wrote [] }
    ∷ record { state = ticked 128; lent = answer_room; frame = tck 129; reply = refusal 11 }
    ∷ record { state = ticked 128; lent = answer_room; frame = pkt 129 0xC4; reply = refusal 11 }
    ∷ record { state = ticked 128; lent = answer_room; frame = cmd 129 add_watch; reply = refusal 11 }
    -- 6, 5, 2, 1, 4, 3 come before
    ∷ record { state = ticked 128; lent = answer_room; frame = other 129; reply = refusal 6 }
    ∷ record { state = ticked 128; lent = answer_room; frame = empty 129; reply = refusal 5 }
    ∷ record { state = ticked 128; lent = answer_room; frame = tck 130; reply = refusal 2 }
    ∷ record { state = ticked 128; lent = answer_room; frame = tck 128; reply = refusal 1 }
    ∷ record { state = ticked 128; lent = answer_room; frame = 5 ∷ octets_of 4 129; reply = refusal 4 }
    ∷ record { state = ticked 128; lent = 2879; frame = tck 129; reply = refusal 3 }
    -- 129 frames are too many; so is a frame out of turn, and one that would be refused
    ∷ record { state = ticked 129; lent = answer_room; frame = tck 130; reply = refusal 7 }
    ∷ record {
      state = record {
        opcode = 0xFC1E;
        editions = record { from = 0; prefix = [] } ∷ [];
        frames = tck 2 ∷ [];
      };
      lent = answer_room;
      frame = tck 2;
      reply = refusal 7;
    }
    ∷ record {
      state = record {
        opcode = 0xFC1E;
        editions = record { from = 0; prefix = [] } ∷ [];
        frames = tck 1 ∷ tck 1 ∷ [];
      };
      lent = answer_room;
      frame = tck 3;
      reply = refusal 7;
    }
    ∷ record {
      state = record {
        opcode = 0xFC1E;
        editions = record { from = 0; prefix = [] } ∷ [];
        frames = other 1 ∷ [];
      };
      lent = answer_room;
      frame = tck 2;
      reply = refusal 7;
    }
    ∷ record {
      state = record {
        opcode = 0xFC1E;
        editions = record { from = 0; prefix = [] } ∷ [];
        frames = empty 1 ∷ [];
      };
      lent = answer_room;
      frame = tck 2;
      reply = refusal 7;
    }
    ∷ record {
      state = record { opcode = 0xFC1E; editions = []; frames = [] };
      lent = answer_room;
      frame = tck 1;
      reply = refusal 7;
    } ∷ []

pub limits : every rightly givens ≡ true
unfolding Rattle.pasts.specs.Pair.count Rattle.pasts.specs.Pair.ticks_among Rattle.pasts.specs.Pair.matching_at
    Rattle.pasts.specs.Pair.matching_packets Rattle.pasts.specs.Pair.silent_in Rattle.pasts.specs.Pair.unbroken
    Rattle.pasts.specs.Pair.cancels Rattle.pasts.specs.Pair.stretch Rattle.pasts.specs.Pair.window_ticks
    Rattle.pasts.specs.Pair.window Rattle.pasts.specs.Pair.sum_of Rattle.pasts.specs.Pair.newest_or
    Rattle.pasts.specs.Pair.kept_in Rattle.pasts.specs.Pair.alike Rattle.pasts.specs.Pair.last_reason
    Rattle.pasts.specs.Pair.newest Rattle.pasts.specs.Pair.kept_packet Rattle.pasts.specs.Pair.event_or
    Rattle.pasts.specs.Pair.adv_of Rattle.pasts.specs.Pair.pair_of Rattle.pasts.specs.Past.enables
    Rattle.pasts.specs.Past.enable_in Rattle.pasts.specs.Past.filter_after Rattle.pasts.specs.Past.offers
    Rattle.pasts.specs.Past.lowest_free Rattle.pasts.specs.Past.is_at Rattle.pasts.specs.Past.offered
    Rattle.pasts.specs.Past.monitor_after Rattle.pasts.specs.Past.live_one Rattle.pasts.specs.Past.live_from
    Rattle.pasts.specs.Past.monitors_after Rattle.pasts.specs.Past.after_frame Rattle.pasts.specs.Past.since_start
    Rattle.pasts.specs.Past.same_start Rattle.pasts.specs.Past.among Rattle.pasts.specs.Past.stands
    Rattle.pasts.specs.Past.watch_by Rattle.pasts.specs.Past.weaker Rattle.pasts.specs.Past.weakest
    Rattle.pasts.specs.Past.kept_now Rattle.pasts.specs.Past.is_of Rattle.pasts.specs.Past.room_in
    Rattle.pasts.specs.Past.above Rattle.pasts.specs.Past.is_start Rattle.pasts.specs.Past.start_of
    Rattle.pasts.specs.Past.goes_for Rattle.pasts.specs.Past.stays_but Rattle.pasts.specs.Past.turn_by
    Rattle.pasts.specs.Past.turns_by Rattle.pasts.specs.Past.deeds_at Rattle.pasts.specs.Past.deeds
    Rattle.pasts.specs.Past.watch Rattle.pasts.specs.Past.pair_after Rattle.pasts.specs.Past.history_state
    Rattle.pasts.specs.Says.turn_says Rattle.pasts.specs.Says.turns_say Rattle.pasts.specs.Says.reason_by
    Rattle.pasts.specs.Says.tells_start Rattle.pasts.specs.Says.is_reported Rattle.pasts.specs.Says.packet_says
    Rattle.pasts.specs.Says.ends Rattle.pasts.specs.Says.closes Rattle.pasts.specs.Says.has_told
    Rattle.pasts.specs.Says.tells_window Rattle.pasts.specs.Says.tick_says_of Rattle.pasts.specs.Says.tick_says
    Rattle.pasts.specs.Says.answer_for Rattle.editions.specs.Editions.with_prefix Rattle.editions.specs.Editions.in_force
    Rattle.editions.specs.Editions.prefix_for Rattle.editions.specs.Editions.rising
    Rattle.editions.specs.Editions.sound_edition Rattle.editions.specs.Editions.sound_editions
    Rattle.editions.specs.Editions.sound_gateway Rattle.editions.specs.Editions.fresh_on
    Rattle.editions.specs.Editions.beside Rattle.editions.specs.Editions.act_on Rattle.editions.specs.Editions.last_from
    Rattle.editions.specs.Editions.add_edition Rattle.editions.specs.Editions.edition_row
    Rattle.editions.specs.Editions.records_on Rattle.editions.specs.Editions.image_on
    Rattle.editions.specs.Editions.edition_in Rattle.editions.specs.Editions.is_image_on
    Rattle.editions.specs.Editions.read_on Rattle.twins.specs.Twin.typed_in Rattle.twins.specs.Twin.past_from
    Rattle.twins.specs.Twin.past_of Rattle.twins.specs.Twin.refusal_by Rattle.twins.specs.Twin.runs
    Rattle.twins.specs.Twin.run_all Rattle.twins.specs.Twin.sound_twin
    Rattle.twins.specs.Twin.gateway_of Rattle.twins.specs.Twin.keeps_on
    Rattle.twins.specs.Twin.act_twin Rattle.twins.specs.Twin.with_edition
    Rattle.twins.specs.Twin.add_twin Rattle.twins.specs.Twin.fresh_twin
    Rattle.twins.specs.Twin.begin_twin ticked rightly other empty givens Rattle.model.specs.Computed.computed
limits = refl
