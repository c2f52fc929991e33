-- Laws of the definitions in Whole.
use Rattle.std.specs.Prelude.{◌≡◌, ℕ, zero, suc, ◌+◌, ◌-◌, ◌/◌, ◌<◌, ◌≤◌, Bool, true, false, ◌||◌, List, [], ◌∷◌, ◌++◌, map, length, get_or, take, drop, ◌≢◌, slice_index, slice_index_or, refl}
use Rattle.std.proofs.Math.Path.{sym, ap}
use Rattle.std.proofs.Common.{◌∙◌, arith, zero-add, lt-ltb}
use Rattle.laws.specs.TestsLaws.{and_left, and_right, and_both}
use Rattle.laws.specs.Loops.{every, when, some as some_of}
use Rattle.laws.specs.LoopsLaws.{some-stop}
use Rattle.rule.specs.Base.{All}
use Rattle.laws.specs.Put.{put}
use Rattle.octets.specs.Little.{little, is_octet}
use Rattle.model.specs.Types.{Model, Packet, Pair, device_of, with_lists}
use Rattle.model.specs.Frames.{packet, has_packet, packet_of}
use Rattle.model.specs.Events.{packet_reports}
use Rattle.model.specs.Watch.{is_pair, holds, packet_move, packet_pairs, reported, packet_answer}
use Rattle.model.specs.Step.{step_typed, answer_typed}
use Rattle.model.specs.Sound.{sound_pair, sound_model}
use Rattle.model.specs.Block.{padded, advanced}
use Rattle.blocks.specs.Facts.{SoundModel}
use Rattle.blocks.specs.FactsLaws.{SoundPair, sound-facts, pair-facts}
use Rattle.blocks.specs.Bounds.{Fits}
use Rattle.blocks.specs.BoundsLaws.{Window, window-facts}
use Rattle.blocks.specs.Block.{Measured}
use Rattle.blocks.specs.BlockLaws.{sound-measured, get_d-count, read-filter, length-padded}
use Rattle.blocks.specs.UpdatesLaws.{advanced-moved}
use Rattle.steps.specs.TypedLaws.{packet-sent}
use Rattle.steps.specs.Stepped.{Stepped, Within}
use Rattle.steps.specs.SteppedLaws.{rest_put, rest-further}
use Rattle.marks.specs.Marks.{flag}
use Rattle.marks.specs.Asked.{marks_for}
use Rattle.marks.proofs.AskedLaws.{spared-padded, spared-held}
use Rattle.packets.specs.KeysLaws.{payload-device, pair-true}
use Rattle.packets.specs.Device.{Sender, NoneFrom}
use Rattle.packets.specs.DeviceLaws.{flags-all}
use Rattle.packets.specs.Firm.{Settled}
use Rattle.packets.specs.FirmLaws.{moved_holds, moved-firm}
use Rattle.packets.specs.Held.{Given, Roomy}
use Rattle.packets.specs.Writes.{no_pair, PutAt}
use Rattle.packets.specs.Starts.{Holding}
use Rattle.packets.specs.StartsLaws.{wrote-both}
use Rattle.packets.specs.ShutLaws.{moved-shut}
use Rattle.packets.specs.Handles.{Turns}
use Rattle.packets.specs.HandlesLaws.{turns-measured}
use Rattle.packets.specs.Reports.{held_told, starts_told}
use Rattle.packets.specs.ReportsLaws.{turns_of, reported-off, reported-on}
use Rattle.marks.specs.Fields.{Framed}
use Rattle.marks.proofs.FieldsLaws.{Clamped, packet-framed}
use Rattle.model.specs.Layout.{block_size, count_at, filter_at, most_monitors, most_pairs}
use Rattle.packets.specs.Whole.{Acts, Begun, after_moves, after_starts}

-- a packet frame of octets
pub octets-known : (l : List ℕ) → ((i : ℕ) → slice_index l i < 256) → every is_octet l ≡ true
unfolding every
octets-known [] f = refl
octets-known (x ∷ l) f = and_both (lt-ltb x 256 (f 0)) (octets-known l (λ i. f (suc i)))

-- a packet's RSSI stands last in its payload
pub packet-rssi : (l : List ℕ) → slice_index l (length l - 1) ≡ (packet_of l).rssi
unfolding packet_of
packet-rssi l = refl

-- no window of a sound state is full before the last number
roomy-all : (m : Model) → m.position < 4294967295 → (qs : List Pair) → every (sound_pair m) qs ≡ true → Roomy qs
unfolding every
roomy-all m h [] e = tt
roomy-all m h (q ∷ qs) e =
    let s : SoundPair m q = pair-facts m q (and_left (sound_pair m q) (every (sound_pair m) qs) e) in
    let w : Window m.position q = window-facts m.position s.mon q s.fields.window s.fields.empty in
    (omega (arith, w.packets-most), roomy-all m h qs (and_right (sound_pair m q) (every (sound_pair m) qs) e))

-- what the search for them is given
pub block-holding : (m : Model) (s : List ℕ) (n : ℕ) → sound_model m ≡ true → s ≡ padded m
    → Clamped (slice_index s count_at) most_pairs n → Holding m s n
block-holding m s n e b c =
    let f : SoundModel m = sound-facts m e in
    let g : Measured m = sound-measured m f in
    let z : get_or s count_at 0 ≡ length m.pairs = ap (λ (x : List ℕ). slice_index x count_at) b ∙ get_d-count m g in
    record { measured = g; block = b; count = c.within (omega (arith, f.pairs-most)) ∙ z }

pub packet-sender : (l : List ℕ) (dev : ℕ) → ((i : ℕ) → slice_index l i < 256) → has_packet l ≡ true
    → dev ≡ little 8 l 0 / 256
    → Sender (packet_of l) dev
packet-sender l dev o k d =
    let w : Framed l = packet-framed l k in
    record { sent = packet-sent l (octets-known l o) k; number = d ∙ payload-device l (omega arith) (o 0) }

pub begun : (m : Model) (s l acts held : List ℕ) (dev n to : ℕ) → sound_model m ≡ true → m.position < 4294967295
    → Holding m s n → Sender (packet_of l) dev → Acts s l held n acts → to ≤ n → NoneFrom m.pairs (packet_of l) to
    → ((h : ℕ) → h < most_monitors → slice_index held h ≡ flag (holds (take to m.pairs) h (device_of (packet_of l))))
    → Begun m s l acts held dev n
begun m s l acts held dev n to e h w t a b x y =
    let f : SoundModel m = sound-facts m e in
    record {
      facts = f;
      measured = w.measured;
      block = w.block;
      below = h;
      roomy = roomy-all m h m.pairs f.pairs-sound;
      sender = t;
      may = a.may;
      shut = a.shut;
      octets = λ i c. ap (λ (z : List ℕ). slice_index z i)
          (a.octets ∙ ap (λ (z : List ℕ). marks_for a.may held z (packet_of l)) w.block)
          ∙ spared-padded a.may m (packet_of l) f held i c;
      flags = λ i c. y i c ∙ flags-all m s n (packet_of l) dev w t i to c b x;
      count = w.count;
    }

fits-at : (qs : List Pair) → All Fits qs → (i : ℕ) → i < length qs → Fits (slice_index_or qs i no_pair)
fits-at [] a i h = absurd (omega arith)
fits-at (q ∷ qs) a zero h = a.0
fits-at (q ∷ qs) a (suc i) h = fits-at qs a.1 i (omega arith)

some_at : (f : Pair → Bool) (qs : List Pair) (i : ℕ) → i < length qs → f (slice_index_or qs i no_pair) ≡ true → some_of f qs ≡ true
unfolding some_of
some_at f [] i h e = absurd (omega arith)
some_at f (q ∷ qs) zero h e = some-stop f q qs e
some_at f (q ∷ qs) (suc i) h e = go (f q) (some_at f qs i (omega arith) e)
  where
    go : (t : Bool) → some_of f qs ≡ true → (t || some_of f qs) ≡ true
    go true x = refl
    go false x = x

module _ (m : Model) (s l acts held : List ℕ) (dev n : ℕ) (b : Begun m s l acts held dev n) where
  -- what the turn of a pair's row is given
  one-flag : (h i : ℕ) → i < length m.pairs → is_pair h (device_of (packet_of l)) (slice_index_or m.pairs i no_pair) ≡ true
      → holds m.pairs h (device_of (packet_of l)) ≡ true
  unfolding holds
  one-flag h i c e = some_at (is_pair h (device_of (packet_of l))) m.pairs i c e

  pub pair-given : (i : ℕ) → i < n → Given m.mons (packet_of l) acts dev (slice_index_or m.pairs i no_pair)
  unfolding flag
  pair-given i c =
      let q : Pair = get_or m.pairs i no_pair in
      let f : Fits q = fits-at m.pairs b.measured.fit i (omega (arith, b.count)) in
      record {
        sender = b.sender;
        heard = λ e.
            let y : is_pair q.handle (device_of (packet_of l)) q ≡ true =
            pair-true (packet_of l) b.sender.sent q.handle q f f.handle-most (omega arith) in
            let z : get_or held q.handle 0 ≡ 1 =
            b.flags q.handle f.handle-most ∙ ap flag (one-flag q.handle i (omega (arith, b.count)) y) in
            b.octets q.handle f.handle-most
            ∙ spared-held b.may (slice_index held q.handle) _ (λ u. omega arith);
      }

  -- what the loop over the handles is given
  pub moves-holding : {t : List ℕ} → t ≡ padded (after_moves m (packet_of l)) → Holding (after_moves m (packet_of l)) t n
  unfolding after_moves with_lists
  moves-holding {t} e =
      let p : Packet = packet_of l in
      let k : length (map (packet_move m.mons p) m.pairs) ≡ length m.pairs =
      lib.ListN.length-map m.pairs (packet_move m.mons p) in
      record {
        measured = moved-measured;
        block = e;
        count = b.count ∙ sym k;
      }
    where
      moved-measured : Measured (with_lists m m.mons (map (packet_move m.mons (packet_of l)) m.pairs))
      moved-measured = Rattle.packets.specs.HeldLaws.all-measured m (packet_of l) b.measured b.sender.sent
          b.roomy

  pub moves-settled : Settled (after_moves m (packet_of l)) (packet_of l) acts held dev
  unfolding after_moves with_lists
  moves-settled =
      record {
        sender = b.sender;
        may = b.may;
        shut = λ e. moved-shut m s n (packet_of l)
            (record { measured = b.measured; block = b.block; count = b.count }) (b.shut e);
        octets = b.octets;
        flags = λ h c. b.flags h c
            ∙ ap flag (sym (moved_holds m.mons (packet_of l) h (device_of (packet_of l)) m.pairs));
        firm = λ h e. moved-firm m.mons (packet_of l) h m.pairs e;
      }

  -- what the writers of the answer are given
  pub starts-holding : {t out o : List ℕ} {k w : ℕ} {u : Bool}
      → Turns (after_moves m (packet_of l)) (packet_of l) most_monitors t k out o w u
      → Holding (after_starts m (packet_of l)) t k
  unfolding after_moves after_starts with_lists packet_pairs
  starts-holding {t} {out} {o} {k} {w} {u} x =
      record {
        measured = turns-measured (after_moves m (packet_of l)) (packet_of l)
            (Rattle.packets.specs.HeldLaws.all-measured m (packet_of l) b.measured b.sender.sent
            b.roomy)
            b.sender.sent most_monitors
            (omega arith);
        block = x.turned.block;
        count = x.turned.count;
      }

  -- what the turns wrote
  pub turns-wrote : {t out o : List ℕ} {k w : ℕ} {b : Bool}
      → Turns (after_moves m (packet_of l)) (packet_of l) most_monitors t k out o w b
      → PutAt out 0 (turns_of m (packet_of l)) o w
  unfolding after_moves with_lists
  turns-wrote x = x.answer

  -- whether its starts are told
  pub turns-told : {t out o : List ℕ} {k w : ℕ} {u : Bool}
      → Turns (after_moves m (packet_of l)) (packet_of l) most_monitors t k out o w u
      → u ≡ starts_told m (packet_of l)
  unfolding after_moves with_lists
  turns-told x = x.tells

  -- the whole
  pub packet-stepped : {t u out o v : List ℕ} {k w r : ℕ} {told : Bool}
      → Holding (after_starts m (packet_of l)) t k
      → told ≡ reported m (packet_of l)
      → PutAt out 0 (turns_of m (packet_of l)) o w
      → PutAt o w (when told (packet_reports (packet_of l))) v r
      → u ≡ advanced t
      → Stepped m (packet (packet_of l)) u out v (w + r)
  unfolding step_typed answer_typed packet_answer after_starts with_lists
  packet-stepped {t} {u} {out} {o} {v} {k} {w} {r} {told} h e x y q =
      let p : Packet = packet_of l in
      let g : Model = with_lists m m.mons (packet_pairs m p) in
      let a : List ℕ = turns_of m p in
      let c : List ℕ = when told (packet_reports p) in
      let ans : a ++ c ≡ a ++ when (reported m p) (packet_reports p) =
      ap (λ (j : Bool). a ++ when j (packet_reports p)) e in
      let n : length t ≡ block_size = ap length h.block ∙ length-padded g h.measured in
      let z : PutAt out 0 (a ++ c) v (w + r) = wrote-both out 0 a c (omega arith) x (rw (zero-add w) y) in
      record {
        block = q ∙ advanced-moved g t h.block (omega arith) (omega (arith, b.below));
        octets = z.octets ∙ ap (put out 0) ans;
        count = z.count ∙ ap (λ (j : List ℕ). length j) ans;
      }

-- whether the packet is reported
module _ (m : Model) (p : Packet) where
  pub told-off : {t : List ℕ} {k : ℕ} → Holding (after_starts m p) t k → slice_index t filter_at ≡ 0
      → true ≡ reported m p
  unfolding after_starts with_lists
  told-off {t} {k} h e =
      reported-off m p
      (sym (ap (λ (x : List ℕ). slice_index x filter_at) h.block ∙ read-filter (after_starts m p)) ∙ e)

  pub told-on : {t : List ℕ} {k : ℕ} {r u v : Bool} → Holding (after_starts m p) t k → (slice_index t filter_at ≢ 0)
      → u ≡ held_told m p → v ≡ starts_told m p → r ≡ (u || v) → r ≡ reported m p
  unfolding after_starts with_lists
  told-on {t} {k} {r} {u} {v} h n e f q =
      reported-on m p
      (λ z. n (ap (λ (x : List ℕ). slice_index x filter_at) h.block ∙ read-filter (after_starts m p) ∙ z)) e f q

-- octets past the start events and the report are as they were
pub answer-within : (out : List ℕ) {o v : List ℕ} {w r : ℕ} (ys : List ℕ) → w + r ≤ length out → length o ≡ length out
    → drop w o ≡ drop w out → PutAt o w ys v r → Within out v (w + r)
answer-within out {o} {v} {w} {r} ys h l e x =
    record {
      count = h;
      rest = rest_put o w ys (omega arith) x.octets (ap (λ (k : ℕ). w + k) x.count)
          ∙ rest-further o out w (w + r) (omega arith) e;
    }
