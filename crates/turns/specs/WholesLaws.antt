-- What the engine answers is whole events, and what an executed line says of the state: its position moves by one.
-- Document 01, Commands and Watching, by history (Event, Report), Lines. Definitions of the proofs alone stand here
-- too: Ran, Tells. Assumes nothing.
use Prim.Native.Nat.{ℕ, zero, suc, ◌+◌, ◌*◌, ◌≤◌, ◌<◌}
use Rattle.std.specs.Prelude.{◌≡◌, Bool, not, ◌&&◌, List, [], ◌∷◌, ◌++◌, map}
use Rattle.std.proofs.Math.Path.{refl}
use Rattle.std.proofs.Common.{sym, ap, ◌∙◌, subst, arith, length-append}
use Rattle.std.proofs.Math.Bool.{true, false}
use Rattle.std.proofs.Math.Option.{Option, none, some}
use borrow.Author.Tests.{leb-false, ltb-false}
use Rattle.std.proofs.Math.Dec.{leb, ltb}
use Rattle.std.proofs.Math.ListN.{length}
use Rattle.laws.specs.Tests.{pick}
use Rattle.laws.specs.TestsLaws.{cases-le}
use Rattle.laws.specs.Loops.{each, when, every}
use Rattle.octets.specs.Little.{is_octet}
use Rattle.octets.specs.LittleLaws.{length-octets}
use Rattle.rule.specs.Base.{All}
use Rattle.rule.specs.Engine.{find}
use Rattle.sessions.specs.Machine.{Machine, Laws, Line, Executes, Outcome, refused, done, text, answer_room, last_number}
use Rattle.sessions.specs.Session.{answer, judge, refuse_if}
use Rattle.sessions.proofs.RefusalsLaws.{answer-unsound, answer-short, answer-judge}
use Rattle.model.specs.Types.{Model, Monitor, Packet, Pair}
use Rattle.lines.specs.Hex.{is_text, octets_in}
use Rattle.lines.specs.TextsLaws.{length-is-text}
use Rattle.lines.specs.Frame.{line_room, most_frame, is_frame}
use Rattle.lines.specs.FrameLaws.{frame-most}
use Rattle.model.specs.Frames.{frame_of, read_raw, read}
use Rattle.model.specs.Frames.{Body, Typed, command, packet, tick, bad, typed}
use Rattle.model.specs.Commands.{returned}
use Rattle.model.specs.Events.{complete, event, report, start_event, stop_event, packet_report, scan_report, packet_reports, window_report}
use Rattle.model.specs.Watch.{packet_move, start_of, stop_of, turns, turn_answer, turns_answer, reported, packet_answer, goes_on, window_says, tick_octets, tick_answer}
use Rattle.model.specs.Step.{answer_typed, act}
use Rattle.model.specs.Sound.{sound_model}
use Rattle.model.specs.Block.{model_of}
use Rattle.wholes.specs.Engine.{engine}
use Rattle.steps.specs.ListsLaws.{all-weaken}
use Rattle.steps.specs.FactsLaws.{fields-of}
use Rattle.steps.specs.WholeLaws.{Held, Sound}
use Rattle.steps.proofs.WholeLaws.{sound-of}
use Rattle.steps.specs.Typed.{Sent}
use Rattle.steps.specs.TypedLaws.{Formed, typed-formed}
use Rattle.steps.specs.ExecutedLaws.{Executed, executed}
use Rattle.steps.proofs.NamedTurns.{Named, held-named, named-moved, turns-named, stop-named, starts-named}
use Rattle.failover.specs.ReadLaws.{body-octets}
use Rattle.wholes.proofs.LaidLaws.{whole-good}
use Rattle.wholes.specs.Whole.{held_whole}
use Rattle.editions.specs.Editions.{Gateway, with_prefix, prefix_for}
use Rattle.editions.proofs.FactsLaws.{Parts, parts-of, prefix-fits, prefixed-sound}
use Rattle.turns.specs.BlocksLaws.{laws, Left, left}
use Rattle.turns.specs.EventsLaws.{Whole, nothing, whole-one, whole_append}
use Rattle.model.specs.Layout.{most_monitors}

complete-whole : (opcode : ℕ) (ret : List ℕ) → Whole (complete opcode ret)
unfolding complete
complete-whole opcode ret =
    whole-one 0x0E (3 + length ret) _
    (let n = length-octets 2 opcode in rw (length-append) (omega arith))

event-whole : (prefix : List ℕ) (q : Pair) (state : ℕ) → length q.address ≡ 6 → Whole (event prefix q state)
unfolding event
event-whole prefix q state h = whole-one 0xFF (10 + length prefix) _ (simp length-append (omega arith))

report-whole : (e kind : ℕ) (address adv : List ℕ) (rssi : ℕ) → length address ≡ 6
    → Whole (report e kind address adv rssi)
unfolding report
report-whole e kind address adv rssi h = whole-one 0x3E (12 + length adv) _ (simp length-append (omega arith))

scan-whole : (p : Packet) (r : Option (List ℕ)) → length p.address ≡ 6 → Whole (scan_report p r)
unfolding scan_report
scan-whole p none h = nothing
scan-whole p (some l) h = report-whole 4 p.address_type p.address l p.rssi h

reports-whole : (p : Packet) → length p.address ≡ 6 → Whole (packet_reports p)
unfolding packet_reports packet_report
reports-whole p h =
    whole_append (report-whole p.event p.address_type p.address p.adv p.rssi h)
    (scan-whole p p.scan h)

when_whole : (t : Bool) (l : List ℕ) → Whole l → Whole (when t l)
unfolding when
when_whole true l w = w
when_whole false l w = nothing

each-whole : (f : Pair → List ℕ) (qs : List Pair) → All (λ q. Whole (f q)) qs → Whole (each f qs)
unfolding each
each-whole f [] w = nothing
each-whole f (q ∷ qs) w = whole_append w.0 (each-whole f qs w.1)

module _ (m : Model) (s : Sound m) where
  turn-whole : (o : Option Monitor) (p : Packet) (h : ℕ) (qs : List Pair) → Sent p → h < most_monitors → All Named qs
      → Whole (turn_answer m.prefix o p h qs)
  unfolding turn_answer stop_event start_event
  turn-whole o p h qs t b a =
      whole_append
      (each-whole (stop_event m.prefix) (stop_of o p h qs)
      (all-weaken Named (λ q. Whole (stop_event m.prefix q)) (λ q n. event-whole m.prefix q 0 n.address-six)
      (stop_of o p h qs)
      (stop-named o p h qs a).1))
      (each-whole (start_event m.prefix) (start_of o p h qs)
      (all-weaken Named (λ q. Whole (start_event m.prefix q)) (λ q n. event-whole m.prefix q 1 n.address-six)
      (start_of o p h qs)
      (starts-named o p h qs t b).1))

  turns-whole : (p : Packet) (n : ℕ) (qs : List Pair) → Sent p → n ≤ most_monitors → All Named qs
      → Whole (turns_answer m.prefix m.mons p n qs)
  unfolding turns_answer
  turns-whole p zero qs t b a = nothing
  turns-whole p (suc n) qs t b a =
      whole_append (turns-whole p n qs t (omega arith) a)
      (turn-whole (find m.mons n) p n (turns m.mons p n qs) t (omega arith)
      (turns-named m.mons p n qs t (omega arith) a))

  packet-whole : (p : Packet) → Sent p → Whole (packet_answer m p)
  unfolding packet_answer
  packet-whole p t =
      whole_append
      (turns-whole p most_monitors (map (packet_move m.mons p) m.pairs) t (omega arith)
      (named-moved m.mons p m.pairs
      (all-weaken (Held m.position m.mons) Named (λ q h. held-named m s q h) m.pairs s.pairs.held)))
      (when_whole (reported m p) (packet_reports p) (reports-whole p t.address-six))

  pair-whole : (q : Pair) → Held m.position m.mons q
      → Whole (tick_octets m.filter m.prefix (find m.mons q.handle) q)
  unfolding tick_octets stop_event window_report pick
  pair-whole q h = rw h.live (go (goes_on h.mon q))
    where
      six : length q.address ≡ 6
      six = (fields-of q h.kept.fields).address-six

      go : (b : Bool) → Whole
          (pick b (when (window_says m.filter h.mon q) (window_report q)) (stop_event m.prefix q))
      go true = when_whole (window_says m.filter h.mon q) (window_report q)
          (report-whole q.event q.address_type q.address q.adv _ six)
      go false = event-whole m.prefix q 0 six

  answer-whole : (f : Typed) → Formed f → Whole (answer_typed m f)
  unfolding answer_typed tick_answer
  answer-whole (command o l) t = complete-whole m.opcode (returned m l)
  answer-whole (packet p) t = packet-whole p t
  answer-whole tick t =
      each-whole _ m.pairs
      (all-weaken (Held m.position m.mons) _ pair-whole m.pairs s.pairs.held)
  answer-whole bad t = nothing

-- an executed frame writes whole events
pub act-whole : (m n : Model) (b : Body) (wrote : List ℕ) → sound_model m ≡ true → every is_octet b.payload ≡ true
    → act m b ≡ done n wrote → Whole wrote
act-whole m n b wrote s o e =
    subst Whole (executed m n b wrote e).says (answer-whole m (sound-of m s) (typed b) (typed-formed b o))

-- more octets than the longest frame has are no frame
frame-long : (xs : List ℕ) → most_frame < length xs → is_frame xs ≡ false
frame-long xs h = go (is_frame xs) refl
  where
    go : (b : Bool) → is_frame xs ≡ b → b ≡ false
    go false e = refl
    go true e = absurd (omega (arith, frame-most xs e))

refused≢done : {S : Type 0} (n : ℕ) (t : S) (a : List ℕ) → refused n ≡ done t a → ⊥
refused≢done n t a h = let z : ◌≡◌ {A = ℕ} 0 1 = cc in omega arith

-- a line that was executed was read, on a sound state, with the next number
pub record Ran (M : Machine) (s t : M.S) (a : List ℕ) : Type 0 where
  pub line : Line M.Body
  pub executes : Executes M s line t a

module _ (M : Machine) (𝓛 : Laws M) (lent : ℕ) (s t : M.S) (l a : List ℕ) where
  judged : M.sound s ≡ true → judge M s (M.read text l) ≡ done t a → Ran M s t a
  unfolding judge refuse_if
  judged e q = go (M.read text l) refl q
    where
      tests : (x : Line M.Body) → M.read text l ≡ some x → (b c : Bool) → leb x.num (M.pos s) ≡ b
          → ltb (suc (M.pos s)) x.num ≡ c
          → refuse_if b 1 (refuse_if c 2 (M.act s x.body)) ≡ done t a → Ran M s t a
      tests x r true c p k h = absurd (refused≢done 1 t a h)
      tests x r false true p k h = absurd (refused≢done 2 t a h)
      tests x r false false p k h =
          let above : M.pos s < x.num = leb-false x.num (M.pos s) p in
          let below : x.num ≤ suc (M.pos s) = ltb-false (suc (M.pos s)) x.num k in
          let fits : x.num ≤ last_number = 𝓛.fits text l x r in
          record {
            line = x;
            executes = record {
              form = text;
              raw = l;
              given = r;
              before = e;
              next = omega arith;
              room = omega arith;
              acts = h;
            };
          }

      go : (o : Option (Line M.Body)) → M.read text l ≡ o → judge M s o ≡ done t a → Ran M s t a
      go none r h = absurd (refused≢done 4 t a h)
      go (some x) r h = tests x r (leb x.num (M.pos s)) (ltb (suc (M.pos s)) x.num) refl refl h

  pub ran : answer M lent s text l ≡ done t a → Ran M s t a
  ran q = go (M.sound s) refl
    where
      go : (b : Bool) → M.sound s ≡ b → Ran M s t a
      go false e = absurd (refused≢done 7 t a (sym (answer-unsound M lent s text l e) ∙ q))
      go true e =
          cases-le answer_room lent
          (λ k. judged e (sym (answer-judge M lent s text l e k) ∙ q))
          (λ k. absurd (refused≢done 3 t a (sym (answer-short M lent s text l e k) ∙ q)))

-- a text longer than any line is not read
long-unread : (t : List ℕ) → line_room < length t → read text t ≡ none
unfolding read read_raw pick
long-unread t h = go (is_text t) refl
  where
    raw : (b c : Bool) → c ≡ false → pick (b && c) (some (frame_of (octets_in t))) none ≡ none
    raw true c e = ap (λ (d : Bool). pick d (some (frame_of (octets_in t))) none) e
    raw false c e = refl

    go : (b : Bool) → is_text t ≡ b → pick b (read_raw (octets_in t)) none ≡ none
    go false e = refl
    go true e =
        let n : length t ≡ 2 * length (octets_in t) + 1 = length-is-text t e in
        raw (every is_octet (octets_in t)) (is_frame (octets_in t)) (frame-long (octets_in t) (omega arith))

-- What a takeover asks of an engine: an executed line moves the position by one, up to the last number, writes whole
-- events and leaves a sound state; a text longer than 527 characters is no line.
pub record Tells (M : Machine) : Type 0 where
  pub moves : (lent : ℕ) (s t : M.S) (l a : List ℕ) → answer M lent s text l ≡ done t a → M.pos t ≡ suc (M.pos s)
  pub below : (lent : ℕ) (s t : M.S) (l a : List ℕ) → answer M lent s text l ≡ done t a → M.pos s < last_number
  pub whole : (lent : ℕ) (s t : M.S) (l a : List ℕ) → answer M lent s text l ≡ done t a → Whole a
  pub keeps : (lent : ℕ) (s t : M.S) (l a : List ℕ) → answer M lent s text l ≡ done t a → M.sound t ≡ true
  pub long : (l : List ℕ) → line_room < length l → M.read text l ≡ none

pub engine-tells : Tells engine
engine-tells =
    record {
      moves = λ lent s t l a q. let r : Ran engine s t a =
          ran engine laws lent s t l a q in laws.advance s t r.line a r.executes;
      below = λ lent s t l a q. (ran engine laws lent s t l a q).executes.room;
      whole = λ lent s t l a q. let r : Ran engine s t a = ran engine laws lent s t l a q in
          let e : Executes engine s r.line t a = r.executes in
          let l : Left s r.line t a = left s t r.line a e in
          let g : Gateway = held_whole s in
          let p : Parts g = parts-of g (whole-good s e.before) in
          let m : Model = with_prefix g.core (prefix_for (suc g.core.position) g.editions) in
          act-whole m l.on.state.core r.line.body a
          (prefixed-sound g.core (prefix_for (suc g.core.position) g.editions) p.core
          (prefix-fits (suc g.core.position) g.editions p.editions))
          (body-octets e.form e.raw r.line e.given) l.went-so.core;
      keeps = λ lent s t l a q. let r : Ran engine s t a =
          ran engine laws lent s t l a q in laws.keeps s t r.line a r.executes;
      long = long-unread;
    }
