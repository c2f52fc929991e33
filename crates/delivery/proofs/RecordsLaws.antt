-- What was seen of a session, over records: its calls, the state that was saved, the one at its end, the frames that
-- were executed since and the editions accepted since. Document 01, Sessions and failover; document 02, T-12. Assumes
-- nothing.
use Rattle.std.specs.Prelude.{ℕ, zero, suc, ◌+◌, ◌≤◌, ◌<◌, ◌≡◌, true, drop}
use Rattle.std.proofs.Math.Path.{refl, ap}
use Rattle.std.proofs.Common.{sym, ◌∙◌, not-suc-le-zero, arith, length-drop}
use Rattle.std.proofs.Math.Option.{some}
use mathlib.Core.List.{List, [], ◌++◌, map}
use Rattle.std.proofs.Math.ListN.{length, length-append}
use Rattle.std.proofs.lemmas.List.{length-map, drop-append-le}
use Rattle.rule.specs.Radio.{Frame}
use Rattle.sessions.specs.Machine.{answer_room}
use Rattle.sessions.specs.Session.{Entry}
use Rattle.sessions.specs.Saved.{cut}
use Rattle.sessions.proofs.RunsLaws.{line_of, run-pos, run_drop}
use Rattle.sessions.specs.Additions.{Act, walk_on, trace_on, added_on}
use Rattle.sessions.proofs.WovenLaws.{grown-pos}
use Rattle.sessions.proofs.GivenLaws.{Fronted, fronted, walk-on, trace-on, journal-lines}
use Rattle.model.specs.Types.{fresh}
use Rattle.model.specs.Frames.{Body}
use Rattle.model.specs.Sound.{sound_settings}
use Rattle.model.proofs.Radio.{radio}
use Rattle.editions.specs.Editions.{Edition, Gateway, sound_gateway, fresh_on}
use Rattle.editions.specs.Engine.{gateways, Addition}
use Rattle.wholes.specs.Whole.{whole}
use Rattle.wholes.specs.Engine.{engine, begin}
use Rattle.replays.specs.Into.{nothing_read, lines_while, replay_while, replay_into}
use Rattle.replays.proofs.AheadLaws.{Ahead}
use Rattle.replays.proofs.TurnedLaws.{run-seen, run-gap, map-join as lines_join}
use Rattle.failover.specs.Grows.{growing}
use Rattle.failover.specs.Claim.{past_on}
use Rattle.failover.proofs.Proved.{laws, fresh-gateway, grown-sound}
use Rattle.failover.proofs.BlocksLaws.{begin-blocks}
use Rattle.failover.proofs.AwaitsLaws.{Awaits}
use Rattle.delivery.specs.Added.{growing_blocks, on_records, walk-good, walk-on-blocks, trace-on-blocks, added-on-blocks}
use Rattle.delivery.specs.Firmware.{Step, Seen, Heard, heard_in, accepted_in, kept_from, frames_kept}
use Rattle.delivery.proofs.TimelyLaws.{editions_of}
use Rattle.delivery.proofs.SeenLaws.{act_of, heard_of, map-join, seen-walk, seen-heard, seen-added, kept-journal, kept-past}

--   middle, final: the states at the save and at the end; full: the one at the save with the editions accepted since.
--   fs, al: the frames and the additions since.
--   ahead: the journal kept up to the next frame is ahead of `full`.
--   gap: past it, its first line is refused, whichever of the editions the state has.
pub record OverRecords (opcode : ℕ) (prefix : List ℕ) (before later : List Heard) (more : List Edition)
    (at end : List ℕ) : Type 0 where
  pub calls : List (Act gateways growing)
  pub middle : Gateway
  pub full : Gateway
  pub final : Gateway
  pub fs : List (Entry Body)
  pub al : List Addition
  pub good : sound_gateway middle ≡ true
  pub good-end : sound_gateway final ≡ true
  pub at-is : at ≡ whole middle
  pub end_is : end ≡ whole final
  pub walked : final ≡ walk_on gateways growing (fresh_on opcode prefix) calls
  pub later-is : later ≡ map heard_of fs
  pub more-is : more ≡ editions_of al
  pub awaits : Awaits middle al full
  pub place : middle.core.position ≡ length before
  pub ahead : (j : ℕ) → 1 ≤ j → j ≤ length before + 1
      → Ahead gateways full (cut (kept_from j (before ++ later))) fs final
  pub gap :
      (s : Gateway) → sound_gateway s ≡ true → s.core.position ≡ length before → (j : ℕ) → length before + 1 < j
      → j ≤ length before + length later
      → (room : ℕ) → answer_room ≤ room
      → replay_into gateways room s (kept_from j (before ++ later))
      ≡ record { state = s; wrote = []; taken = 0; stop = some 2 }
  pub past : frames_kept (before ++ later) ≡ past_on opcode prefix calls

module _ (opcode : ℕ) (prefix : List ℕ) (ok : sound_settings opcode prefix ≡ true) (before later : List Step)
    (at end : List ℕ)
    (b : Seen (begin opcode prefix) before at) (l : Seen at later end) where
  -- the session over records: the calls, the states, the executed frames, the additions accepted after the save
  abbrev start : Gateway
  start = fresh_on opcode prefix

  abbrev first : List (Act gateways growing)
  first = map on_records (map act_of before)

  abbrev second : List (Act gateways growing)
  second = map on_records (map act_of later)

  abbrev calls : List (Act gateways growing)
  calls = first ++ second

  abbrev middle : Gateway
  middle = walk_on gateways growing start first

  abbrev final : Gateway
  final = walk_on gateways growing middle second

  abbrev es : List (Entry Body)
  es = trace_on gateways growing start first

  abbrev fs : List (Entry Body)
  fs = trace_on gateways growing middle second

  abbrev al : List Addition
  al = added_on gateways growing middle second

  abbrev more : List Edition
  more = accepted_in later

  fresh-good : sound_gateway start ≡ true
  fresh-good = fresh-gateway opcode prefix ok

  good : sound_gateway middle ≡ true
  good = walk-good start fresh-good first

  at-is : at ≡ whole middle
  at-is =
      seen-walk (begin opcode prefix) at before b
      ∙ ap (λ (s : List ℕ). walk_on engine growing_blocks s (map act_of before)) (begin-blocks opcode prefix ok)
      ∙ walk-on-blocks start fresh-good (map act_of before)

  end_is : end ≡ whole final
  end_is =
      seen-walk at end later l ∙ ap (λ (s : List ℕ). walk_on engine growing_blocks s (map act_of later)) at-is
      ∙ walk-on-blocks middle good (map act_of later)

  before-is : heard_in before ≡ map heard_of es
  before-is =
      seen-heard (begin opcode prefix) at before b
      ∙ ap (λ (s : List ℕ). map heard_of (trace_on engine growing_blocks s (map act_of before)))
      (begin-blocks opcode prefix ok)
      ∙ ap (map heard_of) (trace-on-blocks start fresh-good (map act_of before))

  later-is : heard_in later ≡ map heard_of fs
  later-is =
      seen-heard at end later l
      ∙ ap (λ (s : List ℕ). map heard_of (trace_on engine growing_blocks s (map act_of later))) at-is
      ∙ ap (map heard_of) (trace-on-blocks middle good (map act_of later))

  more-is : more ≡ editions_of al
  more-is =
      seen-added at end later l
      ∙ ap (λ (s : List ℕ). editions_of (added_on engine growing_blocks s (map act_of later))) at-is
      ∙ ap editions_of (added-on-blocks middle good (map act_of later))

  count-before : length (heard_in before) ≡ length es
  count-before = ap length before-is ∙ length-map es heard_of

  count-later : length (heard_in later) ≡ length fs
  count-later = ap length later-is ∙ length-map fs heard_of

  split : trace_on gateways growing start calls ≡ es ++ fs
  split = trace-on gateways laws growing start first second

  all : heard_in before ++ heard_in later ≡ map heard_of (trace_on gateways growing start calls)
  all =
      ap (λ (x : List Heard). x ++ heard_in later) before-is ∙ ap (λ (x : List Heard). map heard_of es ++ x) later-is
      ∙ sym (map-join es fs)
      ∙ ap (map heard_of) (sym split)

  -- the lines kept from frame i + 1 on
  lines_are : (i : ℕ) → i ≤ length es + length fs
      → cut (kept_from (suc i) (heard_in before ++ heard_in later)) ≡ map (line_of gateways) (drop i (es ++ fs))
  lines_are i h =
      let m : length (trace_on gateways growing start calls) ≡ length es + length fs =
      ap length split ∙ length-append es fs in
      ap cut (ap (kept_from (suc i)) all ∙ kept-journal start calls (suc i))
      ∙ journal-lines gateways laws growing start calls i (omega arith)
      ∙ ap (λ (x : List (Entry Body)). map (line_of gateways) (drop i x)) split

  -- The frames before the save and after it, each behind the additions among them
  before-run : Fronted gateways laws growing start first
  before-run = fronted gateways laws growing start first

  later-run : Fronted gateways laws growing middle second
  later-run = fronted gateways laws growing middle second

  abbrev full : Gateway
  full = later-run.begins

  origin : start.core.position ≡ 0
  unfolding fresh_on fresh
  origin = refl

  level : full.core.position ≡ middle.core.position
  level = grown-pos gateways laws growing al middle full later-run.grown

  begins-at : before-run.begins.core.position ≡ 0
  begins-at = grown-pos gateways laws growing (added_on gateways growing start first) start before-run.begins
      before-run.grown ∙ origin

  place : middle.core.position ≡ length es
  place =
      let p : middle.core.position ≡ before-run.begins.core.position + length es =
      run-pos gateways laws before-run.begins middle es before-run.run in
      let q : before-run.begins.core.position ≡ 0 = begins-at in
      omega arith

  -- the journal kept up to the next frame is ahead of the state that was saved, with all additions
  ahead : (j : ℕ) → 1 ≤ j → j ≤ length (heard_in before) + 1
      → Ahead gateways full (cut (kept_from j (heard_in before ++ heard_in later))) fs final
  ahead zero h i = absurd (not-suc-le-zero h)
  ahead (suc i) h k =
      let c : length (heard_in before) ≡ length es = count-before in
      let u : i ≤ length es = omega arith in
      let p : full.core.position ≡ middle.core.position = level in
      let d = run_drop gateways laws i before-run.begins middle es before-run.run u in
      record {
        seen = map (line_of gateways) (drop i es);
        are-seen = run-seen gateways laws full.core.position d.0 middle (drop i es) d.1 (omega arith);
        split = lines_are i (omega arith) ∙ ap (map (line_of gateways)) (drop-append-le i es fs u)
            ∙ lines_join gateways laws (drop i es) fs;
        good = grown-sound al middle full later-run.grown good;
        run = later-run.run;
      }

  -- the first line past the next frame is refused
  gap_is : (s : Gateway) → sound_gateway s ≡ true → s.core.position ≡ length es → (i : ℕ) → length es < i
      → i < length es + length fs → (room : ℕ) → answer_room ≤ room
      → replay_into gateways room s (kept_from (suc i) (heard_in before ++ heard_in later))
      ≡ record { state = s; wrote = []; taken = 0; stop = some 2 }
  unfolding replay_while
  gap_is s sound stands i h k room big =
      let f : Fronted gateways laws growing start calls = fronted gateways laws growing start calls in
      let z : f.begins.core.position ≡ 0 =
      grown-pos gateways laws growing (added_on gateways growing start calls) start f.begins f.grown ∙ origin in
      let c : length (trace_on gateways growing start calls) ≡ length es + length fs =
      ap length split ∙ length-append es fs in
      let d = run_drop gateways laws i f.begins (walk_on gateways growing start calls)
      (trace_on gateways growing start calls) f.run (omega arith) in
      let there : d.0.core.position ≡ f.begins.core.position + i = d.2 in
      let some_left : 0 < length (drop i (trace_on gateways growing start calls)) =
      rw (length-drop i (trace_on gateways growing start calls)) (omega arith) in
      ap (lines_while gateways (λ p. true) room (nothing_read s))
      (lines_are i (omega arith) ∙ ap (λ (x : List (Entry Body)). map (line_of gateways) (drop i x)) (sym split))
      ∙ run-gap gateways laws s d.0 (walk_on gateways growing start calls)
      (drop i (trace_on gateways growing start calls)) room sound d.1 (omega arith) some_left big

  gap_at : (s : Gateway) → sound_gateway s ≡ true → s.core.position ≡ length (heard_in before) → (j : ℕ)
      → length (heard_in before) + 1 < j
      → j ≤ length (heard_in before) + length (heard_in later) → (room : ℕ) → answer_room ≤ room
      → replay_into gateways room s (kept_from j (heard_in before ++ heard_in later))
      ≡ record { state = s; wrote = []; taken = 0; stop = some 2 }
  gap_at s sound stands zero h k room big = absurd (not-suc-le-zero h)
  gap_at s sound stands (suc j) h k room big =
      gap_is s sound (stands ∙ count-before) j (omega (arith, count-before))
      (omega (arith, count-before, count-later)) room big

  pub over-records : OverRecords opcode prefix (heard_in before) (heard_in later) (accepted_in later) at end
  over-records =
      record {
        calls = calls;
        middle = middle;
        full = full;
        final = final;
        fs = fs;
        al = al;
        good = good;
        good-end = walk-good middle good second;
        at-is = at-is;
        end_is = end_is;
        walked = sym (walk-on gateways laws growing start first second);
        later-is = later-is;
        more-is = more-is;
        awaits = later-run.grown;
        place = place ∙ sym count-before;
        ahead = ahead;
        gap = gap_at;
        past = ap frames_kept all ∙ kept-past opcode prefix calls;
      }
