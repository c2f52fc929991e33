-- Rows: a failover is possible after every save, and document 01's own octets as a host reads them. Assumes nothing.
use Rattle.std.specs.Prelude.{◌≡◌, refl, true, List, [], ◌∷◌, ◌++◌, map, ℕ, ◌+◌, length, drop}
use Rattle.std.proofs.Common.{sym, ◌∙◌, arith, drop_at, inl}
use Rattle.laws.specs.Tests.{sames}
use Rattle.laws.specs.Loops.{when}
use Rattle.rule.specs.BaseLaws.{in_right}
use Rattle.sessions.specs.Machine.{Machine, answer_room, save_room}
use Rattle.sessions.specs.Session.{save, ran}
use Rattle.sessions.specs.Saved.{cut}
use Rattle.sessions.proofs.RefusalsLaws.{image-saved}
use Rattle.sessions.specs.Additions.{Growing, call, ran_by, added_by, line}
use Rattle.sessions.proofs.PlainLaws.{plain_lines, plain-none, plain-time}
use Rattle.model.proofs.Radio.{radio}
use Rattle.chains.specs.Chain.{Now, image_in, saved_by, called, journal_now, May}
use Rattle.chains.specs.Told.{start, stop}
use Rattle.chains.specs.Hear.{is_event, event_of, event_in, events_read_up_to, events_read}

drop_all : {A : Type 0} (l : List A) → drop (length l) (l ++ []) ≡ []
drop_all l = drop_at l [] (length l) refl

-- A save with room in a sound state gives an image from which the next move may fail over, with all lines of the
-- journal, j = 1.
pub can-fail-over : (M : Machine) (G : Growing M) (n : Now M G) → M.sound n.state ≡ true
    → May M G (called M G n (call (save save_room)))
    (record { after = length n.frames; added = length n.added; octets = M.encode n.state }) 1
    (map line (cut (journal_now M G (called M G n (call (save save_room))) 1))) (λ i. answer_room)
unfolding called saved_by image_in ran_by added_by ran
can-fail-over M G n good =
    let ls : List (List ℕ) = cut (journal_now M G (called M G n (call (save save_room))) 1) in
    record {
      saved = rw (image-saved M save_room n.state good (omega arith)) (in_right _ n.images _ (inl refl));
      least = omega arith;
      most = omega arith;
      lines = plain_lines M G ls;
      again = plain-none M G ls ∙ sym (drop_all n.added);
      in-time = plain-time M G ls 1;
      enough = λ i. omega arith;
    }

-- Document 01, A session in full: the second frame's answer, a start event and a report; its 30th tick's, a stop
-- event; its first frame's, a command's answer. A host with another prefix reads nothing.
abbrev pub ms : List ℕ
ms = 0x4D ∷ 0x53 ∷ []

abbrev pub vending : List ℕ
vending = 0x00 ∷ 0x06 ∷ 0x05 ∷ 0x04 ∷ 0x03 ∷ 0x02 ∷ 0x01 ∷ []

abbrev pub told_start : List ℕ
told_start = 0xFF ∷ 0x0C ∷ 0x4D ∷ 0x53 ∷ 0x02 ∷ (vending ++ (0x00 ∷ 0x01 ∷ []))

abbrev pub told_stop : List ℕ
told_stop = 0xFF ∷ 0x0C ∷ 0x4D ∷ 0x53 ∷ 0x02 ∷ (vending ++ (0x00 ∷ 0x00 ∷ []))

abbrev pub told_report : List ℕ
told_report = 0x3E ∷ 0x0C ∷ 0x02 ∷ 0x01 ∷ 0x00 ∷ (vending ++ (0x00 ∷ 0xC4 ∷ []))

pub record HostReads : Type 0 where
  pub starts : events_read ms (told_start ++ told_report) ≡ start radio 0 vending ∷ []
  pub stops : events_read ms told_stop ≡ stop radio 0 vending ∷ []
  pub both : events_read ms (told_stop ++ (told_start ++ told_report)) ≡ stop radio 0 vending ∷ start radio 0 vending ∷ []
  pub command : events_read ms (0x0E ∷ 0x06 ∷ 0x01 ∷ 0x1E ∷ 0xFC ∷ 0x00 ∷ 0x03 ∷ 0x00 ∷ []) ≡ []
  pub other-prefix : events_read (0x4D ∷ 0x54 ∷ []) (told_start ++ told_report) ≡ []

pub host-reads : HostReads
unfolding events_read events_read_up_to event_in is_event event_of when sames
host-reads = record { starts = refl; stops = refl; both = refl; command = refl; other-prefix = refl }
