-- How long each part of an answer is, and that it is octets. Document 01, Sizes of the gateway ("answer 2,880"),
-- Commands, Watching, by history (Event, Report). Assumes nothing.
use Rattle.std.specs.Prelude.{ℕ, ◌+◌, ◌*◌, ◌≤◌, ◌<◌, ◌≡◌, refl, Bool, true, not, ◌&&◌, List, [], ◌∷◌, leb, ltb, eqb, length, get_or}
use Rattle.std.proofs.Common.{arith, lt-ltb}
use Rattle.std.proofs.Math.Option.{Option, none, some}
use Rattle.laws.specs.Tests.{pick}
use Rattle.laws.specs.Loops.{every}
use Rattle.octets.specs.Little.{octets_of, is_octet}
use Rattle.octets.specs.LittleLaws.{length-octets, octets-octets}
use Rattle.rule.specs.Engine.{slot}
use Rattle.rule.proofs.FindsLaws.{slot-some, Lowest}
use Rattle.model.specs.Types.{Model, Monitor, Packet, Pair, scan_text}
use Rattle.model.specs.Level.{signed, floor_of, mean, in_range}
use Rattle.model.proofs.LevelsLaws.{wrapped-below}
use Rattle.advert.specs.Condition.{form_of, form_status}
use Rattle.advert.proofs.Laws.{status-below}
use Rattle.model.specs.Monitors.{allowed, parameters, settings_good, condition_fault, fault_of, monitor_of}
use Rattle.model.specs.Commands.{adds_monitor, table, params_in, present, sub_of, read_status, add_status, cancel_status, enable_status}
use Rattle.model.specs.Commands.{status, handle_or, new_handle, features, success, failure, returned}
use Rattle.model.specs.Events.{complete, event, report, packet_report, scan_report, packet_reports, window_report}
use Rattle.steps.specs.ListsLaws.{Short, short-nil, short-cons, short-append, short-more, short-pick}
use Rattle.steps.specs.FactsLaws.{Settings, Fields}
use Rattle.steps.specs.Typed.{Sent}
use Rattle.steps.specs.TypedLaws.{pick-both, at-octet, Params}
use Rattle.model.specs.Layout.{most_condition, most_data, most_monitors, most_prefix, report_most}

-- at most n octets
abbrev pub Octets : ℕ → List ℕ → Type 0
Octets n l = Short is_octet n l

pub octet : (n : ℕ) → n < 256 → is_octet n ≡ true
octet n h = lt-ltb n 256 h

pub octets-made : (n : ℕ) (l : List ℕ) → length l ≤ n → every is_octet l ≡ true → Octets n l
octets-made n l h e = record { fits = h; passes = e }

pub octets-cons : (n x : ℕ) (l : List ℕ) → x < 256 → Octets n l → Octets (1 + n) (x ∷ l)
octets-cons n x l h s = short-cons is_octet n x l (octet x h) s

-- a status is an octet
over : (t : Bool) (a b : ℕ) → is_octet a ≡ true → is_octet b ≡ true → is_octet (pick t a b) ≡ true
over t a b p q = pick-both (λ n. is_octet n ≡ true) t a b (λ e. p) (λ e. q)

pub fault-octet : (m : Monitor) → is_octet (fault_of m) ≡ true
unfolding fault_of condition_fault
fault-octet m =
    over (settings_good m.high m.low m.interval && allowed (parameters m) m.sampling m.condition_type) _
    18
    (over (eqb (form_status (form_of m.condition_type m.condition)) 0) _ _
    (over (ltb most_condition (length m.condition)) 7 0 refl refl)
    (octet (form_status (form_of m.condition_type m.condition))
    (status-below (form_of m.condition_type m.condition))))
    refl

pub status-octet : (m : Model) (l : List ℕ) → is_octet (status m l) ≡ true
unfolding status read_status add_status cancel_status enable_status
status-octet m l =
    over (eqb (sub_of l) 0) _ _ (over (eqb (length l) (params_in table 0)) 0 18 refl refl)
    (over (adds_monitor l) _ _
    (over (ltb (length l) (params_in table (sub_of l))) 18 _ refl
    (over (not (eqb (fault_of (monitor_of l)) 0)) _ _ (fault-octet (monitor_of l))
    (over (present (slot m.mons most_monitors 0)) 0 7 refl refl)))
    (over (eqb (sub_of l) 4) _ _
    (over (eqb (length l) (params_in table 4)) _ 18 (over (present _) 0 18 refl refl) refl)
    (over (eqb (sub_of l) 5) _ 1
    (over (not (eqb (length l) (params_in table 5))) 18 _ refl
    (over (ltb 1 (get_or l 1 0)) 18 _ refl (over (eqb (get_or l 1 0) m.filter) 12 0 refl refl)))
    refl)))

-- the new handle is an octet
pub handle-octet : (m : Model) → is_octet (new_handle m) ≡ true
unfolding new_handle handle_or
handle-octet m = go (slot m.mons most_monitors 0) refl
  where
    go : (o : Option ℕ) → slot m.mons most_monitors 0 ≡ o → is_octet (handle_or o) ≡ true
    go none e = refl
    go (some h) e =
        let w : Lowest m.mons most_monitors 0 h =
        slot-some m.mons most_monitors 0 h e in octet h (omega (arith, w.below))

-- "Return, success", "Return, failure": 43 octets at most
pub success-short : (m : Model) (l : List ℕ) → Settings m.opcode m.prefix → Params l → Octets 43 (success m l)
unfolding success features sub_of every
success-short m l s t =
    let pre : Octets most_prefix m.prefix = octets-made most_prefix m.prefix s.prefix-short
    s.prefix-octets in
    let tail : Octets 33 (length m.prefix ∷ m.prefix) =
    octets-cons most_prefix (length m.prefix) m.prefix (omega (arith, s.prefix-short)) pre in
    let eight : Octets 8 features = octets-made 8 features (omega arith) refl in
    let sub : is_octet (get_or l 0 0) ≡ true = at-octet l 0 t.octets in
    short-pick is_octet (eqb (sub_of l) 0) 43 _ _
    (λ e. octets-cons 42 0 _ (omega arith)
    (octets-cons 41 0 _ (omega arith) (short-append is_octet 8 33 features _ eight tail)))
    (λ e. short-pick is_octet (adds_monitor l) 43 _ _
    (λ u. short-more is_octet 3 43 _ (omega arith)
    (octets-cons 2 0 _ (omega arith) (short-cons is_octet 1 (sub_of l) _ sub
    (short-cons is_octet 0 (new_handle m) [] (handle-octet m) (short-nil is_octet 0)))))
    (λ u. short-more is_octet 2 43 _ (omega arith) (octets-cons 1 0 _ (omega arith)
    (short-cons is_octet 0 (sub_of l) [] sub (short-nil is_octet 0)))))

pub failure-short : (s : ℕ) (l : List ℕ) → is_octet s ≡ true → Params l → Octets 3 (failure s l)
unfolding failure sub_of
failure-short s l e t =
    short-pick is_octet (adds_monitor l) 3 _ _
    (λ u. short-cons is_octet 2 s _ e
    (short-cons is_octet 1 (sub_of l) _ (at-octet l 0 t.octets)
    (octets-cons 0 0 [] (omega arith) (short-nil is_octet 0))))
    (λ u. short-more is_octet 2 3 _ (omega arith) (short-cons is_octet 1 s _ e
    (short-cons is_octet 0 (sub_of l) [] (at-octet l 0 t.octets) (short-nil is_octet 0))))

pub returned-short : (m : Model) (l : List ℕ) → Settings m.opcode m.prefix → Params l → Octets 43 (returned m l)
unfolding returned
returned-short m l s t =
    short-pick is_octet (eqb (status m l) 0) 43 (success m l) (failure (status m l) l)
    (λ e. success-short m l s t)
    (λ e. short-more is_octet 3 43 _ (omega arith) (failure-short (status m l) l (status-octet m l) t))

-- "Command Complete, 0x0E, length, 0x01, opcode (2), return parameters": 48 octets at most
pub complete-short : (opcode : ℕ) (ret : List ℕ) → Octets 43 ret → Octets 48 (complete opcode ret)
unfolding complete
complete-short opcode ret s =
    let two : Octets 2 (octets_of 2 opcode) =
    octets-made 2 (octets_of 2 opcode) (rw (length-octets 2 opcode) (omega arith)) (octets-octets 2 opcode) in
    octets-cons 47 14 _ (omega arith) (octets-cons 46 (3 + length ret) _ (omega (arith, s.fits))
    (octets-cons 45 1 _ (omega arith) (short-append is_octet 2 43 (octets_of 2 opcode) ret two s)))

-- "Event: 0xFF, length, prefix, 0x02, address type, address, handle, 1 or 0": 44 octets at most
pub event-short : (opcode : ℕ) (prefix : List ℕ) (q : Pair) (state : ℕ) → Settings opcode prefix → q.address_type ≤ 1
    → length q.address ≡ 6
    → every is_octet q.address ≡ true → q.handle < 256 → state ≤ 1 → Octets 44 (event prefix q state)
unfolding event
event-short opcode prefix q state s k n o h t =
    let pre : Octets most_prefix prefix = octets-made most_prefix prefix s.prefix-short s.prefix-octets in
    let adr : Octets 6 q.address = octets-made 6 q.address (omega arith) o in
    let end : Octets 2 (q.handle ∷ state ∷ []) =
    octets-cons 1 q.handle _ h (octets-cons 0 state [] (omega arith) (short-nil is_octet 0)) in
    octets-cons 43 255 _ (omega arith) (octets-cons 42 (10 + length prefix) _ (omega (arith, s.prefix-short))
    (short-append is_octet most_prefix 10 prefix _ pre
    (octets-cons 9 2 _ (omega arith) (octets-cons 8 q.address_type _ (omega arith)
    (short-append is_octet 6 2 q.address _ adr end)))))

-- "Report: 0x3E, 12 + n, 0x02, 0x01, event type, address type, address, n, data, RSSI": 45 octets at most
pub report-short : (event kind : ℕ) (address adv : List ℕ) (rssi : ℕ) → event < 256 → kind ≤ 1 → length address ≡ 6
    → every is_octet address ≡ true → length adv ≤ most_data → every is_octet adv ≡ true → rssi < 256
    → Octets 45 (report event kind address adv rssi)
unfolding report
report-short event kind address adv rssi e k n o a d r =
    let adr : Octets 6 address = octets-made 6 address (omega arith) o in
    let dat : Octets most_data adv = octets-made most_data adv a d in
    let end : Octets 1 (rssi ∷ []) = octets-cons 0 rssi [] r (short-nil is_octet 0) in
    octets-cons 44 62 _ (omega arith)
    (octets-cons 43 (12 + length adv) _ (omega arith) (octets-cons 42 2 _ (omega arith)
    (octets-cons 41 1 _ (omega arith) (octets-cons 40 event _ (omega arith) (octets-cons 39 kind _ (omega arith)
    (short-append is_octet 6 33 address _ adr
    (octets-cons most_prefix (length adv) _ (omega arith) (short-append is_octet most_data 1 adv _ dat end))))))))

packet-report-short : (p : Packet) → Sent p → Octets 45 (packet_report p)
unfolding packet_report
packet-report-short p t =
    report-short p.event p.address_type p.address p.adv p.rssi (omega (arith, t.event-most))
    t.kind-most
    t.address-six
    t.address-octets t.adv-short t.adv-octets t.rssi-octet

scan-report-short : (p : Packet) (o : Option (List ℕ)) → Sent p → length (scan_text o) ≤ most_data
    → every is_octet (scan_text o) ≡ true
    → Octets 45 (scan_report p o)
unfolding scan_report scan_text
scan-report-short p none t n e = short-nil is_octet 45
scan-report-short p (some l) t n e =
    report-short 4 p.address_type p.address l p.rssi (omega arith) t.kind-most t.address-six
    t.address-octets n e t.rssi-octet

-- both reports of a packet
pub packet-reports-short : (p : Packet) → Sent p → Octets (2 * report_most) (packet_reports p)
unfolding packet_reports
packet-reports-short p t =
    short-append is_octet 45 45 (packet_report p) (scan_report p p.scan) (packet-report-short p t)
    (scan-report-short p p.scan t t.scan-short t.scan-octets)

pub window-report-short : (q : Pair) → Fields q → q.event < 256 → Octets 45 (window_report q)
unfolding window_report mean
window-report-short q f v =
    report-short q.event q.address_type q.address q.adv _ v f.kind-most f.address-six
    f.address-octets f.adv-short f.adv-octets
    (wrapped-below 256 (floor_of (signed q.sum) q.packets) (omega arith))
