-- Laws of the definitions in Octets.
use Rattle.std.specs.Prelude.{ℕ, ◌+◌, ◌≤◌, ◌≡◌, refl, List, [], ◌∷◌, ◌++◌, length, take}
use Rattle.std.proofs.Common.{ap, ◌∙◌, append_assoc, arith, length-append, length-take, length-drop, take_at, take-take}
use Rattle.model.specs.Types.{Pair}
use Rattle.model.specs.Image.{pair_row}
use Rattle.model.specs.Events.{event, report}
use Rattle.model.specs.Block.{pad_to}
use Rattle.model.specs.Layout.{pair_size}
use Rattle.events.specs.Octets.{event_octets, report_octets}

pub length-event : (prefix row : List ℕ) (state : ℕ) → 8 ≤ length row
    → length (event_octets prefix row state) ≡ 12 + length prefix
unfolding event_octets
length-event prefix row state h = simp (length-append, length-take, length-drop) (omega arith)

pub length-report : (event : ℕ) (device adv : List ℕ) (rssi : ℕ) → length device ≡ 7
    → length (report_octets event device adv rssi) ≡ 14 + length adv
unfolding report_octets
length-report event device adv rssi h = simp length-append (omega arith)

-- the model's event: that of a pair's row in the table, or of a row that opens with the pair's key
pub event-row : (prefix : List ℕ) (q : Pair) (state : ℕ) (xs : List ℕ) → length q.address ≡ 6
    → event_octets prefix (q.handle ∷ q.address_type ∷ (q.address ++ xs)) state ≡ event prefix q state
unfolding event_octets event
event-row prefix q state xs h =
    rw (take_at q.address xs 6 h)

pub event-pair : (prefix : List ℕ) (q : Pair) (state : ℕ) → length q.address ≡ 6
    → event_octets prefix (pad_to pair_size (pair_row q)) state ≡ event prefix q state
unfolding pad_to pair_row
event-pair prefix q state h =
    ap (λ (l : List ℕ). event_octets prefix (q.handle ∷ q.address_type ∷ l) state) (append_assoc q.address _ _)
    ∙ event-row prefix q state _ h

-- only the first 8 octets of a row count
pub event-opens : (prefix row : List ℕ) (state : ℕ) → event_octets prefix
    (take 8 row) state ≡ event_octets prefix row state
unfolding event_octets
event-opens prefix [] state = refl
event-opens prefix (x ∷ r) state = rw (take-take 7 7 r (omega arith))

-- the model's report
pub report-device : (event kind : ℕ) (address adv : List ℕ) (rssi : ℕ)
    → report_octets event (kind ∷ address) adv rssi ≡ report event kind address adv rssi
unfolding report_octets report
report-device event kind address adv rssi = refl
