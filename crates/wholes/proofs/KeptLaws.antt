-- Laws of the definitions in Kept.
use Rattle.std.specs.Prelude.{ℕ, zero, suc, ◌+◌, ◌≡◌, refl, ◌⊎◌, Bool, true, false, List, [], ◌∷◌, ◌++◌, map, eqb, length, get_or}
use Rattle.std.proofs.Common.{sym, ap, ◌∙◌, inl, inr, arith, length-append}
use Rattle.std.proofs.Math.Option.{Option, none, some}
use Rattle.laws.specs.Tests.{pick}
use Rattle.laws.specs.Loops.{keep, only, each, when}
use Rattle.laws.specs.LoopsLaws.{length-keep}
use Rattle.rule.specs.Base.{map_some as move_each, push}
use Rattle.rule.specs.BaseLaws.{each-length}
use Rattle.rule.specs.Engine.{find}
use Rattle.model.specs.Types.{Model, Monitor, Packet, Pair, watched, moved, with_lists, with_filter}
use Rattle.model.specs.Events.{event, start_event, stop_event}
use Rattle.model.specs.Watch.{packet_move, packet_pairs, packet_answer, at_tick, tick_pairs, begins, start_of, stop_of, turn, turns, turn_answer, turns_answer}
use Rattle.model.specs.Monitors.{monitor_of}
use Rattle.model.specs.Commands.{adds_monitor, status, sub_of, commanded, changed, cancelled, added, of_other}
use Rattle.model.specs.Frames.{Typed, command, packet, tick, bad}
use Rattle.model.specs.Step.{step_typed, answer_typed}
use Rattle.steps.specs.WholeLaws.{key}
use Rattle.model.specs.Layout.{most_monitors}
use Rattle.steps.proofs.MovesLaws.{packet-key, tick-key}
use Rattle.wholes.specs.Index.{IndexEntry, noted, noted_all, index_of, index_block}
use Rattle.wholes.specs.Kept.{pair_event}

-- the index reads of each pair its key alone
noted_keys : List IndexEntry → List (ℕ × List ℕ) → List IndexEntry
noted_keys es [] = es
noted_keys es (k ∷ ks) = noted_keys (noted k.1 k.0 es) ks

all-keys : (es : List IndexEntry) (qs : List Pair) → noted_all es qs ≡ noted_keys es (map key qs)
unfolding noted_all noted_keys
all-keys es [] = refl
all-keys es (q ∷ qs) = all-keys (noted (watched q) q.handle es) qs

pub index-keys : (qs rs : List Pair) → map key qs ≡ map key rs → index_block qs ≡ index_block rs
unfolding index_block index_of
index-keys qs rs e =
    let z : noted_all [] qs ≡ noted_all [] rs = all-keys [] qs ∙ ap (noted_keys []) e ∙ sym (all-keys [] rs) in
    ap (λ (es : List IndexEntry). Rattle.wholes.specs.Index.entry_table es ++ (length es ∷ [])) z

-- a tick: as many pairs as before are the same pairs
each-keys : (f : Pair → Option Pair) (qs : List Pair) → ((q r : Pair) → f q ≡ some r → key r ≡ key q)
    → length (move_each f qs) ≡ length qs
    → map key (move_each f qs) ≡ map key qs
each-keys f [] k h = refl
each-keys f (q ∷ qs) k h = go (f q) refl h (each-keys f qs k)
  where
    go : (o : Option Pair) → f q ≡ o → length (push o (move_each f qs)) ≡ suc (length qs)
        → (length (move_each f qs) ≡ length qs → map key (move_each f qs) ≡ map key qs)
        → map key (push o (move_each f qs)) ≡ key q ∷ map key qs
    go none e n i = absurd (let b = each-length f qs in omega arith)
    go (some r) e n i = rw (k q r e, i (omega arith))

-- a command: as many pairs as before are those before
keep_same : (f : Pair → Bool) (qs : List Pair) → length (keep f qs) ≡ length qs → keep f qs ≡ qs
unfolding keep only
keep_same f [] h = refl
keep_same f (q ∷ qs) h = go (f q) h (keep_same f qs)
  where
    go : (b : Bool) → length (only b q ++ keep f qs) ≡ suc (length qs)
        → (length (keep f qs) ≡ length qs → keep f qs ≡ qs) → only b q ++ keep f qs ≡ q ∷ qs
    go true n i = ap (λ (l : List Pair). q ∷ l) (i (omega arith))
    go false n i = absurd (let b = length-keep f qs in omega arith)

changed-keys : (m : Model) (l : List ℕ) → length (changed m l).pairs ≡ length m.pairs
    → map key (changed m l).pairs ≡ map key m.pairs
unfolding changed cancelled added with_lists with_filter pick
changed-keys m l = go (monitor_of l) (adds_monitor l) (eqb (sub_of l) 0x04) (eqb (sub_of l) 0x05)
  where
    go : (new : Monitor) (a b c : Bool)
        → length (pick a (added m new)
        (pick b (cancelled m (get_or l 1 0)) (pick c (with_filter m (get_or l 1 0)) m))).pairs ≡ length m.pairs
        → map key (pick a (added m new)
        (pick b (cancelled m (get_or l 1 0)) (pick c (with_filter m (get_or l 1 0)) m))).pairs ≡ map key m.pairs
    go new true b c h = refl
    go new false true c h = ap (map key) (keep_same (of_other (get_or l 1 0)) m.pairs h)
    go new false false true h = refl
    go new false false false h = refl

command-keys : (m : Model) (l : List ℕ) → length (commanded m l).pairs ≡ length m.pairs
    → map key (commanded m l).pairs ≡ map key m.pairs
unfolding commanded pick
command-keys m l = go (eqb (status m l) 0)
  where
    go : (a : Bool) → length (pick a (changed m l) m).pairs ≡ length m.pairs
        → map key (pick a (changed m l) m).pairs ≡ map key m.pairs
    go true h = changed-keys m l h
    go false h = refl

-- a packet's turns: what they write, if anything, opens with 0xFF; where they write nothing they leave the pairs
Opens : List ℕ → Type 0
Opens l = (l ≡ []) ⊎ (get_or l 0 0 ≡ pair_event)

opens-append : (l r : List ℕ) → Opens l → Opens r → Opens (l ++ r)
unfolding Opens
opens-append [] r a b = b
opens-append (x ∷ l) r (inl e) b = absurd (let n : length (x ∷ l) ≡ 0 = ap length e in omega arith)
opens-append (x ∷ l) r (inr e) b = inr e

opens-each : (f : Pair → List ℕ) (qs : List Pair) → ((q : Pair) → Opens (f q)) → Opens (each f qs)
unfolding each Opens
opens-each f [] h = inl refl
opens-each f (q ∷ qs) h = opens-append (f q) (each f qs) (h q) (opens-each f qs h)

turns-open : (prefix : List ℕ) (mons : List (ℕ × Monitor)) (p : Packet) (n : ℕ) (qs : List Pair)
    → Opens (turns_answer prefix mons p n qs)
unfolding turns_answer turn_answer Opens start_event stop_event event
turns-open prefix mons p zero qs = inl refl
turns-open prefix mons p (suc n) qs =
    let o : Option Monitor = find mons n in let rs : List Pair = turns mons p n qs in
    opens-append (turns_answer prefix mons p n qs) (turn_answer prefix o p n rs) (turns-open prefix mons p n qs)
    (opens-append (each (stop_event prefix) (stop_of o p n rs)) (each (start_event prefix) (start_of o p n rs))
    (opens-each (stop_event prefix) (stop_of o p n rs) (λ q. inr refl))
    (opens-each (start_event prefix) (start_of o p n rs) (λ q. inr refl)))

turn-none : (prefix : List ℕ) (o : Option Monitor) (p : Packet) (h : ℕ) (qs : List Pair)
    → length (turn_answer prefix o p h qs) ≡ 0 → turn o p h qs ≡ qs
unfolding turn turn_answer start_of stop_of when each start_event event pick
turn-none prefix none p h qs e = refl
turn-none prefix (some m) p h qs e = go (begins m p h qs) e
  where
    go : (b : Bool)
        → length (each (stop_event prefix) (when b (Rattle.model.specs.Watch.goes_for p.rssi qs))
        ++ each (start_event prefix) (when b (Rattle.model.specs.Watch.start_pair m h p ∷ []))) ≡ 0
        → pick b (Rattle.model.specs.Watch.stays_for p.rssi qs ++ (Rattle.model.specs.Watch.start_pair m h p ∷ []))
        qs ≡ qs
    go true z =
        let x : List ℕ = each (stop_event prefix) (Rattle.model.specs.Watch.goes_for p.rssi qs) in
        let y : List ℕ = each (start_event prefix) (Rattle.model.specs.Watch.start_pair m h p ∷ []) in
        absurd (let n : length (x ++ y) ≡ length x + length y = length-append x y in omega arith)
    go false z = refl

turns-none : (prefix : List ℕ) (mons : List (ℕ × Monitor)) (p : Packet) (n : ℕ) (qs : List Pair)
    → length (turns_answer prefix mons p n qs) ≡ 0
    → turns mons p n qs ≡ qs
unfolding turns_answer turns
turns-none prefix mons p zero qs e = refl
turns-none prefix mons p (suc n) qs e =
    let a : List ℕ = turns_answer prefix mons p n qs in
    let b : List ℕ = turn_answer prefix (find mons n) p n (turns mons p n qs) in
    let l : length (a ++ b) ≡ length a + length b = length-append a b in
    turn-none prefix (find mons n) p n (turns mons p n qs) (omega arith) ∙ turns-none prefix mons p n qs (omega arith)

-- what was written does not open with an event of a pair
unfoldable pub Quiet : List ℕ → Type 0
Quiet a = (length a ≡ 0) ⊎ (get_or a 0 0 ≡ pair_event → ⊥)

quiet-front : (l r : List ℕ) → Opens l → Quiet (l ++ r) → length l ≡ 0
unfolding Opens Quiet
quiet-front [] r a q = refl
quiet-front (x ∷ l) r (inl e) q = ap length e
quiet-front (x ∷ l) r (inr e) (inl z) = absurd (omega arith)
quiet-front (x ∷ l) r (inr e) (inr n) = absurd (n e)

map-key : (mons : List (ℕ × Monitor)) (p : Packet) (qs : List Pair) → map key (map (packet_move mons p) qs) ≡ map key qs
map-key mons p [] = refl
map-key mons p (q ∷ qs) = rw (packet-key mons p q, map-key mons p qs)

packet-keys : (m : Model) (p : Packet) → Quiet (packet_answer m p) → map key (packet_pairs m p) ≡ map key m.pairs
unfolding packet_answer packet_pairs
packet-keys m p q =
    let qs : List Pair = map (packet_move m.mons p) m.pairs in
    let a : List ℕ = turns_answer m.prefix m.mons p most_monitors qs in
    ap (map key) (turns-none m.prefix m.mons p most_monitors qs
    (quiet-front a _ (turns-open m.prefix m.mons p most_monitors qs) q))
    ∙ map-key m.mons p m.pairs

-- of every frame: as many pairs as before, and nothing written that opens so
pub kept-index : (m : Model) (f : Typed) → length (step_typed m f).pairs ≡ length m.pairs → Quiet (answer_typed m f)
    → index_block (step_typed m f).pairs ≡ index_block m.pairs
unfolding step_typed answer_typed moved with_lists tick_pairs
kept-index m (command o l) h q = index-keys (commanded m l).pairs m.pairs (command-keys m l h)
kept-index m (packet p) h q = index-keys (packet_pairs m p) m.pairs (packet-keys m p q)
kept-index m tick h q =
    index-keys (tick_pairs m) m.pairs
    (each-keys (λ r. at_tick (find m.mons r.handle) r) m.pairs
    (λ r t e. tick-key (find m.mons r.handle) r t e) h)
kept-index m bad h q = refl
