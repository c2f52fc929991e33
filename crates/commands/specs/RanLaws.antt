-- Laws of the definitions in Ran.
use Rattle.std.specs.Prelude.{ℕ, ◌+◌, ◌*◌, ◌<◌, ◌≡◌, Bool, List, [], ◌∷◌, ltb, length, get_or, set}
use Rattle.std.proofs.Math.Path.{refl, sym, ap}
use Rattle.std.proofs.Common.{◌∙◌, arith}
use Rattle.std.proofs.Math.Bool.{true, false}
use Rattle.std.proofs.lemmas.Bool.{false≢true}
use Rattle.std.proofs.Math.Dec.{eqb}
use borrow.Author.Tests.{eq-eqb, ne_eqb}
use Rattle.laws.specs.Tests.{pick}
use Rattle.laws.specs.TestsLaws.{pick_true, pick-false}
use Rattle.laws.specs.Put.{put}
use Rattle.octets.specs.Numbers.{number_at}
use Rattle.octets.specs.NumbersLaws.{number-of}
use Rattle.rule.specs.Engine.{find}
use Rattle.model.specs.Types.{Model, with_filter}
use Rattle.model.specs.Monitors.{monitor_of}
use Rattle.model.specs.Commands.{present, sub_of, adds_monitor, read_status, add_status, cancel_status, enable_status}
use Rattle.model.specs.Commands.{status}
use Rattle.model.specs.Commands.{new_handle, success, failure, returned, cancelled, added, changed, commanded}
use Rattle.model.specs.Events.{complete}
use Rattle.model.specs.Sound.{sound_model}
use Rattle.model.specs.Block.{padded}
use Rattle.blocks.specs.Facts.{SoundModel}
use Rattle.blocks.specs.FactsLaws.{sound-facts}
use Rattle.blocks.specs.BlockLaws.{measured, padded-length, opcode-read, read-filter}
use Rattle.blocks.specs.Monitors.{row_of}
use Rattle.blocks.specs.UpdatesLaws.{put-monitor, set-filter}
use Rattle.statuses.specs.Statuses.{adds_by, add_of, cancel_of, enable_of}
use Rattle.statuses.specs.StatusesLaws.{add-of, cancel-of, enable-of}
use Rattle.statuses.specs.AnswersLaws.{octet-at}
use Rattle.commands.specs.Handles.{live_at, lowest}
use Rattle.commands.specs.HandlesLaws.{live-present, slot-room, slot-handle, slot-free}
use Rattle.commands.specs.HandlesLaws.{slot_added}
use Rattle.commands.specs.Replies.{Replied, features_of, prefix_in}
use Rattle.commands.specs.RepliesLaws.{prefix-read}
use Rattle.commands.specs.Stored.{Enough}
use Rattle.commands.specs.StoredLaws.{enough-sized}
use Rattle.model.specs.Layout.{block_size, filter_at, monitor_size, monitors_at, most_monitors, opcode_at}
use Rattle.commands.specs.Ran.{Ran}

-- a monitor's command is no other
pub adds-of : (l : List ℕ) {sub : ℕ} {t : Bool} → sub ≡ sub_of l → adds_by sub ≡ t → adds_monitor l ≡ t
unfolding adds_monitor adds_by
adds-of l e f = rw (sym e) f

pub adds-read : (l : List ℕ) → adds_monitor l ≡ true → eqb (sub_of l) 0 ≡ false
unfolding adds_monitor
adds-read l e = ne_eqb (sub_of l) 0 (λ z. false≢true (rw z at e))

-- what each sub-opcode says
module _ (m : Model) (l : List ℕ) where
  status-read : sub_of l ≡ 0 → status m l ≡ read_status l
  unfolding status pick
  status-read e = rw e

  status-add : adds_monitor l ≡ true → status m l ≡ add_status m l
  unfolding status
  status-add e = pick-false (read_status l) _ (adds-read l e) ∙ pick_true (add_status m l) _ e

  status-cancel : sub_of l ≡ 4 → status m l ≡ cancel_status m l
  unfolding status adds_monitor pick
  status-cancel e = rw e

  status-enable : sub_of l ≡ 5 → status m l ≡ enable_status m l
  unfolding status adds_monitor pick
  status-enable e = rw e

  success-read : sub_of l ≡ 0 → success m l ≡ features_of m.prefix
  unfolding success features_of pick
  success-read e = rw e

  success-add : adds_monitor l ≡ true → success m l ≡ 0 ∷ sub_of l ∷ new_handle m ∷ []
  unfolding success
  success-add e = pick-false _ _ (adds-read l e) ∙ pick_true _ (0 ∷ sub_of l ∷ []) e

  success-cancel : sub_of l ≡ 4 → success m l ≡ 0 ∷ 4 ∷ []
  unfolding success adds_monitor pick
  success-cancel e = rw e

  success-enable : sub_of l ≡ 5 → success m l ≡ 0 ∷ 5 ∷ []
  unfolding success adds_monitor pick
  success-enable e = rw e

  changed-read : sub_of l ≡ 0 → changed m l ≡ m
  unfolding changed adds_monitor pick
  changed-read e = rw e

  changed-add : adds_monitor l ≡ true → changed m l ≡ added m (monitor_of l)
  unfolding changed
  changed-add e = pick_true (added m (monitor_of l)) _ e

  changed-cancel : sub_of l ≡ 4 → changed m l ≡ cancelled m (get_or l 1 0)
  unfolding changed adds_monitor pick
  changed-cancel e = rw e

  changed-enable : sub_of l ≡ 5 → changed m l ≡ with_filter m (get_or l 1 0)
  unfolding changed adds_monitor pick
  changed-enable e = rw e

failure-add : (s : ℕ) (l : List ℕ) → adds_monitor l ≡ true → failure s l ≡ s ∷ sub_of l ∷ 0 ∷ []
unfolding failure
failure-add s l e = pick_true (s ∷ sub_of l ∷ 0 ∷ []) _ e

pub failure-other : (s : ℕ) (l : List ℕ) (k : ℕ) → sub_of l ≡ k → adds_by k ≡ false → failure s l ≡ s ∷ k ∷ []
unfolding failure adds_monitor adds_by
failure-other s l k e t = rw e (pick-false _ _ t)

-- success and failure, whatever the command
module _ (m : Model) (l out : List ℕ) {after wrote : List ℕ} {n : ℕ} where
  pub ran-done : {ret : List ℕ} {next : Model} → status m l ≡ 0 → changed m l ≡ next → success m l ≡ ret → after
      ≡ padded next
      → Replied out wrote n (complete m.opcode ret) → Ran m l after out wrote n
  unfolding commanded returned
  ran-done e c s b r =
      let t : eqb (status m l) 0 ≡ true = eq-eqb (status m l) 0 e in
      record {
        block = b ∙ ap padded (sym (pick_true (changed m l) m t ∙ c));
        reply = rw (sym (pick_true (success m l) (failure (status m l) l) t ∙ s)) at r;
      }

  pub ran-failed : {ret : List ℕ} → (status m l ≡ 0 → ⊥) → failure (status m l) l ≡ ret → after ≡ padded m
      → Replied out wrote n (complete m.opcode ret) → Ran m l after out wrote n
  unfolding commanded returned
  ran-failed e f b r =
      let t : eqb (status m l) 0 ≡ false = ne_eqb (status m l) 0 e in
      record {
        block = b ∙ ap padded (sym (pick-false (changed m l) m t));
        reply = rw (sym (pick-false (success m l) (failure (status m l) l) t ∙ f)) at r;
      }

-- the opcode read from the block
pub opcode-at : (m : Model) (s : List ℕ) {o : ℕ} → sound_model m ≡ true → s ≡ padded m → o ≡ number_at 2 s opcode_at → o
    ≡ m.opcode
opcode-at m s e q o =
    let l : length s ≡ block_size = ap length q ∙ padded-length m e in
    number-of 2 s 5 o (omega arith) ∙ ap (λ (x : List ℕ). Rattle.octets.specs.Little.little 2 x opcode_at) q
    ∙ opcode-read m e

-- each command on the block s of the state m: what its status is
module _ (m : Model) (s l : List ℕ) (e : sound_model m ≡ true) (q : s ≡ padded m) where
  low : {h : ℕ} → h ≡ lowest s most_monitors 0 → h ≡ lowest (padded m) most_monitors 0
  low g = g ∙ ap (λ (x : List ℕ). lowest x most_monitors 0) q

  add-said : {h r : ℕ} → adds_monitor l ≡ true → h ≡ lowest s most_monitors 0 → r ≡ add_of (ltb h most_monitors) l
      → status m l ≡ r
  add-said u g f =
      status-add m l u ∙ add-of m l u ∙ ap (λ (t : Bool). add_of t l) (sym (slot-room m (sound-facts m e) (low g)))
      ∙ sym f

  cancel-said : {h r : ℕ} {t : Bool} → sub_of l ≡ 4 → h ≡ number_at 1 l 1 → t ≡ live_at s h → r ≡ cancel_of t l
      → status m l ≡ r
  cancel-said {h} {r} {t} u g v f =
      let i : live_at s h ≡ present (find m.mons (get_or l 1 0)) =
      ap (λ (x : List ℕ). live_at x h) q ∙ live-present m (sound-facts m e) h
      ∙ ap (λ (x : ℕ). present (find m.mons x)) (octet-at l 1 g) in
      status-cancel m l u ∙ cancel-of m l ∙ ap (λ (x : Bool). cancel_of x l) (sym (v ∙ i)) ∙ sym f

  enable-said : {r : ℕ} → sub_of l ≡ 5 → r ≡ enable_of (get_or s filter_at 0) l → status m l ≡ r
  enable-said u f =
      status-enable m l u ∙ enable-of m l
      ∙ ap (λ (x : ℕ). enable_of x l) (sym (ap (λ (x : List ℕ). get_or x filter_at 0) q ∙ read-filter m)) ∙ sym f

  opened : (out ret : List ℕ) {wrote : List ℕ} {n o : ℕ} → o ≡ number_at 2 s opcode_at
      → Replied out wrote n (complete o ret)
      → Replied out wrote n (complete m.opcode ret)
  opened out ret p w = rw (opcode-at m s e q p) at w

  module _ (out : List ℕ) {after wrote : List ℕ} {n o r : ℕ} (p : o ≡ number_at 2 s opcode_at) where
    -- 00
    pub read_done : sub_of l ≡ 0 → r ≡ read_status l → r ≡ 0 → after ≡ s
        → Replied out wrote n (complete o (features_of (prefix_in s))) → Ran m l after out wrote n
    read_done u f z b w =
        let x : prefix_in s ≡ m.prefix = ap prefix_in q ∙ prefix-read m e in
        ran-done m l out (status-read m l u ∙ sym f ∙ z) (changed-read m l u) (success-read m l u) (b ∙ q)
        (opened out _ p (rw x at w))

    pub read-failed : sub_of l ≡ 0 → r ≡ read_status l → (r ≡ 0 → ⊥) → after ≡ s
        → Replied out wrote n (complete o (r ∷ 0 ∷ [])) → Ran m l after out wrote n
    unfolding adds_by
    read-failed u f z b w =
        let t : status m l ≡ r = status-read m l u ∙ sym f in
        ran-failed m l out (λ y. z (sym t ∙ y)) (failure-other (status m l) l 0 u refl
        ∙ ap (λ (x : ℕ). x ∷ 0 ∷ []) t) (b ∙ q)
        (opened out _ p w)

    -- 03 and 0F
    pub add_done : {h sub at : ℕ} → sub ≡ sub_of l → adds_by sub ≡ true → h ≡ lowest s most_monitors 0
        → r ≡ add_of (ltb h most_monitors) l
        → r ≡ 0 → h < most_monitors → Enough at l
        → after ≡ put s (monitors_at + monitor_size * h) (row_of h (monitor_of l))
        → Replied out wrote n (complete o (0 ∷ sub ∷ h ∷ [])) → Ran m l after out wrote n
    add_done {h} {sub} {at} i t g f z b c w y =
        let u : adds_monitor l ≡ true = adds-of l i t in
        let a : SoundModel m = sound-facts m e in
        ran-done m l out (add-said u g f ∙ z) (changed-add m l u ∙ slot_added m a (low g) (monitor_of l) b)
        (success-add m l u ∙ ap (λ (x : ℕ). 0 ∷ sub_of l ∷ x ∷ []) (slot-handle m a (low g) b)
        ∙ ap (λ (x : ℕ). 0 ∷ x ∷ h ∷ []) (sym i))
        (w ∙ ap (λ (x : List ℕ). put x (monitors_at + monitor_size * h) (row_of h (monitor_of l))) q
        ∙ put-monitor m (measured m e) h (monitor_of l) b (enough-sized at l c) (slot-free m a (low g) b))
        (opened out _ p y)

    pub add-failed : {h sub : ℕ} → sub ≡ sub_of l → adds_by sub ≡ true → h ≡ lowest s most_monitors 0
        → r ≡ add_of (ltb h most_monitors) l
        → (r ≡ 0 → ⊥) → after ≡ s → Replied out wrote n (complete o (r ∷ sub ∷ 0 ∷ [])) → Ran m l after out wrote n
    add-failed {h} {sub} i v g f z b w =
        let u : adds_monitor l ≡ true = adds-of l i v in
        let t : status m l ≡ r = add-said u g f in
        ran-failed m l out (λ y. z (sym t ∙ y)) (failure-add (status m l) l u
        ∙ ap (λ (x : ℕ). x ∷ sub_of l ∷ 0 ∷ []) t ∙ ap (λ (x : ℕ). r ∷ x ∷ 0 ∷ []) (sym i)) (b ∙ q)
        (opened out _ p w)

    -- 04
    pub cancel-done : {h : ℕ} {t : Bool} → sub_of l ≡ 4 → h ≡ number_at 1 l 1 → t ≡ live_at s h → r ≡ cancel_of t l → r ≡ 0
        → after ≡ padded (cancelled m h) → Replied out wrote n (complete o (0 ∷ 4 ∷ [])) → Ran m l after out wrote n
    cancel-done u g v f z b w =
        ran-done m l out (cancel-said u g v f ∙ z) (changed-cancel m l u) (success-cancel m l u)
        (b ∙ ap (λ (x : ℕ). padded (cancelled m x)) (octet-at l 1 g)) (opened out _ p w)

    pub cancel-failed : {h : ℕ} {t : Bool} → sub_of l ≡ 4 → h ≡ number_at 1 l 1 → t ≡ live_at s h → r ≡ cancel_of t l
        → (r ≡ 0 → ⊥) → after ≡ s → Replied out wrote n (complete o (r ∷ 4 ∷ [])) → Ran m l after out wrote n
    unfolding adds_by
    cancel-failed u g v f z b w =
        let t : status m l ≡ r = cancel-said u g v f in
        ran-failed m l out (λ y. z (sym t ∙ y)) (failure-other (status m l) l 4 u refl
        ∙ ap (λ (x : ℕ). x ∷ 4 ∷ []) t) (b ∙ q)
        (opened out _ p w)

    -- 05
    pub enable-done : {on : ℕ} → sub_of l ≡ 5 → r ≡ enable_of (get_or s filter_at 0) l → r ≡ 0 → on ≡ number_at 1 l 1 → after
        ≡ set s filter_at on
        → Replied out wrote n (complete o (0 ∷ 5 ∷ [])) → Ran m l after out wrote n
    enable-done {on} u f z g b w =
        ran-done m l out (enable-said u f ∙ z) (changed-enable m l u) (success-enable m l u)
        (b ∙ ap (λ (x : List ℕ). set x filter_at on) q ∙ set-filter m on
        ∙ ap (λ (x : ℕ). padded (with_filter m x)) (octet-at l 1 g))
        (opened out _ p w)

    pub enable-failed : sub_of l ≡ 5 → r ≡ enable_of (get_or s filter_at 0) l → (r ≡ 0 → ⊥) → after ≡ s
        → Replied out wrote n (complete o (r ∷ 5 ∷ [])) → Ran m l after out wrote n
    unfolding adds_by
    enable-failed u f z b w =
        let t : status m l ≡ r = enable-said u f in
        ran-failed m l out (λ y. z (sym t ∙ y)) (failure-other (status m l) l 5 u refl
        ∙ ap (λ (x : ℕ). x ∷ 5 ∷ []) t) (b ∙ q)
        (opened out _ p w)
