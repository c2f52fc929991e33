-- Of the block of a sound state save writes the image's text. Document 01, The image. Assumes nothing.
use Prim.Native.Nat.{ℕ, zero, suc, ◌+◌, ◌-◌, ◌≤◌, ◌<◌}
use Rattle.std.specs.Prelude.{◌≡◌, Bool, true, false, leb, eqb, take, drop, replicate}
use Rattle.std.proofs.Math.Path.{refl, sym, ap}
use Rattle.std.proofs.Common.{◌∙◌, add-zero, add-one, arith, le-leb, eq-eqb, ne_eqb, length-append, take_at, take_all, drop_at}
use mathlib.Core.List.{List, [], ◌∷◌, ◌++◌, append_assoc, append-nil, map}
use Rattle.std.proofs.Math.Option.{Option, none, some}
use Rattle.std.proofs.Math.ListN.{length, get_or}
use Rattle.laws.specs.Tests.{pick}
use Rattle.laws.specs.TestsLaws.{cases-le}
use Rattle.laws.specs.Put.{put, put_if}
use Rattle.laws.specs.Loops.{only, each, up_to}
use Rattle.laws.specs.LoopsLaws.{when_true, when_false, each_append, each_take}
use Rattle.laws.specs.Rows.{flat}
use Rattle.octets.specs.Little.{octets_of}
use Rattle.lines.specs.Hex.{text_of}
use Rattle.rule.specs.Base.{All}
use Rattle.rule.specs.Engine.{find}
use Rattle.rule.proofs.FindsLaws.{find-above}
use Rattle.sessions.specs.Machine.{core_room}
use Rattle.model.specs.Types.{Model, Monitor, Pair}
use Rattle.model.specs.Sound.{sound_model}
use Rattle.model.specs.Image.{head_row, monitor_row, extra_text, name_of, monitor_text as record_of, pair_row, end_row, records}
use Rattle.model.specs.Image.{image_text, extra_in, pair_in}
use Rattle.model.specs.Block.{pad_to, extra_row, monitor_place, padded, in_use}
use Rattle.blocks.specs.RowsLaws.{length-head_row, length-monitor_row, length-pair_row, get_d_past}
use Rattle.blocks.specs.Facts.{SoundMonitor, SoundMonitors, SoundModel}
use Rattle.blocks.specs.FactsLaws.{sound-facts, monitors-tail, monitors-from, monitors-over}
use Rattle.blocks.specs.Bounds.{Fits}
use Rattle.blocks.specs.TablesLaws.{from, places_same}
use Rattle.blocks.specs.Added.{added_in}
use Rattle.blocks.specs.AddedLaws.{added-at}
use Rattle.blocks.specs.MonitorsLaws.{sound-sized, monitor-extra, drop-fields, in_use-none, in_use-some}
use Rattle.blocks.specs.Block.{Measured}
use Rattle.blocks.specs.BlockLaws.{measured, padded-head, behind}
use Rattle.blocks.specs.BlockLaws.{read_count, row-monitors, row-pairs, get_d-count, padded-length}
use Rattle.octets.specs.Numbers.{at_most}
use Rattle.octets.specs.NumbersLaws.{at-is}
use Rattle.save.specs.Text.{head_text, line_of, monitor_text, pair_text, end_text, monitor_at, pair_at, live_below}
use Rattle.save.specs.Text.{monitors_text, pairs_text, pairs_in, rest_text, saved_text, saves}
use Rattle.model.specs.Layout.{block_size, condition_length_at, data_at, extra_at, length_at, most_condition, most_data, most_monitors, most_pairs, most_prefix, pair_size}

at-most-is : (v n : ℕ) → v ≤ n → at_most v n ≡ v
at-most-is v n h = sym (at-is v n h)

-- A0

pub head-image : (m : Model) → length m.prefix ≤ most_prefix → head_text (padded m) ≡ text_of (0xA0 ∷ head_row m)
unfolding head_text
head-image m h =
    rw (read_count m, at-most-is (length m.prefix) most_prefix h, padded-head m)
    (ap (λ (r : List ℕ). text_of (0xA0 ∷ r))
    (take_at (head_row m) (behind m) (8 + length m.prefix) (length-head_row m)))

-- A1: nothing of a handle not live, and the line of a monitor

place_none : (h : ℕ) → monitor_text (monitor_place h none) ≡ []
unfolding monitor_text
place_none h = when_false _ (in_use-none h)

place-count : (h : ℕ) (n : Monitor) → get_or (monitor_place h (some n)) condition_length_at 0 ≡ length n.condition
unfolding monitor_place pad_to monitor_row
place-count h n = refl

place-row : (h : ℕ) (n : Monitor) → take (7 + length n.condition) (monitor_place h (some n)) ≡ monitor_row (h, n)
unfolding monitor_place pad_to
place-row h n =
    ap (take (7 + length n.condition)) (append_assoc (monitor_row (h, n)) _ (extra_row n.extra))
    ∙ take_at (monitor_row (h, n)) (replicate (extra_at - length (monitor_row (h, n))) 0 ++ extra_row n.extra)
    (7 + length n.condition)
    (length-monitor_row (h, n))

-- the version's name, and what it adds, by what stands behind the room of the condition
versioned : (o : Option (List ℕ)) (r : List ℕ) → extra_in (extra_row o) ≡ o
    → pick (eqb (get_or (extra_row o) 0 0) 0) (0xA1 ∷ r) (0xA5 ∷ (r ++ extra_row o)) ≡ name_of o ∷ (r ++ extra_text o)
unfolding extra_in extra_row extra_text name_of pick
versioned none r e = ap (λ (x : List ℕ). 0xA1 ∷ x) (sym (append-nil r))
versioned (some l) r e = go (eqb (get_or l 0 0) 0) e
  where
    go : (t : Bool) → pick t none (some l) ≡ some l → pick t (0xA1 ∷ r) (0xA5 ∷ (r ++ l)) ≡ 0xA5 ∷ (r ++ l)
    go true q = absurd (Rattle.rule.specs.BaseLaws.none≢some q)
    go false q = refl

place-added : (h : ℕ) (n : Monitor) → SoundMonitor n → added_in (monitor_place h (some n)) ≡ extra_row n.extra
unfolding monitor_place
place-added h n f = drop-fields h n (sound-sized n f)

place-some : (h : ℕ) (n : Monitor) → SoundMonitor n
    → monitor_text (monitor_place h (some n)) ≡ text_of (record_of (h, n))
unfolding monitor_text line_of record_of
place-some h n f =
    let r : List ℕ = monitor_place h (some n) in
    let k : length n.condition ≤ most_condition = (Rattle.model.proofs.AcceptedLaws.accepted n f.accept).short in
    let a : added_in r ≡ extra_row n.extra = place-added h n f in
    let o : get_or r extra_at 0 ≡ get_or (extra_row n.extra) 0 0 =
    sym (added-at r 0 (omega arith)) ∙ ap (λ (x : List ℕ). get_or x 0 0) a in
    when_true _ (in_use-some h n f)
    ∙ rw (place-count h n, at-most-is (length n.condition) most_condition k, place-row h n, o, a)
    (ap text_of (versioned n.extra (monitor_row (h, n)) (monitor-extra n f.accept)))

-- what is written place by place, handle by handle, is what is written monitor by monitor

flat-from : {B : Type 0} (f : ℕ → List B) (n k : ℕ) → up_to f k ++ flat (from f k n) ≡ up_to f (k + n)
unfolding from flat up_to
flat-from f zero k = rw (add-zero k) (append-nil (up_to f k))
flat-from f (suc n) k =
    let e : suc k + n ≡ k + suc n = omega arith in
    sym (append_assoc (up_to f k) (f k) (flat (from f (suc k) n))) ∙ flat-from f n (suc k) ∙ ap (up_to f) e

module _ {B : Type 0} (T : ℕ → Option Monitor → List B) (z : (h : ℕ) → T h none ≡ []) where
  from_each : (l : List (ℕ × Monitor)) (n k : ℕ) (r : List (ℕ × Monitor)) → k + n ≡ most_monitors → SoundMonitors k r
      → ((h : ℕ) → k ≤ h → find l h ≡ find r h)
      → flat (from (λ h. T h (find l h)) k n) ≡ each (λ (x : ℕ × Monitor). T x.0 (some x.1)) r
  unfolding from flat each
  from_each l zero k [] e f q = refl
  from_each l zero k (x ∷ r) e f q = absurd (omega (arith, f.handles.0.0, f.handles.0.1))
  from_each l (suc n) k [] e f q =
      rw (q k (omega arith), z k)
      (from_each l n (suc k) [] (omega arith) (record { rising = tt; handles = tt; monitors = tt })
      (λ h b. q h (omega arith)))
  from_each l (suc n) k (x ∷ r) e f q =
      cases-le x.0 k (λ (u : x.0 ≤ k). here (omega (arith, f.handles.0.0))
      (λ (i : k ≡ x.0). from_each l n (suc k) r (omega arith) (tail i) (later i)))
      (λ (u : k < x.0). above u
      (from_each l n (suc k) (x ∷ r) (omega arith) (monitors-from k (suc k) x r u f) (λ h b. q h (omega arith))))
    where
      tail : k ≡ x.0 → SoundMonitors (suc k) r
      tail i = rw i (monitors-tail k x r f)

      later : k ≡ x.0 → (h : ℕ) → suc k ≤ h → find l h ≡ find r h
      later i h b = q h (omega arith) ∙ rw (ne_eqb x.0 h (λ (j : x.0 ≡ h). omega arith))

      here : k ≡ x.0
          → (k ≡ x.0 → flat (from (λ h. T h (find l h)) (suc k) n)
          ≡ each (λ (y : ℕ × Monitor). T y.0 (some y.1)) r)
          → flat (from (λ h. T h (find l h)) k (suc n)) ≡ each (λ (y : ℕ × Monitor). T y.0 (some y.1)) (x ∷ r)
      here i ih =
          let s : find l k ≡ some x.1 = q k (omega arith) ∙ rw (eq-eqb x.0 k (sym i)) in
          rw (s, ih i, i)

      above : k < x.0
          → flat (from (λ h. T h (find l h)) (suc k) n) ≡ each (λ (y : ℕ × Monitor). T y.0 (some y.1)) (x ∷ r)
          → flat (from (λ h. T h (find l h)) k (suc n)) ≡ each (λ (y : ℕ × Monitor). T y.0 (some y.1)) (x ∷ r)
      above u ih =
          let s : find l k ≡ none =
          q k (omega arith) ∙ find-above (x ∷ r) k (monitors-over k (x ∷ r) (monitors-from k (suc k) x r u f)) in
          rw (s, z k) ih

  places-each : (l : List (ℕ × Monitor)) → SoundMonitors 0 l
      → up_to (λ h. T h (find l h)) most_monitors ≡ each (λ (x : ℕ × Monitor). T x.0 (some x.1)) l
  unfolding up_to
  places-each l f =
      sym (flat-from (λ h. T h (find l h)) most_monitors 0) ∙ from_each l most_monitors 0 l refl f (λ h b. refl)

-- each element written alike; each line of rows made from elements

each_same : {A B : Type 0} (P : A → Type 0) (f g : A → List B) (l : List A) → All P l → ((a : A) → P a → f a ≡ g a)
    → each f l ≡ each g l
unfolding each
each_same P f g [] p h = refl
each_same P f g (a ∷ l) p h = rw (h a p.0, each_same P f g l p.1 h)

each_map : {A B C : Type 0} (f : B → List C) (g : A → B) (l : List A) → each f (map g l) ≡ each (λ a. f (g a)) l
unfolding each
each_map f g [] = refl
each_map f g (a ∷ l) = rw (each_map f g l)

length-ones : {A : Type 0} (P : A → Type 0) (f : A → List ℕ) (l : List A) → All P l
    → ((a : A) → P a → length (f a) ≡ 1)
    → length (each f l) ≡ length l
unfolding each
length-ones P f [] p h = refl
length-ones P f (a ∷ l) p h = simp length-append (omega (arith, h a p.0, length-ones P f l p.1 h))

module _ (m : Model) (e : sound_model m ≡ true) where
  monitor-at : (h : ℕ) → h < most_monitors → monitor_at (padded m) h ≡ monitor_place h (find m.mons h)
  unfolding monitor_at
  monitor-at h b = row-monitors m (measured m e) h b

  monitors-image : monitors_text (padded m) most_monitors ≡ each text_of (map record_of m.mons)
  unfolding monitors_text
  monitors-image =
      let f : SoundModel m = sound-facts m e in
      places_same (λ h. monitor_text (monitor_at (padded m) h)) (λ h. monitor_text (monitor_place h (find m.mons h)))
      most_monitors
      (λ h b. ap monitor_text (monitor-at h b))
      ∙ places-each (λ h o. monitor_text (monitor_place h o)) place_none m.mons f.mons-sound
      ∙ each_same (λ (x : ℕ × Monitor). SoundMonitor x.1) (λ x. monitor_text (monitor_place x.0 (some x.1)))
      (λ x. text_of (record_of x)) m.mons f.mons-sound.monitors (λ x g. place-some x.0 x.1 g)
      ∙ sym (each_map text_of record_of m.mons)

  count_none : (h : ℕ) → only (in_use (monitor_place h none)) h ≡ []
  unfolding only
  count_none h = rw (in_use-none h)

  count-some : (x : ℕ × Monitor) → SoundMonitor x.1
      → length (only (in_use (monitor_place x.0 (some x.1))) x.0) ≡ 1
  unfolding only
  count-some x g = rw (in_use-some x.0 x.1 g)

  live-image : length (live_below (padded m) most_monitors) ≡ length m.mons
  unfolding live_below
  live-image =
      let f : SoundModel m = sound-facts m e in
      ap (λ (l : List ℕ). length l) (
      places_same (λ h. only (in_use (monitor_at (padded m) h)) h)
      (λ h. only (in_use (monitor_place h (find m.mons h))) h) most_monitors
      (λ h b. ap (λ (r : List ℕ). only (in_use r) h) (monitor-at h b))
      ∙ places-each (λ h o. only (in_use (monitor_place h o)) h) count_none m.mons f.mons-sound)
      ∙ length-ones (λ (x : ℕ × Monitor). SoundMonitor x.1)
      (λ x. only (in_use (monitor_place x.0 (some x.1))) x.0)
      m.mons f.mons-sound.monitors count-some

-- A3: the line of a pair

pair-count : (q : Pair) → length q.address ≡ 6 → get_or (pad_to pair_size (pair_row q)) length_at 0 ≡ length q.adv
unfolding pad_to pair_row octets_of
pair-count q h =
    let w : List ℕ = q.handle ∷ q.address_type ∷ q.address in
    ap (λ (l : List ℕ). get_or (q.handle ∷ q.address_type ∷ l) length_at 0) (append_assoc q.address _ _)
    ∙ get_d_past w _ 8 (omega arith) 17

pair_line_lem : (q : Pair) → Fits q → pair_text (pad_to pair_size (pair_row q)) ≡ text_of (0xA3 ∷ pair_row q)
unfolding pair_text pad_to
pair_line_lem q f =
    rw (pair-count q f.address-length, at-most-is (length q.adv) most_data f.adv-most)
    (ap (λ (r : List ℕ). text_of (0xA3 ∷ r))
    (take_at (pair_row q) (replicate (pair_size - length (pair_row q)) 0) (data_at + length q.adv)
    (length-pair_row q f.address-length)))

all-at : (l : List Pair) → All Fits l → (i : ℕ) (d : Pair) → i < length l → Fits (get_or l i d)
all-at [] a i d h = absurd (omega arith)
all-at (q ∷ l) a zero d h = a.0
all-at (q ∷ l) a (suc i) d h = all-at l a.1 i d (omega arith)

module _ (m : Model) (f : Measured m) where
  pairs-each : (n : ℕ) → n ≤ length m.pairs
      → pairs_text (padded m) n ≡ each (λ (q : Pair). text_of (0xA3 ∷ pair_row q)) (take n m.pairs)
  unfolding pairs_text pair_at up_to each
  pairs-each zero h = refl
  pairs-each (suc n) h =
      let d : Pair = pair_in [] in
      let q : Pair = get_or m.pairs n d in
      rw (
        pairs-each n (omega arith),
        row-pairs m f n d (omega arith),
        pair_line_lem q
            (all-at m.pairs f.fit n d (omega arith)),
      )
      (sym (rw (add-one n) at (each_take (λ (q : Pair). text_of (0xA3 ∷ pair_row q)) m.pairs n d (omega arith))))

  pairs-in : pairs_in (padded m) ≡ length m.pairs
  unfolding pairs_in
  pairs-in = rw (get_d-count m f) (at-most-is (length m.pairs) most_pairs f.pairs-most)

  pairs-image : pairs_text (padded m) (pairs_in (padded m))
      ≡ each text_of (map (λ (q : Pair). 0xA3 ∷ pair_row q) m.pairs)
  pairs-image =
      rw (pairs-in) (pairs-each (length m.pairs) (omega arith)
      ∙ ap (λ (l : List Pair). each (λ (q : Pair). text_of (0xA3 ∷ pair_row q)) l)
      (take_all (length m.pairs) m.pairs (omega arith))
      ∙ sym (each_map text_of (λ (q : Pair). 0xA3 ∷ pair_row q) m.pairs))

-- The text of the block of a sound state is the image's text.
pub saved-image : (m : Model) → sound_model m ≡ true → saved_text (padded m) ≡ image_text m
unfolding saved_text rest_text image_text records each end_text end_row
saved-image m e =
    let f : Measured m = measured m e in
    let ms : List (List ℕ) = map record_of m.mons in
    let qs : List (List ℕ) = map (λ (q : Pair). 0xA3 ∷ pair_row q) m.pairs in
    let z : List ℕ = 0xAF ∷ end_row m in
    rw (
      head-image m f.prefix-most,
      monitors-image m e,
      pairs-image m f,
      live-image m e,
      pairs-in m f,
      each_append text_of ms (qs ++ (z ∷ [])),
      each_append text_of qs (z ∷ []),
    )
    (simp (append_assoc, append-nil))

-- .. and so is the rest, behind the first line
pub rest-image : (m : Model) → sound_model m ≡ true → rest_text (padded m) ≡ each text_of (drop 1 (records m))
unfolding saved_text image_text records each
rest-image m e =
    let f : Measured m = measured m e in
    let h : List ℕ = text_of (0xA0 ∷ head_row m) in
    let a : head_text (padded m) ≡ h = head-image m f.prefix-most in
    let b : h ++ rest_text (padded m) ≡ h ++ each text_of (drop 1 (records m)) =
    ap (λ (x : List ℕ). x ++ rest_text (padded m)) (sym a) ∙ saved-image m e in
    sym (drop_at h (rest_text (padded m)) (length h) refl) ∙ ap (drop (length h)) b
    ∙ drop_at h (each text_of (drop 1 (records m))) (length h) refl

-- What save leaves where the block is that of a sound state and there is room.
pub saves-model : (m : Model) (s out : List ℕ) {after : List ℕ} {n : ℕ} → sound_model m ≡ true → s ≡ padded m
    → core_room ≤ length out
    → n ≡ pick (saves s (length out)) (length (saved_text s)) 0
    → after ≡ put_if (saves s (length out)) out 0 (saved_text s)
    → (n ≡ length (image_text m)) × (after ≡ put out 0 (image_text m))
unfolding saves put_if pick
saves-model m s out {after} {n} h e r p q =
    let t : (eqb (length s) block_size) ≡ true = eq-eqb (length s) block_size
    (ap (λ (l : List ℕ). length l) e ∙ padded-length m h) in
    let u : leb core_room (length out) ≡ true = le-leb core_room (length out) r in
    let v : saved_text s ≡ image_text m = ap saved_text e ∙ saved-image m h in
    (rw (t, u, v) at p, rw (t, u, v) at q)

-- what save answers and leaves, for every block and for the block of a sound state
abbrev pub Answered : List ℕ → List ℕ → List ℕ → ℕ → Type 0
Answered s out after n =
    ((n ≡ pick (saves s (length out)) (length (saved_text s)) 0)
    × (after ≡ put_if (saves s (length out)) out 0 (saved_text s)))
    × ((m : Model) → sound_model m ≡ true → s ≡ padded m → core_room ≤ length out
    → (n ≡ length (image_text m)) × (after ≡ put out 0 (image_text m)))

pub save-whole : (s out : List ℕ) {after : List ℕ} {n : ℕ} → n ≡ pick (saves s (length out)) (length (saved_text s)) 0
    → after ≡ put_if (saves s (length out)) out 0 (saved_text s) → Answered s out after n
save-whole s out p q = ((p, q), λ m h e r. saves-model m s out h e r p q)

pub save-refused : (s out : List ℕ) → saves s (length out) ≡ false → Answered s out out 0
unfolding pick put_if
save-refused s out e = save-whole s out (rw e) (rw e)

pub save-done : (s out : List ℕ) {after : List ℕ} {n : ℕ} → saves s (length out) ≡ true
    → (n ≡ length (saved_text s)) × (after ≡ put out 0 (saved_text s)) → Answered s out after n
unfolding pick put_if
save-done s out e p = save-whole s out (rw e p.0) (rw e p.1)
