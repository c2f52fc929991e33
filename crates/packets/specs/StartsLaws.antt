-- Laws of the definitions in Starts.
use Rattle.std.specs.Prelude.{◌≡◌, ℕ, ◌+◌, ◌-◌, ◌*◌, ◌/◌, ◌%◌, ◌<◌, ◌≤◌, true, false, not, List, [], ◌∷◌, ◌++◌, length, take, drop, ◌≢◌, slice_index, slice_index_or}
use Rattle.std.proofs.Math.Path.{refl, sym, ap, subst}
use Rattle.std.proofs.Common.{◌∙◌, append-nil}
use native.Mathlib.Omega.{arith}
use Rattle.std.proofs.Math.ListN.{length-append, length-drop}
use Rattle.std.proofs.lemmas.List.{get_or_at}
use Rattle.std.proofs.Math.Seq.{length-take-le}
use borrow.Author.Tests.{ne_eqb, lt-ltb, le-ltb}
use Rattle.laws.specs.Tests.{pick}
use Rattle.laws.specs.TestsLaws.{pick-false, and_both, and-not-left, and-not-right}
use Rattle.laws.specs.Loops.{each, when}
use Rattle.laws.specs.LoopsLaws.{when_false}
use Rattle.laws.specs.Put.{put}
use Rattle.laws.specs.PutLaws.{put-nil, put_then}
use Rattle.rule.specs.Base.{All}
use Rattle.rule.specs.BaseLaws.{all_append}
use Rattle.model.specs.Types.{Model, Packet, Pair, device_of, with_lists}
use Rattle.model.specs.Watch.{holds, least, first_keeping, without, has_room, fits, goes_for, stays_for, start_like}
use Rattle.model.specs.Level.{level}
use Rattle.model.proofs.LevelsLaws.{below-levels}
use Rattle.model.specs.Events.{event, start_event, stop_event}
use Rattle.model.specs.Block.{padded}
use Rattle.blocks.specs.Bounds.{Fits}
use Rattle.blocks.specs.UpdatesLaws.{measured-pairs}
use Rattle.steps.proofs.DropsLaws.{without_all}
use Rattle.marks.specs.Marks.{opens}
use Rattle.packets.specs.Changes.{started, starts, after, start_events}
use Rattle.packets.specs.Keys.{device_number}
use Rattle.packets.specs.Writes.{no_pair, PutAt}
use Rattle.packets.specs.WritesLaws.{bare, fits-bare, read_kept}
use Rattle.packets.specs.News.{start_row}
use Rattle.packets.specs.NewsLaws.{row-start, row-replaced}
use Rattle.packets.specs.Weakest.{level_at, weakest_below}
use Rattle.packets.specs.WeakestLaws.{level_in, Weakest, weakest-is, weakest-low, least-is, least-none, goes-is, stays-is}
use Rattle.packets.specs.Moves.{pair_at, AtPair}
use Rattle.packets.specs.MovesLaws.{pair_fits}
use Rattle.model.specs.Layout.{count_at, most_pairs, pair_size, pairs_at, rssi_at}
use Rattle.packets.specs.Starts.{Holding, Told, Asked}

-- an event of pair i, written into out at an index
abbrev pub Event : Model → List ℕ → ℕ → ℕ → List ℕ → ℕ → List ℕ → ℕ → Type 0
Event m s i state out at wrote r = AtPair m s i → PutAt out at (event m.prefix (pair_at m i) state) wrote r

-- one write behind another
pub wrote-both : (out : List ℕ) (at : ℕ) (ys zs : List ℕ) {o v : List ℕ} {r k : ℕ} → at ≤ length out
    → PutAt out at ys o r
    → PutAt o (at + r) zs v k → PutAt out at (ys ++ zs) v (r + k)
wrote-both out at ys zs {o} {v} {r} {k} h x y =
    record {
      octets = put_then out at ys (at + r) zs h x.octets (ap (λ (j : ℕ). at + j) x.count) y.octets refl;
      count = ap (λ (j : ℕ). j + k) x.count ∙ ap (λ (j : ℕ). length ys + j) y.count ∙ sym (length-append ys zs);
    }

pub wrote-is : (out : List ℕ) (at : ℕ) (ys zs : List ℕ) {o : List ℕ} {r : ℕ} → ys ≡ zs → PutAt out at ys o r
    → PutAt out at zs o r
wrote-is out at ys zs e x =
    record { octets = x.octets ∙ ap (put out at) e; count = x.count ∙ ap (λ (l : List ℕ). length l) e }

-- the levels that rows keep are those of the pairs, and the weakest row is the weakest pair's
module _ (m : Model) (s : List ℕ) (n : ℕ) (w : Holding m s n) where
  pub level-is : (j : ℕ) → j < length m.pairs → level_at s j ≡ level_in m.pairs j
  unfolding level_at level_in pair_at
  level-is j b =
      let x : AtPair m s j = record { measured = w.measured; block = w.block; within = b } in
      ap (λ (l : List ℕ). level (slice_index l (pairs_at + pair_size * j + rssi_at))) w.block
      ∙ ap level (read_kept m w.measured j no_pair b (pair_fits x))

  pub full-pairs : most_pairs ≤ n → length m.pairs ≡ most_pairs
  full-pairs f = omega (arith, w.count, w.measured.pairs-most)

  weakest-pair : most_pairs ≤ n → (i : ℕ) → i ≡ weakest_below s most_pairs
      → (i < length m.pairs) × Weakest (level_in m.pairs) (length m.pairs) i
  weakest-pair f i e =
      let l : length m.pairs ≡ most_pairs = full-pairs f in
      let k : i < length m.pairs = omega (arith, weakest-low s 63) in
      let x : Weakest (level_at s) most_pairs i = rw e (weakest-is s most_pairs) in (
        k,
        record {
          most = λ j b. rw (← level-is i k, ← level-is j b) (x.most j (omega arith));
          first = λ j b. rw (← level-is i k, ← level-is j (omega arith)) (x.first j b);
        },
      )

-- no start
module _ (m : Model) (s : List ℕ) (n : ℕ) (p : Packet) (a h : ℕ) (w : Holding m s n) (out : List ℕ) (at : ℕ) where
  left_out : starts a h p m.pairs ≡ false → Told m a h p s n out at out 0
  unfolding after start_events with_lists
  left_out e =
      let g : m.pairs
      ≡ pick (starts a h p m.pairs) (stays_for p.rssi m.pairs ++ (started a h p ∷ [])) m.pairs =
      sym (pick-false (stays_for p.rssi m.pairs ++ (started a h p ∷ [])) m.pairs e) in
      record {
        turned = record { block = w.block ∙ same g; count = w.count ∙ ap length g };
        answer = wrote-is out at [] _ (sym (when_false _ e)) (record { octets = sym (put-nil out at); count = refl });
      }
    where
      same : {qs : List Pair} → m.pairs ≡ qs → padded m ≡ padded (with_lists m m.mons qs)
      same {qs} e = ap (λ (x : List Pair). padded (with_lists m m.mons x)) e

  pub start-weak : (a / 4 % 2 ≢ 1) → Told m a h p s n out at out 0
  unfolding starts opens
  start-weak e = left_out (and-not-left _ _ (ne_eqb (a / 4 % 2) 1 e))

  pub start-held : true ≡ holds m.pairs h (device_of p) → Told m a h p s n out at out 0
  unfolding starts
  start-held e =
      left_out (and-not-right (opens a) _ (and-not-left (not (holds m.pairs h (device_of p))) _ (ap not (sym e))))

  pub start-low : most_pairs ≤ n → (i : ℕ) → i ≡ weakest_below s most_pairs → level p.rssi ≤ level_at s i
      → Told m a h p s n out at out 0
  unfolding starts fits has_room
  start-low f i e b =
      let x = weakest-pair m s n w f i e in
      let l : length m.pairs ≡ most_pairs = full-pairs m s n w f in
      let y : level p.rssi ≤ level_in m.pairs i = rw (← level-is m s n w i x.0) b in
      left_out (and-not-right (opens a) _ (and-not-right (not (holds m.pairs h (device_of p))) _
      (rw (le-ltb (length m.pairs) most_pairs (omega arith))
      (below-levels (least p.rssi m.pairs) p.rssi
      ∙ le-ltb (level (least p.rssi m.pairs)) (level p.rssi)
      (least-none m.pairs i x.0 x.1 p.rssi y)))))

-- the pairs and the answer of a start, with room and without
module _ (a h : ℕ) (p : Packet) (qs : List Pair) (y : starts a h p qs ≡ true) where
  after_free : has_room qs ≡ true → qs ++ (started a h p ∷ []) ≡ after a h p qs
  unfolding after stays_for pick
  after_free r = rw (y, r)

  told_free : (prefix : List ℕ) → has_room qs ≡ true → event prefix (started a h p) 1 ≡ start_events prefix a h p qs
  unfolding start_events goes_for pick when each start_event
  told_free prefix r = rw (y, r)

  after-full : has_room qs ≡ false → without (least p.rssi qs) qs ++ (started a h p ∷ []) ≡ after a h p qs
  unfolding after stays_for pick
  after-full r = rw (y, r)

  told-full : (prefix : List ℕ) (q : Pair) → has_room qs ≡ false → first_keeping (least p.rssi qs) qs ≡ q ∷ []
      → event prefix q 0 ++ event prefix (started a h p) 1 ≡ start_events prefix a h p qs
  unfolding start_events goes_for pick when each start_event stop_event
  told-full prefix q r g =
      rw (y, r, g) (ap (λ (l : List ℕ). l ++ event prefix (started a h p) 1) (sym (append-nil (event prefix q 0))))

-- a start
module _ (m : Model) (s : List ℕ) (n : ℕ) (p : Packet) (a h key o : ℕ) (w : Holding m s n)
    (x : Asked m p a h key o) where
  begun : fits p.rssi m.pairs ≡ true → starts a h p m.pairs ≡ true
  unfolding starts
  begun f = and_both x.strong (and_both (ap not x.free) f)

  bare-is : bare h p ≡ started a h p
  unfolding started start_like pick when
  bare-is = rw x.plain refl

  -- the state with these pairs and the pair at its start behind them, and the event that is written of it
  last-told : (qs : List Pair) (k : ℕ) {t out wrote : List ℕ} {at r : ℕ} → All Fits qs → k ≡ length qs → k < most_pairs
      → t ≡ padded (with_lists m m.mons (qs ++ (started a h p ∷ []))) → ((g : Model) → Event g t k 1 out at wrote r)
      → PutAt out at (event m.prefix (started a h p) 1) wrote r
  unfolding with_lists pair_at
  last-told qs k {t} {out} {wrote} {at} {r} f c b e y =
      let g : Model = with_lists m m.mons (qs ++ (started a h p ∷ [])) in
      let l : length (qs ++ (started a h p ∷ [])) ≡ length qs + 1 = length-append qs (started a h p ∷ []) in
      let v : AtPair g t k = record {
        measured = measured-pairs m w.measured (qs ++ (started a h p ∷ []))
            (all_append Fits qs (started a h p ∷ []) f
            (subst Fits bare-is (fits-bare h p x.sought.low x.sought.sent), tt)) (omega arith);
        block = e;
        within = omega arith;
      } in
      wrote-is out at (event m.prefix (slice_index_or (qs ++ (started a h p ∷ [])) k no_pair) 1)
      (event m.prefix (started a h p) 1)
      (ap (λ (q : Pair). event m.prefix q 1) (get_or_at qs (started a h p) [] no_pair k (sym c)))
      (y g v)

  pub start-free : {t out wrote : List ℕ} {at r : ℕ} → n < most_pairs
      → t ≡ put (put s (pairs_at + pair_size * n) (start_row key o)) count_at ((n + 1) ∷ [])
      → ((g : Model) → Event g t n 1 out at wrote r) → Told m a h p t (n + 1) out at wrote r
  unfolding fits has_room
  start-free {t} {out} {wrote} {at} {r} b e f =
      let qs : List Pair = m.pairs ++ (started a h p ∷ []) in
      let room : has_room m.pairs ≡ true = lt-ltb (length m.pairs) most_pairs (omega (arith, w.count)) in
      let y : starts a h p m.pairs ≡ true = begun (rw room) in
      let l : length qs ≡ length m.pairs + 1 = length-append m.pairs (started a h p ∷ []) in
      let z : t ≡ padded (with_lists m m.mons qs) =
      e ∙ ap (λ (v : List ℕ). put (put v (pairs_at + pair_size * n) (start_row key o)) count_at ((n + 1) ∷ [])) w.block
      ∙ ap (λ (j : ℕ). put (put (padded m) (pairs_at + pair_size * j) (start_row key o)) count_at ((j + 1) ∷ []))
      w.count
      ∙ ap (λ (j : ℕ). put (put (padded m) (pairs_at + pair_size * length m.pairs) (start_row j o)) count_at
      ((length m.pairs + 1) ∷ []))
      x.sought.number
      ∙ ap (λ (j : ℕ). put
      (put (padded m) (pairs_at + pair_size * length m.pairs) (start_row (h + 256 * device_number p) j)) count_at
      ((length m.pairs + 1) ∷ [])) x.rssi
      ∙ row-start m w.measured h p x.sought.low x.sought.sent (omega (arith, w.count))
      ∙ ap (λ (q : Pair). padded (with_lists m m.mons (m.pairs ++ (q ∷ [])))) bare-is in
      let g : qs ≡ after a h p m.pairs = after_free a h p m.pairs y room in
      record {
        turned = record {
          block = z ∙ ap (λ (v : List Pair). padded (with_lists m m.mons v)) g;
          count = ap (λ (j : ℕ). j + 1) w.count ∙ sym l ∙ ap length g;
        };
        answer = wrote-is out at (event m.prefix (started a h p) 1) _
            (told_free a h p m.pairs y m.prefix room)
            (last-told m.pairs n w.measured.fit w.count b z f);
      }

  pub start-full : (i : ℕ) {t out o1 wrote : List ℕ} {at r1 r2 : ℕ} → most_pairs ≤ n → i ≡ weakest_below s most_pairs
      → level_at s i < level p.rssi → at ≤ length out
      → Event m s i 0 out at o1 r1
      → t ≡ put (put s (pairs_at + pair_size * i)
      (take (pair_size * (most_pairs - 1 - i)) (drop (pairs_at + pair_size * (i + 1)) s)))
      (pairs_at + pair_size * (most_pairs - 1)) (start_row key o)
      → ((g : Model) → Event g t (most_pairs - 1) 1 o1 (at + r1) wrote r2) → Told m a h p t n out at wrote (r1 + r2)
  unfolding fits has_room pair_at
  start-full i {t} {out} {o1} {wrote} {at} {r1} {r2} full e b c f q k =
      let d = weakest-pair m s n w full i e in
      let l : length m.pairs ≡ most_pairs = full-pairs m s n w full in
      let lo : ℕ = least p.rssi m.pairs in
      let ab : level_in m.pairs i < level p.rssi = rw (← level-is m s n w i d.0) b in
      let room : has_room m.pairs ≡ false = le-ltb (length m.pairs) most_pairs (omega arith) in
      let li : level lo ≡ level_in m.pairs i = least-is m.pairs i d.0 d.1 p.rssi ab in
      let y : starts a h p m.pairs ≡ true =
      begun (rw room (below-levels lo p.rssi ∙ lt-ltb (level lo) (level p.rssi) (omega arith))) in
      let rest : List Pair = take i m.pairs ++ drop (i + 1) m.pairs in
      let st : without lo m.pairs ≡ rest = stays-is m.pairs i d.0 d.1 lo li in
      let go : first_keeping lo m.pairs ≡ slice_index_or m.pairs i no_pair ∷ [] = goes-is m.pairs i d.0 d.1 lo li in
      let lt : length (take i m.pairs) ≡ i = length-take-le i m.pairs (omega (arith, d.0)) in
      let ld : length (drop (i + 1) m.pairs) ≡ length m.pairs - (i + 1) = length-drop (i + 1) m.pairs in
      let lr : length rest ≡ most_pairs - 1 =
      length-append (take i m.pairs) (drop (i + 1) m.pairs) ∙ omega (arith, d.0) in
      let z : t ≡ padded (with_lists m m.mons (rest ++ (started a h p ∷ []))) =
      q ∙ ap (λ (v : List ℕ). put
      (put v (pairs_at + pair_size * i)
      (take (pair_size * (most_pairs - 1 - i)) (drop (pairs_at + pair_size * (i + 1)) v)))
      (pairs_at + pair_size * (most_pairs - 1)) (start_row key o)) w.block
      ∙ ap (λ (j : ℕ). put (put (padded m) (pairs_at + pair_size * i)
      (take (pair_size * (most_pairs - 1 - i)) (drop (pairs_at + pair_size * (i + 1)) (padded m))))
      (pairs_at + pair_size * (most_pairs - 1)) (start_row j o)) x.sought.number
      ∙ ap (λ (j : ℕ). put (put (padded m) (pairs_at + pair_size * i)
      (take (pair_size * (most_pairs - 1 - i)) (drop (pairs_at + pair_size * (i + 1)) (padded m))))
      (pairs_at + pair_size * (most_pairs - 1)) (start_row (h + 256 * device_number p) j)) x.rssi
      ∙ row-replaced m w.measured h p x.sought.low x.sought.sent i l (omega (arith, d.0))
      ∙ ap (λ (q : Pair). padded (with_lists m m.mons (rest ++ (q ∷ [])))) bare-is in
      let g : rest ++ (started a h p ∷ []) ≡ after a h p m.pairs =
      ap (λ (v : List Pair). v ++ (started a h p ∷ [])) (sym st) ∙ after-full a h p m.pairs y room in
      let ln : length (rest ++ (started a h p ∷ [])) ≡ most_pairs =
      length-append rest (started a h p ∷ []) ∙ omega arith in
      let fit : All Fits rest = subst (All Fits) st (without_all Fits lo m.pairs w.measured.fit) in
      let v : PutAt out at (event m.prefix (slice_index_or m.pairs i no_pair) 0) o1 r1 =
      f (record { measured = w.measured; block = w.block; within = d.0 }) in
      record {
        turned = record {
          block = z ∙ ap (λ (j : List Pair). padded (with_lists m m.mons j)) g;
          count = w.count ∙ l ∙ sym ln ∙ ap length g;
        };
        answer = wrote-is out at _ _ (told-full a h p m.pairs y m.prefix (slice_index_or m.pairs i no_pair) room go)
            (wrote-both out at (event m.prefix (slice_index_or m.pairs i no_pair) 0) (event m.prefix (started a h p) 1)
            c v
            (last-told rest (most_pairs - 1) fit (sym lr) (omega arith) z k));
      }
