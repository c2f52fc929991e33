-- What a past did, frame by frame: its starts, those displaced, the pairs under watch. Assumes nothing.
use Prim.Native.Nat.{ℕ, zero, suc, ◌-◌, ◌≤◌, ◌<◌}
use Rattle.std.specs.Prelude.{◌≡◌, ◌⊎◌, ◌&&◌, ◌||◌, eqb, length, take}
use Rattle.std.proofs.Math.Path.{refl, sym, ap}
use Rattle.std.proofs.Common.{◌∙◌, inl, inr, arith, ne_eqb}
use Rattle.std.proofs.Math.Bool.{Bool, true, false, not}
use mathlib.Core.List.{List, [], ◌∷◌, ◌++◌, append_assoc, append-nil}
use Rattle.std.proofs.Math.Option.{Option, none, some}
use Rattle.laws.specs.Tests.{pick}
use Rattle.laws.specs.TestsLaws.{and-not-left, and-not-right}
use Rattle.laws.specs.Loops.{keep, some as some_of}
use Rattle.laws.specs.LoopsLaws.{keep_append}
use Rattle.rule.specs.Base.{All, Ordered}
use Rattle.rule.specs.BaseLaws.{all_append, ordered-snoc}
use Rattle.steps.specs.ListsLaws.{all-weaken}
use Rattle.model.specs.Types.{Monitor, Packet}
use Rattle.model.specs.Frames.{Typed, packet}
use Rattle.pasts.specs.ListsLaws.{all_keep, all-tabulate, keep_all, keep-both, keep_same, some-append, some-none}
use Rattle.pasts.specs.Pair.{Start}
use Rattle.pasts.specs.Past.{Turned, among, goes_for, is_start, kept_now, monitor_after, room_in, same_start, after_frame, since_start, start_of, stays_but, turn_by, turns_by, watch, weaker, weakest}

-- the frames after one, a frame later
pub since-more : (s : Start) (f : Typed) (past : List Typed) → s.number ≤ length past
    → since_start s (f ∷ past) ≡ f ∷ since_start s past
unfolding since_start after_frame
since-more s f past h =
    let e : suc (length past) - s.number ≡ suc (length past - s.number) = omega arith in
    ap (λ (n : ℕ). take n (f ∷ past)) e

pub since_none : (s : Start) (past : List Typed) → length past ≤ s.number → since_start s past ≡ []
unfolding since_start after_frame
since_none s past h =
    let e : length past - s.number ≡ 0 = omega arith in
    ap (λ (n : ℕ). take n past) e

-- one of the smallest RSSI is one of them
pub weakest-all : (P : Start → Type 0) (k : Start → ℕ) (l : List Start) → All P l → All P (weakest k l)
unfolding weakest weaker pick
weakest-all P k [] a = tt
weakest-all P k (s ∷ l) a = go (weakest k l) (weakest-all P k l a.1)
  where
    go : (w : List Start) → All P w → All P (weaker k s w)
    go [] b = (a.0, tt)
    go (t ∷ w) b = by (lib.Signed.le_z (Rattle.model.specs.Level.d_bm (k s)) (Rattle.model.specs.Level.d_bm (k t)))
      where
        by : (c : Bool) → All P (pick c (s ∷ []) (t ∷ w))
        by true = (a.0, tt)
        by false = b

pub goes-all : (past : List Typed) (p : Packet) (P : Start → Type 0) (l : List Start) → All P l
    → All P (goes_for past p l)
unfolding goes_for pick
goes-all past p P l a = go (room_in past p l)
  where
    go : (b : Bool) → All P (pick b [] (weakest (kept_now past p) l))
    go true = tt
    go false = weakest-all P (kept_now past p) l a

-- two starts are not the same
pub record Apart (s t : Start) : Type 0 where
  pub forth : same_start s t ≡ false
  pub back : same_start t s ≡ false

module _ (past : List Typed) (p : Packet) where
  -- a start of an earlier frame, or one of a lower handle
  abbrev pub Before : ℕ → Start → Type 0
  Before h s = (s.number ≤ length past) ⊎ ((s.handle < h) × (s.number ≡ suc (length past)))

  pub before-apart : (m : Monitor) (h : ℕ) (s : Start) → Before h s → Apart s (start_of past p m h)
  unfolding same_start start_of
  before-apart m h s (inl b) =
      record {
        forth = and-not-left (eqb s.number (suc (length past))) (eqb s.handle h)
            (ne_eqb s.number (suc (length past)) (λ e. omega arith));
        back = and-not-left (eqb (suc (length past)) s.number) (eqb h s.handle)
            (ne_eqb (suc (length past)) s.number (λ e. omega arith));
      }
  before-apart m h s (inr b) =
      record {
        forth = and-not-right (eqb s.number (suc (length past))) (eqb s.handle h)
            (ne_eqb s.handle h (λ e. omega (arith, b.0)));
        back = and-not-right (eqb (suc (length past)) s.number) (eqb h s.handle)
            (ne_eqb h s.handle (λ e. omega (arith, b.0)));
      }

  before_more : (h : ℕ) (s : Start) → Before h s → Before (suc h) s
  before_more h s (inl b) = inl b
  before_more h s (inr b) = inr (omega (arith, b.0), b.1)

  not-among : (m : Monitor) (h : ℕ) (l : List Start) → All (Before h) l → among (start_of past p m h) l ≡ false
  unfolding among
  not-among m h l a =
      some-none (same_start (start_of past p m h)) l
      (all-weaken (Before h) (λ s. same_start (start_of past p m h) s ≡ false) (λ s b. (before-apart m h s b).back) l a)

  -- a start that this packet gives to a handle below n
  pub record New (n : ℕ) (s : Start) : Type 0 where
    pub number : s.number ≡ suc (length past)
    pub handle : s.handle < n
    pub packet : s.packet ≡ p
    pub mon : monitor_after past s.handle ≡ some s.mon

  new-before : (n : ℕ) (s : Start) → New n s → Before n s
  new-before n s v = inr (v.handle, v.number)

  new_is : (m : Monitor) (n : ℕ) → monitor_after past n ≡ some m → New (suc n) (start_of past p m n)
  unfolding start_of
  new_is m n e = record { number = refl; handle = omega arith; packet = refl; mon = e }

  new-more : (n : ℕ) (s : Start) → New n s → New (suc n) s
  new-more n s v = record { number = v.number; handle = omega (arith, v.handle); packet = v.packet; mon = v.mon }

  -- What the turns below n come to, from the pairs under watch before.
  pub record Well (w : List Start) (n : ℕ) (t : Turned) : Type 0 where
    pub kept : t.watch ≡ keep (λ s. not (among s t.gone)) (w ++ t.starts)
    pub starts : All (New n) t.starts
    pub gone : All (Before n) t.gone
    pub apart : Ordered Apart (w ++ t.starts)

  module _ (w : List Start) (old : All (λ s. s.number ≤ length past) w) (apart : Ordered Apart w) where
    all-before : (n : ℕ) (t : Turned) → Well w n t → All (Before n) (w ++ t.starts)
    all-before n t v =
        all_append (Before n) w t.starts (all-weaken (λ s. s.number ≤ length past) (Before n) (λ s b. inl b) w old)
        (all-weaken (New n) (Before n) (new-before n) t.starts v.starts)

    pub watch-before : (n : ℕ) (t : Turned) → Well w n t → All (Before n) t.watch
    watch-before n t v =
        rw v.kept (all_keep (Before n) (λ s. not (among s t.gone)) (w ++ t.starts) (all-before n t v))

    gone-both : (s : Start) (g h : List Start) → not (among s (g ++ h)) ≡ (not (among s g) && not (among s h))
    unfolding among
    gone-both s g h = rw (some-append (same_start s) g h) (go (some_of (same_start s) g) (some_of (same_start s) h))
      where
        go : (a b : Bool) → not (a || b) ≡ (not a && not b)
        go true b = refl
        go false b = refl

    begun : (m : Monitor) (n : ℕ) (t : Turned) → Well w n t → monitor_after past n ≡ some m
        → Well w (suc n) (record {
          starts = t.starts ++ (start_of past p m n ∷ []);
          gone = t.gone ++ goes_for past p t.watch;
          watch = stays_but past p (goes_for past p t.watch) t.watch ++ (start_of past p m n ∷ []);
        })
    unfolding stays_but
    begun m n t v e =
        let new : Start = start_of past p m n in
        let out : List Start = goes_for past p t.watch in
        let pre : List Start = w ++ t.starts in
        let F : Start → Bool = λ s. not (among s t.gone) in
        let G : Start → Bool = λ s. not (among s out) in
        let H : Start → Bool = λ s. not (among s (t.gone ++ out)) in
        let g : All (Before n) (t.gone ++ out) =
        all_append (Before n) t.gone out v.gone (goes-all past p (Before n) t.watch (watch-before n t v)) in
        let a : w ++ (t.starts ++ (new ∷ [])) ≡ pre ++ (new ∷ []) = sym (append_assoc w t.starts (new ∷ [])) in
        let k : keep H pre ≡ keep G t.watch =
        keep_same H (λ s. F s && G s) pre (λ s. gone-both s t.gone out) ∙ keep-both F G pre
        ∙ ap (keep G) (sym v.kept) in
        let l : keep H (new ∷ []) ≡ new ∷ [] = keep_all H (new ∷ []) (ap not (not-among m n (t.gone ++ out) g), tt) in
        record {
          kept = sym (ap (keep H) a ∙ keep_append H pre (new ∷ []) ∙ rw (k, l));
          starts = all_append (New (suc n)) t.starts (new ∷ [])
              (all-weaken (New n) (New (suc n)) (new-more n) t.starts v.starts)
              (new_is m n e, tt);
          gone = all-weaken (Before n) (Before (suc n)) (before_more n) (t.gone ++ out) g;
          apart = rw a (ordered-snoc Apart pre new v.apart
              (all-weaken (Before n) (λ s. Apart s new) (λ s b. before-apart m n s b) pre (all-before n t v)));
        }

    well-more : (n : ℕ) (t : Turned) → Well w n t → Well w (suc n) t
    well-more n t v =
        record {
          kept = v.kept;
          starts = all-weaken (New n) (New (suc n)) (new-more n) t.starts v.starts;
          gone = all-weaken (Before n) (Before (suc n)) (before_more n) t.gone v.gone;
          apart = v.apart;
        }

    turned-well : (o : Option Monitor) (n : ℕ) (t : Turned) → monitor_after past n ≡ o → Well w n t
        → Well w (suc n) (turn_by past p o n t)
    unfolding turn_by pick
    turned-well none n t e v = well-more n t v
    turned-well (some m) n t e v = go (is_start past p m n t.watch)
      where
        go : (b : Bool) → Well w (suc n) (pick b (record {
          starts = t.starts ++ (start_of past p m n ∷ []);
          gone = t.gone ++ goes_for past p t.watch;
          watch = stays_but past p (goes_for past p t.watch) t.watch ++ (start_of past p m n ∷ []);
        }) t)
        go true = begun m n t v e
        go false = well-more n t v

    pub turns-well : (n : ℕ) → Well w n (turns_by past p w n)
    unfolding turns_by among some_of
    turns-well zero =
        record {
          kept = sym (keep_all (λ s. not (among s [])) (w ++ [])
              (all-tabulate (λ s. not (among s []) ≡ true) (λ s. refl) (w ++ [])) ∙ append-nil w);
          starts = tt;
          gone = tt;
          apart = rw (append-nil w) apart;
        }
    turns-well (suc n) = turned-well (monitor_after past n) n (turns_by past p w n) refl (turns-well n)
