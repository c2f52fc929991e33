-- Laws of the definitions in Handles.
use Prim.Native.Nat.{ℕ, zero, suc, ◌+◌, ◌-◌, ◌*◌, ◌≤◌, ◌<◌}
use Rattle.std.specs.Prelude.{◌≡◌, Bool, true, List, eqb, drop, get_or}
use Rattle.std.proofs.Math.Path.{refl, sym, ap}
use Rattle.std.proofs.Common.{◌∙◌, get_or-drop}
use Rattle.std.proofs.Math.Bool.{false, not}
use Rattle.std.proofs.Math.Option.{Option, none, some}
use native.Mathlib.Omega.{arith}
use Rattle.std.proofs.Math.Dec.{ltb}
use borrow.Author.Tests.{ne_eqb, lt-ltb, le-ltb}
use Rattle.laws.specs.Tests.{pick}
use Rattle.laws.specs.TestsLaws.{pick_true, pick-false, cases-le}
use Rattle.laws.specs.RowsLaws.{get_d-row}
use Rattle.rule.specs.Engine.{find, first_or, slot, insert, insert_at}
use Rattle.rule.proofs.FindsLaws.{slot-some}
use Rattle.model.specs.Types.{Model, Monitor, with_lists}
use Rattle.model.specs.Image.{monitor_row}
use Rattle.model.proofs.AcceptedLaws.{Accepted, accepted}
use Rattle.model.specs.Commands.{present, handle_or, new_handle, added}
use Rattle.model.specs.Block.{pad_to, monitor_place, padded}
use Rattle.blocks.specs.Facts.{SoundModel}
use Rattle.blocks.specs.BoundsLaws.{live-handle, live-monitor}
use Rattle.blocks.specs.BlockLaws.{sound-measured, row-monitors}
use Rattle.model.specs.Layout.{head_size, interval_at, intervals_at, monitor_size, monitors_at, most_monitors}
use Rattle.commands.specs.Handles.{busy_at, live_at, lowest}

-- the turns of the loop that looks for it
module _ (s : List ℕ) (i : ℕ) (h : i < most_monitors)
    (q : lowest s (most_monitors - i) i ≡ lowest s most_monitors 0) where
  more : most_monitors - i ≡ suc (most_monitors - (i + 1))
  more = omega arith

  pub lowest-taken : busy_at s i ≡ true → lowest s (most_monitors - (i + 1)) (i + 1) ≡ lowest s most_monitors 0
  unfolding lowest
  lowest-taken e =
      let z : suc i ≡ i + 1 = omega arith in
      sym (ap (λ (n : ℕ). lowest s n i) more ∙ pick_true _ i e
      ∙ ap (λ (k : ℕ). lowest s (most_monitors - (i + 1)) k) z) ∙ q

  pub lowest-free : busy_at s i ≡ false → i ≡ lowest s most_monitors 0
  unfolding lowest
  lowest-free e = sym (ap (λ (n : ℕ). lowest s n i) more ∙ pick-false _ i e) ∙ q

pub lowest-none : (s : List ℕ) (i : ℕ) → i ≡ most_monitors → lowest s (most_monitors - i) i ≡ lowest s most_monitors 0
    → most_monitors ≡ lowest s most_monitors 0
unfolding lowest
lowest-none s i e q = sym (ap (λ (k : ℕ). lowest s (most_monitors - k) k) e) ∙ q

-- the interval of what stands under a handle; 0 where nothing does
unfoldable interval_of : Option Monitor → ℕ
interval_of none = 0
interval_of (some x) = x.interval

place-interval : (h : ℕ) (o : Option Monitor) → get_or (monitor_place h o) interval_at 0 ≡ interval_of o
unfolding monitor_place pad_to monitor_row interval_of
place-interval h none = refl
place-interval h (some x) = refl

-- slots as numbers; 16 where there is none
unfoldable pub slot_or : Option ℕ → ℕ
slot_or none = most_monitors
slot_or (some h) = h

module _ (m : Model) (f : SoundModel m) where
  interval-read : (h : ℕ) → h < most_monitors
      → get_or (padded m) (intervals_at + monitor_size * h) 0 ≡ interval_of (find m.mons h)
  interval-read h b =
      let z : intervals_at + monitor_size * h ≡ monitors_at + (monitor_size * h + 3) = omega arith in
      ap (λ (i : ℕ). get_or (padded m) i 0) z ∙ sym (get_or-drop head_size (padded m) (monitor_size * h + 3) 0)
      ∙ sym (get_d-row monitor_size h 3 (drop monitors_at (padded m)) 0 (omega arith))
      ∙ ap (λ (r : List ℕ). get_or r interval_at 0) (row-monitors m (sound-measured m f) h b)
      ∙ place-interval h (find m.mons h)

  -- a row is in use exactly where the handle is live
  pub busy-live : (h : ℕ) → h < most_monitors → busy_at (padded m) h ≡ present (find m.mons h)
  unfolding busy_at present interval_of
  busy-live h b = ap (λ (n : ℕ). not (eqb n 0)) (interval-read h b) ∙ go (find m.mons h) refl
    where
      go : (o : Option Monitor) → find m.mons h ≡ o → not (eqb (interval_of o) 0) ≡ present o
      go none e = refl
      go (some x) e =
          let a : Accepted x = accepted x (live-monitor m f h x e).accept in
          ap not (ne_eqb x.interval 0 (λ (z : x.interval ≡ 0). omega (arith, a.interval-least)))

  pub live-present : (h : ℕ) → live_at (padded m) h ≡ present (find m.mons h)
  unfolding live_at present
  live-present h =
      cases-le most_monitors h
      (λ (u : most_monitors ≤ h). pick-false _ false (le-ltb h most_monitors u) ∙ go u (find m.mons h) refl)
      (λ (u : h < most_monitors). pick_true _ false (lt-ltb h most_monitors u) ∙ busy-live h u)
    where
      go : most_monitors ≤ h → (o : Option Monitor) → find m.mons h ≡ o → false ≡ present o
      go u none e = refl
      go u (some x) e = absurd (omega (arith, live-handle m f h x e))

  lowest-slot-of : (n k : ℕ) → k + n ≡ most_monitors → lowest (padded m) n k ≡ slot_or (slot m.mons n k)
  unfolding lowest slot_or present
  lowest-slot-of zero k e = omega arith
  lowest-slot-of (suc n) k e =
      ap (λ (t : Bool). pick t (lowest (padded m) n (suc k)) k) (busy-live k (omega arith))
      ∙ go (find m.mons k) (lowest-slot-of n (suc k) (omega arith))
    where
      go : (o : Option Monitor) → lowest (padded m) n (suc k) ≡ slot_or (slot m.mons n (suc k))
          → pick (present o) (lowest (padded m) n (suc k)) k ≡ slot_or (first_or o k (slot m.mons n (suc k)))
      go none ih = pick-false _ k refl
      go (some x) ih = pick_true _ k refl ∙ ih

  module _ {g : ℕ} (e : g ≡ lowest (padded m) most_monitors 0) where
    at_slot : g ≡ slot_or (slot m.mons most_monitors 0)
    at_slot = e ∙ lowest-slot-of most_monitors 0 refl

    -- there is room exactly where the lowest is below 16
    pub slot-room : ltb g most_monitors ≡ present (slot m.mons most_monitors 0)
    unfolding slot_or present
    slot-room = ap (λ (k : ℕ). ltb k most_monitors) at_slot ∙ go (slot m.mons most_monitors 0) refl
      where
        go : (o : Option ℕ) → slot m.mons most_monitors 0 ≡ o → ltb (slot_or o) most_monitors ≡ present o
        go none q = refl
        go (some k) q = lt-ltb k most_monitors (omega (arith, (slot-some m.mons most_monitors 0 k q).below))

    -- and then it is the slot
    pub slot-found : g < most_monitors → slot m.mons most_monitors 0 ≡ some g
    unfolding slot_or
    slot-found b = go (slot m.mons most_monitors 0) refl
      where
        go : (o : Option ℕ) → slot m.mons most_monitors 0 ≡ o → o ≡ some g
        go none q = let z : g ≡ most_monitors = at_slot ∙ ap slot_or q in absurd (omega arith)
        go (some k) q = let z : g ≡ k = at_slot ∙ ap slot_or q in ap some (sym z)

    pub slot-handle : g < most_monitors → new_handle m ≡ g
    unfolding new_handle handle_or
    slot-handle b = ap handle_or (slot-found b)

    pub slot-free : g < most_monitors → find m.mons g ≡ none
    slot-free b = (slot-some m.mons most_monitors 0 g (slot-found b)).free

    pub slot_added : (x : Monitor) → g < most_monitors → added m x ≡ with_lists m (insert g x m.mons) m.pairs
    unfolding added
    slot_added x b = ap (λ (o : Option ℕ). with_lists m (insert_at o x m.mons) m.pairs) (slot-found b)
