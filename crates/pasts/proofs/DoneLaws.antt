-- What holds of all starts of a past: their numbers, that no two are the same, that their monitors are accepted and
-- live. Assumes nothing.
use Prim.Native.Nat.{ℕ, zero, suc, ◌≤◌}
use Rattle.std.specs.Prelude.{◌≡◌, Bool, true, false, ◌||◌, List, [], ◌∷◌, ◌++◌, eqb, length}
use Rattle.std.proofs.Math.Path.{refl}
use Rattle.std.proofs.Common.{sym, ap, ◌∙◌, inl, inr, arith, ne_eqb}
use Rattle.std.proofs.lemmas.Bool.{false≢true}
use Rattle.std.proofs.Math.Option.{Option, none, some}
use Rattle.laws.specs.Tests.{pick}
use Rattle.laws.specs.TestsLaws.{and-not-left}
use Rattle.laws.specs.Loops.{some as some_of}
use Rattle.rule.specs.Base.{All, Ordered}
use Rattle.rule.specs.BaseLaws.{all_append, none≢some, some_inj}
use Rattle.steps.specs.ListsLaws.{all-weaken}
use Rattle.model.specs.Types.{Monitor, Packet}
use Rattle.model.specs.Frames.{Typed, command, packet, tick, bad}
use Rattle.model.specs.Commands.{present}
use Rattle.model.specs.Monitors.{accepts}
use Rattle.model.specs.Layout.{most_monitors}
use Rattle.pasts.specs.ListsLaws.{all_keep, all-zip, ordered-append, ordered-keep, ordered-right}
use Rattle.pasts.specs.Pair.{Start, cancels}
use Rattle.pasts.specs.Past.{PastStarts, Turned, deeds, deeds_at, is_at, lowest_free, monitor_after, offered, offers, same_start, since_start, stands, turns_by, watch_by}
use Rattle.pasts.proofs.MonitorsLaws.{live, after-accepted}
use Rattle.pasts.proofs.DeedsLaws.{Apart, Before, New, Well, since-more, turns-well}

-- What holds of all that a past did.
pub record Done (past : List Typed) (d : PastStarts) : Type 0 where
  pub old : All (λ s. s.number ≤ length past) d.starts
  pub gone : All (λ s. s.number ≤ length past) d.gone
  pub apart : Ordered Apart d.starts
  pub accepted : All (λ s. accepts s.mon ≡ true) d.starts
  pub live : All (λ s. some_of (cancels s.handle) (since_start s past) ≡ false
      → monitor_after past s.handle ≡ some s.mon) d.starts

later : (past : List Typed) (f : Typed) (l : List Start) → All (λ s. s.number ≤ length past) l
    → All (λ s. s.number ≤ length (f ∷ past)) l
later past f l a =
    all-weaken (λ s. s.number ≤ length past) (λ s. s.number ≤ length (f ∷ past)) (λ s b. omega arith) l a

-- a monitor that is live and not cancelled stays
free-none : (names : ℕ → Option Monitor) (n k g : ℕ) → lowest_free names n k ≡ some g → names g ≡ none
unfolding lowest_free pick present
free-none names zero k g e = absurd (none≢some e)
free-none names (suc n) k g e = go (names k) refl e (λ q. free-none names n (suc k) g q)
  where
    go : (o : Option Monitor) → names k ≡ o → pick (present o) (lowest_free names n (suc k)) (some k) ≡ some g
        → (lowest_free names n (suc k) ≡ some g → names g ≡ none) → names g ≡ none
    go none q r ih = rw (← some_inj r) q
    go (some m) q r ih = ih r

not_free : (past : List Typed) (h : ℕ) (m : Monitor) → monitor_after past h ≡ some m
    → is_at (lowest_free (λ g. monitor_after past g) most_monitors 0) h ≡ false
unfolding is_at
not_free past h m e = go (lowest_free (λ g. monitor_after past g) most_monitors 0) refl
  where
    go : (o : Option ℕ) → lowest_free (λ g. monitor_after past g) most_monitors 0 ≡ o → is_at o h ≡ false
    go none q = refl
    go (some k) q =
        ne_eqb k h (λ z. none≢some
        (sym (free-none (λ g. monitor_after past g) most_monitors 0 k q) ∙ ap (monitor_after past) z ∙ e))

stays-live : (f : Typed) (past : List Typed) (h : ℕ) (m : Monitor) → cancels h f ≡ false → monitor_after past h ≡ some m
    → monitor_after (f ∷ past) h ≡ some m
unfolding monitor_after pick offered
stays-live f past h m c e = rw (c, not_free past h m e, e) (go (offers f))
  where
    go : (o : Option Monitor) → offered o false (some m) ≡ some m
    go none = refl
    go (some n) = refl

live-later : (f : Typed) (past : List Typed) (s : Start) → s.number ≤ length past
    → (some_of (cancels s.handle) (since_start s past) ≡ false → monitor_after past s.handle ≡ some s.mon)
    → some_of (cancels s.handle) (since_start s (f ∷ past)) ≡ false
    → monitor_after (f ∷ past) s.handle ≡ some s.mon
unfolding some_of
live-later f past s h l c =
    go (cancels s.handle f) (some_of (cancels s.handle) (since_start s past)) refl refl
    (rw (since-more s f past h) at c)
  where
    go : (a b : Bool) → cancels s.handle f ≡ a → some_of (cancels s.handle) (since_start s past) ≡ b
        → (a || b) ≡ false
        → monitor_after (f ∷ past) s.handle ≡ some s.mon
    go true b p q e = absurd (false≢true (sym e))
    go false true p q e = absurd (false≢true (sym e))
    go false false p q e = stays-live f past s.handle s.mon p (l q)

done-later : (f : Typed) (past : List Typed) (d : PastStarts) → Done past d → Done (f ∷ past) d
done-later f past d v =
    record {
      old = later past f d.starts v.old;
      gone = later past f d.gone v.gone;
      apart = v.apart;
      accepted = v.accepted;
      live = all-zip (λ s. s.number ≤ length past)
          (λ s. some_of (cancels s.handle) (since_start s past) ≡ false
          → monitor_after past s.handle ≡ some s.mon)
          (λ s. some_of (cancels s.handle) (since_start s (f ∷ past)) ≡ false
          → monitor_after (f ∷ past) s.handle ≡ some s.mon)
          (λ s. live-later f past s) d.starts v.old v.live;
    }

-- the pairs under watch are among the starts
pub watch-old : (past : List Typed) (d : PastStarts) → Done past d
    → All (λ s. s.number ≤ length past) (watch_by past d)
unfolding watch_by
watch-old past d v = all_keep (λ s. s.number ≤ length past) (stands past d.gone) d.starts v.old

pub watch-apart : (past : List Typed) (d : PastStarts) → Done past d → Ordered Apart (watch_by past d)
unfolding watch_by
watch-apart past d v = ordered-keep Apart (stands past d.gone) d.starts v.apart

module _ (p : Packet) (past : List Typed) (d : PastStarts) (v : Done past d) where
  abbrev pub w : List Start
  w = watch_by past d

  abbrev pub t : Turned
  t = turns_by past p w most_monitors

  pub well : Well past p w most_monitors t
  well = turns-well past p (watch_by past d) (watch-old past d v) (watch-apart past d v) most_monitors

  new_apart : (s n : Start) → s.number ≤ length past → New past p most_monitors n → Apart s n
  unfolding same_start
  new_apart s n h e =
      let k : n.number ≡ suc (length past) = e.number in
      record {
        forth = and-not-left (eqb s.number n.number) (eqb s.handle n.handle)
            (ne_eqb s.number n.number (λ q. omega arith));
        back = and-not-left (eqb n.number s.number) (eqb n.handle s.handle)
            (ne_eqb n.number s.number (λ q. omega arith));
      }

  new-live : (s : Start) → New past p most_monitors s → monitor_after (packet p ∷ past) s.handle ≡ some s.mon
  unfolding cancels
  new-live s e = stays-live (packet p) past s.handle s.mon refl e.mon

  gone_old : (s : Start) → Before past p most_monitors s → s.number ≤ suc (length past)
  gone_old s (inl b) = omega arith
  gone_old s (inr b) = omega (arith, b.1)

  pub done-packet : Done (packet p ∷ past) (record { starts = d.starts ++ t.starts; gone = d.gone ++ t.gone })
  done-packet =
      let b : Done (packet p ∷ past) d = done-later (packet p) past d v in
      let N : Start → Type 0 = New past p most_monitors in
      record {
        old = all_append (λ s. s.number ≤ suc (length past)) d.starts t.starts b.old
            (all-weaken N (λ s. s.number ≤ suc (length past))
            (λ s e. let k : s.number ≡ suc (length past) = e.number in omega arith) t.starts well.starts);
        gone = all_append (λ s. s.number ≤ suc (length past)) d.gone t.gone b.gone
            (all-weaken (Before past p most_monitors) (λ s. s.number ≤ suc (length past)) gone_old t.gone
            well.gone);
        apart = ordered-append Apart d.starts t.starts v.apart
            (ordered-right Apart w t.starts well.apart)
            (all-weaken (λ s. s.number ≤ length past) (λ s. All (Apart s) t.starts)
            (λ s h. all-weaken N (Apart s) (λ n e. new_apart s n h e) t.starts well.starts) d.starts
            v.old);
        accepted = all_append (λ s. accepts s.mon ≡ true) d.starts t.starts v.accepted
            (all-weaken N (λ s. accepts s.mon ≡ true) (λ s e. after-accepted past s.handle s.mon e.mon)
            t.starts well.starts);
        live = all_append
            (λ s. some_of (cancels s.handle) (since_start s (packet p ∷ past)) ≡ false
            → monitor_after (packet p ∷ past) s.handle ≡ some s.mon)
            d.starts t.starts b.live
            (all-weaken N (λ s. some_of (cancels s.handle) (since_start s (packet p ∷ past)) ≡ false
            → monitor_after (packet p ∷ past) s.handle ≡ some s.mon)
            (λ s e c. new-live s e) t.starts well.starts);
      }

pub done : (past : List Typed) → Done past (deeds past)
unfolding deeds deeds_at
done [] = record { old = tt; gone = tt; apart = tt; accepted = tt; live = tt }
done (command o l ∷ past) = done-later (command o l) past (deeds past) (done past)
done (packet p ∷ past) = done-packet p past (deeds past) (done past)
done (tick ∷ past) = done-later tick past (deeds past) (done past)
done (bad ∷ past) = done-later bad past (deeds past) (done past)
