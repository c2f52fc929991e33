-- The pairs under watch after a past, frame by frame. Assumes nothing.
use Rattle.std.specs.Prelude.{ℕ, suc, ◌≤◌, ◌≡◌, refl, true, false, ◌&&◌, ◌||◌, eqb}
use Rattle.std.proofs.Math.Path.{sym}
use Rattle.std.proofs.Common.{◌∙◌, arith, ne_eqb}
use Rattle.std.proofs.Math.Bool.{Bool, not}
use mathlib.Core.List.{List, ◌∷◌, ◌++◌}
use Rattle.std.proofs.Math.Dec.{ltb}
use Rattle.std.proofs.Math.ListN.{length}
use Rattle.laws.specs.TestsLaws.{and-not-left}
use Rattle.laws.specs.Loops.{keep, some as some_of}
use Rattle.laws.specs.LoopsLaws.{keep_append}
use Rattle.rule.specs.Base.{All}
use Rattle.steps.specs.ListsLaws.{all-weaken}
use Rattle.model.specs.Types.{Packet}
use Rattle.model.specs.Frames.{Typed, command, packet, tick, bad}
use Rattle.model.specs.Monitors.{run_of}
use Rattle.model.specs.Layout.{most_monitors}
use Rattle.pasts.specs.ListsLaws.{keep-agree, keep-both, some-append, some-none}
use Rattle.pasts.specs.Pair.{Start, cancels, silent_in, unbroken}
use Rattle.pasts.specs.Past.{PastStarts, Turned, among, deeds, deeds_at, same_start, since_start, stands, turns_by, watch, watch_by}
use Rattle.pasts.proofs.DeedsLaws.{New, Well, since-more, since_none}
use Rattle.pasts.proofs.DoneLaws.{done, well}

-- whether a start stands, a frame later
stands-command : (o : ℕ) (l : List ℕ) (past : List Typed) (gone : List Start) (s : Start) → s.number ≤ length past
    → stands (command o l ∷ past) gone s ≡ (stands past gone s && not (cancels s.handle (command o l)))
unfolding stands unbroken some_of
stands-command o l past gone s h =
    rw (since-more s (command o l) past h)
    (go (cancels s.handle (command o l)) (some_of (cancels s.handle) (since_start s past))
    (unbroken s (since_start s past)) (among s gone))
  where
    go : (c b u a : Bool) → (not (c || b) && (u && not a)) ≡ ((not b && (u && not a)) && not c)
    go true true u a = refl
    go true false true true = refl
    go true false true false = refl
    go true false false a = refl
    go false true u a = refl
    go false false true true = refl
    go false false true false = refl
    go false false false a = refl

stands-tick : (past : List Typed) (gone : List Start) (s : Start) → s.number ≤ length past
    → stands (tick ∷ past) gone s ≡
    (stands past gone s && ltb (silent_in s (tick ∷ since_start s past)) (run_of s.mon))
unfolding stands unbroken some_of cancels
stands-tick past gone s h =
    rw (since-more s tick past h)
    (go (some_of (cancels s.handle) (since_start s past))
    (ltb (silent_in s (tick ∷ since_start s past)) (run_of s.mon)) (unbroken s (since_start s past))
    (among s gone))
  where
    go : (b r u a : Bool) → (not b && ((r && u) && not a)) ≡ ((not b && (u && not a)) && r)
    go true r u a = refl
    go false true true true = refl
    go false true true false = refl
    go false true false a = refl
    go false false true true = refl
    go false false true false = refl
    go false false false a = refl

stands-bad : (past : List Typed) (gone : List Start) (s : Start) → s.number ≤ length past
    → stands (bad ∷ past) gone s ≡ stands past gone s
unfolding stands unbroken some_of cancels
stands-bad past gone s h = rw (since-more s bad past h)

stands-packet : (p : Packet) (past : List Typed) (gone out : List Start) (s : Start) → s.number ≤ length past
    → stands (packet p ∷ past) (gone ++ out) s ≡ (stands past gone s && not (among s out))
unfolding stands unbroken some_of cancels among
stands-packet p past gone out s h =
    rw (since-more s (packet p) past h, some-append (same_start s) gone out)
    (go (some_of (cancels s.handle) (since_start s past)) (unbroken s (since_start s past))
    (some_of (same_start s) gone) (some_of (same_start s) out))
  where
    go : (b u a c : Bool) → (not b && (u && not (a || c))) ≡ ((not b && (u && not a)) && not c)
    go true u a c = refl
    go false true true c = refl
    go false true false c = refl
    go false false a c = refl

stands-new : (p : Packet) (past : List Typed) (gone out : List Start) (s : Start) → s.number ≡ suc (length past)
    → All (λ g. g.number ≤ length past) gone → stands (packet p ∷ past) (gone ++ out) s ≡ not (among s out)
unfolding stands unbroken some_of among same_start
stands-new p past gone out s e a =
    let n : some_of (same_start s) gone ≡ false =
    some-none (same_start s) gone (all-weaken (λ g. g.number ≤ length past) (λ g. same_start s g ≡ false)
    (λ g b. and-not-left (eqb s.number g.number) (eqb s.handle g.handle)
    (ne_eqb s.number g.number (λ q. omega arith))) gone a) in
    rw (since_none s (packet p ∷ past) (omega arith), some-append (same_start s) gone out, n)

-- the pairs under watch, a frame later
module _ (past : List Typed) where
  pub watch-command : (o : ℕ) (l : List ℕ)
      → watch (command o l ∷ past) ≡ keep (λ s. not (cancels s.handle (command o l))) (watch past)
  unfolding watch watch_by deeds deeds_at
  watch-command o l =
      let g : List Start = (deeds past).gone in
      let F : Start → Bool = λ s. not (cancels s.handle (command o l)) in
      keep-agree (stands (command o l ∷ past) g) (λ s. stands past g s && F s) (deeds past).starts
      (all-weaken (λ s. s.number ≤ length past) (λ s. stands (command o l ∷ past) g s ≡ (stands past g s && F s))
      (λ s h. stands-command o l past g s h) (deeds past).starts (done past).old)
      ∙ keep-both (stands past g) F (deeds past).starts

  pub watch-tick : watch (tick ∷ past)
      ≡ keep (λ s. ltb (silent_in s (tick ∷ since_start s past)) (run_of s.mon)) (watch past)
  unfolding watch watch_by deeds deeds_at
  watch-tick =
      let g : List Start = (deeds past).gone in
      let F : Start → Bool = λ s. ltb (silent_in s (tick ∷ since_start s past)) (run_of s.mon) in
      keep-agree (stands (tick ∷ past) g) (λ s. stands past g s && F s) (deeds past).starts
      (all-weaken (λ s. s.number ≤ length past) (λ s. stands (tick ∷ past) g s ≡ (stands past g s && F s))
      (λ s h. stands-tick past g s h) (deeds past).starts (done past).old)
      ∙ keep-both (stands past g) F (deeds past).starts

  pub watch-bad : watch (bad ∷ past) ≡ watch past
  unfolding watch watch_by deeds deeds_at
  watch-bad =
      let g : List Start = (deeds past).gone in
      keep-agree (stands (bad ∷ past) g) (stands past g) (deeds past).starts
      (all-weaken (λ s. s.number ≤ length past) (λ s. stands (bad ∷ past) g s ≡ stands past g s)
      (λ s h. stands-bad past g s h) (deeds past).starts (done past).old)

  -- what the turns come to
  pub packet-well : (p : Packet) → Well past p (watch past) most_monitors (turns_by past p (watch past) most_monitors)
  unfolding watch
  packet-well p = well p past (deeds past) (done past)

  pub watch-packet : (p : Packet) → watch (packet p ∷ past) ≡ (turns_by past p (watch past) most_monitors).watch
  unfolding watch watch_by deeds deeds_at
  watch-packet p =
      let d : PastStarts = deeds past in
      let g : List Start = d.gone in
      let t : Turned = turns_by past p (watch_by past d) most_monitors in
      let F : Start → Bool = λ s. not (among s t.gone) in
      let S : Start → Bool = stands (packet p ∷ past) (g ++ t.gone) in
      let v = well p past d (done past) in
      let a : keep S d.starts ≡ keep F (keep (stands past g) d.starts) =
      keep-agree S (λ s. stands past g s && F s) d.starts
      (all-weaken (λ s. s.number ≤ length past) (λ s. S s ≡ (stands past g s && F s))
      (λ s h. stands-packet p past g t.gone s h) d.starts (done past).old)
      ∙ keep-both (stands past g) F d.starts in
      let b : keep S t.starts ≡ keep F t.starts =
      keep-agree S F t.starts
      (all-weaken (New past p most_monitors) (λ s. S s ≡ F s)
      (λ s n. stands-new p past g t.gone s n.number (done past).gone) t.starts v.starts) in
      keep_append S d.starts t.starts
      ∙ rw (a, b) (sym (keep_append F (keep (stands past g) d.starts) t.starts)) ∙ sym v.kept
