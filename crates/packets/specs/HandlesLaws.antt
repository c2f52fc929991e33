-- Laws of the definitions in Handles.
use Rattle.std.specs.Prelude.{◌≡◌, ℕ, zero, suc, ◌+◌, ◌/◌, ◌%◌, ◌<◌, ◌≤◌, Bool, true, false, not, ◌&&◌, ◌||◌, List, [], ◌∷◌, ◌++◌, length, ◌==◌, nat_eq, slice_index}
use Rattle.std.proofs.Math.Path.{refl, sym, ap, ap₂}
use Rattle.std.proofs.Common.{◌∙◌, subst, arith, add-one, zero-add, length-append}
use Rattle.std.proofs.lemmas.Bool.{false≢true, eqb-false}
use Rattle.laws.specs.TestsLaws.{pick-false, and_right, and-not-left, and-not-right, cases_eq}
use Rattle.laws.specs.Loops.{some as some_of}
use Rattle.laws.specs.LoopsLaws.{when_false}
use Rattle.laws.specs.PutLaws.{put-nil}
use Rattle.rule.specs.Base.{All}
use Rattle.rule.specs.BaseLaws.{all_append}
use Rattle.rule.specs.Engine.{find}
use Rattle.model.specs.Types.{Model, Monitor, Packet, Pair, device_of, with_lists}
use Rattle.model.specs.Watch.{holds, fits, stays_for, start_of, turn, turns, turns_answer, starts_below, start_told}
use Rattle.model.specs.Block.{padded}
use Rattle.blocks.specs.Bounds.{Fits}
use Rattle.blocks.specs.Block.{Measured}
use Rattle.blocks.specs.UpdatesLaws.{measured-pairs}
use Rattle.steps.specs.Typed.{Sent}
use Rattle.steps.specs.TypedLaws.{pick-both}
use Rattle.steps.proofs.DropsLaws.{stays-fewer, stays_all}
use Rattle.marks.specs.Marks.{flag, opens, sifted, allowed, mark}
use Rattle.marks.specs.Asked.{spared}
use Rattle.marks.proofs.AskedLaws.{spared-cases, spared-opened}
use Rattle.packets.specs.Changes.{started, starts, after, start_events}
use Rattle.packets.specs.ChangesLaws.{some-append, turn-after, answer-told, start-told}
use Rattle.packets.specs.WritesLaws.{fits-start}
use Rattle.packets.specs.Firm.{Settled}
use Rattle.packets.specs.FirmLaws.{turns-holds}
use Rattle.packets.specs.Starts.{Holding, Told}
use Rattle.packets.specs.StartsLaws.{wrote-both, wrote-is}
use Rattle.packets.specs.ShutLaws.{turns-shut}
use Rattle.model.specs.Layout.{most_monitors, most_pairs}
use Rattle.packets.specs.Handles.{NoStart, Turns}

-- the pairs stay ones that fit, at most 64
pub after-fit : (a h : ℕ) (p : Packet) (l : List Pair) → h < most_monitors → Sent p → All Fits l
    × (length l ≤ most_pairs)
    → All Fits (after a h p l) × (length (after a h p l) ≤ most_pairs)
unfolding after starts started
after-fit a h p l b t x =
    let r : ℕ = p.rssi in
    let w : Bool = not (holds l h (device_of p)) in
    pick-both (λ (z : List Pair). All Fits z × (length z ≤ most_pairs)) (starts a h p l)
    (stays_for r l ++ (started a h p ∷ [])) l
    (λ e.
    let u : (w && fits r l) ≡ true = and_right (opens a) (w && fits r l) e in
    let v : length (stays_for r l) < most_pairs = stays-fewer r l x.1 (and_right w (fits r l) u) in (
      all_append Fits (stays_for r l) (started a h p ∷ []) (stays_all Fits r l x.0)
          (fits-start (sifted a) (allowed a) h p b t, tt),
      rw (length-append (stays_for r l) (started a h p ∷ [])) (omega arith),
    ))
    (λ e. x)

turns_fit : (mons : List (ℕ × Monitor)) (p : Packet) (n : ℕ) (qs : List Pair) → n ≤ most_monitors → Sent p → All Fits qs
    → length qs ≤ most_pairs
    → All Fits (turns mons p n qs) × (length (turns mons p n qs) ≤ most_pairs)
unfolding turns
turns_fit mons p zero qs b t a h = (a, h)
turns_fit mons p (suc n) qs b t a h = go (turns mons p n qs) (turns_fit mons p n qs (omega arith) t a h)
  where
    go : (l : List Pair) → All Fits l × (length l ≤ most_pairs) → All Fits (turn (find mons n) p n l) × (length (turn
        (find mons n) p n l) ≤ most_pairs)
    go l x =
        subst (λ (z : List Pair). All Fits z × (length z ≤ most_pairs)) (sym (turn-after (find mons n) p n l))
        (after-fit (mark (find mons n) p) n p l (omega arith) t x)

-- two octets with which a handle's turn is the same
record Same (prefix : List ℕ) (a c h : ℕ) (p : Packet) (qs : List Pair) : Type 0 where
  pairs : after a h p qs ≡ after c h p qs
  octets : start_events prefix a h p qs ≡ start_events prefix c h p qs
  tells : (starts a h p qs && allowed a) ≡ (starts c h p qs && allowed c)

none-same : (prefix : List ℕ) (a c h : ℕ) (p : Packet) (qs : List Pair) → starts a h p qs ≡ false
    → starts c h p qs ≡ false
    → Same prefix a c h p qs
unfolding after start_events
none-same prefix a c h p qs x y =
    record {
      pairs = pick-false _ qs x ∙ sym (pick-false _ qs y);
      octets = when_false _ x ∙ sym (when_false _ y);
      tells = ap (λ (t : Bool). t && allowed a) x ∙ ap (λ (t : Bool). t && allowed c) (sym y);
    }

-- an octet that is left out where it says nothing of a start, or where no pair can start
spared-same : (prefix : List ℕ) (may : Bool) (k c h : ℕ) (p : Packet) (qs : List Pair)
    → (may ≡ false → fits p.rssi qs ≡ false)
    → Same prefix (spared may k c) c h p qs
unfolding starts opens
spared-same prefix may k c h p qs w =
    spared-cases may k c
    (λ e. subst (λ (z : ℕ). Same prefix z c h p qs) (sym e) (record { pairs = refl; octets = refl; tells = refl }))
    (λ e u. subst (λ (z : ℕ). Same prefix z c h p qs) (sym e)
    (none-same prefix 0 c h p qs refl
    (and-not-right (opens c) _ (and-not-right (not (holds qs h (device_of p))) _ (w u)))))
    (λ e u. subst (λ (z : ℕ). Same prefix z c h p qs) (sym e)
    (none-same prefix 0 c h p qs refl (and-not-left (opens c) _ u)))

pub no-start-more : (acts : List ℕ) (h : ℕ) {x : Bool} → (x ≡ false → NoStart acts h)
    → (x || slice_index acts h / 4 % 2 == 1) ≡ false
    → NoStart acts (h + 1)
no-start-more acts h {x} f e j b =
    let a : x ≡ false = or_left x _ e in
    let c : nat_eq (slice_index acts h / 4 % 2) 1 ≡ false = or_right x _ e in
    cases_eq j h (λ i. rw i (eqb-false (slice_index acts h / 4 % 2) 1 c)) (λ i. f a j (omega arith))
  where
    or_left : (s t : Bool) → (s || t) ≡ false → s ≡ false
    or_left false t e = refl
    or_left true t e = absurd (false≢true (sym e))

    or_right : (s t : Bool) → (s || t) ≡ false → t ≡ false
    or_right false t e = e
    or_right true t e = absurd (false≢true (sym e))

module _ (m : Model) (p : Packet) (f : Measured m) (t : Sent p) where
  pub turns-measured : (h : ℕ) → h ≤ most_monitors → Measured (with_lists m m.mons (turns m.mons p h m.pairs))
  turns-measured h b =
      let r = turns_fit m.mons p h m.pairs b t f.fit f.pairs-most in
      measured-pairs m f (turns m.mons p h m.pairs) r.0 r.1

  pub turns-none : (s out : List ℕ) (n : ℕ) → s ≡ padded m → n ≡ length m.pairs → Turns m p 0 s n out out 0 false
  unfolding turns turns_answer starts_below some_of with_lists
  turns-none s out n e c =
      record {
        turned = record { block = e; count = c };
        answer = record { octets = sym (put-nil out 0); count = refl };
        tells = refl;
      }

  -- a turn of the loop over the handles
  pub turns-turn : (acts under : List ℕ) (dev h a k : ℕ) {s u out o v : List ℕ} {n n' w r : ℕ} {t0 t1 : Bool}
      → h < most_monitors
      → Settled m p acts under dev → a ≡ slice_index acts h → k ≡ slice_index under h
      → Turns m p h s n out o w t0
      → ((g : Model) → Holding g s n → (opens a ≡ true → k ≡ flag (holds g.pairs h (device_of p)))
      → Told g a h p u n' o w v r × (t1 ≡ (starts a h p g.pairs && allowed a)))
      → Turns m p (h + 1) u n' out v (w + r) (t0 || t1)
  unfolding with_lists turns turns_answer starts_below
  turns-turn acts under dev h a k {s} {u} {out} {o} {v} {n} {n'} {w} {r} {t0} {t1} b e za zk x y =
      let qs : List Pair = turns m.mons p h m.pairs in
      let g : Model = with_lists m m.mons qs in
      let d : Holding g s n =
      record { measured = turns-measured h (omega arith); block = x.turned.block; count = x.turned.count } in
      let c : ℕ = mark (find m.mons h) p in
      let ac : a ≡ spared e.may (slice_index under h) c = za ∙ e.octets h b in
      let none : e.may ≡ false → fits p.rssi qs ≡ false =
      λ z. ap (fits p.rssi) (turns-shut m.mons p h m.pairs (e.shut z)) ∙ e.shut z in
      let same : Same m.prefix a c h p qs =
      rw ac (spared-same m.prefix e.may (slice_index under h) c h p qs none) in
      let opened : opens a ≡ true → opens c ≡ true =
      λ z. spared-opened e.may (slice_index under h) c (ap opens (sym ac) ∙ z) in
      let held : opens a ≡ true → k ≡ flag (holds qs h (device_of p)) =
      λ z. zk ∙ e.flags h b ∙ ap flag (sym (turns-holds p h m.mons m.pairs (e.firm h (opened z)))) in
      let i : after a h p qs ≡ turns m.mons p (h + 1) m.pairs =
      same.pairs ∙ sym (turn-after (find m.mons h) p h qs)
      ∙ ap (λ (j : ℕ). turns m.mons p j m.pairs) (sym (add-one h)) in
      let before : List ℕ = turns_answer m.prefix m.mons p h m.pairs in
      let q : before ++ start_events m.prefix a h p qs ≡ turns_answer m.prefix m.mons p (h + 1) m.pairs =
      ap (λ (l : List ℕ). before ++ l) same.octets
      ∙ ap (λ (l : List ℕ). before ++ l) (sym (answer-told m.prefix (find m.mons h) p h qs))
      ∙ ap (λ (j : ℕ). turns_answer m.prefix m.mons p j m.pairs) (sym (add-one h)) in
      let l : Told g a h p u n' o w v r = (y g d held).0 in
      let below : List Pair = starts_below m.mons p h m.pairs in
      let j : t1 ≡ some_of (start_told m.mons p) (start_of (find m.mons h) p h qs) =
      (y g d held).1 ∙ same.tells ∙ sym (start-told m.mons p h qs) in
      record {
        turned = record {
          block = l.turned.block ∙ ap (λ (j : List Pair). padded (with_lists m m.mons j)) i;
          count = l.turned.count ∙ ap length i;
        };
        answer = wrote-is out 0 (before ++ start_events m.prefix a h p qs) _ q
            (wrote-both out 0 before (start_events m.prefix a h p qs) (omega arith) x.answer
            (rw (zero-add w) l.answer));
        tells = ap₂ ◌||◌ x.tells j
            ∙ sym (some-append (start_told m.mons p) below (start_of (find m.mons h) p h qs))
            ∙ ap (λ (i : ℕ). some_of (start_told m.mons p) (starts_below m.mons p i m.pairs)) (sym (add-one h));
      }
