-- What a standby does, on frames that are ahead: which its calls of replay executed and what is then ahead, whenever
-- in time it gives the editions that are awaited. Document 01, Refusal numbers, Sessions and failover; document 02,
-- T-12. Assumes nothing.
use Rattle.std.specs.Prelude.{ℕ, zero, suc, ◌+◌, ◌-◌, ◌≤◌, ◌<◌, ◌≡◌, refl, Bool, true, ◌⊎◌, take}
use Rattle.std.proofs.Math.Path.{sym, ap, subst}
use Rattle.std.proofs.Common.{◌∙◌}
use Rattle.std.proofs.Math.Logic.{inl, inr}
use Rattle.std.proofs.Math.Option.{Option, none, some}
use mathlib.Core.List.{List, [], ◌∷◌, ◌++◌, append_assoc}
use native.Mathlib.Omega.{arith}
use Rattle.std.proofs.Math.ListN.{length, drop, length-append}
use Rattle.laws.specs.Put.{put}
use Rattle.laws.specs.PutLaws.{take_put}
use Rattle.laws.specs.Rows.{flat}
use Rattle.sessions.specs.Machine.{done}
use Rattle.sessions.specs.Session.{Entry, state_after}
use Rattle.sessions.specs.Saved.{cut}
use Rattle.sessions.proofs.RunsLaws.{run-pos}
use Rattle.sessions.proofs.WovenLaws.{heads, not-empty, grown-pos}
use Rattle.model.specs.Frames.{Body}
use Rattle.model.specs.Types.{Model}
use Rattle.model.specs.Block.{model_of as held_in}
use Rattle.editions.specs.Editions.{Edition, Gateway, sound_gateway, add_edition}
use Rattle.editions.specs.Engine.{gateways, Addition}
use Rattle.wholes.specs.Whole.{whole}
use Rattle.wholes.proofs.LaidLaws.{core-whole}
use Rattle.wholes.specs.Engine.{engine, add_whole}
use Rattle.replays.specs.Into.{Reached, replay_while}
use Rattle.replays.proofs.AheadLaws.{Ahead, said_by}
use Rattle.replays.proofs.TurnedLaws.{Turned, turned}
use Rattle.bournejade.specs.Gives.{number_of, stop_in, ReplayGave}
use Rattle.failover.specs.Grows.{growing}
use Rattle.failover.proofs.Proved.{laws}
use Rattle.failover.proofs.LaidLaws.{onto, on_reached}
use Rattle.failover.proofs.BlocksLaws.{add-blocks, replays-blocks, replays-sound}
use Rattle.failover.proofs.AwaitsLaws.{Awaits, Below, standing, replay-awaits}
use Rattle.delivery.specs.Firmware.{ReplayCall, StandbyMove, replays, adds, Adds, MovesWhile, given_in, NotLate, Go, Busy, turns_in, written_in}
use Rattle.delivery.proofs.TimelyLaws.{editions_of, rests, in-time}

-- octets written at an output's front and read back
pub front : (out l left : List ℕ) (n : ℕ) → n ≡ length l → left ≡ put out 0 l → take n left ≡ l
front out l left n e f =
    ap (λ (x : List ℕ). take n x) f ∙ ap (λ (k : ℕ). take k (put out 0 l)) e ∙ take_put out 0 l (omega arith)

-- answers in two parts
pub said-append : (es fs : List (Entry Body)) → said_by (es ++ fs) ≡ said_by es ++ said_by fs
unfolding flat
said-append [] fs = refl
said-append (e ∷ es) fs =
    ap (λ (l : List ℕ). e.wrote ++ l) (said-append es fs) ∙ sym (append_assoc e.wrote (said_by es) (said_by fs))

-- the numbers of a call that was not stopped but for want of room
told : {N : Type 0} (o : Option ℕ) (r : ℕ) → r ≡ stop_in o → (o ≡ none) ⊎ ((o ≡ some 3) × N) → (r ≡ 0) ⊎ (r ≡ 3)
unfolding stop_in
told o r q (inl h) = inl (q ∙ ap stop_in h)
told o r q (inr h) = inr (q ∙ ap stop_in h.0)

-- What moves made of the frames es that were ahead of the state m with the editions awaited, the end of which is
-- `end`: they executed gs and left hs, at the block u of a state with the text v unread, ahead of it with the
-- editions `due`.
pub record Done (goes : ℕ → Bool) (m : Gateway) (es : List (Entry Body)) (end : Gateway) (due : List Edition)
    (xs : List StandbyMove) (u v : List ℕ) : Type 0 where
  pub gs : List (Entry Body)
  pub hs : List (Entry Body)
  pub state : Gateway
  pub good : sound_gateway state ≡ true
  pub awaited : List Addition
  pub full : Gateway
  pub frames : es ≡ gs ++ hs
  pub place : state.core.position ≡ m.core.position + length gs
  pub block : u ≡ whole state
  pub are-due : editions_of awaited ≡ due
  pub awaits : Awaits state awaited full
  pub ahead : Ahead gateways full (cut v) hs end
  pub said : written_in xs ≡ said_by gs
  pub held : (gs ≡ []) ⊎ ((p : ℕ) × (suc p ≡ state.core.position) × (goes p ≡ true))
  pub go : Go xs

-- one call of replay in what firmware sees, on the block of a state m that awaits the editions al, with frames ahead
-- of the state f that has them
module _ (goes : ℕ → Bool) (s t hidden : List ℕ) (x : ReplayCall) (m f end : Gateway) (al : List Addition)
    (es : List (Entry Body)) (ok : sound_gateway m ≡ true)
    (b : s ≡ whole m) (e : t ≡ x.shown ++ hidden)
    (p : ReplayGave (replay_while engine goes (length x.out) s x.shown) x.out x.block x.left x.taken
    x.count x.number)
    (w : Awaits m al f) (a : Ahead gateways f (cut t) es end) (low : Below (held_in x.block).position al) where
  abbrev reached : Reached Gateway
  reached = replay_while gateways goes (length x.out) m x.shown

  is : replay_while engine goes (length x.out) s x.shown ≡ on_reached whole reached
  is = ap (λ (c : List ℕ). replay_while engine goes (length x.out) c x.shown) b
      ∙ replays-blocks (length x.out) goes m ok x.shown

  good-is : sound_gateway reached.state ≡ true
  good-is = replays-sound (length x.out) goes m ok x.shown

  block-is : x.block ≡ whole reached.state
  unfolding on_reached
  block-is = p.state ∙ ap (λ (r : Reached (List ℕ)). r.state) is

  below : Below reached.state.core.position al
  below = subst (λ (n : Model). Below n.position al) (ap held_in block-is ∙ core-whole reached.state good-is) low

  then-awaits : (u : Gateway) × Awaits reached.state al u
      × (replay_while gateways goes (length x.out) f x.shown ≡ standing u reached)
  then-awaits = replay-awaits goes (length x.out) al m f x.shown ok w below

  one : Turned gateways goes (length x.out) f x.shown hidden es end (standing then-awaits.0 reached)
  one =
      subst (λ (r : Reached Gateway). Turned gateways goes (length x.out) f x.shown hidden es end r)
      then-awaits.2
      (turned gateways laws goes (length x.out) f end x.shown hidden es
      (subst (λ (l : List ℕ). Ahead gateways f (cut l) es end) e a))

  left_is : drop x.taken t ≡ drop reached.taken (x.shown ++ hidden)
  unfolding on_reached
  left_is =
      ap (λ (n : ℕ). drop n t) (p.taken ∙ ap (λ (r : Reached (List ℕ)). r.taken) is)
      ∙ ap (λ (l : List ℕ). drop reached.taken l) e

  then : Ahead gateways then-awaits.0 (cut (drop x.taken t)) one.hs end
  unfolding standing
  then = subst (λ (l : List ℕ). Ahead gateways then-awaits.0 (cut l) one.hs end) (sym left_is) one.ahead

  said-is : take x.count x.left ≡ said_by one.gs
  unfolding on_reached standing
  said-is =
      front x.out (replay_while engine goes (length x.out) s x.shown).wrote x.left x.count p.count
      p.output
      ∙ ap (λ (r : Reached (List ℕ)). r.wrote) is ∙ one.wrote

  number_is : (x.number ≡ 0) ⊎ (x.number ≡ 3)
  unfolding on_reached standing
  number_is = told reached.stop x.number (p.number ∙ ap (λ (r : Reached (List ℕ)). stop_in r.stop) is)
      one.ended

  -- where it stands
  level : then-awaits.0.core.position ≡ reached.state.core.position
  level = grown-pos gateways laws growing al reached.state then-awaits.0 then-awaits.1

  went_on : reached.state.core.position ≡ m.core.position + length one.gs
  unfolding standing
  went_on =
      sym level ∙ run-pos gateways laws f then-awaits.0 one.gs one.ran
      ∙ ap (λ (n : ℕ). n + length one.gs) (grown-pos gateways laws growing al m f w)

  held-is : (one.gs ≡ []) ⊎ ((q : ℕ) × (suc q ≡ reached.state.core.position) × (goes q ≡ true))
  unfolding standing
  held-is = go one.held
    where
      go : (one.gs ≡ []) ⊎ ((q : ℕ) × (suc q ≡ then-awaits.0.core.position) × (goes q ≡ true))
          → (one.gs ≡ []) ⊎ ((q : ℕ) × (suc q ≡ reached.state.core.position) × (goes q ≡ true))
      go (inl z) = inl z
      go (inr z) = inr (z.0, z.1 ∙ level, z.2)

  -- and the moves that follow
  and_then : (due : List Edition) (xs : List StandbyMove) (u v : List ℕ)
      → Done goes reached.state one.hs end due xs u v
      → Done goes m es end due (replays x ∷ xs) u v
  unfolding written_in
  and_then due xs u v h =
      record {
        gs = one.gs ++ h.gs;
        hs = h.hs;
        state = h.state;
        good = h.good;
        awaited = h.awaited;
        full = h.full;
        frames = one.frames ∙ ap (λ (l : List (Entry Body)). one.gs ++ l) h.frames
            ∙ sym (append_assoc one.gs h.gs h.hs);
        place = placed;
        block = h.block;
        are-due = h.are-due;
        awaits = h.awaits;
        ahead = h.ahead;
        said = ap (λ (l : List ℕ). l ++ written_in xs) said-is ∙ ap (λ (l : List ℕ). said_by one.gs ++ l) h.said
            ∙ sym (said-append one.gs h.gs);
        held = last h.gs h.place h.held one.gs held-is;
        go = (number_is, h.go);
      }
    where
      placed : h.state.core.position ≡ m.core.position + length (one.gs ++ h.gs)
      placed =
          let n : length (one.gs ++ h.gs) ≡ length one.gs + length h.gs = length-append one.gs h.gs in
          let i : h.state.core.position ≡ reached.state.core.position + length h.gs = h.place in
          let k : reached.state.core.position ≡ m.core.position + length one.gs = went_on in
          omega arith

      last : (hs : List (Entry Body)) → h.state.core.position ≡ reached.state.core.position + length hs
          → (hs ≡ []) ⊎ ((q : ℕ) × (suc q ≡ h.state.core.position) × (goes q ≡ true))
          → (gs : List (Entry Body))
          → (gs ≡ []) ⊎ ((q : ℕ) × (suc q ≡ reached.state.core.position) × (goes q ≡ true))
          → (gs ++ hs ≡ []) ⊎ ((q : ℕ) × (suc q ≡ h.state.core.position) × (goes q ≡ true))
      last hs n (inr z) gs g = inr z
      last hs n (inl z) gs (inl y) = inl (ap (λ (l : List (Entry Body)). l ++ hs) y ∙ z)
      last hs n (inl z) gs (inr y) =
          let k : length hs ≡ 0 = ap length z in
          let i : suc y.0 ≡ reached.state.core.position = y.1 in
          inr (y.0, omega arith, y.2)

-- an addition that is awaited next, on the block of a state
module _ (s : List ℕ) (e : Edition) (b : List ℕ) (r : ℕ) (m t : Gateway) (ok : sound_gateway m ≡ true)
    (at : s ≡ whole m) (k : Adds s e b r)
    (a : add_edition m e ≡ done t []) where
  accepts-it : add_whole s e ≡ done (whole t) []
  unfolding onto
  accepts-it = ap (λ (c : List ℕ). add_whole c e) at ∙ add-blocks m ok e ∙ ap (onto whole) a

  returns-0 : r ≡ 0
  unfolding number_of
  returns-0 = k.0 ∙ ap number_of accepts-it

  leaves : b ≡ whole t
  unfolding state_after
  leaves = k.1 ∙ ap (state_after s) accepts-it

-- moves one after another
pub moves-done : (goes : ℕ → Bool) (s t : List ℕ) (xs : List StandbyMove) (u v : List ℕ) (m f end : Gateway)
    (al : List Addition) (due : List Edition) (es : List (Entry Body))
    → s ≡ whole m → sound_gateway m ≡ true → Awaits m al f → Ahead gateways f (cut t) es end
    → MovesWhile goes s t xs u v
    → editions_of al ≡ given_in xs ++ due → NotLate (held_in u).position due → Done goes m es end due xs u v
unfolding written_in flat given_in editions_of
moves-done goes s t [] u v m f end al due es b ok w a k e h =
    record {
      gs = [];
      hs = es;
      state = m;
      good = ok;
      awaited = al;
      full = f;
      frames = refl;
      place = omega arith;
      block = sym k.0 ∙ b;
      are-due = e;
      awaits = w;
      ahead = subst (λ (l : List ℕ). Ahead gateways f (cut l) es end) k.1 a;
      said = refl;
      held = inl refl;
      go = tt;
    }
moves-done goes s t (replays x ∷ xs) u v m f end al due es b ok w a k e h =
    let low : Below (held_in x.block).position al =
    in-time goes x.block (drop x.taken t) xs u v al due k.2 e h in
    let hidden : List ℕ = k.0.0 in
    and_then goes s t hidden x m f end al es ok b k.0.1 k.1 w a low due xs u v
    (moves-done goes x.block (drop x.taken t) xs u v
    (reached goes s t hidden x m f end al es ok b k.0.1 k.1 w a low).state
    (then-awaits goes s t hidden x m f end al es ok b k.0.1 k.1 w a low).0 end al due
    (one goes s t hidden x m f end al es ok b k.0.1 k.1 w a low).hs
    (block-is goes s t hidden x m f end al es ok b k.0.1 k.1 w a low)
    (good-is goes s t hidden x m f end al es ok b k.0.1 k.1 w a low)
    (then-awaits goes s t hidden x m f end al es ok b k.0.1 k.1 w a low).1
    (then goes s t hidden x m f end al es ok b k.0.1 k.1 w a low) k.2 e h)
moves-done goes s t (adds d c r ∷ xs) u v m f end [] due es b ok w a k e h = absurd (not-empty _ _ (sym e))
moves-done goes s t (adds d c r ∷ xs) u v m f end (a ∷ al) due es b ok w y k e h =
    let i : a.edition ≡ d = heads _ _ _ _ e in
    let j : add_edition m d ≡ done w.0 [] = subst (λ (z : Edition). add_edition m z ≡ done w.0 []) i w.1 in
    let n : w.0.core.position ≡ m.core.position = growing.stays m w.0 a [] w.1 in
    let q : Done goes w.0 es end due xs u v =
    moves-done goes c t xs u v w.0 f end al due es (leaves s d c r m w.0 ok b k.1 j)
    (growing.keeps m w.0 a [] w.1 ok) w.2 y k.2
    (rests _ _ _ _ e) h in
    record {
      gs = q.gs;
      hs = q.hs;
      state = q.state;
      good = q.good;
      awaited = q.awaited;
      full = q.full;
      frames = q.frames;
      place = q.place ∙ ap (λ (l : ℕ). l + length q.gs) n;
      block = q.block;
      are-due = q.are-due;
      awaits = q.awaits;
      ahead = q.ahead;
      said = q.said;
      held = q.held;
      go = (returns-0 s d c r m w.0 ok b k.1 j, q.go);
    }

-- calls of replay that were lent 2,880 octets and shown a whole line: each reads one at least
pub moves-few : (goes : ℕ → Bool) (s t : List ℕ) (xs : List StandbyMove) (u v : List ℕ) (m f end : Gateway)
    (al : List Addition) (due : List Edition) (es : List (Entry Body))
    → s ≡ whole m → sound_gateway m ≡ true → Awaits m al f → Ahead gateways f (cut t) es end
    → MovesWhile goes s t xs u v
    → editions_of al ≡ given_in xs ++ due → NotLate (held_in u).position due → Busy goes s xs
    → turns_in xs ≤ length (cut t)
unfolding turns_in given_in editions_of standing
moves-few goes s t [] u v m f end al due es b ok w a k e h y = omega arith
moves-few goes s t (replays x ∷ xs) u v m f end al due es b ok w a k e h y =
    let hidden : List ℕ = k.0.0 in
    let low : Below (held_in x.block).position al =
    in-time goes x.block (drop x.taken t) xs u v al due k.2 e h in
    let r : Reached Gateway = reached goes s t hidden x m f end al es ok b k.0.1 k.1 w a low in
    let o = one goes s t hidden x m f end al es ok b k.0.1 k.1 w a low in
    let z = then-awaits goes s t hidden x m f end al es ok b k.0.1 k.1 w a low in
    let p : goes f.core.position ≡ true =
    subst (λ (n : ℕ). goes n ≡ true)
    (ap (λ (n : Model). n.position) (ap held_in b ∙ core-whole m ok)
    ∙ sym (grown-pos gateways laws growing al m f w)) y.2 in
    let g : length (cut (drop r.taken (x.shown ++ hidden))) < length (cut (x.shown ++ hidden)) =
    o.fewer y.1 p y.0 in
    let c : length (cut (drop x.taken t)) ≡ length (cut (drop r.taken (x.shown ++ hidden))) =
    ap (λ (l : List ℕ). length (cut l)) (left_is goes s t hidden x m f end al es ok b k.0.1 k.1 w a low) in
    let d : length (cut t) ≡ length (cut (x.shown ++ hidden)) = ap (λ (l : List ℕ). length (cut l)) k.0.1 in
    let i : turns_in xs ≤ length (cut (drop x.taken t)) =
    moves-few goes x.block (drop x.taken t) xs u v r.state z.0 end al due o.hs
    (block-is goes s t hidden x m f end al es ok b k.0.1 k.1 w a low)
    (good-is goes s t hidden x m f end al es ok b k.0.1 k.1 w a low) z.1
    (then goes s t hidden x m f end al es ok b k.0.1 k.1 w a low) k.2 e h y.3 in
    omega arith
moves-few goes s t (adds d c r ∷ xs) u v m f end [] due es b ok w a k e h y = absurd (not-empty _ _ (sym e))
moves-few goes s t (adds d c r ∷ xs) u v m f end (a ∷ al) due es b ok w z k e h y =
    let i : a.edition ≡ d = heads _ _ _ _ e in
    let j : add_edition m d ≡ done w.0 [] = subst (λ (q : Edition). add_edition m q ≡ done w.0 []) i w.1 in
    moves-few goes c t xs u v w.0 f end al due es (leaves s d c r m w.0 ok b k.1 j)
    (growing.keeps m w.0 a [] w.1 ok) w.2 z k.2
    (rests _ _ _ _ e) h y
