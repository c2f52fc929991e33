-- A replay while additions are awaited: it does what it does of the state that has them, as long as it stays below
-- their numbers. So a standby may be given an addition again at any time before replay reaches its number. Document
-- 02, T-12. Definitions of the proofs alone stand here too: Awaits, Below, standing. Assumes nothing.
use Prim.Native.Nat.{ℕ, zero, suc, ◌+◌, ◌-◌, ◌≤◌, ◌<◌}
use Rattle.std.specs.Prelude.{◌≡◌, refl, not, cond, leb, ltb, eqb}
use Rattle.std.proofs.Common.{sym, ap, ◌∙◌}
use Rattle.std.proofs.Math.Path.{subst}
use Rattle.std.proofs.Math.Bool.{Bool, true, false}
use mathlib.Core.List.{List, [], ◌∷◌, ◌++◌}
use Rattle.std.proofs.Math.Option.{Option, none, some}
use native.Mathlib.Omega.{arith}
use Rattle.std.proofs.Math.ListN.{length}
use Rattle.laws.specs.Tests.{pick}
use Rattle.sessions.specs.Machine.{Machine, Laws, Form, text, Line, Outcome, refused, done, answer_room}
use Rattle.sessions.specs.Session.{give, refuse_if, state_after, judge, answer, after, reply}
use Rattle.sessions.specs.Saved.{cut}
use Rattle.sessions.proofs.RefusalsLaws.{Did, nothing, frame, did}
use Rattle.sessions.proofs.WovenLaws.{Grown, From, grown-pos}
use Rattle.model.specs.Types.{Model}
use Rattle.model.specs.Frames.{Body, Typed, command, packet, tick, bad, typed}
use Rattle.model.specs.Step.{act, act_typed, refusal_typed, step_typed, answer_typed}
use Rattle.steps.specs.ExecutedLaws.{position-suc}
use Rattle.replays.specs.Into.{Reached, nothing_read, reach, line_from, lines_while, replay_while}
use Rattle.editions.specs.Editions.{Edition, Gateway, with_prefix, prefix_for, sound_gateway, beside, act_on, add_edition, last_from, most_editions}
use Rattle.editions.specs.Engine.{gateways, Addition}
use Rattle.editions.proofs.FactsLaws.{Accepted, with, accepts, Added, added}
use Rattle.failover.specs.Grows.{Besides, besides, on-with, with-sound, with-position, growing}
use Rattle.failover.proofs.Proved.{laws}
use Rattle.failover.proofs.BlocksLaws.{given-sound}

-- what is not done is not refused, and the number of what is
refused-number : (n k : ℕ) → ◌≡◌ {A = Outcome Gateway} (refused n) (refused k) → n ≡ k
refused-number n k e = cc

done≢refused : {S : Type 0} (n : ℕ) (t : S) (a : List ℕ) → done t a ≡ refused n → ⊥
done≢refused n t a h = let z : ◌≡◌ {A = ℕ} 0 1 = cc in omega arith

-- a frame's refusal does not look at the prefix
refusal-same : (m : Model) (p q : List ℕ) (f : Typed)
    → refusal_typed (with_prefix m p) f ≡ refusal_typed (with_prefix m q) f
unfolding refusal_typed with_prefix
refusal-same m p q (command o l) = refl
refusal-same m p q (packet x) = refl
refusal-same m p q tick = refl
refusal-same m p q bad = refl

refused-same : (m : Model) (p q : List ℕ) (b : Body) (n : ℕ) → act (with_prefix m p) b ≡ refused n
    → act (with_prefix m q) b ≡ refused n
unfolding act act_typed pick
refused-same m p q b n e =
    go (refusal_typed (with_prefix m p) (typed b)) (refusal_typed (with_prefix m q) (typed b))
    (refusal-same m p q (typed b)) (step_typed (with_prefix m p) (typed b))
    (answer_typed (with_prefix m p) (typed b)) e
  where
    go : (k l : ℕ) → k ≡ l → (t : Model) (a : List ℕ) → pick (eqb k 0) (done t a) (refused k) ≡ refused n
        → pick (eqb l 0) (done (step_typed (with_prefix m q) (typed b)) (answer_typed (with_prefix m q) (typed b)))
        (refused l) ≡ refused n
    go k l i t a h =
        subst (λ (x : ℕ). pick (eqb x 0)
        (done (step_typed (with_prefix m q) (typed b)) (answer_typed (with_prefix m q) (typed b))) (refused x)
        ≡ refused n) i
        (by (eqb k 0) refl h)
      where
        by : (c : Bool) → eqb k 0 ≡ c → pick c (done t a) (refused k) ≡ refused n
            → pick c (done (step_typed (with_prefix m q) (typed b)) (answer_typed (with_prefix m q) (typed b)))
            (refused k) ≡ refused n
        by true z u = absurd (done≢refused n t a u)
        by false z u = u

-- the outcome of a state, and of the same state with an edition more: refused alike, and done alike below the
-- edition's number
abbrev Alike : Edition → Outcome Gateway → Outcome Gateway → Type 0
Alike e (refused n) o = o ≡ refused n
Alike e (done t a) o = t.core.position < e.from → o ≡ done (with t e) a

alike-if : (e : Edition) (b : Bool) (n : ℕ) (o p : Outcome Gateway) → Alike e o p
    → Alike e (refuse_if b n o) (refuse_if b n p)
unfolding refuse_if
alike-if e true n o p h = refl
alike-if e false n o p h = h

-- what a frame with the next number does
besides-refused : (es : List Edition) (o : Outcome Model) (n : ℕ) → beside es o ≡ refused n → o ≡ refused n
unfolding beside
besides-refused es (refused k) n e = ap refused (refused-number k n e)
besides-refused es (done m a) n e = absurd (done≢refused n (record { core = m; editions = es }) a e)

alike-act : (s : Gateway) (e : Edition) (x : Line Body) → Alike e (act_on s x.body) (act_on (with s e) x.body)
unfolding act_on with with_prefix beside
alike-act s e x = go (act_on s x.body) refl
  where
    m : Model
    m = with_prefix s.core (prefix_for (suc s.core.position) s.editions)

    place : m.position ≡ s.core.position
    place = refl

    go : (o : Outcome Gateway) → act_on s x.body ≡ o → Alike e o (act_on (with s e) x.body)
    go (refused n) h =
        ap (beside (s.editions ++ (e ∷ [])))
        (refused-same s.core _ (prefix_for (suc s.core.position) (s.editions ++ (e ∷ []))) x.body n
        (besides-refused s.editions (act m x.body) n h))
    go (done t a) h = λ l.
        let b : Besides s.editions (act m x.body) t a = besides s.editions (act m x.body) t a h in
        let n : t.core.position ≡ suc m.position = position-suc m t.core x.body a b.core in
        on-with s t x a e (omega (arith, place)) b.editions b.core

alike-judge : (s : Gateway) (e : Edition) (x : Option (Line Body))
    → Alike e (judge gateways s x) (judge gateways (with s e) x)
unfolding judge
alike-judge s e none = refl
alike-judge s e (some x) =
    subst (λ (k : ℕ). Alike e
    (refuse_if (leb x.num s.core.position) 1
    (refuse_if (ltb (suc s.core.position) x.num) 2 (act_on s x.body)))
    (refuse_if (leb x.num k) 1 (refuse_if (ltb (suc k) x.num) 2 (act_on (with s e) x.body))))
    (sym (with-position s e))
    (alike-if e (leb x.num s.core.position) 1 _ _
    (alike-if e (ltb (suc s.core.position) x.num) 2 _ _ (alike-act s e x)))

-- .. and a frame given
alike-answer : (s : Gateway) (e : Edition) (lent : ℕ) (w : Form) (r : List ℕ) → sound_gateway s ≡ true
    → sound_gateway (with s e) ≡ true
    → Alike e (answer gateways lent s w r) (answer gateways lent (with s e) w r)
unfolding answer
alike-answer s e lent w r a b =
    subst (λ (c : Bool). Alike e (answer gateways lent s w r)
    (refuse_if (not c) 7 (refuse_if (ltb lent answer_room) 3 (judge gateways (with s e) (gateways.read w r)))))
    (a ∙ sym b)
    (alike-if e (not (sound_gateway s)) 7 _ _
    (alike-if e (ltb lent answer_room) 3 _ _ (alike-judge s e (gateways.read w r))))

-- the same with all additions that are awaited, from s to v
abbrev pub Awaits : Gateway → List Addition → Gateway → Type 0
Awaits s al v = Grown gateways laws growing s al v

abbrev pub Below : ℕ → List Addition → Type 0
Below n al = From gateways laws growing (suc n) al

abbrev Same : List Addition → Outcome Gateway → Outcome Gateway → Type 0
Same al (refused n) o = o ≡ refused n
Same al (done t a) o = Below t.core.position al → (u : Gateway) × Awaits t al u × (o ≡ done u a)

-- an addition accepted before a frame below its number is accepted after it
accepted-behind : (s t : Gateway) (a : Addition) → Accepted s a.edition → sound_gateway t ≡ true
    → t.editions ≡ s.editions → t.core.position < a.edition.from
    → add_edition t a.edition ≡ done (with t a.edition) []
accepted-behind s t a c ok e h =
    accepts t a.edition (record {
      sound = ok;
      short = c.short;
      above-last = subst (λ (es : List Edition). last_from 0 es < a.edition.from) (sym e) c.above-last;
      above-position = h;
      room = subst (λ (es : List Edition). length es < most_editions) (sym e) c.room;
    })

-- a frame given leaves the editions
answer-editions : (s t : Gateway) (lent : ℕ) (w : Form) (r a : List ℕ) → answer gateways lent s w r ≡ done t a
    → t.editions ≡ s.editions
unfolding answer judge refuse_if act_on
answer-editions s t lent w r a e = go (sound_gateway s) (ltb lent answer_room) (gateways.read w r) e
  where
    judged : (x : Line Body) (b c : Bool) → refuse_if b 1 (refuse_if c 2 (act_on s x.body)) ≡ done t a
        → t.editions ≡ s.editions
    judged x true c h = absurd (Rattle.failover.specs.Grows.refused≢done 1 t a h)
    judged x false true h = absurd (Rattle.failover.specs.Grows.refused≢done 2 t a h)
    judged x false false h = (besides s.editions _ t a h).editions

    go : (b c : Bool) (x : Option (Line Body)) → refuse_if (not b) 7 (refuse_if c 3 (judge gateways s x)) ≡ done t a
        → t.editions ≡ s.editions
    go false c x h = absurd (Rattle.failover.specs.Grows.refused≢done 7 t a h)
    go true true x h = absurd (Rattle.failover.specs.Grows.refused≢done 3 t a h)
    go true false none h = absurd (Rattle.failover.specs.Grows.refused≢done 4 t a h)
    go true false (some x) h = judged x (leb x.num s.core.position) (ltb (suc s.core.position) x.num) h

same_answer : (al : List Addition) (s v : Gateway) (lent : ℕ) (w : Form) (r : List ℕ) → sound_gateway s ≡ true
    → Awaits s al v
    → Same al (answer gateways lent s w r) (answer gateways lent v w r)
unfolding state_after
same_answer [] s v lent w r ok g =
    subst (λ (u : Gateway). Same [] (answer gateways lent s w r) (answer gateways lent u w r)) g
    (own (answer gateways lent s w r))
  where
    own : (o : Outcome Gateway) → Same [] o o
    own (refused n) = refl
    own (done t a) = λ h. (t, refl, refl)
same_answer (a ∷ al) s v lent w r ok g =
    let d : Added s a.edition g.0 [] = added s a.edition g.0 [] g.1 in
    let good : sound_gateway (with s a.edition) ≡ true = with-sound s a d.accepted in
    go d (answer gateways lent s w r) refl (alike-answer s a.edition lent w r ok good)
    (same_answer al (with s a.edition) v lent w r good
    (subst (λ (t : Gateway). Awaits t al v) (sym d.state) g.2))
  where
    go : Added s a.edition g.0 [] → (o : Outcome Gateway) → answer gateways lent s w r ≡ o
        → Alike a.edition o (answer gateways lent (with s a.edition) w r)
        → Same al (answer gateways lent (with s a.edition) w r) (answer gateways lent v w r)
        → Same (a ∷ al) o (answer gateways lent v w r)
    go d (refused n) e h k = subst (λ (o : Outcome Gateway). Same al o (answer gateways lent v w r)) h k
    go d (done t x) e h k = λ l.
        let p : t.core.position < a.edition.from = l.0 in
        let z = subst (λ (o : Outcome Gateway). Same al o (answer gateways lent v w r)) (h p) k
        (subst (λ (n : ℕ). Below n al) (sym (with-position t a.edition)) l.1) in
        let good : sound_gateway t ≡ true =
        subst (λ (o : Outcome Gateway). sound_gateway (state_after s o) ≡ true) e (given-sound s ok lent w r) in (
          z.0,
          (
            with t a.edition,
            accepted-behind s t a d.accepted good (answer-editions s t lent w r x e) p,
            z.1,
          ),
          z.2,
        )

-- a replay does not go back, whatever the engine
module _ (M : Machine) (𝓛 : Laws M) (goes : ℕ → Bool) (room : ℕ) where
  answer-on : (s : M.S) (lent : ℕ) (l : List ℕ) → M.pos s ≤ M.pos (state_after s (answer M lent s text l))
  unfolding after reply
  answer-on s lent l = go (did M 𝓛 s (give lent text l))
    where
      go : Did M s (give lent text l) → M.pos s ≤ M.pos (state_after s (answer M lent s text l))
      go (nothing h k) = subst (λ (t : M.S). M.pos s ≤ M.pos t) (sym k) (omega arith)
      go (frame x t a ex h k) =
          let n : M.pos t ≡ suc (M.pos s) = 𝓛.advance s t x a ex in
          subst (λ (u : M.S). M.pos s ≤ M.pos u) (sym k) (omega arith)

  line_on : (o : Option ℕ) (r : Reached M.S) (l : List ℕ)
      → M.pos r.state ≤ M.pos (line_from M room o r l).state
  unfolding line_from
  line_on (some k) r l = omega arith
  line_on none r l =
      subst (λ (s : M.S). M.pos r.state ≤ M.pos s)
      (sym (Rattle.replays.proofs.PiecesLaws.reach-state r (length l)
      (answer M (room - length r.wrote) r.state text l)))
      (answer-on r.state (room - length r.wrote) l)

  lines-on : (ls : List (List ℕ)) (r : Reached M.S)
      → M.pos r.state ≤ M.pos (lines_while M goes room r ls).state
  unfolding lines_while
  lines-on [] r = omega arith
  lines-on (l ∷ ls) r =
      go (goes (M.pos r.state)) (line_on r.stop r l) (lines-on ls (line_from M room r.stop r l))
    where
      over : Bool → Reached M.S
      over b = elim b [ true ↦ lines_while M goes room (line_from M room r.stop r l) ls | false ↦ r ]

      go : (b : Bool) → M.pos r.state ≤ M.pos (line_from M room r.stop r l).state
          → M.pos (line_from M room r.stop r l).state ≤ M.pos
          (lines_while M goes room (line_from M room r.stop r l) ls).state
          → M.pos r.state ≤ M.pos (over b).state
      go true h k = omega arith
      go false h k = omega arith

  pub replay-forward : (s : M.S) (t : List ℕ) → M.pos s ≤ M.pos (replay_while M goes room s t).state
  unfolding replay_while nothing_read
  replay-forward s t = lines-on (cut t) (nothing_read s)

pub below_less : (n m : ℕ) (al : List Addition) → n ≤ m → Below m al → Below n al
below_less n m [] h b = tt
below_less n m (a ∷ al) h b = let k : suc m ≤ a.edition.from = b.0 in (omega arith, below_less n m al h b.1)

-- what was reached, at another state
unfoldable pub standing : Gateway → Reached Gateway → Reached Gateway
standing v r = record { state = v; wrote = r.wrote; taken = r.taken; stop = r.stop }

module _ (goes : ℕ → Bool) (room : ℕ) (al : List Addition) where
  abbrev Kept : Reached Gateway → Reached Gateway → Type 0
  Kept x y = Below x.state.core.position al → (u : Gateway) × Awaits x.state al u × (y ≡ standing u x)

  -- a line, by its outcome, and the lines that follow
  line-awaits : (ls : List (List ℕ)) (r : Reached Gateway) (v : Gateway) (n : ℕ) (o p : Outcome Gateway)
      → Awaits r.state al v
      → sound_gateway r.state ≡ true → sound_gateway (state_after r.state o) ≡ true → Same al o p
      → ((y : Reached Gateway) (u : Gateway) → sound_gateway y.state ≡ true → Awaits y.state al u
      → Kept (lines_while gateways goes room y ls) (lines_while gateways goes room (standing u y) ls))
      → Kept (lines_while gateways goes room (reach r n o) ls)
      (lines_while gateways goes room (reach (standing v r) n p) ls)
  unfolding reach standing state_after
  line-awaits ls r v n (done t a) p g ok good h ih = λ b.
      let y : Reached Gateway = record { state = t; wrote = r.wrote ++ a; taken = r.taken + n; stop = none } in
      let z = h (below_less t.core.position _ al (lines-on gateways laws goes room ls y) b) in
      subst (λ (q : Outcome Gateway). (u : Gateway) × Awaits (lines_while gateways goes room y ls).state al u
      × (lines_while gateways goes room (reach (standing v r) n q) ls
      ≡ standing u (lines_while gateways goes room y ls))) (sym z.2)
      (ih y z.0 good z.1 b)
  line-awaits ls r v n (refused k) p g ok good h ih =
      subst (λ (q : Outcome Gateway). Kept (lines_while gateways goes room (reach r n (refused k)) ls)
      (lines_while gateways goes room (reach (standing v r) n q) ls)) (sym h)
      (go (eqb k 1))
    where
      go : (b : Bool) → Kept
          (lines_while gateways goes room
          (cond {A = Reached Gateway} b
          (record { state = r.state; wrote = r.wrote; taken = r.taken + n; stop = none })
          (record { state = r.state; wrote = r.wrote; taken = r.taken; stop = some k })) ls)
          (lines_while gateways goes room
          (cond {A = Reached Gateway} b (record { state = v; wrote = r.wrote; taken = r.taken + n; stop = none })
          (record { state = v; wrote = r.wrote; taken = r.taken; stop = some k })) ls)
      go true = ih (record { state = r.state; wrote = r.wrote; taken = r.taken + n; stop = none }) v ok g
      go false = ih (record { state = r.state; wrote = r.wrote; taken = r.taken; stop = some k }) v ok g

  way-awaits : (o : Option ℕ) (l : List ℕ) (ls : List (List ℕ)) (r : Reached Gateway) (v : Gateway)
      → sound_gateway r.state ≡ true → Awaits r.state al v
      → ((y : Reached Gateway) (u : Gateway) → sound_gateway y.state ≡ true → Awaits y.state al u
      → Kept (lines_while gateways goes room y ls) (lines_while gateways goes room (standing u y) ls))
      → Kept (lines_while gateways goes room (line_from gateways room o r l) ls)
      (lines_while gateways goes room (line_from gateways room o (standing v r) l) ls)
  unfolding line_from standing
  way-awaits (some k) l ls r v ok g ih = ih r v ok g
  way-awaits none l ls r v ok g ih =
      line-awaits ls r v (length l) _ _ g ok (given-sound r.state ok (room - length r.wrote) text l)
      (same_answer al r.state v (room - length r.wrote) text l ok g) ih

  lines-await : (ls : List (List ℕ)) (r : Reached Gateway) (v : Gateway) → sound_gateway r.state ≡ true
      → Awaits r.state al v
      → Kept (lines_while gateways goes room r ls) (lines_while gateways goes room (standing v r) ls)
  unfolding lines_while standing
  lines-await [] r v ok g = λ b. (v, g, refl)
  lines-await (l ∷ ls) r v ok g =
      subst (λ (n : ℕ). Kept (over (goes r.state.core.position)) (above (goes n)))
      (sym (grown-pos gateways laws growing al r.state v g))
      (go (goes r.state.core.position) (way-awaits r.stop l ls r v ok g (λ y u k h. lines-await ls y u k h)))
    where
      over : Bool → Reached Gateway
      over b = elim b [ true ↦ lines_while gateways goes room (line_from gateways room r.stop r l) ls | false ↦ r ]

      above : Bool → Reached Gateway
      above b = elim b [
        | true ↦ lines_while gateways goes room (line_from gateways room r.stop (standing v r) l) ls
        | false ↦
            standing v r
      ]

      go : (b : Bool) → Kept (lines_while gateways goes room (line_from gateways room r.stop r l) ls)
          (lines_while gateways goes room (line_from gateways room r.stop (standing v r) l) ls)
          → Kept (over b) (above b)
      go true h = h
      go false h = λ b. (v, g, refl)

  -- Replay of a text from a state whose position stays below the numbers awaited is replay from the state that has
  -- them.
  pub replay-awaits : (m v : Gateway) (t : List ℕ) → sound_gateway m ≡ true → Awaits m al v
      → Below (replay_while gateways goes room m t).state.core.position al
      → (u : Gateway) × Awaits (replay_while gateways goes room m t).state al u
      × (replay_while gateways goes room v t ≡ standing u (replay_while gateways goes room m t))
  unfolding replay_while nothing_read standing
  replay-awaits m v t ok g b = lines-await (cut t) (nothing_read m) v ok g b
