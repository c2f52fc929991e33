-- An engine over blocks of octets is the engine over records, wherever a block lays a state: of a sound state's block
-- it answers, saves, executes and replays what the engine over records does of the state. The records may be those of
-- document 01 or those with editions, a block the core alone or the whole one: all that is asked of `place` is that a
-- sound state's block passes the test, has its position, is saved as it is, and goes on as it does. Document 01, The
-- image, Refusal numbers. Definitions of the proofs alone stand here too: onto, laid, on_replayed, on_reached, Lays.
-- Assumes nothing.
use Rattle.std.specs.Prelude.{ℕ, zero, suc, ◌+◌, ◌-◌, ◌≡◌, leb, ltb, eqb}
use Rattle.std.proofs.Math.Path.{refl, ap}
use Rattle.std.proofs.Common.{sym, ◌∙◌}
use Rattle.std.proofs.Math.Bool.{Bool, true, false, cond}
use mathlib.Core.List.{List, [], ◌∷◌, ◌++◌}
use Rattle.std.proofs.Math.Option.{Option, none, some}
use Rattle.std.proofs.Math.ListN.{length}
use Rattle.sessions.specs.Machine.{Machine, Laws, Form, text, Line, Outcome, refused, done, answer_room, save_room}
use Rattle.sessions.specs.Session.{Call, give, save, Entry, entries, refuse_if, state_after, judge, answer, image, reply, after, ran, walk, trace}
use Rattle.sessions.specs.Saved.{Replayed, with_answer, resume, replay_lines, replay, cut}
use Rattle.sessions.proofs.HistoryLaws.{walk-sound}
use Rattle.replays.specs.Into.{Reached, nothing_read, reach, line_from, lines_while, replay_while}
use Rattle.replays.proofs.PiecesLaws.{reach-state}
use Rattle.failover.proofs.ProofLaws.{as-calls}

-- an outcome on records, as one on blocks
unfoldable pub onto : {S T : Type 0} → (S → T) → Outcome S → Outcome T
onto place (refused n) = refused n
onto place (done m wrote) = done (place m) wrote

-- an engine over blocks: it reads and writes as the one over records does
abbrev pub laid : (N : Machine) → (T : Type 0) → (T → ℕ) → (T → Bool) → (T → N.Body → Outcome T) → (T → List ℕ)
    → (List ℕ → Option T) → Machine
laid N T at test acts code decode =
    record {
      S = T;
      Body = N.Body;
      pos = at;
      sound = test;
      read = N.read;
      write = N.write;
      act = acts;
      encode = code;
      decode = decode;
    }

-- what was reached by a replay, with the state as a block
unfoldable pub on_replayed : {S T : Type 0} → (S → T) → Replayed S → Replayed T
on_replayed place r = record { state = place r.state; answers = r.answers; stop = r.stop }

unfoldable pub on_reached : {S T : Type 0} → (S → T) → Reached S → Reached T
on_reached place r = record { state = place r.state; wrote = r.wrote; taken = r.taken; stop = r.stop }

-- replay leaves a sound state sound
pub replay-sound : (N : Machine) → Laws N → (lent : ℕ → ℕ) (m : N.S) → N.sound m ≡ true → (t : List ℕ)
    → N.sound (replay N lent m t).state ≡ true
unfolding replay
replay-sound N 𝓛 lent m ok t =
    let c = as-calls N lent m (cut t) in
    ap N.sound c.1 ∙ walk-sound N 𝓛 m ok c.0

-- What is asked of `place`.
pub record Lays (N : Machine) {T : Type 0} (place : N.S → T) (at : T → ℕ) (test : T → Bool)
    (acts : T → N.Body → Outcome T) (code : T → List ℕ) : Type 0 where
  pub sounds : (m : N.S) → N.sound m ≡ true → test (place m) ≡ true
  pub stands : (m : N.S) → N.sound m ≡ true → at (place m) ≡ N.pos m
  pub does : (m : N.S) → N.sound m ≡ true → (b : N.Body) → acts (place m) b ≡ onto place (N.act m b)
  pub codes : (m : N.S) → N.sound m ≡ true → code (place m) ≡ N.encode m

module _ (N : Machine) (𝓛 : Laws N) {T : Type 0} (place : N.S → T) (at : T → ℕ) (test : T → Bool)
    (acts : T → N.Body → Outcome T)
    (code : T → List ℕ) (decode : List ℕ → Option T) (L : Lays N place at test acts code) where
  abbrev E : Machine
  E = laid N T at test acts code decode

  refuse-blocks : (t : Bool) (n : ℕ) (o : Outcome N.S) → refuse_if t n (onto place o) ≡ onto place (refuse_if t n o)
  unfolding refuse_if onto
  refuse-blocks true n o = refl
  refuse-blocks false n o = refl

  -- what an outcome leaves and what it executes
  pub after-blocks : (m : N.S) (o : Outcome N.S) → state_after (place m) (onto place o) ≡ place (state_after m o)
  unfolding state_after onto
  after-blocks m (refused n) = refl
  after-blocks m (done t l) = refl

  entries-blocks : (x : Option (Line N.Body)) (o : Outcome N.S) → entries x (onto place o) ≡ entries x o
  unfolding entries onto
  entries-blocks none o = refl
  entries-blocks (some x) (refused n) = refl
  entries-blocks (some x) (done t l) = refl

  module _ (m : N.S) (ok : N.sound m ≡ true) where
    pub judge-blocks : (x : Option (Line N.Body)) → judge E (place m) x ≡ onto place (judge N m x)
    unfolding judge onto
    judge-blocks none = refl
    judge-blocks (some x) =
        rw (L.does m ok x.body, L.stands m ok)
        (ap (refuse_if (leb x.num (N.pos m)) 1)
        (refuse-blocks (ltb (suc (N.pos m)) x.num) 2 (N.act m x.body))
        ∙ refuse-blocks (leb x.num (N.pos m)) 1 (refuse_if (ltb (suc (N.pos m)) x.num) 2 (N.act m x.body)))

    -- what is answered to a frame
    pub answer-blocks : (lent : ℕ) (w : Form) (r : List ℕ)
        → answer E lent (place m) w r ≡ onto place (answer N lent m w r)
    unfolding answer
    answer-blocks lent w r =
        rw (L.sounds m ok, ok, judge-blocks (N.read w r))
        (ap (refuse_if false 7) (refuse-blocks (ltb lent answer_room) 3 (judge N m (N.read w r)))
        ∙ refuse-blocks false 7 (refuse_if (ltb lent answer_room) 3 (judge N m (N.read w r))))

    -- .. and to a save
    pub image-blocks : (lent : ℕ) → image E lent (place m) ≡ onto place (image N lent m)
    unfolding image onto
    image-blocks lent =
        rw (L.sounds m ok, ok, L.codes m ok)
        (ap (refuse_if false 7) (refuse-blocks (ltb lent save_room) 3 (done m (N.encode m)))
        ∙ refuse-blocks false 7 (refuse_if (ltb lent save_room) 3 (done m (N.encode m))))

    -- a call
    pub reply-blocks : (c : Call) → reply E (place m) c ≡ onto place (reply N m c)
    unfolding reply
    reply-blocks (give lent w r) = answer-blocks lent w r
    reply-blocks (save lent) = image-blocks lent

    pub call-blocks : (c : Call) → after E (place m) c ≡ place (after N m c)
    unfolding after
    call-blocks c = ap (state_after (place m)) (reply-blocks c) ∙ after-blocks m (reply N m c)

    pub ran-blocks : (c : Call) → ran E (place m) c ≡ ran N m c
    unfolding ran
    ran-blocks (give lent w r) =
        ap (entries (N.read w r)) (answer-blocks lent w r) ∙ entries-blocks (N.read w r) (answer N lent m w r)
    ran-blocks (save lent) = refl

    pub call-sound : (c : Call) → N.sound (after N m c) ≡ true
    unfolding walk
    call-sound c = walk-sound N 𝓛 m ok (c ∷ [])

  -- a session: its state at the end, its executed frames and their answers
  pub walk-blocks : (m : N.S) → N.sound m ≡ true → (cs : List Call) → walk E (place m) cs ≡ place (walk N m cs)
  unfolding walk
  walk-blocks m ok [] = refl
  walk-blocks m ok (c ∷ cs) =
      ap (λ (s : T). walk E s cs) (call-blocks m ok c) ∙ walk-blocks (after N m c) (call-sound m ok c) cs

  pub trace-blocks : (m : N.S) → N.sound m ≡ true → (cs : List Call) → trace E (place m) cs ≡ trace N m cs
  unfolding trace
  trace-blocks m ok [] = refl
  trace-blocks m ok (c ∷ cs) =
      ap (λ (s : T). ran E (place m) c ++ trace E s cs) (call-blocks m ok c)
      ∙ ap (λ (es : List (Entry N.Body)). es ++ trace E (place (after N m c)) cs) (ran-blocks m ok c)
      ∙ ap (λ (es : List (Entry N.Body)). ran N m c ++ es) (trace-blocks (after N m c) (call-sound m ok c) cs)

  -- what a frame in either form leaves
  module _ (m : N.S) (ok : N.sound m ≡ true) (lent : ℕ) (w : Form) (r : List ℕ) where
    pub given-blocks : state_after (place m) (answer E lent (place m) w r) ≡ place (state_after m (answer N lent m w r))
    unfolding after reply
    given-blocks = call-blocks m ok (give lent w r)

    pub given-sound : N.sound (state_after m (answer N lent m w r)) ≡ true
    unfolding after reply
    given-sound = call-sound m ok (give lent w r)

  -- one line by its outcome, and what follows it
  module _ (m : N.S) (more : T → Replayed T) (rest : N.S → Replayed N.S)
      (h : (t : N.S) → N.sound t ≡ true → more (place t) ≡ on_replayed place (rest t)) where
    resume-blocks : (o : Outcome N.S) → N.sound m ≡ true → N.sound (state_after m o) ≡ true
        → resume (place m) (onto place o) more ≡ on_replayed place (resume m o rest)
    unfolding resume with_answer onto state_after on_replayed
    resume-blocks (done t a) ok good = ap (with_answer a) (h t good)
    resume-blocks (refused n) ok good = go (eqb n 1)
      where
        go : (b : Bool) → cond b (more (place m)) (record { state = place m; answers = []; stop = some n })
            ≡ on_replayed place (cond b (rest m) (record { state = m; answers = []; stop = some n }))
        go true = h m ok
        go false = refl

  lines-blocks : (lent : ℕ → ℕ) (m : N.S) → N.sound m ≡ true → (ls : List (List ℕ))
      → replay_lines E lent (place m) ls ≡ on_replayed place (replay_lines N lent m ls)
  unfolding replay_lines on_replayed
  lines-blocks lent m ok [] = refl
  lines-blocks lent m ok (l ∷ ls) =
      ap (λ (o : Outcome T). resume (place m) o (λ t. replay_lines E (λ i. lent (suc i)) t ls))
      (answer-blocks m ok (lent zero) text l)
      ∙ resume-blocks m (λ t. replay_lines E (λ i. lent (suc i)) t ls) (λ t. replay_lines N (λ i. lent (suc i)) t ls)
      (λ t h. lines-blocks (λ i. lent (suc i)) t h ls) (answer N (lent zero) m text l) ok
      (given-sound m ok (lent zero) text l)

  pub replay-blocks : (lent : ℕ → ℕ) (m : N.S) → N.sound m ≡ true → (t : List ℕ)
      → replay E lent (place m) t ≡ on_replayed place (replay N lent m t)
  unfolding replay
  replay-blocks lent m ok t = lines-blocks lent m ok (cut t)

  reach-blocks : (r : Reached N.S) (n : ℕ) (o : Outcome N.S)
      → reach (on_reached place r) n (onto place o) ≡ on_reached place (reach r n o)
  unfolding reach on_reached onto
  reach-blocks r n (done t a) = refl
  reach-blocks r n (refused k) = go (eqb k 1)
    where
      go : (b : Bool) → cond {A = Reached T} b
          (record { state = place r.state; wrote = r.wrote; taken = r.taken + n; stop = none })
          (record { state = place r.state; wrote = r.wrote; taken = r.taken; stop = some k })
          ≡ on_reached place
          (cond {A = Reached N.S} b
          (record { state = r.state; wrote = r.wrote; taken = r.taken + n; stop = none })
          (record { state = r.state; wrote = r.wrote; taken = r.taken; stop = some k }))
      go true = refl
      go false = refl

  module _ (room : ℕ) where
    line-blocks : (o : Option ℕ) (r : Reached N.S) (l : List ℕ) → N.sound r.state ≡ true
        → line_from E room o (on_reached place r) l ≡ on_reached place (line_from N room o r l)
    unfolding line_from on_reached
    line-blocks (some k) r l ok = refl
    line-blocks none r l ok =
        ap (reach (on_reached place r) (length l)) (answer-blocks r.state ok (room - length r.wrote) text l)
        ∙ reach-blocks r (length l) (answer N (room - length r.wrote) r.state text l)

    way-sound : (o : Option ℕ) (r : Reached N.S) (l : List ℕ) → N.sound r.state ≡ true
        → N.sound (line_from N room o r l).state ≡ true
    unfolding line_from
    way-sound (some k) r l ok = ok
    way-sound none r l ok =
        ap N.sound (reach-state r (length l) (answer N (room - length r.wrote) r.state text l))
        ∙ given-sound r.state ok (room - length r.wrote) text l

    ways-blocks : (goes : ℕ → Bool) (ls : List (List ℕ)) (r : Reached N.S) → N.sound r.state ≡ true
        → lines_while E goes room (on_reached place r) ls ≡ on_reached place (lines_while N goes room r ls)
    unfolding lines_while on_reached
    ways-blocks goes [] r ok = refl
    ways-blocks goes (l ∷ ls) r ok =
        ap (λ (n : ℕ). branch (goes n)) (L.stands r.state ok)
        ∙ go (goes (N.pos r.state))
        (ap (λ (x : Reached T). lines_while E goes room x ls) (line-blocks r.stop r l ok)
        ∙ ways-blocks goes ls (line_from N room r.stop r l) (way-sound r.stop r l ok))
      where
        branch : Bool → Reached T
        branch b = elim b [
          | true ↦ lines_while E goes room (line_from E room r.stop (on_reached place r) l) ls
          | false ↦ on_reached
              place r
        ]

        over : Bool → Reached N.S
        over b = elim b [ true ↦ lines_while N goes room (line_from N room r.stop r l) ls | false ↦ r ]

        go : (b : Bool) → lines_while E goes room (line_from E room r.stop (on_reached place r) l) ls
            ≡ on_reached place (lines_while N goes room (line_from N room r.stop r l) ls)
            → branch b ≡ on_reached place (over b)
        go true h = h
        go false h = refl

    -- a call of replay, held to a frame or not
    pub replays-blocks : (goes : ℕ → Bool) (m : N.S) → N.sound m ≡ true → (t : List ℕ)
        → replay_while E goes room (place m) t ≡ on_reached place (replay_while N goes room m t)
    unfolding replay_while nothing_read on_reached
    replays-blocks goes m ok t = ways-blocks goes (cut t) (nothing_read m) ok

    -- it leaves a sound state sound
    ways-sound : (goes : ℕ → Bool) (ls : List (List ℕ)) (r : Reached N.S) → N.sound r.state ≡ true
        → N.sound (lines_while N goes room r ls).state ≡ true
    unfolding lines_while
    ways-sound goes [] r ok = ok
    ways-sound goes (l ∷ ls) r ok =
        go (goes (N.pos r.state)) (ways-sound goes ls (line_from N room r.stop r l) (way-sound r.stop r l ok))
      where
        over : Bool → Reached N.S
        over b = elim b [ true ↦ lines_while N goes room (line_from N room r.stop r l) ls | false ↦ r ]

        go : (b : Bool) → N.sound (lines_while N goes room (line_from N room r.stop r l) ls).state ≡ true
            → N.sound (over b).state ≡ true
        go true h = h
        go false h = ok

    pub replays-sound : (goes : ℕ → Bool) (m : N.S) → N.sound m ≡ true → (t : List ℕ)
        → N.sound (replay_while N goes room m t).state ≡ true
    unfolding replay_while nothing_read
    replays-sound goes m ok t = ways-sound goes (cut t) (nothing_read m) ok
