-- The slow twin answers as the first engine does, call by call. Document 02, T-07. Assumes nothing.
use Rattle.std.specs.Prelude.{ℕ, suc, ◌+◌, ◌≤◌, ◌<◌, ◌≡◌, refl, Bool, true, false, ◌&&◌, ◌||◌, List, [], ◌∷◌, ◌++◌, leb, eqb, length, drop, get_or}
use Rattle.std.proofs.Common.{sym, ap, ◌∙◌, subst, arith, leb-true, eqb-true, eq-eqb, le-leb, length-append}
use Rattle.std.proofs.lemmas.Bool.{false≢true}
use Rattle.laws.specs.Tests.{pick}
use Rattle.laws.specs.TestsLaws.{and_left, and_right, and_both}
use Rattle.octets.specs.Little.{little, octets_of}
use Rattle.lines.specs.FrameLaws.{frame-least}
use Rattle.sessions.specs.Machine.{Line, Outcome, refused, done}
use Rattle.sessions.specs.Session.{state_after}
use Rattle.model.specs.Frames.{Body, Typed, command, packet, tick, bad, frame_of, is_command, is_packet, is_scanned, is_tick, packet_of, raw_of, typed}
use Rattle.model.specs.Step.{act, act_typed, answer_typed, refusal_typed, step_typed}
use Rattle.model.specs.Level.{in_range}
use Rattle.model.specs.Layout.{most_data}
use Rattle.editions.specs.Editions.{Gateway, act_on, beside, prefix_for, sound_editions, sound_gateway, with_prefix}
use Rattle.failover.specs.ReadLaws.{Got, raw_of_lem}
use Rattle.pasts.specs.Past
use Rattle.pasts.specs.Says.{answer_for}
use Rattle.pasts.proofs.AgreesLaws.{state-more}
use Rattle.pasts.proofs.AnswersLaws.{Plain, says_is}
use Rattle.twins.specs.Claim.{call_answer}
use Rattle.twins.specs.Twin.{Twin, gateway_of, keeps_on, most_kept, past_from, past_of, refusal_by, run_all, runs, sound_twin, typed_in}

-- the frames kept, and their past
pub past-length : (past : List Typed) (rs : List (List ℕ)) → length (past_from past rs) ≡ length past + length rs
unfolding past_from
past-length past [] = omega arith
past-length past (r ∷ rs) = past-length (typed_in r ∷ past) rs ∙ omega arith

pub past_more : (past : List Typed) (rs : List (List ℕ)) (r : List ℕ) → past_from past (rs ++ (r ∷ [])) ≡ typed_in r
    ∷ past_from past rs
unfolding past_from
past_more past [] r = refl
past_more past (q ∷ rs) r = past_more (typed_in q ∷ past) rs r

pub run_more : (opcode n : ℕ) (rs : List (List ℕ)) (r : List ℕ) → run_all opcode n rs ≡ true
    → runs opcode (n + length rs) r ≡ true
    → run_all opcode n (rs ++ (r ∷ [])) ≡ true
unfolding run_all
run_more opcode n [] r a b = let z : n + 0 ≡ n =
    omega arith in and_both (subst (λ (k : ℕ). runs opcode k r ≡ true) z b) refl
run_more opcode n (q ∷ rs) r a b =
    let z : n + suc (length rs) ≡ suc n + length rs = omega arith in
    and_both (and_left (runs opcode n q) (run_all opcode (suc n) rs) a)
    (run_more opcode (suc n) rs r (and_right (runs opcode n q) (run_all opcode (suc n) rs) a)
    (subst (λ (k : ℕ). runs opcode k r ≡ true) z b))

-- a frame's octets hold its body
pub typed-raw : (n : ℕ) (b : Body) → typed_in (raw_of (record { num = n; body = b })) ≡ typed b
unfolding typed_in frame_of raw_of octets_of
typed-raw n b = refl

-- a packet's event type is 0 to 3
packet-plain : (l : List ℕ) → is_packet l ≡ true → get_or l 0 0 ≤ 3
unfolding is_packet
packet-plain l e =
    let a : Bool = leb (get_or l 0 0) 3 in
    let b : Bool = leb (get_or l 1 0) 1 in
    let c : Bool = leb (get_or l 8 0) most_data in
    let d : Bool = eqb (length l) (10 + get_or l 8 0) in
    let r : Bool = in_range (get_or l (9 + get_or l 8 0) 0) in
    leb-true (get_or l 0 0) 3
    (and_left a b (and_left (a && b) c (and_left (a && b && c) d (and_left (a && b && c && d) r e))))

scanned-plain : (l : List ℕ) → is_scanned l ≡ true → get_or l 0 0 ≤ 3
unfolding is_scanned
scanned-plain l e =
    let n = get_or l 8 0 in
    let k = get_or l (9 + n) 0 in
    let a : Bool = eqb (get_or l 0 0) 0 || eqb (get_or l 0 0) 2 in
    let b : Bool = leb (get_or l 1 0) 1 in
    let c : Bool = leb n most_data in
    let d : Bool = leb k most_data in
    let f : Bool = eqb (length l) (11 + n + k) in
    let r : Bool = in_range (get_or l (10 + n + k) 0) in
    go (eqb (get_or l 0 0) 0) (eqb (get_or l 0 0) 2) refl refl
    (and_left a b (and_left (a && b) c
    (and_left (a && b && c) d (and_left (a && b && c && d) f (and_left (a && b && c && d && f) r e)))))
  where
    go : (x y : Bool) → eqb (get_or l 0 0) 0 ≡ x → eqb (get_or l 0 0) 2 ≡ y → (x || y) ≡ true → get_or l 0 0 ≤ 3
    go true y p q z = let w : get_or l 0 0 ≡ 0 = eqb-true (get_or l 0 0) 0 p in omega arith
    go false true p q z = let w : get_or l 0 0 ≡ 2 = eqb-true (get_or l 0 0) 2 q in omega arith
    go false false p q z = absurd (false≢true z)

pub typed-plain : (b : Body) → Plain (typed b)
unfolding typed pick packet_of
typed-plain b =
    go (eqb b.kind 1) (is_command b.payload) (eqb b.kind 2) (is_packet b.payload) (eqb b.kind 3)
    (is_tick b.payload) (eqb b.kind 4)
    (is_scanned b.payload) refl refl
  where
    go : (k1 c k2 p k3 t k4 s : Bool) → is_packet b.payload ≡ p → is_scanned b.payload ≡ s
        → Plain (pick k1 (pick c (command (little 2 b.payload 0) (drop 3 b.payload)) bad) (
        pick k2 (pick p (packet (packet_of b.payload)) bad) (
        pick k3 (pick t tick bad) (
        pick k4 (pick s (packet (packet_of b.payload)) bad) bad))))
    go true true k2 p k3 t k4 s x y = tt
    go true false k2 p k3 t k4 s x y = tt
    go false c true true k3 t k4 s x y = packet-plain b.payload x
    go false c true false k3 t k4 s x y = tt
    go false c false p true true k4 s x y = tt
    go false c false p true false k4 s x y = tt
    go false c false p false t true true x y = scanned-plain b.payload y
    go false c false p false t true false x y = tt
    go false c false p false t false s x y = tt

-- a sound twin's parts
pub record Sound (t : Twin) : Type 0 where
  pub opcode-least : leb 0xFC00 t.opcode ≡ true
  pub opcode-most : leb t.opcode 0xFFFF ≡ true
  pub editions : sound_editions t.editions ≡ true
  pub room : length t.frames ≤ most_kept
  pub run : run_all t.opcode 0 t.frames ≡ true

pub sound-of : (t : Twin) → sound_twin t ≡ true → Sound t
unfolding sound_twin
sound-of t s =
    let a : Bool = leb 0xFC00 t.opcode in
    let b : Bool = leb t.opcode 0xFFFF in
    let c : Bool = sound_editions t.editions in
    let d : Bool = leb (length t.frames) most_kept in
    let e : Bool = run_all t.opcode 0 t.frames in
    let l4 = and_left (a && b && c && d) e s in
    let l3 = and_left (a && b && c) d l4 in
    let l2 = and_left (a && b) c l3 in
    record {
      opcode-least = and_left a b l2;
      opcode-most = and_right a b l2;
      editions = and_right (a && b) c l3;
      room = leb-true (length t.frames) most_kept (and_right (a && b && c) d l4);
      run = and_right (a && b && c && d) e s;
    }

pub sound-holds : (t : Twin) → Sound t → sound_twin t ≡ true
unfolding sound_twin
sound-holds t s =
    and_both (and_both (and_both (and_both s.opcode-least s.opcode-most) s.editions)
    (le-leb (length t.frames) most_kept s.room)) s.run

-- both states are sound
pub record Both (t : Twin) : Type 0 where
  pub twin : sound_twin t ≡ true
  pub first : sound_gateway (gateway_of t) ≡ true

-- an answer of the twin, and one of the first engine, that go on alike; k frames were executed
pub record Matched (t : Twin) (o : Outcome Twin) (p : Outcome Gateway) (k : ℕ) : Type 0 where
  pub said : call_answer o ≡ call_answer p
  pub state : state_after (gateway_of t) p ≡ gateway_of (state_after t o)
  pub both : Both (state_after t o)
  pub kept : length (state_after t o).frames ≡ length t.frames + k

pub both-refused : (t : Twin) → Both t → (n : ℕ) → Matched t (refused n) (refused n) 0
unfolding call_answer state_after
both-refused t b n = record { said = refl; state = refl; both = b; kept = omega arith }

-- the position
pub position-is : (t : Twin) → (gateway_of t).core.position ≡ length t.frames
unfolding gateway_of Past.history_state past_of
position-is t = past-length [] t.frames ∙ omega arith

-- what a frame does to the first engine's state
refusal_is : (opcode : ℕ) (prefix : List ℕ) (past : List Typed) (f : Typed)
    → refusal_typed (Past.history_state opcode prefix past) f ≡ refusal_by opcode f
unfolding refusal_typed refusal_by Past.history_state
refusal_is opcode prefix past (command o l) = refl
refusal_is opcode prefix past (packet p) = refl
refusal_is opcode prefix past tick = refl
refusal_is opcode prefix past bad = refl

not-bad : (opcode : ℕ) (f : Typed) → eqb (refusal_by opcode f) 0 ≡ true → f ≡ bad → ⊥
unfolding refusal_by
not-bad opcode f e z = false≢true (rw z at e)

kept-gateway : (t : Twin) (b : Body)
    → gateway_of (keeps_on t b)
    ≡ record {
      core = Past.history_state t.opcode (prefix_for (suc (length t.frames)) t.editions)
          (typed b ∷ past_of t);
      editions = t.editions;
    }
unfolding gateway_of keeps_on past_of
kept-gateway t b =
    let r : List ℕ = raw_of (record { num = suc (length t.frames); body = b }) in
    let n : length (t.frames ++ (r ∷ [])) ≡ suc (length t.frames) =
    length-append t.frames (r ∷ []) ∙ omega arith in
    rw (n, past_more [] t.frames r, typed-raw (suc (length t.frames)) b)

prefixed : (t : Twin) (p : List ℕ) → with_prefix (gateway_of t).core p ≡ Past.history_state t.opcode p (past_of t)
unfolding with_prefix gateway_of Past.history_state
prefixed t p = refl

pub editions-is : (t : Twin) → (gateway_of t).editions ≡ t.editions
unfolding gateway_of
editions-is t = refl

pub act-core : (opcode : ℕ) (prefix : List ℕ) (past : List Typed) (b : Body)
    → act (Past.history_state opcode prefix past) b
    ≡ pick (eqb (refusal_by opcode (typed b)) 0)
    (done (Past.history_state opcode prefix (typed b ∷ past)) (answer_for opcode prefix past (typed b)))
    (refused (refusal_by opcode (typed b)))
unfolding act act_typed pick
act-core opcode prefix past b =
    rw (refusal_is opcode prefix past (typed b)) (go (eqb (refusal_by opcode (typed b)) 0) refl)
  where
    go : (q : Bool) → eqb (refusal_by opcode (typed b)) 0 ≡ q
        → pick q (done (step_typed (Past.history_state opcode prefix past) (typed b))
        (answer_typed (Past.history_state opcode prefix past) (typed b)))
        (refused (refusal_by opcode (typed b)))
        ≡ pick q (done (Past.history_state opcode prefix (typed b ∷ past)) (answer_for opcode prefix past (typed b)))
        (refused (refusal_by opcode (typed b)))
    go true e =
        rw (
          state-more opcode prefix past (typed b) (not-bad opcode (typed b) e),
          says_is opcode prefix past (typed b)
              (typed-plain b),
        )
    go false e = refl

pub act-first : (t : Twin) (b : Body)
    → act_on (gateway_of t) b
    ≡ pick (eqb (refusal_by t.opcode (typed b)) 0)
    (done (gateway_of (keeps_on t b))
    (answer_for t.opcode (prefix_for (suc (length t.frames)) t.editions) (past_of t) (typed b)))
    (refused (refusal_by t.opcode (typed b)))
unfolding act_on pick beside
act-first t b =
    rw (
      position-is t,
      editions-is t,
      prefixed t (prefix_for (suc (length t.frames)) t.editions),
      act-core t.opcode (prefix_for (suc (length t.frames)) t.editions) (past_of t) b,
      kept-gateway t b,
    )
    (go (eqb (refusal_by t.opcode (typed b)) 0))
  where
    go : (q : Bool)
        → beside t.editions
        (pick q (done (Past.history_state t.opcode (prefix_for (suc (length t.frames)) t.editions)
        (typed b ∷ past_of t))
        (answer_for t.opcode (prefix_for (suc (length t.frames)) t.editions) (past_of t) (typed b)))
        (refused (refusal_by t.opcode (typed b))))
        ≡ pick q (done (record {
          core = Past.history_state t.opcode (prefix_for (suc (length t.frames)) t.editions)
              (typed b ∷ past_of t);
          editions = t.editions;
        })
        (answer_for t.opcode (prefix_for (suc (length t.frames)) t.editions) (past_of t) (typed b)))
        (refused (refusal_by t.opcode (typed b)))
    go true = refl
    go false = refl

-- one frame more leaves the twin sound
pub more-sound-twin : (t : Twin) (x : Line Body) → Got x → sound_twin t ≡ true → x.num ≡ suc (length t.frames)
    → length t.frames < most_kept
    → eqb (refusal_by t.opcode (typed x.body)) 0 ≡ true → sound_twin (keeps_on t x.body) ≡ true
unfolding keeps_on runs typed_in frame_of
more-sound-twin t x g s n h e =
    let f : Sound t = sound-of t s in
    let r : List ℕ = raw_of (record { num = suc (length t.frames); body = x.body }) in
    let q : r ≡ g.raw =
    ap (λ (k : ℕ). raw_of (record { num = k; body = x.body })) (sym n) ∙ ap raw_of (sym g.is)
    ∙ raw_of_lem g.raw g.small (frame-least g.raw g.form) in
    let m : length (t.frames ++ (r ∷ [])) ≡ length t.frames + 1 = length-append t.frames (r ∷ []) in
    let k : little 4 g.raw 1 ≡ suc (length t.frames) = ap (λ (y : Line Body). y.num) g.is ∙ n in
    let i : (frame_of g.raw).body ≡ x.body = ap (λ (y : Line Body). y.body) g.is in
    let j : runs t.opcode (length t.frames) g.raw ≡ true =
    and_both (and_both (and_both g.small g.form) (eq-eqb (little 4 g.raw 1) (suc (length t.frames)) k))
    (ap (λ (y : Body). eqb (refusal_by t.opcode (typed y)) 0) i ∙ e) in
    let z : length t.frames ≡ 0 + length t.frames = omega arith in
    sound-holds (keeps_on t x.body) (record {
      opcode-least = f.opcode-least;
      opcode-most = f.opcode-most;
      editions = f.editions;
      room = omega arith;
      run = run_more t.opcode 0 t.frames r f.run (subst (λ (k : ℕ). runs t.opcode k r ≡ true) z (rw q j));
    })

pub kept-length : (t : Twin) (b : Body) → length (keeps_on t b).frames ≡ length t.frames + 1
unfolding keeps_on
kept-length t b = length-append t.frames (raw_of (record { num = suc (length t.frames); body = b }) ∷ [])
