-- One call, given to the twin and to the first engine: both are refused by the same number, or write the same octets
-- and go on alike. Document 02, T-07. Assumes nothing.
use Prim.Native.Nat.{ℕ, suc, ◌+◌, ◌≤◌, ◌<◌}
use Rattle.std.specs.Prelude.{◌≡◌, Bool, ◌||◌, not, List, [], ◌∷◌, ◌++◌, leb, ltb}
use Rattle.std.proofs.Math.Path.{refl, ap, subst}
use Rattle.std.proofs.Common.{sym, ◌∙◌, leb-false, ltb-false, le-leb}
use Rattle.std.proofs.Math.Bool.{true, false}
use Rattle.std.proofs.Math.Option.{Option, none, some}
use native.Mathlib.Omega.{arith}
use Rattle.std.proofs.lemmas.Bool.{lt-leb}
use Rattle.std.proofs.Math.Dec.{eqb}
use Rattle.std.proofs.Math.ListN.{length}
use Rattle.laws.specs.Tests.{pick}
use Rattle.laws.specs.TestsLaws.{pick_true, and_both}
use Rattle.sessions.specs.Machine.{Form, Line, Outcome, refused, done, answer_room, save_room, last_number}
use Rattle.sessions.specs.Session.{give, save, answer, entries, image, judge, ran, refuse_if, reply, state_after}
use Rattle.sessions.specs.Additions.{Act, adds, call, ran_by, reply_to}
use Rattle.model.specs.Frames.{Body, Typed, read, typed}
use Rattle.model.specs.Layout.{most_prefix}
use Rattle.steps.specs.FactsLaws.{up-to-holds}
use Rattle.editions.specs.Editions.{Edition, Gateway, act_on, add_edition, image_on, last_from, most_editions, prefix_for, sound_edition, sound_gateway}
use Rattle.editions.specs.Engine.{Addition, gateways}
use Rattle.editions.proofs.FactsLaws.{Accepted, more-sound, prefix-above, with}
use Rattle.failover.specs.ReadLaws.{got}
use Rattle.failover.specs.Grows.{Went, growing, went, with-sound}
use Rattle.pasts.specs.Says.{answer_for}
use Rattle.twins.specs.Twin.{Twin, act_twin, add_twin, gateway_of, keeps_on, most_kept, past_of, refusal_by, twins, with_edition}
use Rattle.twins.specs.Claim.{call_answer, twin_by}
use Rattle.twins.proofs.SameLaws.{Both, Matched, Sound, act-first, both-refused, editions-is, kept-length, more-sound-twin, position-is, sound-holds, sound-of}

entries_none : (x : Option (Line Body)) (n : ℕ) → length (entries {S = Gateway} x (refused n)) ≡ 0
unfolding entries
entries_none none n = refl
entries_none (some x) n = refl

-- the two are refused by one number
refused-both : (t : Twin) → Both t → (x : Option (Line Body)) (n : ℕ)
    → Matched t (refused n) (refused n) (length (entries {S = Gateway} x (refused n)))
refused-both t b x n = rw (entries_none x n) (both-refused t b n)

-- an edition that is accepted
with-gateway : (t : Twin) (e : Edition) → length t.frames < e.from
    → gateway_of (with_edition t e) ≡ record { core = (gateway_of t).core; editions = t.editions ++ (e ∷ []) }
unfolding gateway_of with_edition past_of
with-gateway t e h = rw (prefix-above (length t.frames) t.editions e h)

with-is : (t : Twin) (e : Edition)
    → with (gateway_of t) e ≡ record { core = (gateway_of t).core; editions = t.editions ++ (e ∷ []) }
unfolding with gateway_of
with-is t e = refl

kept-edition : (t : Twin) → Both t → (a : Addition) → length a.edition.prefix ≤ most_prefix
    → last_from 0 t.editions < a.edition.from
    → length t.frames < a.edition.from → length t.editions < most_editions
    → Matched t (done (with_edition t a.edition) [])
    (done (record { core = (gateway_of t).core; editions = t.editions ++ (a.edition ∷ []) }) []) 0
unfolding call_answer state_after with_edition sound_edition
kept-edition t b a short last above room =
    let e : Edition = a.edition in
    let s : Sound t = sound-of t b.twin in
    let p : (gateway_of t).core.position ≡ length t.frames = position-is t in
    let i : gateway_of (with_edition t e) ≡ record { core = (gateway_of t).core; editions = t.editions ++ (e ∷ []) } =
    with-gateway t e above in
    let o : sound_edition e ≡ true =
    and_both (le-leb e.from last_number a.fits) (up-to-holds most_prefix e.prefix short a.octets) in
    let c : Accepted (gateway_of t) e =
    record {
      sound = b.first;
      short = short;
      above-last = subst (λ (es : List Edition). last_from 0 es < e.from) (sym (editions-is t)) last;
      above-position = omega arith;
      room = subst (λ (es : List Edition). length es < most_editions) (sym (editions-is t)) room;
    } in
    record {
      said = refl;
      state = sym i;
      both = record {
        twin = sound-holds (with_edition t e) (record {
          opcode-least = s.opcode-least;
          opcode-most = s.opcode-most;
          editions = more-sound t.editions e s.editions last room o;
          room = s.room;
          run = s.run;
        });
        first = subst (λ (q : Gateway). sound_gateway q ≡ true) (with-is t e ∙ sym i) (with-sound (gateway_of t) a c);
      };
      kept = omega arith;
    }

module _ (t : Twin) (b : Both t) where
  abbrev g : Gateway
  g = gateway_of t

  abbrev n : ℕ
  n = length t.frames

  -- a frame with the next number
  module _ (w : Form) (r : List ℕ) (x : Line Body) (given : read w r ≡ some x) (next : x.num ≡ suc n) where
    abbrev f : Typed
    f = typed x.body

    abbrev a : List ℕ
    a = answer_for t.opcode (prefix_for (suc n) t.editions) (past_of t) f

    executed : eqb (refusal_by t.opcode f) 0 ≡ true → n < most_kept
        → Matched t (done (keeps_on t x.body) a) (done (gateway_of (keeps_on t x.body)) a) 1
    unfolding call_answer state_after last_number
    executed e h =
        let p : act_on g x.body ≡ done (gateway_of (keeps_on t x.body)) a =
        act-first t x.body ∙ pick_true _ (refused (refusal_by t.opcode f)) e in
        let k : g.core.position ≡ n = position-is t in
        let y : Went g (gateway_of (keeps_on t x.body)) x a =
        went g (gateway_of (keeps_on t x.body)) x a (record {
          form = w;
          raw = r;
          given = given;
          before = b.first;
          next = next ∙ ap suc (sym k);
          room = omega arith;
          acts = p;
        }) in
        record {
          said = refl;
          state = refl;
          both = record { twin = more-sound-twin t x (got w r x given) b.twin next h e; first = y.sound };
          kept = kept-length t x.body;
        }

    acted : n + length (entries (some x) (act_on g x.body)) ≤ most_kept
        → Matched t (act_twin t x.body) (act_on g x.body) (length (entries (some x) (act_on g x.body)))
    unfolding act_twin refuse_if pick entries
    acted h = rw (act-first t x.body) (go (eqb (refusal_by t.opcode f) 0) refl (rw (act-first t x.body) at h))
      where
        go : (q : Bool) → eqb (refusal_by t.opcode f) 0 ≡ q
            → n + length (entries (some x)
            (pick q (done (gateway_of (keeps_on t x.body)) a) (refused (refusal_by t.opcode f)))) ≤ most_kept
            → Matched t (refuse_if (not q) (refusal_by t.opcode f)
            (refuse_if (leb most_kept n) 11 (done (keeps_on t x.body) a)))
            (pick q (done (gateway_of (keeps_on t x.body)) a) (refused (refusal_by t.opcode f)))
            (length (entries (some x)
            (pick q (done (gateway_of (keeps_on t x.body)) a) (refused (refusal_by t.opcode f)))))
        go false e k = both-refused t b (refusal_by t.opcode f)
        go true e k = let l : n < most_kept = omega arith in rw (lt-leb most_kept n l) (executed e l)

  -- one test more, with one refusal for both
  refuse-both : (x : Option (Line Body)) (q : Bool) (k : ℕ) (o : Outcome Twin) (p : Outcome Gateway)
      → (q ≡ false → n + length (entries x p) ≤ most_kept → Matched t o p (length (entries x p)))
      → n + length (entries x (refuse_if q k p)) ≤ most_kept
      → Matched t (refuse_if q k o) (refuse_if q k p) (length (entries x (refuse_if q k p)))
  unfolding refuse_if
  refuse-both x true k o p rest h = refused-both t b x k
  refuse-both x false k o p rest h = rest refl h

  -- a frame given
  judged : (w : Form) (r : List ℕ) (o : Option (Line Body)) → read w r ≡ o
      → n + length (entries o (judge gateways g o)) ≤ most_kept
      → Matched t (judge twins t o) (judge gateways g o) (length (entries o (judge gateways g o)))
  unfolding judge
  judged w r none e h = refused-both t b none 4
  judged w r (some x) e h =
      subst (λ (k : ℕ). n + length (entries (some x) (first k)) ≤ most_kept
      → Matched t (judge twins t (some x)) (first k) (length (entries (some x) (first k))))
      (sym (position-is t))
      (refuse-both (some x) (leb x.num n) 1 (refuse_if (ltb (suc n) x.num) 2 (act_twin t x.body))
      (refuse_if (ltb (suc n) x.num) 2 (act_on g x.body))
      (λ u. refuse-both (some x) (ltb (suc n) x.num) 2 (act_twin t x.body) (act_on g x.body)
      (λ v. acted w r x e (next u v)))) h
    where
      first : ℕ → Outcome Gateway
      first k = refuse_if (leb x.num k) 1 (refuse_if (ltb (suc k) x.num) 2 (act_on g x.body))

      next : leb x.num n ≡ false → ltb (suc n) x.num ≡ false → x.num ≡ suc n
      next u v =
          let i : n < x.num = leb-false x.num n u in
          let j : x.num ≤ suc n = ltb-false (suc n) x.num v in
          omega arith

  pub given : (lent : ℕ) (w : Form) (r : List ℕ)
      → n + length (entries (read w r) (answer gateways lent g w r)) ≤ most_kept
      → Matched t (answer twins lent t w r) (answer gateways lent g w r)
      (length (entries (read w r) (answer gateways lent g w r)))
  unfolding answer
  given lent w r h =
      rw (b.twin, b.first)
      (refuse-both (read w r) false 7 (refuse_if (ltb lent answer_room) 3 (judge twins t (read w r)))
      (refuse_if (ltb lent answer_room) 3 (judge gateways g (read w r)))
      (λ u. refuse-both (read w r) (ltb lent answer_room) 3 (judge twins t (read w r)) (judge gateways g (read w r))
      (λ v. judged w r (read w r) refl))
      (rw b.first at h))

  -- a save
  pub saved : (lent : ℕ) → Matched t (image twins lent t) (image gateways lent g) 0
  unfolding image refuse_if call_answer state_after
  saved lent = rw (b.twin, b.first) (go (ltb lent save_room))
    where
      go : (q : Bool) → Matched t (refuse_if q 3 (done t (image_on g))) (refuse_if q 3 (done g (image_on g))) 0
      go true = both-refused t b 3
      go false = record { said = refl; state = refl; both = b; kept = omega arith }

  -- an edition
  pub added : (e : Addition) → Matched t (add_twin t e.edition) (add_edition g e.edition) 0
  unfolding add_twin add_edition refuse_if
  added e =
      rw (b.twin, b.first, editions-is t, position-is t)
      (go (ltb most_prefix (length d.prefix)) (leb d.from (last_from 0 t.editions)) (leb d.from n)
      (leb most_editions (length t.editions))
      refl refl refl refl)
    where
      d : Edition
      d = e.edition

      go : (p c k m : Bool) → ltb most_prefix (length e.edition.prefix) ≡ p
          → leb e.edition.from (last_from 0 t.editions) ≡ c
          → leb e.edition.from n ≡ k → leb most_editions (length t.editions) ≡ m
          → Matched t (refuse_if p 15 (refuse_if (c || k) 14 (refuse_if m 13 (done (with_edition t e.edition) []))))
          (refuse_if p 15 (refuse_if (c || k) 14
          (refuse_if m 13 (done (record { core = g.core; editions = t.editions ++ (e.edition ∷ []) }) [])))) 0
      go true c k m p q r s = both-refused t b 15
      go false true k m p q r s = both-refused t b 14
      go false false true m p q r s = both-refused t b 14
      go false false false true p q r s = both-refused t b 13
      go false false false false p q r s =
          kept-edition t b e (ltb-false most_prefix (length e.edition.prefix) p)
          (leb-false e.edition.from (last_from 0 t.editions) q)
          (leb-false e.edition.from n r) (leb-false most_editions (length t.editions) s)

  -- any call
  pub called : (c : Act gateways growing) → n + length (ran_by gateways growing g c) ≤ most_kept
      → Matched t (twin_by t c) (reply_to gateways growing g c) (length (ran_by gateways growing g c))
  unfolding twin_by reply_to reply ran_by ran
  called (call (give lent w r)) h = given lent w r h
  called (call (save lent)) h = saved lent
  called (adds a) h = added a
