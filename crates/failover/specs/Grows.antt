-- A frame uses nothing that begins above its number: additions and frames change places. Document 02, T-12. Assumes
-- nothing.
use Rattle.std.specs.Prelude.{ℕ, zero, suc, ◌+◌, ◌≤◌, ◌<◌, ◌≡◌, refl, Bool, true, false, List, [], ◌∷◌, ◌++◌, length}
use Rattle.std.proofs.Common.{sym, ap, ◌∙◌, subst, arith, le-leb}
use Rattle.std.proofs.Math.Option.{some}
use Rattle.laws.specs.TestsLaws.{and_both}
use Rattle.laws.specs.Loops.{every}
use Rattle.octets.specs.Little.{is_octet}
use Rattle.sessions.specs.Machine.{Machine, Line, Outcome, refused, done, Executes, last_number}
use Rattle.sessions.specs.Additions.{Growing}
use Rattle.model.specs.Types.{Model}
use Rattle.model.specs.Frames.{Body}
use Rattle.model.specs.Step.{act}
use Rattle.model.specs.Sound.{sound_model}
use Rattle.steps.specs.FactsLaws.{up-to-holds}
use Rattle.steps.specs.ExecutedLaws.{position-suc, prefix-stays}
use Rattle.steps.proofs.KeepsLaws.{keeps}
use Rattle.failover.specs.ReadLaws.{body-octets}
use Rattle.editions.specs.Editions.{Edition, Gateway, with_prefix, prefix_for, sound_edition, sound_editions, sound_gateway, beside, act_on, last_from, add_edition, most_editions}
use Rattle.editions.specs.Engine.{gateways, Addition}
use Rattle.editions.proofs.FactsLaws.{prefix-above, prefix-fits, prefixed-sound, more-sound, Parts, parts-of, parts-sound, Accepted, with, accepts, Added, added}

-- a frame that is done is done by the core, and leaves the editions
pub record Besides (es : List Edition) (o : Outcome Model) (t : Gateway) (w : List ℕ) : Type 0 where
  pub core : o ≡ done t.core w
  pub editions : t.editions ≡ es

pub refused≢done : (n : ℕ) (t : Gateway) (a : List ℕ) → refused n ≡ done t a → ⊥
refused≢done n t a h = let z : ◌≡◌ {A = ℕ} 0 1 = cc in omega arith

done-state : {S : Type 0} (s t : S) (a b : List ℕ) → done s a ≡ done t b → s ≡ t
done-state s t a b e = cc

done-wrote : {S : Type 0} (s t : S) (a b : List ℕ) → done s a ≡ done t b → a ≡ b
done-wrote s t a b e = cc

pub besides : (es : List Edition) (o : Outcome Model) (t : Gateway) (w : List ℕ) → beside es o ≡ done t w
    → Besides es o t w
unfolding beside
besides es (refused n) t w e = absurd (refused≢done n t w e)
besides es (done m v) t w e =
    let s : record { core = m; editions = es } ≡ t = done-state _ t v w e in
    let u : v ≡ w = done-wrote (record { core = m; editions = es }) t v w e in
    record { core = rw (u, ap (λ (g : Gateway). g.core) s); editions = sym (ap (λ (g : Gateway). g.editions) s) }

-- what an executed frame leaves
pub record Went (s t : Gateway) (x : Line Body) (w : List ℕ) : Type 0 where
  pub position : t.core.position ≡ suc s.core.position
  pub editions : t.editions ≡ s.editions
  pub core : act (with_prefix s.core (prefix_for (suc s.core.position) s.editions)) x.body ≡ done
      t.core w
  pub sound : sound_gateway t ≡ true

pub went : (s t : Gateway) (x : Line Body) (w : List ℕ) → Executes gateways s x t w → Went s t x w
unfolding act_on with_prefix
went s t x w e =
    let m : Model = with_prefix s.core (prefix_for (suc s.core.position) s.editions) in
    let b : Besides s.editions (act m x.body) t w = besides s.editions (act m x.body) t w e.acts in
    let p : Parts s = parts-of s e.before in
    let n : t.core.position ≡ suc s.core.position = position-suc m t.core x.body w b.core in
    let k : sound_model t.core ≡ true =
    keeps m t.core x.body w (prefixed-sound s.core _ p.core (prefix-fits _ s.editions p.editions))
    e.room
    (body-octets e.form e.raw x e.given) b.core in
    let f : t.core.prefix ≡ prefix_for t.core.position t.editions =
    prefix-stays m t.core x.body w b.core ∙ rw (n, b.editions) in
    record {
      position = n;
      editions = b.editions;
      core = b.core;
      sound = parts-sound t (record { core = k; editions = rw b.editions p.editions; force = f });
    }

-- one more leaves a sound state sound
pub with-sound : (g : Gateway) (a : Addition) → Accepted g a.edition → sound_gateway (with g a.edition) ≡ true
unfolding with sound_edition
with-sound g a c =
    let p : Parts g = parts-of g c.sound in
    let o : sound_edition a.edition ≡ true =
    and_both (le-leb a.edition.from last_number a.fits)
    (up-to-holds _ a.edition.prefix c.short a.octets) in
    parts-sound (with g a.edition) (record {
      core = p.core;
      editions = more-sound g.editions a.edition p.editions c.above-last c.room o;
      force = p.force ∙ sym (prefix-above g.core.position g.editions a.edition c.above-position);
    })

-- the same frame on a state with one edition more that begins above its number
pub on-with : (s t : Gateway) (x : Line Body) (w : List ℕ) (e : Edition) → suc s.core.position < e.from
    → t.editions ≡ s.editions
    → act (with_prefix s.core (prefix_for (suc s.core.position) s.editions)) x.body ≡ done t.core w
    → act_on (with s e) x.body ≡ done (with t e) w
unfolding act_on with beside
on-with s t x w e h q c = rw (prefix-above (suc s.core.position) s.editions e h, c, q)

pub with-position : (g : Gateway) (e : Edition) → (with g e).core.position ≡ g.core.position
unfolding with
with-position g e = refl

-- what is accepted after a frame is accepted before it
pub before : (s t u : Gateway) (x : Line Body) (w : List ℕ) (a : Addition) → Executes gateways s x t w
    → Added t a.edition u []
    → (v : Gateway) × (add_edition s a.edition ≡ done v []) × Executes gateways v x u w
before s t u x w a ex d =
    let g : Went s t x w = went s t x w ex in
    let n : t.core.position ≡ suc s.core.position = g.position in
    let q : t.core.position < a.edition.from = d.accepted.above-position in
    let c : Accepted s a.edition =
    record {
      sound = ex.before;
      short = d.accepted.short;
      above-last = subst (λ (es : List Edition). last_from 0 es < a.edition.from) g.editions
          d.accepted.above-last;
      above-position = omega arith;
      room = subst (λ (es : List Edition). length es < most_editions) g.editions d.accepted.room;
    } in (
      with s a.edition,
      accepts s a.edition c,
      record {
        form = ex.form;
        raw = ex.raw;
        given = ex.given;
        before = with-sound s a c;
        next = ex.next ∙ ap suc (sym (with-position s a.edition));
        room = subst (λ (k : ℕ). k < last_number) (sym (with-position s a.edition)) ex.room;
        acts = on-with s t x w a.edition (omega arith) g.editions g.core
            ∙ ap (λ (o : Gateway). done o w) d.state;
      },
    )

rebuilt : (u : Gateway) (es : List Edition) → u.editions ≡ es → record { core = u.core; editions = es } ≡ u
rebuilt u es q = ap (λ (l : List Edition). record { core = u.core; editions = l }) (sym q)

-- what is accepted before a frame with a smaller number is accepted after it
pub behind : (s v u : Gateway) (x : Line Body) (w : List ℕ) (a : Addition) → Added s a.edition v []
    → Executes gateways v x u w → x.num < a.edition.from
    → (t : Gateway) × Executes gateways s x t w × (add_edition t a.edition ≡ done u [])
unfolding with act_on beside
behind s v u x w a d ex h =
    let e : Edition = a.edition in
    let t : Gateway = record { core = u.core; editions = s.editions } in
    let c : Accepted s e = d.accepted in
    let i : s.core ≡ v.core = ap (λ (g : Gateway). g.core) d.state in
    let j : s.editions ++ (e ∷ []) ≡ v.editions = ap (λ (g : Gateway). g.editions) d.state in
    let k : s.core.position ≡ v.core.position = ap (λ (m : Model). m.position) i in
    let y : x.num ≡ suc v.core.position = ex.next in
    let g : Went v u x w = went v u x w ex in
    let r : act (with_prefix s.core (prefix_for (suc s.core.position) s.editions)) x.body
    ≡ done u.core w =
    rw (← (prefix-above (suc s.core.position) s.editions e (omega arith)), i, j) g.core in
    let z : act_on s x.body ≡ done t w = rw r in
    let f : Executes gateways s x t w =
    record {
      form = ex.form;
      raw = ex.raw;
      given = ex.given;
      before = c.sound;
      next = omega arith;
      room = rw k ex.room;
      acts = z;
    } in
    let o : Went s t x w = went s t x w f in
    let n : t.core.position ≡ suc s.core.position = o.position in
    let b : Accepted t e =
    record {
      sound = o.sound;
      short = c.short;
      above-last = c.above-last;
      above-position = omega arith;
      room = c.room;
    } in
    (t, f, accepts t e b ∙ ap (λ (q : Gateway). done q []) (rebuilt u (s.editions ++ (e ∷ [])) (g.editions ∙ sym j)))

abbrev pub growing : Growing gateways
growing =
    record {
      A = Addition;
      number = λ a. a.edition.from;
      add = λ g a. add_edition g a.edition;
      stays = λ s t a w e. let d =
          added s a.edition t w e in ap (λ (g : Gateway). g.core.position) (sym d.state)
          ∙ with-position s a.edition;
      keeps = λ s t a w e g. let d =
          added s a.edition t w e in subst (λ (u : Gateway). sound_gateway u ≡ true) d.state
          (with-sound s a d.accepted);
      above = λ s t a w e. (added s a.edition t w e).accepted.above-position;
      silent = λ s t a w e. (added s a.edition t w e).wrote;
      earlier = λ s t u x w a ex e. before s t u x w a ex (added t a.edition u [] e);
      later = λ s v u x w a good e ex h. behind s v u x w a (added s a.edition v [] e) ex h;
    }
