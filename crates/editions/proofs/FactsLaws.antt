-- Facts of editions: which is in force, what a sound list of them keeps, when one more is accepted. Document 02,
-- T-12. Assumes nothing.
use Rattle.std.specs.Prelude.{ℕ, zero, suc, ◌+◌, ◌≤◌, ◌<◌, ◌≡◌, refl, List, [], ◌∷◌, ◌++◌, leb, ltb, eqb, length}
use Rattle.std.proofs.Common.{sym, ap, ◌∙◌, arith, leb-true, ltb-true, eqb-true, leb-false, ltb-false, le-leb, lt-ltb, le-ltb, eq-eqb, length-append}
use mathlib.Core.Bool.{Bool, true, false, ◌&&◌, ◌||◌, not}
use Rattle.std.proofs.lemmas.Bool.{lt-leb}
use Rattle.laws.specs.Tests.{pick, sames}
use Rattle.laws.specs.TestsLaws.{and_left, and_right, and_both, sames-eq, eq-sames}
use Rattle.laws.specs.Loops.{every}
use Rattle.laws.specs.LoopsLaws.{every_append}
use Rattle.octets.specs.Little.{is_octet}
use Rattle.sessions.specs.Machine.{Outcome, refused, done, last_number}
use Rattle.sessions.specs.Session.{refuse_if}
use Rattle.model.specs.Types.{Model}
use Rattle.model.specs.Sound.{sound_model, sound_settings, octets_up_to}
use Rattle.model.specs.Layout.{most_prefix}
use Rattle.steps.specs.FactsLaws.{up-to, up-to-holds, Settings, settings-of, settings-hold}
use Rattle.steps.specs.WholeLaws.{Sound}
use Rattle.steps.proofs.WholeLaws.{sound-of, sound-holds}
use Rattle.editions.specs.Editions.{Edition, Gateway, with_prefix, most_editions, in_force, prefix_for, rising, sound_edition, sound_editions, sound_gateway, last_from, add_edition}

-- an edition that begins above a frame's number does not concern it
pub in-force-above : (p : List ℕ) (n : ℕ) (es : List Edition) (e : Edition) → n < e.from
    → in_force p n (es ++ (e ∷ [])) ≡ in_force p n es
unfolding in_force pick
in-force-above p n [] e h = rw (lt-leb e.from n h)
in-force-above p n (d ∷ es) e h = in-force-above (pick (leb d.from n) d.prefix p) n es e h

pub prefix-above : (n : ℕ) (es : List Edition) (e : Edition) → n < e.from
    → prefix_for n (es ++ (e ∷ [])) ≡ prefix_for n es
unfolding prefix_for
prefix-above n es e h = in-force-above [] n es e h

-- what is in force is one of them, or what was before them: a prefix in range
in-force-fits : (p : List ℕ) (n : ℕ) (es : List Edition) → octets_up_to most_prefix p ≡ true
    → every sound_edition es ≡ true
    → octets_up_to most_prefix (in_force p n es) ≡ true
unfolding in_force every sound_edition pick
in-force-fits p n [] h s = h
in-force-fits p n (e ∷ es) h s =
    let own : sound_edition e ≡ true = and_left (sound_edition e) (every sound_edition es) s in
    in-force-fits (pick (leb e.from n) e.prefix p) n es
    (choose (leb e.from n) (and_right (leb e.from last_number) (octets_up_to most_prefix e.prefix) own) h)
    (and_right (sound_edition e) (every sound_edition es) s)
  where
    choose : (b : Bool) → octets_up_to most_prefix e.prefix ≡ true → octets_up_to most_prefix p ≡ true
        → octets_up_to most_prefix (pick b e.prefix p) ≡ true
    choose true x y = x
    choose false x y = y

-- what a sound list of editions is
pub record Kept (es : List Edition) : Type 0 where
  pub room : length es ≤ most_editions
  pub fit : every sound_edition es ≡ true

pub kept_of_lem : (es : List Edition) → sound_editions es ≡ true → Kept es
unfolding sound_editions every
kept_of_lem [] s = record { room = omega arith; fit = refl }
kept_of_lem (e ∷ es) s =
    let l = and_left (eqb e.from 0 && rising 0 es && leb (length (e ∷ es)) most_editions)
    (every sound_edition (e ∷ es)) s in
    record {
      room = leb-true (length (e ∷ es)) most_editions
          (and_right (eqb e.from 0 && rising 0 es) (leb (length (e ∷ es)) most_editions) l);
      fit = and_right (eqb e.from 0 && rising 0 es && leb (length (e ∷ es)) most_editions)
          (every sound_edition (e ∷ es)) s;
    }

pub prefix-fits : (n : ℕ) (es : List Edition) → sound_editions es ≡ true → octets_up_to most_prefix (prefix_for n es) ≡ true
unfolding prefix_for octets_up_to every
prefix-fits n es s = in-force-fits [] n es refl (kept_of_lem es s).fit

-- one more behind them
rising-more : (k : ℕ) (es : List Edition) (e : Edition) → rising k es ≡ true → last_from k es < e.from
    → rising k (es ++ (e ∷ [])) ≡ true
unfolding rising last_from
rising-more k [] e r h = and_both (lt-ltb k e.from h) refl
rising-more k (d ∷ es) e r h =
    and_both (and_left (ltb k d.from) (rising d.from es) r)
    (rising-more d.from es e (and_right (ltb k d.from) (rising d.from es) r) h)

pub more-sound : (es : List Edition) (e : Edition) → sound_editions es ≡ true → last_from 0 es < e.from
    → length es < most_editions
    → sound_edition e ≡ true → sound_editions (es ++ (e ∷ [])) ≡ true
unfolding sound_editions last_from every
more-sound [] e s h l o = absurd (mathlib.Core.Bool.false≢true s)
more-sound (d ∷ es) e s h l o =
    let k : Kept (d ∷ es) = kept_of_lem (d ∷ es) s in
    let a = and_left (eqb d.from 0 && rising 0 es && leb (length (d ∷ es)) most_editions)
    (every sound_edition (d ∷ es)) s in
    let b = and_left (eqb d.from 0 && rising 0 es) (leb (length (d ∷ es)) most_editions) a in
    let z : d.from ≡ 0 = eqb-true d.from 0 (and_left (eqb d.from 0) (rising 0 es) b) in
    let n : length (d ∷ (es ++ (e ∷ []))) ≡ length (d ∷ es) + 1 = length-append (d ∷ es) (e ∷ []) in
    and_both
    (and_both
    (and_both (and_left (eqb d.from 0) (rising 0 es) b)
    (rising-more 0 es e (and_right (eqb d.from 0) (rising 0 es) b) (rw z at h)))
    (le-leb (length (d ∷ (es ++ (e ∷ [])))) most_editions (omega arith)))
    (every_append sound_edition (d ∷ es) (e ∷ []) ∙ and_both k.fit (and_both o refl))

-- a core with another prefix in range
pub prefixed-sound : (m : Model) (p : List ℕ) → sound_model m ≡ true → octets_up_to most_prefix p ≡ true
    → sound_model (with_prefix m p) ≡ true
unfolding with_prefix
prefixed-sound m p s o =
    let f : Sound m = sound-of m s in
    let g : Settings m.opcode m.prefix = settings-of m.opcode m.prefix f.settings in
    let u = up-to most_prefix p o in
    sound-holds (with_prefix m p) (record {
      position-most = f.position-most;
      filter-most = f.filter-most;
      settings = settings-hold m.opcode p
          (record {
            opcode-least = g.opcode-least;
            opcode-most = g.opcode-most;
            prefix-short = u.0;
            prefix-octets = u.1;
          });
      monitors = f.monitors;
      pairs = f.pairs;
    })

-- a sound state, by its parts
pub record Parts (g : Gateway) : Type 0 where
  pub core : sound_model g.core ≡ true
  pub editions : sound_editions g.editions ≡ true
  pub force : g.core.prefix ≡ prefix_for g.core.position g.editions

pub parts-of : (g : Gateway) → sound_gateway g ≡ true → Parts g
unfolding sound_gateway
parts-of g s =
    let a = and_left (sound_model g.core && sound_editions g.editions)
    (sames g.core.prefix (prefix_for g.core.position g.editions)) s in
    let b = and_right (sound_model g.core && sound_editions g.editions)
    (sames g.core.prefix (prefix_for g.core.position g.editions)) s in
    record {
      core = and_left (sound_model g.core) (sound_editions g.editions) a;
      editions = and_right (sound_model g.core) (sound_editions g.editions) a;
      force = sames-eq g.core.prefix (prefix_for g.core.position g.editions) b;
    }

pub parts-sound : (g : Gateway) → Parts g → sound_gateway g ≡ true
unfolding sound_gateway
parts-sound g p =
    and_both (and_both p.core p.editions)
    (eq-sames g.core.prefix (prefix_for g.core.position g.editions) p.force)

-- when one more is accepted: past 7, 15, 14 and 13
pub record Accepted (g : Gateway) (e : Edition) : Type 0 where
  pub sound : sound_gateway g ≡ true
  pub short : length e.prefix ≤ most_prefix
  pub above-last : last_from 0 g.editions < e.from
  pub above-position : g.core.position < e.from
  pub room : length g.editions < most_editions

unfoldable pub with : Gateway → Edition → Gateway
with g e = record { core = g.core; editions = g.editions ++ (e ∷ []) }

pub accepts : (g : Gateway) (e : Edition) → Accepted g e → add_edition g e ≡ done (with g e) []
unfolding add_edition refuse_if with
accepts g e a =
    rw (
      a.sound,
      le-ltb most_prefix (length e.prefix) a.short,
      lt-leb e.from (last_from 0 g.editions) a.above-last,
      lt-leb e.from g.core.position a.above-position,
      lt-leb most_editions (length g.editions) a.room,
    )

pub record Added (g : Gateway) (e : Edition) (t : Gateway) (w : List ℕ) : Type 0 where
  pub accepted : Accepted g e
  pub state : with g e ≡ t
  pub wrote : w ≡ []

refused≢done : (n : ℕ) (t : Gateway) (a : List ℕ) → refused n ≡ done t a → ⊥
refused≢done n t a h = let z : ◌≡◌ {A = ℕ} 0 1 = cc in omega arith

pub added : (g : Gateway) (e : Edition) (t : Gateway) (w : List ℕ) → add_edition g e ≡ done t w → Added g e t w
unfolding add_edition refuse_if with
added g e t w h =
    go (sound_gateway g) (ltb most_prefix (length e.prefix)) (leb e.from (last_from 0 g.editions))
    (leb e.from g.core.position)
    (leb most_editions (length g.editions)) refl refl refl refl refl h
  where
    go : (b7 b15 c d b13 : Bool) → sound_gateway g ≡ b7 → ltb most_prefix (length e.prefix) ≡ b15
        → leb e.from (last_from 0 g.editions) ≡ c
        → leb e.from g.core.position ≡ d → leb most_editions (length g.editions) ≡ b13
        → refuse_if (not b7) 7 (refuse_if b15 15 (refuse_if (c || d) 14 (refuse_if b13 13 (done (with g e) []))))
        ≡ done t w → Added g e t w
    go false b15 c d b13 p7 p15 pc pd p13 q = absurd (refused≢done 7 t w q)
    go true true c d b13 p7 p15 pc pd p13 q = absurd (refused≢done 15 t w q)
    go true false true d b13 p7 p15 pc pd p13 q = absurd (refused≢done 14 t w q)
    go true false false true b13 p7 p15 pc pd p13 q = absurd (refused≢done 14 t w q)
    go true false false false true p7 p15 pc pd p13 q = absurd (refused≢done 13 t w q)
    go true false false false false p7 p15 pc pd p13 q =
        record {
          accepted = record {
            sound = p7;
            short = ltb-false most_prefix (length e.prefix) p15;
            above-last = leb-false e.from (last_from 0 g.editions) pc;
            above-position = leb-false e.from g.core.position pd;
            room = leb-false most_editions (length g.editions) p13;
          };
          state = cc;
          wrote = cc;
        }
