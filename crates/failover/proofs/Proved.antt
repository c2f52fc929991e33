-- Demand 3 with additions holds: `demand3`, for all settings in range and every list of calls. Document 02, T-12.
-- Definitions of the proofs alone stand here too: step_on, shows_on. Assumes nothing.
use Rattle.std.specs.Prelude.{ℕ, zero, suc, ◌+◌, ◌≡◌, Bool, cond, length, eqb}
use Rattle.std.proofs.Math.Path.{refl, ap, subst}
use Rattle.std.proofs.Common.{sym, ◌∙◌, arith, drop_of_length-le}
use Rattle.std.proofs.Math.Bool.{true, false}
use mathlib.Core.List.{List, [], ◌∷◌, ◌++◌, map, flatten, reverse, reverse_aux, reverse_aux-eq}
use Rattle.std.proofs.lemmas.List.{length-map}
use Rattle.std.proofs.Math.Option.{Option, none, some}
use Rattle.laws.specs.Tests.{pick}
use Rattle.laws.specs.Loops.{every}
use Rattle.rule.specs.Engine.{fresh as core_fresh, State}
use Rattle.rule.specs.Radio.{Frame}
use Rattle.rule.specs.Claim.{ByHistory}
use Rattle.rule.proofs.ShowsLaws.{Shows, Ran}
use Rattle.history.proofs.ShownLaws.{shown-history}
use Rattle.sessions.specs.Machine.{Laws, Line, Executes, Outcome, refused, done, last_number, text}
use Rattle.sessions.specs.Session.{give, Entry, entries, state_after, answer, reply, ran, from_frame, lines_of}
use Rattle.sessions.specs.Saved.{Replayed, with_answer, resume, cut, cut_from}
use Rattle.sessions.proofs.RunsLaws.{Run, run_sound}
use Rattle.sessions.specs.Additions.{Growing, Act, call, adds, reply_to, after_act, walk_on, ran_by, trace_on, added_on, Step, line, again, lines_in, added_in, resume_add, replay_on, frames_on, journal_on}
use Rattle.sessions.proofs.WovenLaws.{Grown, not-empty}
use Rattle.sessions.proofs.GivenLaws.{Fronted, fronted, walk-on, trace-on, taken-over}
use Rattle.model.specs.Types.{Model, fresh}
use Rattle.model.specs.Frames.{Body, typed, read}
use Rattle.model.specs.Step.{step_typed}
use Rattle.model.specs.Sound.{sound_settings, sound_model, octets_up_to}
use Rattle.model.proofs.Radio.{radio, core}
use Rattle.steps.specs.ExecutedLaws.{executed as executed-step, Executed}
use Rattle.steps.proofs.KeepsLaws.{fresh-sound}
use Rattle.steps.specs.FactsLaws.{Settings, settings-of, up-to-holds}
use Rattle.model.specs.Layout.{most_prefix}
use Rattle.failover.specs.View.{view_pair}
use Rattle.failover.specs.View.{view}
use Rattle.failover.specs.AgreeLaws.{agree}
use Rattle.failover.specs.ReadLaws.{fits, reads, one_line}
use Rattle.failover.specs.Demand3.{replay_adds as adds_frames, pairs_in}
use Rattle.failover.proofs.ProofLaws.{bodies}
use Rattle.editions.specs.Editions.{Edition, Gateway, with_prefix, prefix_for, in_force, rising, sound_edition, sound_editions, sound_gateway, fresh_on, add_edition, image_on, held_on}
use Rattle.editions.specs.Engine.{gateways, Addition}
use Rattle.editions.proofs.FactsLaws.{prefix-fits, prefixed-sound, Parts, parts-of, parts-sound, Added, added, with}
use Rattle.failover.specs.Grows.{Went, went, growing}
use Rattle.editions.proofs.ImagesLaws.{restores, held-image}
use Rattle.failover.specs.Claim.{Demand3, past_on, on_added, ran_on, past_given}

pub laws : Laws gateways
laws =
    record {
      advance = λ s t x a e. (went s t x a e).position;
      keeps = λ s t x a e. (went s t x a e).sound;
      restores = restores;
      fits = fits;
      reads = reads;
      one_line = one_line;
    }

-- the core of a state is what the history rule sees
unfoldable pub step_on : Gateway → Body → Gateway
step_on g b =
    record {
      core = step_typed (with_prefix g.core (prefix_for (suc g.core.position) g.editions)) (typed b);
      editions = g.editions;
    }

pub agree_on : (g : Gateway) (b : Body) → sound_gateway g ≡ true
    → view (step_on g b).core ≡ Rattle.rule.specs.Engine.step radio (view g.core) (core b)
unfolding step_on with_prefix view
agree_on g b s =
    let p : Parts g = parts-of g s in
    agree (with_prefix g.core (prefix_for (suc g.core.position) g.editions)) b
    (prefixed-sound g.core _ p.core (prefix-fits _ g.editions p.editions))

abbrev pub shows_on : Shows radio Gateway Body
shows_on = record {
  step = step_on;
  May = λ g b. sound_gateway g ≡ true;
  view = λ g. view g.core;
  core = core;
  agree = agree_on;
}

-- a run reaches its end by its frames
run_ran : (b : Gateway) (p : List Body) (s u : Gateway) (es : List (Entry Body)) → Run gateways s es u
    → Ran radio Gateway Body shows_on b p s
    → Ran radio Gateway Body shows_on b
    (reverse_aux (map (λ (x : Line Body). x.body) (map (λ (e : Entry Body). e.line) es)) p) u
unfolding step_on
run_ran b p s u [] r h = subst (Ran radio Gateway Body shows_on b p) r h
run_ran b p s u (e ∷ es) r h =
    let w : Went s r.0 e.line e.wrote = went s r.0 e.line e.wrote r.1 in
    let m : Model = with_prefix s.core (prefix_for (suc s.core.position) s.editions) in
    let x : Executed m (typed e.line.body) r.0.core e.wrote =
    executed-step m r.0.core e.line.body e.wrote w.core in
    let q : r.0 ≡ step_on s e.line.body = rebuilt r.0 w.editions (sym x.state) in
    run_ran b (e.line.body ∷ p) r.0 u es r.2 (s, h, r.1.before, q)
  where
    rebuilt : (t : Gateway) {es : List Edition} {n : Model} → t.editions ≡ es → t.core ≡ n
        → t ≡ record { core = n; editions = es }
    rebuilt t q i = rw (← q, ← i)

-- additions leave the core
pub grown-core : (al : List Addition) (s v : Gateway) → Grown gateways laws growing s al v → v.core ≡ s.core
unfolding with
grown-core [] s v g = ap (λ (x : Gateway). x.core) (sym g)
grown-core (a ∷ al) s v g =
    let d : Added s a.edition g.0 [] = added s a.edition g.0 [] g.1 in
    grown-core al g.0 v g.2 ∙ ap (λ (x : Gateway). x.core) (sym d.state)

pub grown-sound : (al : List Addition) (s v : Gateway) → Grown gateways laws growing s al v → sound_gateway s ≡ true
    → sound_gateway v ≡ true
grown-sound [] s v g h = subst (λ (x : Gateway). sound_gateway x ≡ true) g h
grown-sound (a ∷ al) s v g h = grown-sound al g.0 v g.2 (growing.keeps s g.0 a [] g.1 h)

pub fresh-editions : (prefix : List ℕ) → octets_up_to most_prefix prefix ≡ true
    → sound_editions (record { from = 0; prefix = prefix } ∷ []) ≡ true
unfolding sound_editions rising every sound_edition last_number
fresh-editions prefix o = rw o

pub fresh-gateway : (opcode : ℕ) (prefix : List ℕ) → sound_settings opcode prefix ≡ true
    → sound_gateway (fresh_on opcode prefix) ≡ true
unfolding fresh_on fresh prefix_for in_force pick
fresh-gateway opcode prefix ok =
    let s : Settings opcode prefix = settings-of opcode prefix ok in
    parts-sound (fresh_on opcode prefix) (record {
      core = fresh-sound opcode prefix ok;
      editions = fresh-editions prefix (up-to-holds most_prefix prefix s.prefix-short s.prefix-octets);
      force = refl;
    })

module _ (opcode : ℕ) (prefix : List ℕ) (ok : sound_settings opcode prefix ≡ true)
    (calls : List (Act gateways growing)) where
  abbrev start : Gateway
  start = fresh_on opcode prefix

  abbrev end : Gateway
  end = walk_on gateways growing start calls

  fresh-view : view start.core ≡ core_fresh radio
  unfolding fresh_on view fresh
  fresh-view = refl

  history-holds : ByHistory radio (past_on opcode prefix calls) (pairs_in (image_on end))
  unfolding past_on pairs_in held_on view
  history-holds =
      let f : Fronted gateways laws growing start calls = fronted gateways laws growing start calls in
      let c : f.begins.core ≡ start.core =
      grown-core (added_on gateways growing start calls) start f.begins f.grown in
      let g : sound_gateway f.begins ≡ true =
      grown-sound (added_on gateways growing start calls) start f.begins f.grown
      (fresh-gateway opcode prefix ok) in
      let es : List (Entry Body) = trace_on gateways growing start calls in
      let e : sound_gateway end ≡ true = run_sound gateways laws f.begins end es f.run g in
      let r = run_ran f.begins [] f.begins end es f.run refl in
      let h = shown-history radio Gateway Body shows_on f.begins (ap view c ∙ fresh-view)
      (reverse (map (λ (x : Line Body). x.body) (map (λ (y : Entry Body). y.line) es))) end r in
      subst (ByHistory radio
      (map core (reverse (map (λ (x : Line Body). x.body) (map (λ (y : Entry Body). y.line) es)))))
      (sym (ap (λ (x : Gateway). map view_pair x.core.pairs) (held-image end e))) h

-- what replay of lines and additions reaches and executes, from a state, is what some calls do
abbrev AsActs : Gateway → Replayed Gateway → List (Entry Body) → Type 0
AsActs s r es = (cs : List (Act gateways growing)) × (r.state ≡ walk_on gateways growing s cs)
    × (es ≡ trace_on gateways growing s cs)

-- a line or an addition by its outcome, and what follows it
module _ (s : Gateway) (more : Gateway → Replayed Gateway) (further : Gateway → List (Entry Body))
    (f : (t : Gateway) → AsActs t (more t) (further t)) where
  line_made : (k : ℕ) (l : List ℕ) (o : Outcome Gateway) → answer gateways k s text l ≡ o
      → AsActs s (resume s o more) (adds_frames s (read text l) o further)
  unfolding resume with_answer adds_frames walk_on trace_on ran_by after_act reply_to reply ran state_after
  line_made k l (done t a) e =
      let cs : List (Act gateways growing) = (f t).0 in (
        call (give k text l) ∷ cs,
        (f t).1 ∙ ap (λ (o : Outcome Gateway). walk_on gateways growing (state_after s o) cs) (sym e),
        ap (λ (x : List (Entry Body)). entries (read text l) (done t a) ++ x) (f t).2
            ∙ ap (λ (o : Outcome Gateway). entries (read text l) o ++ trace_on gateways growing (state_after s o) cs)
            (sym e),
      )
  line_made k l (refused n) e = go (eqb n 1)
    where
      go : (b : Bool) → AsActs s (cond b (more s) (record { state = s; answers = []; stop = some n }))
          (cond b (further s) [])
      go true = f s
      go false = ([], refl, refl)

  add-made : (a : Addition) (o : Outcome Gateway) → add_edition s a.edition ≡ o
      → AsActs s (resume_add gateways growing s o more) (on_added o further)
  unfolding resume_add on_added walk_on trace_on ran_by after_act reply_to state_after
  add-made a (done t w) e =
      let cs : List (Act gateways growing) = (f t).0 in (
        adds a ∷ cs,
        (f t).1 ∙ ap (λ (o : Outcome Gateway). walk_on gateways growing (state_after s o) cs) (sym e),
        (f t).2 ∙ ap (λ (o : Outcome Gateway). trace_on gateways growing (state_after s o) cs) (sym e),
      )
  add-made a (refused n) e = ([], refl, refl)

as-acts : (lent : ℕ → ℕ) (s : Gateway) (p : List (Step gateways growing))
    → AsActs s (replay_on gateways growing lent s p) (ran_on lent s p)
unfolding replay_on ran_on walk_on trace_on
as-acts lent s [] = ([], refl, refl)
as-acts lent s (line l ∷ p) =
    line_made s (λ t. replay_on gateways growing (λ i. lent (suc i)) t p) (λ t. ran_on (λ i. lent (suc i)) t p)
    (λ t. as-acts (λ i. lent (suc i)) t p) (lent zero) l (answer gateways (lent zero) s text l) refl
as-acts lent s (again a ∷ p) =
    add-made s (λ t. replay_on gateways growing lent t p) (λ t. ran_on lent t p) (λ t. as-acts lent t p) a
    (add_edition s a.edition) refl

map-core : (xs ys : List Body) → map core (xs ++ ys) ≡ map core xs ++ map core ys
map-core [] ys = refl
map-core (x ∷ xs) ys = ap (λ (l : List (Frame radio)). core x ∷ l) (map-core xs ys)

-- the past after further calls: what they executed, before the past that was
past-then : (opcode : ℕ) (prefix : List ℕ) (before cs : List (Act gateways growing))
    → past_on opcode prefix (before ++ cs)
    ≡ map core (reverse
    (map (λ (e : Entry Body). e.line.body)
    (trace_on gateways growing (walk_on gateways growing (fresh_on opcode prefix) before) cs)))
    ++ past_on opcode prefix before
unfolding past_on
past-then opcode prefix before cs =
    let s : Gateway = fresh_on opcode prefix in
    let es : List (Entry Body) = trace_on gateways growing s before in
    let fs : List (Entry Body) = trace_on gateways growing (walk_on gateways growing s before) cs in
    let old : List Body = reverse (map (λ (x : Line Body). x.body) (map (λ (e : Entry Body). e.line) es)) in
    ap (λ (xs : List (Entry Body)). map core
    (reverse (map (λ (x : Line Body). x.body) (map (λ (e : Entry Body). e.line) xs))))
    (trace-on gateways laws growing s before cs)
    ∙ ap (map core) (bodies es fs [] ∙ reverse_aux-eq (map (λ (e : Entry Body). e.line.body) fs) old)
    ∙ map-core (reverse (map (λ (e : Entry Body). e.line.body) fs)) old

replayed-holds : (opcode : ℕ) (prefix : List ℕ) → sound_settings opcode prefix ≡ true
    → (before : List (Act gateways growing)) (lent : ℕ → ℕ) (at : Gateway)
    (p : List (Step gateways growing)) → at ≡ walk_on gateways growing (fresh_on opcode prefix) before
    → ByHistory radio (past_given opcode prefix before lent at p)
    (pairs_in (image_on (replay_on gateways growing lent at p).state))
unfolding past_given
replayed-holds opcode prefix ok before lent at p e =
    let s : Gateway = fresh_on opcode prefix in
    let c = as-acts lent at p in
    let cs : List (Act gateways growing) = c.0 in
    let w : (replay_on gateways growing lent at p).state ≡ walk_on gateways growing s (before ++ cs) =
    c.1 ∙ ap (λ (g : Gateway). walk_on gateways growing g cs) e ∙ sym (walk-on gateways laws growing s before cs) in
    let q : past_on opcode prefix (before ++ cs)
    ≡ map core (reverse (map (λ (x : Entry Body). x.line.body) (ran_on lent at p)))
    ++ past_on opcode prefix before =
    past-then opcode prefix before cs
    ∙ ap (λ (xs : List (Entry Body)). map core (reverse (map (λ (x : Entry Body). x.line.body) xs))
    ++ past_on opcode prefix before)
    (sym (c.2 ∙ ap (λ (g : Gateway). trace_on gateways growing g cs) e)) in
    subst (λ (g : Gateway). ByHistory radio
    (map core (reverse (map (λ (x : Entry Body). x.line.body) (ran_on lent at p)))
    ++ past_on opcode prefix before) (pairs_in (image_on g)))
    (sym w)
    (subst (λ (l : List (Frame radio)). ByHistory radio l
    (pairs_in (image_on (walk_on gateways growing s (before ++ cs))))) q
    (history-holds opcode prefix ok (before ++ cs)))

-- nothing is left of the frames behind the last one, and nothing is done where nothing is given
none_left : (xs : List (Line Body)) (n : ℕ) → n ≡ length xs → lines_of gateways (from_frame (n + 1) xs) ≡ []
unfolding lines_of from_frame flatten
none_left xs n e =
    ap (λ (i : ℕ). lines_of gateways (from_frame (i + 1) xs)) e
    ∙ ap (λ (i : ℕ). lines_of gateways (from_frame i xs)) (add-one (length xs))
    ∙ ap (λ (l : List (Line Body)). flatten (map gateways.write l))
    (drop_of_length-le xs {i = length xs} (omega arith))
  where
    add-one : (i : ℕ) → i + 1 ≡ suc i
    add-one i = omega arith

nothing-given : (lent : ℕ → ℕ) (at : Gateway) (p : List (Step gateways growing)) → lines_in gateways growing p ≡ []
    → added_in gateways growing p ≡ []
    → replay_on gateways growing lent at p ≡ record { state = at; answers = []; stop = none }
unfolding lines_in added_in replay_on
nothing-given lent at [] e f = refl
nothing-given lent at (line l ∷ p) e f = absurd (not-empty _ _ e)
nothing-given lent at (again a ∷ p) e f = absurd (not-empty _ _ f)

nothing-holds : (fresh : Gateway) (calls : List (Act gateways growing)) (j : ℕ)
    → j ≡ frames_on gateways growing fresh calls + 1 → (at : Gateway)
    (p : List (Step gateways growing)) → lines_in gateways growing p ≡ cut (journal_on gateways growing fresh calls j)
    → added_in gateways growing p ≡ [] → (lent : ℕ → ℕ)
    → replay_on gateways growing lent at p ≡ record { state = at; answers = []; stop = none }
unfolding frames_on journal_on cut cut_from
nothing-holds fresh calls j e at p l a lent =
    let xs : List (Line Body) = map (λ (x : Entry Body). x.line) (trace_on gateways growing fresh calls) in
    nothing-given lent at p
    (l ∙ ap (λ (i : ℕ). cut (lines_of gateways (from_frame i xs))) e
    ∙ ap cut (none_left xs (length (trace_on gateways growing fresh calls))
    (sym (length-map (trace_on gateways growing fresh calls) (λ (x : Entry Body). x.line))))) a

-- Demand 3 with additions, whole.
pub demand3 : (opcode : ℕ) (prefix : List ℕ) → sound_settings opcode prefix ≡ true
    → (calls : List (Act gateways growing)) → Demand3 opcode prefix calls
unfolding fresh_on fresh
demand3 opcode prefix ok calls =
    record {
      images = λ k img at later s. taken-over gateways laws growing
          (fresh_on opcode prefix) refl calls k img at later s;
      nothing = nothing-holds (fresh_on opcode prefix) calls;
      by-history = history-holds opcode prefix ok calls;
      replayed = λ k img at later s lent p. replayed-holds opcode prefix ok s.before lent at p s.state;
    }
