-- Any number of failovers: `failovers`, for all settings and every run. (Settings out of range give a state that is
-- not sound: every call is refused by 7, and the claim holds of that run too.) Document 02, T-14. Assumes nothing.
use Rattle.std.specs.Prelude.{ℕ, suc, ◌≡◌, true}
use Rattle.std.proofs.Math.Path.{refl, subst}
use Rattle.std.proofs.Common.{sym, ap, ◌∙◌}
use mathlib.Core.List.{List, [], ◌∷◌, ◌++◌, map, append_assoc}
use Rattle.rule.specs.Radio.{Frame}
use Rattle.rule.specs.Engine.{run, fresh as core_fresh}
use Rattle.rule.specs.Engine
use Rattle.sessions.specs.Machine.{Line, Executes}
use Rattle.sessions.specs.Session.{Entry}
use Rattle.sessions.proofs.RunsLaws.{Run}
use Rattle.sessions.specs.Additions.{Act, walk_on, trace_on, added_on, answers_on}
use Rattle.sessions.proofs.WovenLaws.{Grown}
use Rattle.sessions.proofs.GivenLaws.{Fronted, fronted}
use Rattle.model.specs.Types.{Model, fresh}
use Rattle.model.specs.Frames.{Body, typed}
use Rattle.model.specs.Sound.{sound_model}
use Rattle.model.proofs.Radio.{radio, core}
use Rattle.steps.specs.ExecutedLaws.{Executed}
use Rattle.steps.specs.ExecutedLaws
use Rattle.steps.specs.TypedLaws.{typed-formed}
use Rattle.editions.specs.Editions.{Edition, Gateway, with_prefix, prefix_for, fresh_on}
use Rattle.editions.specs.Engine.{gateways, Addition}
use Rattle.editions.proofs.FactsLaws.{prefix-fits, prefixed-sound, Parts, parts-of, Added, added, with}
use Rattle.failover.specs.View.{view}
use Rattle.failover.specs.ReadLaws.{body-octets}
use Rattle.failover.specs.Grows.{Went, went, growing}
use Rattle.failover.proofs.Proved.{laws, step_on, agree_on}
use Rattle.chains.specs.Chain.{Move, calls_of, begun, Proper, Unbroken}
use Rattle.chains.proofs.WholeLaws.{unbroken}
use Rattle.chains.specs.Told.{Tells}
use Rattle.chains.specs.CoreLaws.{says, told_by}
use Rattle.chains.proofs.Turns.{tells}
use Rattle.chains.specs.Hear.{events_read}
use Rattle.chains.proofs.ReadsLaws.{reads-back}
use Rattle.chains.specs.Failovers.{run_ends, known, told_in, Failovers}

-- An executed frame: its answer, read by the edition of its number, tells what the core engine says; the view moves
-- as the core does; the editions stay.
record One (es : List Edition) (s : Gateway) (x : Line Body) (t : Gateway) (wrote : List ℕ) : Type 0 where
  hears : events_read (prefix_for x.num es) wrote ≡ says radio (view s.core) (core x.body)
  moves : view t.core ≡ Engine.step radio (view s.core) (core x.body)
  stays : t.editions ≡ es

one : (es : List Edition) (s t : Gateway) (x : Line Body) (a : List ℕ) → Executes gateways s x t a → s.editions ≡ es
    → One es s x t a
unfolding core with_prefix view step_on
one es s t x a e q =
    let m : Model = with_prefix s.core (prefix_for (suc s.core.position) s.editions) in
    let w : Went s t x a = went s t x a e in
    let d : Executed m (typed x.body) t.core a = ExecutedLaws.executed m t.core x.body a w.core in
    let p : Parts s = parts-of s e.before in
    let good : sound_model m ≡ true = prefixed-sound s.core _ p.core
    (prefix-fits _ s.editions p.editions) in
    let r : events_read m.prefix a ≡ says radio (view m) (core x.body) =
    subst (λ l. events_read m.prefix l ≡ says radio (view m) (core x.body)) d.says
    (reads-back m (typed x.body) good (typed-formed x.body (body-octets e.form e.raw x e.given))) in
    let n : m.prefix ≡ prefix_for x.num es =
    ap (λ k. prefix_for k s.editions) (sym e.next) ∙ ap (prefix_for x.num) q in
    record {
      hears = subst (λ l. events_read l a ≡ says radio (view s.core) (core x.body)) n r;
      moves = ap view (sym d.state) ∙ agree_on s x.body e.before;
      stays = w.editions ∙ q;
    }

-- What the answers of a run of executed frames tell is what the core engine says of some past.
run-told : (ks : List Edition) (s u : Gateway) (es : List (Entry Body)) (past : List (Frame radio))
    → Run gateways s es u → s.editions ≡ ks
    → view s.core ≡ run radio past
    → (l : List (Frame radio))
    × (told_in ks (map (λ e. e.line) es) (map (λ e. e.wrote) es) (told_by radio past) ≡ told_by radio l)
unfolding told_in
run-told ks s u [] past r q v = (past, refl)
run-told ks s u (e ∷ es) past r q v =
    let f : Frame radio = core e.line.body in
    let o : One ks s e.line r.0 e.wrote = one ks s r.0 e.line e.wrote r.1 q in
    let ih = run-told ks r.0 u es (f ∷ past) r.2 o.stays (o.moves ∙ ap (λ c. Engine.step radio c f) v) in
    let h : events_read (prefix_for e.line.num ks) e.wrote ≡ says radio (run radio past) f =
    o.hears ∙ ap (λ c. says radio c f) v in (
      ih.0,
      ap (λ xs. told_in ks (map (λ e. e.line) es) (map (λ e. e.wrote) es) ((f, xs) ∷ told_by radio past)) h
          ∙ ih.1,
    )

-- What additions leave: the core, and one edition more each.
grown : (al : List Addition) (s v : Gateway) → Grown gateways laws growing s al v
    → (v.core ≡ s.core) × (v.editions ≡ s.editions ++ map (λ (a : Addition). a.edition) al)
unfolding with
grown [] s v g = (
  ap (λ (x : Gateway). x.core) (sym g),
  ap (λ (x : Gateway). x.editions) (sym g)
      ∙ sym (mathlib.Core.List.append-nil s.editions),
)
grown (a ∷ al) s v g =
    let d : Added s a.edition g.0 [] = added s a.edition g.0 [] g.1 in
    let r = grown al g.0 v g.2 in (
      r.0 ∙ ap (λ (x : Gateway). x.core) (sym d.state),
      r.1 ∙ ap (λ (x : Gateway). x.editions ++ map (λ (b : Addition). b.edition) al) (sym d.state)
          ∙ append_assoc s.editions (a.edition ∷ []) (map (λ (b : Addition). b.edition) al),
    )

module _ (opcode : ℕ) (prefix : List ℕ) where
  abbrev start : Gateway
  start = fresh_on opcode prefix

  fresh-view : view start.core ≡ core_fresh radio
  unfolding fresh_on view fresh
  fresh-view = refl

  -- The answers of every session tell what the history rule says.
  pub session-tells : (calls : List (Act gateways growing))
      → Tells radio (told_in (known prefix (added_on gateways growing start calls))
      (map (λ e. e.line) (trace_on gateways growing start calls))
      (answers_on gateways growing start calls) [])
  unfolding answers_on known fresh_on
  session-tells calls =
      let f : Fronted gateways laws growing start calls = fronted gateways laws growing start calls in
      let g = grown (added_on gateways growing start calls) start f.begins f.grown in
      let w = run-told (known prefix (added_on gateways growing start calls)) f.begins
      (walk_on gateways growing start calls)
      (trace_on gateways growing start calls) [] f.run g.1 (ap view g.0 ∙ fresh-view) in
      subst (Tells radio) (sym w.1) (tells radio w.0)

  -- Any number of failovers.
  pub failovers : (moves : List (Move gateways growing))
      → Proper gateways growing (begun gateways growing (fresh_on opcode prefix)) moves
      → Failovers opcode prefix moves
  unfolding run_ends fresh_on fresh
  failovers moves p =
      let u : Unbroken gateways growing (fresh_on opcode prefix) moves =
      unbroken gateways laws growing (fresh_on opcode prefix) refl moves p in
      record {
        unbroken = u;
        events = λ ts t. rw (u.answer ts t, u.frames, u.added) (session-tells (calls_of gateways growing moves));
      }
