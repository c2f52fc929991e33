-- Demand 3 over what the calls' contracts say, for sessions with additions (`bournejade_add_edition`, contract
-- `add_whole`): the engine over whole blocks takes additions as the one over records does, so an image saved in such a
-- session takes it over, with the additions accepted after it given again in time. Document 02, T-12. Assumes
-- nothing.
use Rattle.std.specs.Prelude.{ℕ, suc, ◌≤◌, ◌<◌, ◌≡◌, Bool, true, false, not, List, [], ◌∷◌, ◌++◌, map, reverse}
use Rattle.std.proofs.Math.Path.{refl, ap}
use Rattle.std.proofs.Common.{sym, ◌∙◌, subst, arith}
use Rattle.sessions.specs.Machine.{Line, Outcome, refused, done, Executes, last_number}
use Rattle.sessions.specs.Session.{Entry, refuse_if, state_after, after}
use Rattle.sessions.proofs.RunsLaws.{run_sound}
use Rattle.sessions.specs.Additions.{Growing, Act, call, adds, reply_to, after_act, walk_on, ran_by, trace_on, accepted_one, added_by, added_on, SavedAmong, TakenOver}
use Rattle.sessions.proofs.GivenLaws.{fronted, taken-over}
use Rattle.rule.specs.Radio.{Frame}
use Rattle.rule.specs.Claim.{ByHistory}
use Rattle.model.specs.Types.{Model, fresh}
use Rattle.model.specs.Frames.{Body}
use Rattle.model.specs.Sound.{sound_settings}
use Rattle.model.specs.Block.{model_of}
use Rattle.model.proofs.Radio.{radio, core}
use Rattle.editions.specs.Editions.{Edition, Gateway, sound_gateway, act_on, add_edition, image_on, fresh_on}
use Rattle.editions.specs.Engine.{gateways, Addition}
use Rattle.wholes.specs.Whole.{held_whole, whole, sound_whole}
use Rattle.wholes.proofs.LaidLaws.{held_whole_lem, core-whole, sound-whole, whole-good, whole-held}
use Rattle.wholes.specs.Engine.{engine, act_whole, add_whole, on_wholes, begin}
use Rattle.failover.specs.Grows.{went, growing}
use Rattle.failover.specs.Demand3.{pairs_in}
use Rattle.failover.specs.Claim.{past_on}
use Rattle.failover.proofs.Proved.{demand3, fresh-gateway, grown-sound, laws as record_laws}
use Rattle.failover.proofs.LaidLaws.{onto}
use Rattle.failover.proofs.BlocksLaws.{begin-blocks, call-blocks, ran-blocks, add-blocks, after-blocks, encode-blocks}
use Rattle.turns.specs.BlocksLaws.{laws, Left, left}

-- an addition that a block accepted is one that its state accepted
pub record AddedTo (s : List ℕ) (a : Addition) (t w : List ℕ) : Type 0 where
  pub sound : sound_whole s ≡ true
  pub state : Gateway
  pub adds : add_edition (held_whole s) a.edition ≡ done state w
  pub block : whole state ≡ t

added-to : (s : List ℕ) (a : Addition) (t w : List ℕ) → add_whole s a.edition ≡ done t w → AddedTo s a t w
unfolding add_whole refuse_if on_wholes
added-to s a t w e = go (sound_whole s) (add_edition (held_whole s) a.edition) refl refl e
  where
    go : (b : Bool) (o : Outcome Gateway) → sound_whole s ≡ b → add_edition (held_whole s) a.edition ≡ o
        → refuse_if (not b) 7 (on_wholes o) ≡ done t w → AddedTo s a t w
    go false o p q h = let z : ◌≡◌ {A = ℕ} 0 1 = cc in absurd (omega arith)
    go true (refused n) p q h = let z : ◌≡◌ {A = ℕ} 0 1 = cc in absurd (omega arith)
    go true (done g l) p q h = let u : l ≡ w =
        cc in record { sound = p; state = g; adds = q ∙ ap (done g) u; block = cc }

-- .. and the other way round
adds_on : (g v : Gateway) (a : Addition) (w : List ℕ) → sound_gateway g ≡ true → add_edition g a.edition ≡ done v w
    → add_whole (whole g) a.edition ≡ done (whole v) w
unfolding add_whole refuse_if on_wholes
adds_on g v a w ok e =
    ap (λ (b : Bool). refuse_if (not b) 7 (on_wholes (add_edition (held_whole (whole g)) a.edition))) (sound-whole g ok)
    ∙ ap (λ (k : Gateway). on_wholes (add_edition k a.edition)) (held_whole_lem g ok) ∙ ap on_wholes e

-- a frame on records is one on blocks
runs_on : (g t : Gateway) (x : Line Body) (w : List ℕ) → Executes gateways g x t w
    → Executes engine (whole g) x (whole t) w
unfolding act_whole on_wholes
runs_on g t x w e =
    let p : (model_of (whole g)).position ≡ g.core.position = ap (λ (m : Model). m.position)
    (core-whole g e.before) in
    record {
      form = e.form;
      raw = e.raw;
      given = e.given;
      before = sound-whole g e.before;
      next = e.next ∙ ap suc (sym p);
      room = subst (λ (k : ℕ). k < last_number) (sym p) e.room;
      acts = ap (λ (k : Gateway). on_wholes (act_on k x.body)) (held_whole_lem g e.before) ∙ ap on_wholes e.acts;
    }

after-sound : (s t : List ℕ) (a : Addition) (w : List ℕ) (d : AddedTo s a t w) → sound_gateway d.state ≡ true
after-sound s t a w d = growing.keeps (held_whole s) d.state a w d.adds (whole-good s d.sound)

state-of : (s t : List ℕ) (a : Addition) (w : List ℕ) (d : AddedTo s a t w) → held_whole t ≡ d.state
state-of s t a w d = ap held_whole (sym d.block) ∙ held_whole_lem d.state (after-sound s t a w d)

-- the laws of additions on blocks
pub adds-stays : (s t : List ℕ) (a : Addition) (w : List ℕ) → add_whole s a.edition ≡ done t w
    → (model_of t).position ≡ (model_of s).position
unfolding held_whole
adds-stays s t a w e =
    let d = added-to s a t w e in
    ap (λ (g : Gateway). g.core.position) (state-of s t a w d)
    ∙ growing.stays (held_whole s) d.state a w d.adds

pub adds-keeps : (s t : List ℕ) (a : Addition) (w : List ℕ) → add_whole s a.edition ≡ done t w → sound_whole s ≡ true
    → sound_whole t ≡ true
adds-keeps s t a w e g =
    let d = added-to s a t w e in
    subst (λ (u : List ℕ). sound_whole u ≡ true) d.block (sound-whole d.state (after-sound s t a w d))

pub adds-above : (s t : List ℕ) (a : Addition) (w : List ℕ) → add_whole s a.edition ≡ done t w
    → (model_of s).position < a.edition.from
unfolding held_whole
adds-above s t a w e = let d = added-to s a t w e in growing.above (held_whole s) d.state a w d.adds

pub adds-silent : (s t : List ℕ) (a : Addition) (w : List ℕ) → add_whole s a.edition ≡ done t w → w ≡ []
adds-silent s t a w e = let d = added-to s a t w e in growing.silent (held_whole s) d.state a w d.adds

pub adds-earlier : (s t u : List ℕ) (x : Line Body) (w : List ℕ) (a : Addition) → Executes engine s x t w
    → add_whole t a.edition ≡ done u []
    → (v : List ℕ) × (add_whole s a.edition ≡ done v []) × Executes engine v x u w
adds-earlier s t u x w a ex e =
    let l : Left s x t w = left s t x w ex in
    let d = added-to t a u [] e in
    let ht : held_whole t ≡ l.on.state =
    ap held_whole (sym l.on.block) ∙ held_whole_lem l.on.state l.went-so.sound in
    let f = growing.earlier (held_whole s) l.on.state d.state x w a l.executes
    (subst (λ (g : Gateway). add_edition g a.edition ≡ done d.state []) ht d.adds) in
    let ok : sound_gateway (held_whole s) ≡ true = whole-good s ex.before in (
      whole f.0,
      ap (λ (b : List ℕ). add_whole b a.edition) (sym (whole-held s ex.before))
          ∙ adds_on (held_whole s) f.0 a [] ok f.1,
      subst (λ (b : List ℕ). Executes engine (whole f.0) x b w) d.block (runs_on f.0 d.state x w f.2),
    )

pub adds-later : (s v u : List ℕ) (x : Line Body) (w : List ℕ) (a : Addition) → sound_whole s ≡ true
    → add_whole s a.edition ≡ done v [] → Executes engine v x u w
    → x.num < a.edition.from → (t : List ℕ) × Executes engine s x t w × (add_whole t a.edition ≡ done u [])
adds-later s v u x w a good e ex h =
    let d = added-to s a v [] e in
    let l : Left v x u w = left v u x w ex in
    let hv : held_whole v ≡ d.state = state-of s v a [] d in
    let f = growing.later (held_whole s) d.state l.on.state x w a (whole-good s good) d.adds
    (subst (λ (g : Gateway). Executes gateways g x l.on.state w) hv l.executes) h in
    let ok : sound_gateway f.0 ≡ true = (went (held_whole s) f.0 x w f.1).sound in (
      whole f.0,
      subst (λ (b : List ℕ). Executes engine b x (whole f.0) w) (whole-held s good)
          (runs_on (held_whole s) f.0 x w f.1),
      adds_on f.0 l.on.state a [] ok f.2 ∙ ap (λ (b : List ℕ). done b []) l.on.block,
    )

abbrev pub growing_blocks : Growing engine
growing_blocks =
    record {
      A = Addition;
      number = λ a. a.edition.from;
      add = λ s a. add_whole s a.edition;
      stays = adds-stays;
      keeps = adds-keeps;
      above = adds-above;
      silent = adds-silent;
      earlier = adds-earlier;
      later = adds-later;
    }

-- the call of the definitions over records that a call over blocks is
unfoldable pub on_records : Act engine growing_blocks → Act gateways growing
on_records (call c) = call c
on_records (adds a) = adds a

-- an addition that was accepted on the block of a state
kept-onto : (a : Addition) (o : Outcome Gateway)
    → accepted_one engine growing_blocks a (onto whole o) ≡ accepted_one gateways growing a o
unfolding accepted_one onto
kept-onto a (refused n) = refl
kept-onto a (done t l) = refl

-- calls leave a sound state sound
pub walk-good : (m : Gateway) → sound_gateway m ≡ true → (cs : List (Act gateways growing))
    → sound_gateway (walk_on gateways growing m cs) ≡ true
walk-good m ok cs =
    let f = fronted gateways record_laws growing m cs in
    run_sound gateways record_laws f.begins (walk_on gateways growing m cs) (trace_on gateways growing m cs) f.run
    (grown-sound (added_on gateways growing m cs) m f.begins f.grown ok)

-- A session with additions over blocks is the session over records: its block at the end, its executed frames, its
-- accepted additions.
module _ (m : Gateway) (ok : sound_gateway m ≡ true) (c : Act engine growing_blocks) where
  act-good : sound_gateway (after_act gateways growing m (on_records c)) ≡ true
  unfolding walk_on
  act-good = walk-good m ok (on_records c ∷ [])

  act-blocks : after_act engine growing_blocks (whole m) c ≡ whole (after_act gateways growing m (on_records c))
  unfolding after_act reply_to on_records after
  act-blocks = go c
    where
      go : (d : Act engine growing_blocks)
          → after_act engine growing_blocks (whole m) d ≡ whole (after_act gateways growing m (on_records d))
      go (call d) = call-blocks m ok d
      go (adds a) = ap (state_after (whole m)) (add-blocks m ok a.edition)
          ∙ after-blocks m (add_edition m a.edition)

  ran-by-blocks : ran_by engine growing_blocks (whole m) c ≡ ran_by gateways growing m (on_records c)
  unfolding ran_by on_records
  ran-by-blocks = go c
    where
      go : (d : Act engine growing_blocks)
          → ran_by engine growing_blocks (whole m) d ≡ ran_by gateways growing m (on_records d)
      go (call d) = ran-blocks m ok d
      go (adds a) = refl

  added-by-blocks : added_by engine growing_blocks (whole m) c ≡ added_by gateways growing m (on_records c)
  unfolding added_by on_records
  added-by-blocks = go c
    where
      go : (d : Act engine growing_blocks)
          → added_by engine growing_blocks (whole m) d ≡ added_by gateways growing m (on_records d)
      go (call d) = refl
      go (adds a) = ap (accepted_one engine growing_blocks a) (add-blocks m ok a.edition)
          ∙ kept-onto a (add_edition m a.edition)

pub walk-on-blocks : (m : Gateway) → sound_gateway m ≡ true → (cs : List (Act engine growing_blocks))
    → walk_on engine growing_blocks (whole m) cs ≡ whole (walk_on gateways growing m (map on_records cs))
unfolding walk_on
walk-on-blocks m ok [] = refl
walk-on-blocks m ok (c ∷ cs) =
    ap (λ (s : List ℕ). walk_on engine growing_blocks s cs) (act-blocks m ok c)
    ∙ walk-on-blocks (after_act gateways growing m (on_records c)) (act-good m ok c) cs

pub trace-on-blocks : (m : Gateway) → sound_gateway m ≡ true → (cs : List (Act engine growing_blocks))
    → trace_on engine growing_blocks (whole m) cs ≡ trace_on gateways growing m (map on_records cs)
unfolding trace_on
trace-on-blocks m ok [] = refl
trace-on-blocks m ok (c ∷ cs) =
    ap (λ (s : List ℕ). ran_by engine growing_blocks (whole m) c ++ trace_on engine growing_blocks s cs)
    (act-blocks m ok c)
    ∙ ap (λ (es : List (Entry Body)). es
    ++ trace_on engine growing_blocks (whole (after_act gateways growing m (on_records c))) cs) (ran-by-blocks m ok c)
    ∙ ap (λ (es : List (Entry Body)). ran_by gateways growing m (on_records c) ++ es)
    (trace-on-blocks (after_act gateways growing m (on_records c)) (act-good m ok c) cs)

pub added-on-blocks : (m : Gateway) → sound_gateway m ≡ true → (cs : List (Act engine growing_blocks))
    → added_on engine growing_blocks (whole m) cs ≡ added_on gateways growing m (map on_records cs)
unfolding added_on
added-on-blocks m ok [] = refl
added-on-blocks m ok (c ∷ cs) =
    ap (λ (s : List ℕ). added_by engine growing_blocks (whole m) c ++ added_on engine growing_blocks s cs)
    (act-blocks m ok c)
    ∙ ap (λ (al : List Addition). al
    ++ added_on engine growing_blocks (whole (after_act gateways growing m (on_records c))) cs) (added-by-blocks m ok c)
    ∙ ap (λ (al : List Addition). added_by gateways growing m (on_records c) ++ al)
    (added-on-blocks (after_act gateways growing m (on_records c)) (act-good m ok c) cs)

-- the past frames of a session over blocks, the newest first: additions are no frames
unfoldable pub past_blocks : ℕ → List ℕ → List (Act engine growing_blocks) → List (Frame radio)
past_blocks opcode prefix calls =
    map core (reverse
    (map (λ (x : Line Body). x.body)
    (map (λ (e : Entry Body). e.line) (trace_on engine growing_blocks (begin opcode prefix) calls))))

-- Demand 3 of the calls, additions among them. images: every image saved after any frame k takes the session over:
-- restoring gives the block that was saved; with the additions accepted after it given again, in the same order, each
-- before the line of its frame, replay gives the unbroken run's block and exactly its answers to the later frames,
-- once each; a gap is refused. watched: the pairs that the image of the unbroken run's block lists are those that its
-- past frames put under watch, each once, in the order of their latest starts.
pub record DeliveredOn (opcode : ℕ) (prefix : List ℕ) (calls : List (Act engine growing_blocks)) : Type 0 where
  pub images :
      (k : ℕ) (img at : List ℕ) (later : List (Act engine growing_blocks))
      → SavedAmong engine growing_blocks (begin opcode prefix) calls k img at later
      → TakenOver engine growing_blocks (begin opcode prefix) calls k img at later
  pub watched : ByHistory radio (past_blocks opcode prefix calls)
      (pairs_in (engine.encode (walk_on engine growing_blocks (begin opcode prefix) calls)))

watched-blocks : (opcode : ℕ) (prefix : List ℕ) → sound_settings opcode prefix ≡ true
    → (calls : List (Act engine growing_blocks))
    → ByHistory radio (past_blocks opcode prefix calls)
    (pairs_in (engine.encode (walk_on engine growing_blocks (begin opcode prefix) calls)))
unfolding past_blocks past_on
watched-blocks opcode prefix ok calls =
    let s : Gateway = fresh_on opcode prefix in
    let good : sound_gateway s ≡ true = fresh-gateway opcode prefix ok in
    let cs : List (Act gateways growing) = map on_records calls in
    let p : trace_on engine growing_blocks (begin opcode prefix) calls ≡ trace_on gateways growing s cs =
    ap (λ (b : List ℕ). trace_on engine growing_blocks b calls) (begin-blocks opcode prefix ok)
    ∙ trace-on-blocks s good calls in
    let w : walk_on engine growing_blocks (begin opcode prefix) calls ≡ whole (walk_on gateways growing s cs) =
    ap (λ (b : List ℕ). walk_on engine growing_blocks b calls) (begin-blocks opcode prefix ok)
    ∙ walk-on-blocks s good calls in
    subst (λ (t : List ℕ). ByHistory radio
    (map core (reverse
    (map (λ (x : Line Body). x.body)
    (map (λ (e : Entry Body). e.line) (trace_on engine growing_blocks (begin opcode prefix) calls))))) (pairs_in t))
    (sym (ap engine.encode w ∙ encode-blocks (walk_on gateways growing s cs) (walk-good s good cs)))
    (subst (λ (es : List (Entry Body)). ByHistory radio
    (map core (reverse (map (λ (x : Line Body). x.body) (map (λ (e : Entry Body). e.line) es))))
    (pairs_in (image_on (walk_on gateways growing s cs))))
    (sym p) (demand3 opcode prefix ok cs).by-history)

-- It holds for all settings in range and every list of calls with additions among them.
pub delivered-on : (opcode : ℕ) (prefix : List ℕ) → sound_settings opcode prefix ≡ true
    → (calls : List (Act engine growing_blocks)) → DeliveredOn opcode prefix calls
unfolding fresh_on fresh
delivered-on opcode prefix ok calls =
    record {
      images = λ k img at later s.
          taken-over engine laws growing_blocks (begin opcode prefix)
          (ap (λ (b : List ℕ). (model_of b).position) (begin-blocks opcode prefix ok)
          ∙ ap (λ (m : Model). m.position) (core-whole (fresh_on opcode prefix) (fresh-gateway opcode prefix ok)))
          calls k img at later s;
      watched = watched-blocks opcode prefix ok calls;
    }
