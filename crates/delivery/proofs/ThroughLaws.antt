-- A standby that gives all editions first and then replays into one output; and where nothing is left. Document 01,
-- Sessions and failover; document 02, T-12. Assumes nothing.
use Rattle.std.specs.Prelude.{ℕ, suc, ◌+◌, ◌≤◌, ◌≡◌, refl, true, false, ◌⊎◌, List, [], ◌∷◌, ◌++◌, map, length, drop}
use Rattle.std.proofs.Common.{sym, ap, ◌∙◌, subst, inl, inr, append-nil, arith, length-append}
use Rattle.std.proofs.lemmas.Bool.{false≢true}
use Rattle.std.proofs.Math.Option.{Option, none, some}
use Rattle.sessions.specs.Machine.{Outcome, done, answer_room}
use Rattle.sessions.specs.Session.{Entry, state_after}
use Rattle.sessions.specs.Saved.{cut}
use Rattle.sessions.proofs.RunsLaws.{Run, line_of}
use Rattle.sessions.proofs.WovenLaws.{heads, not-empty}
use Rattle.model.specs.Frames.{Body}
use Rattle.editions.specs.Editions.{Edition, Gateway, sound_gateway, add_edition}
use Rattle.editions.specs.Engine.{gateways, Addition}
use Rattle.wholes.specs.Whole.{whole}
use Rattle.replays.specs.Into.{replay_into}
use Rattle.replays.proofs.AheadLaws.{Ahead, said_by}
use Rattle.replays.proofs.TurnedLaws.{Turned, turned}
use Rattle.failover.specs.Grows.{growing}
use Rattle.failover.proofs.Proved.{laws}
use Rattle.failover.proofs.LaidLaws.{onto}
use Rattle.failover.proofs.BlocksLaws.{add-blocks}
use Rattle.failover.proofs.AwaitsLaws.{Awaits}
use Rattle.delivery.specs.Firmware.{with_editions}
use Rattle.delivery.proofs.TimelyLaws.{editions_of, rests}
use Rattle.delivery.proofs.ShownLaws.{said-append}

-- editions given one after another, from the block of a state
pub record With (m : Gateway) (f : Gateway) (given due : List Edition) : Type 0 where
  pub state : Gateway
  pub good : sound_gateway state ≡ true
  pub awaited : List Addition
  pub block : with_editions (whole m) given ≡ whole state
  pub are-due : editions_of awaited ≡ due
  pub awaits : Awaits state awaited f
  pub place : state.core.position ≡ m.core.position

pub with-given : (m f : Gateway) (al : List Addition) (given due : List Edition) → sound_gateway m ≡ true
    → Awaits m al f → editions_of al ≡ given ++ due → With m f given due
unfolding with_editions editions_of state_after onto
with-given m f al [] due ok w e =
    record { state = m; good = ok; awaited = al; block = refl; are-due = e; awaits = w; place = refl }
with-given m f [] (d ∷ given) due ok w e = absurd (not-empty _ _ (sym e))
with-given m f (a ∷ al) (d ∷ given) due ok w e =
    let i : a.edition ≡ d = heads _ _ _ _ e in
    let j : add_edition m d ≡ done w.0 [] = subst (λ (z : Edition). add_edition m z ≡ done w.0 []) i w.1 in
    let r : With w.0 f given due =
    with-given w.0 f al given due (growing.keeps m w.0 a [] w.1 ok) w.2 (rests _ _ _ _ e) in
    record {
      state = r.state;
      good = r.good;
      awaited = r.awaited;
      block = ap (λ (o : Outcome (List ℕ)). with_editions (state_after (whole m) o) given)
          (add-blocks m ok d ∙ ap (onto whole) j) ∙ r.block;
      are-due = r.are-due;
      awaits = r.awaits;
      place = r.place ∙ growing.stays m w.0 a [] w.1;
    }

-- none is awaited
pub none-due : (m f : Gateway) (al : List Addition) → editions_of al ≡ [] → Awaits m al f → m ≡ f
unfolding editions_of
none-due m f [] e w = w
none-due m f (a ∷ al) e w = absurd (not-empty _ _ e)

-- no line is left: nothing is ahead
pub nothing-ahead : (m end : Gateway) (ls : List (List ℕ)) (es : List (Entry Body)) → ls ≡ []
    → Ahead gateways m ls es end → (es ≡ []) × (m ≡ end)
nothing-ahead m end ls es e a = go a.seen es (sym a.split ∙ e) a.run
  where
    go : (seen : List (List ℕ)) (fs : List (Entry Body)) → seen ++ map (line_of gateways) fs ≡ []
        → Run gateways m fs end → (fs ≡ []) × (m ≡ end)
    go [] [] z r = (refl, r)
    go [] (f ∷ fs) z r = absurd (let n : suc (length (map (line_of gateways) fs)) ≡ 0 = ap length z in omega arith)
    go (l ∷ seen) fs z r =
        absurd (let n : suc (length (seen ++ map (line_of gateways) fs)) ≡ 0 = ap length z in omega arith)

-- one call with room behind what is ahead runs through
pub runs-through : (room : ℕ) (m end : Gateway) (t : List ℕ) (es : List (Entry Body))
    → Ahead gateways m (cut t) es end → length (said_by es) + answer_room ≤ room
    → ((replay_into gateways room m t).stop ≡ none) × ((replay_into gateways room m t).state ≡ end)
    × ((replay_into gateways room m t).wrote ≡ said_by es)
runs-through room m end t es a big =
    let w : Turned gateways (λ p. true) room m t [] es end (replay_into gateways room m t) =
    turned gateways laws (λ p. true) room m end t [] es
    (subst (λ (l : List ℕ). Ahead gateways m (cut l) es end) (sym (append-nil t)) a) in
    let n : length (said_by es) ≡ length (said_by w.gs) + length (said_by w.hs) =
    ap (λ (l : List (Entry Body)). length (said_by l)) w.frames ∙ ap length (said-append w.gs w.hs)
    ∙ length-append (said_by w.gs) (said_by w.hs) in
    let k : length (replay_into gateways room m t).wrote ≡ length (said_by w.gs) = ap length w.wrote in
    let e : (replay_into gateways room m t).stop ≡ none = stops w.ended (λ q. omega arith) in
    let d = nothing-ahead (replay_into gateways room m t).state end
    (cut (drop (replay_into gateways room m t).taken (t ++ []))) w.hs (all (w.all_read refl e)) w.ahead in (
      e,
      d.1,
      w.wrote
          ∙ ap said_by (sym (append-nil w.gs) ∙ ap (λ (l : List (Entry Body)). w.gs ++ l) (sym d.0)
          ∙ sym w.frames),
    )
  where
    stops : {o : Option ℕ} {N : Type 0} → (o ≡ none) ⊎ ((o ≡ some 3) × N) → (N → ⊥) → o ≡ none
    stops (inl z) f = z
    stops (inr z) f = absurd (f z.1)

    all : {A : Type 0} → A ⊎ (true ≡ false) → A
    all (inl z) = z
    all (inr z) = absurd (false≢true (sym z))
