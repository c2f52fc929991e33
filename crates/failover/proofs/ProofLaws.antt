-- Demand 3 holds: `demand3`, for all settings in range and every list of calls. Document 01, Sessions and failover.
-- Definitions of the proofs alone stand here too: AsCalls. Assumes nothing.
use Rattle.std.specs.Prelude.{ℕ, zero, suc, ◌≤◌, ◌<◌, ◌≡◌, Bool, cond, eqb}
use Rattle.std.proofs.Math.Path.{refl, sym, ap, subst}
use Rattle.std.proofs.Common.{◌∙◌}
use Rattle.std.proofs.Math.Bool.{true, false}
use mathlib.Core.List.{List, [], ◌∷◌, ◌++◌, map, reverse, reverse_aux, reverse_aux-eq}
use Rattle.std.proofs.Math.Option.{Option, none, some}
use Rattle.rule.specs.Engine.{fresh as core_fresh}
use Rattle.rule.specs.Claim.{ByHistory}
use Rattle.rule.proofs.ShowsLaws.{Ran}
use Rattle.history.proofs.ShownLaws.{shown-history}
use Rattle.sessions.specs.Machine.{Machine, Laws, Executes, Line, Outcome, refused, done, text}
use Rattle.sessions.specs.Session.{Call, give, Entry, entries, state_after, answer, reply, after, ran, walk, trace, executed}
use Rattle.sessions.specs.Past.{past}
use Rattle.sessions.specs.Saved.{SavedAfter, Failover, Replayed, with_answer, resume, replay_lines, replay, cut}
use Rattle.sessions.proofs.ReplayLaws.{failover}
use Rattle.sessions.proofs.RunsLaws.{walk-append, trace-append}
use Rattle.sessions.proofs.HistoryLaws.{walk-induction, walk-sound}
use Rattle.model.specs.Types.{Model, fresh}
use Rattle.model.specs.Frames.{Body, typed}
use Rattle.model.specs.Sound.{sound_model, sound_settings}
use Rattle.model.specs.Image.{held_in, image_text}
use Rattle.model.specs.Engine.{models}
use Rattle.model.proofs.Radio.{radio, core}
use Rattle.images.specs.RestoresLaws.{restores, held-image}
use Rattle.steps.specs.ExecutedLaws.{executed as executed-step, Executed, position-suc}
use Rattle.steps.proofs.KeepsLaws.{keeps, fresh-sound}
use Rattle.failover.specs.View.{view_pair}
use Rattle.failover.specs.View.{view}
use Rattle.failover.specs.AgreeLaws.{shows}
use Rattle.failover.specs.ReadLaws.{fits, reads, one_line, body-octets}
use Rattle.failover.specs.Demand3.{Demand3, replay_adds, ran_in, past_replayed, past_frames, pairs_in}

-- the laws of the engine over records
pub laws : Laws models
laws =
    record {
      advance = λ s t x a e. position-suc s t x.body a e.acts;
      keeps = λ s t x a e. keeps s t x.body a e.before e.room (body-octets e.form e.raw x e.given)
          e.acts;
      restores = restores;
      fits = fits;
      reads = reads;
      one_line = one_line;
    }

-- what replay of lines reaches and executes, from a state, is what some calls do
abbrev pub AsCalls : (M : Machine) → M.S → Replayed M.S → List (Entry M.Body) → Type 0
AsCalls M s r es = (cs : List Call) × (r.state ≡ walk M s cs) × (es ≡ trace M s cs)

-- a line by its outcome, and what follows it
module _ (M : Machine) (k : ℕ) (s : M.S) (l : List ℕ) (more : M.S → Replayed M.S)
    (further : M.S → List (Entry M.Body))
    (f : (t : M.S) → AsCalls M t (more t) (further t)) where
  made : (o : Outcome M.S) → answer M k s text l ≡ o
      → AsCalls M s (resume s o more) (replay_adds s (M.read text l) o further)
  unfolding resume with_answer replay_adds walk trace after reply ran state_after
  made (done t a) e =
      let cs : List Call = (f t).0 in (
        give k text l ∷ cs,
        (f t).1 ∙ ap (λ (o : Outcome M.S). walk M (state_after s o) cs) (sym e),
        ap (λ (x : List (Entry M.Body)). entries (M.read text l) (done t a) ++ x) (f t).2
            ∙ ap (λ (o : Outcome M.S). entries (M.read text l) o ++ trace M (state_after s o) cs) (sym e),
      )
  made (refused n) e = go (eqb n 1)
    where
      go : (b : Bool) → AsCalls M s (cond b (more s) (record { state = s; answers = []; stop = some n }))
          (cond b (further s) [])
      go true = f s
      go false = ([], refl, refl)

pub as-calls : (M : Machine) (lent : ℕ → ℕ) (s : M.S) (ls : List (List ℕ))
    → AsCalls M s (replay_lines M lent s ls) (ran_in M lent s ls)
unfolding replay_lines ran_in walk trace
as-calls M lent s [] = ([], refl, refl)
as-calls M lent s (l ∷ ls) =
    made M (lent zero) s l (λ t. replay_lines M (λ i. lent (suc i)) t ls) (λ t. ran_in M (λ i. lent (suc i)) t ls)
    (λ t. as-calls M (λ i. lent (suc i)) t ls) (answer M (lent zero) s text l) refl

-- the bodies of entries, the newest first, before a past
pub bodies : {B : Type 0} (es fs : List (Entry B)) (r : List B)
    → reverse_aux (map (λ x. x.body) (map (λ e. e.line) (es ++ fs))) r
    ≡ reverse_aux (map (λ e. e.line.body) fs) (reverse_aux (map (λ x. x.body) (map (λ e. e.line) es)) r)
bodies [] [] r = refl
bodies [] (f ∷ fs) r = bodies [] fs (f.line.body ∷ r)
bodies (e ∷ es) fs r = bodies es fs (e.line.body ∷ r)

-- the past after further calls: what they executed, before the past that was
pub past-then : (M : Machine) (start : M.S) (before cs : List Call)
    → past M start (before ++ cs) ≡ reverse (map (λ e. e.line.body) (trace M (walk M start before) cs))
    ++ past M start before
unfolding past executed
past-then M start before cs =
    ap (λ (xs : List (Entry M.Body)). reverse (map (λ x. x.body) (map (λ e. e.line) xs)))
    (trace-append M start before cs)
    ∙ bodies (trace M start before) (trace M (walk M start before) cs) []
    ∙ reverse_aux-eq (map (λ e. e.line.body) (trace M (walk M start before) cs)) (past M start before)

module _ (opcode : ℕ) (prefix : List ℕ) (ok : sound_settings opcode prefix ≡ true) where
  abbrev start : Model
  start = fresh opcode prefix

  -- the state at the end is reached by its past frames
  end-ran : (calls : List Call) → Ran radio Model Body shows start (past models start calls) (walk models start calls)
  end-ran calls =
      walk-induction models laws (λ p s. Ran radio Model Body shows start p s) start refl
      (λ p s t x a e r. let d : Executed s (typed x.body) t a = executed-step s t x.body a
      e.acts in (s, r, e.before, sym d.state))
      calls

  fresh-view : view start ≡ core_fresh radio
  unfolding view fresh
  fresh-view = refl

  -- the pairs that the image of a sound state lists are those that it holds
  listed : (m : Model) → sound_model m ≡ true → pairs_in (image_text m) ≡ (view m).pairs
  unfolding pairs_in view
  listed m e = ap (λ (n : Model). map view_pair n.pairs) (held-image m e)

  history-holds : (calls : List Call)
      → ByHistory radio (past_frames opcode prefix calls) (pairs_in (image_text (walk models start calls)))
  unfolding past_frames
  history-holds calls =
      subst (ByHistory radio (map core (past models start calls)))
      (sym (listed (walk models start calls) (walk-sound models laws start (fresh-sound opcode prefix ok) calls)))
      (shown-history radio Model Body shows start fresh-view (past models start calls) (walk models start calls)
      (end-ran calls))

  replayed-holds : (before : List Call) (lent : ℕ → ℕ) (at : Model) (t : List ℕ) → at ≡ walk models start before
      → ByHistory radio (map core (past_replayed models start before lent at t))
      (pairs_in (image_text (replay models lent at t).state))
  unfolding past_replayed replay past_frames
  replayed-holds before lent at t e =
      let c = as-calls models lent at (cut t) in
      let cs : List Call = c.0 in
      let w : (replay_lines models lent at (cut t)).state ≡ walk models start (before ++ cs) =
      c.1 ∙ ap (λ (s : Model). walk models s cs) e ∙ sym (walk-append models start before cs) in
      let p : reverse (map (λ (x : Entry Body). x.line.body) (ran_in models lent at (cut t)))
      ++ past models start before ≡ past models start (before ++ cs) =
      ap (λ (xs : List (Entry Body)). reverse (map (λ (x : Entry Body). x.line.body) xs) ++ past models start before)
      (c.2 ∙ ap (λ (s : Model). trace models s cs) e)
      ∙ sym (past-then models start before cs) in
      subst (λ (m : Model). ByHistory radio
      (map core (reverse (map (λ (x : Entry Body). x.line.body) (ran_in models lent at (cut t)))
      ++ past models start before)) (pairs_in (image_text m)))
      (sym w)
      (subst (λ (q : List Body). ByHistory radio (map core q)
      (pairs_in (image_text (walk models start (before ++ cs))))) (sym p) (history-holds (before ++ cs)))

-- Demand 3, whole.
pub demand3 : (opcode : ℕ) (prefix : List ℕ) → sound_settings opcode prefix ≡ true → (calls : List Call)
    → Demand3 opcode prefix calls
unfolding fresh
demand3 opcode prefix ok calls =
    record {
      images = λ k img at s. failover models laws (fresh opcode prefix) refl (fresh-sound opcode prefix ok) calls k
          img at s;
      by-history = history-holds opcode prefix ok calls;
      replayed = λ k img at s lent t. replayed-holds opcode prefix ok s.before lent at t s.state;
    }
