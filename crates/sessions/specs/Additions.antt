-- Sessions with additions: calls that add to what later frames use, as an edition of the event prefix (document 02,
-- T-12). Over any engine M and any kind of addition. Definitions alone; the theorem is `taken-over` of Given.
use Rattle.std.specs.Prelude.{◌≡◌, Bool, true, List, [], ◌∷◌, ◌++◌, map, ℕ, zero, suc, ◌+◌, ◌≤◌, ◌<◌, length, drop}
use Rattle.std.proofs.Math.Option.{Option, none, some}
use Rattle.sessions.specs.Machine.{Machine, Line, Outcome, refused, done, Executes, text}
use Rattle.sessions.specs.Session.{Call, save, Entry, state_after, answer, image, reply, after, ran, lines_of, from_frame}
use Rattle.sessions.specs.Saved.{Replayed, resume, cut, Enough}

-- What an engine owes that takes additions. `number` is the frame number from which an addition holds; `add` is
-- refused by a number or done, and writes nothing. stays, keeps: it leaves the position, and a sound state sound.
-- above: "An edition is added only for a number above the position." earlier: what is accepted after a frame is
-- accepted before it, and the frame then does the same and leads to the same state: a frame uses nothing that begins
-- above its number. later: and the other way round, where the addition's number is above the frame's.
pub record Growing (M : Machine) : Type 1 where
  pub A : Type 0
  pub number : A → ℕ
  pub add : M.S → A → Outcome M.S
  pub stays : (s t : M.S) (a : A) (w : List ℕ) → add s a ≡ done t w → M.pos t ≡ M.pos s
  pub keeps : (s t : M.S) (a : A) (w : List ℕ) → add s a ≡ done t w → M.sound s ≡ true → M.sound t ≡ true
  pub above : (s t : M.S) (a : A) (w : List ℕ) → add s a ≡ done t w → M.pos s < number a
  pub silent : (s t : M.S) (a : A) (w : List ℕ) → add s a ≡ done t w → w ≡ []
  pub earlier :
      (s t u : M.S) (x : Line M.Body) (w : List ℕ) (a : A) → Executes M s x t w → add t a ≡ done u []
      → (v : M.S) × (add s a ≡ done v []) × Executes M v x u w
  pub later :
      (s v u : M.S) (x : Line M.Body) (w : List ℕ) (a : A) → M.sound s ≡ true → add s a ≡ done v []
      → Executes M v x u w → x.num < number a
      → (t : M.S) × Executes M s x t w × (add t a ≡ done u [])

module _ (M : Machine) (G : Growing M) where
  -- A call of a session: one of document 01's, or an addition.
  pub data Act : Type 0 where
    call : Call → Act
    adds : G.A → Act

  unfoldable pub reply_to : M.S → Act → Outcome M.S
  reply_to s (call c) = reply M s c
  reply_to s (adds a) = G.add s a

  unfoldable pub after_act : M.S → Act → M.S
  after_act s c = state_after s (reply_to s c)

  -- The state at the end of a list of calls, and the frames that it executes with their answers.
  unfoldable pub walk_on : M.S → List Act → M.S
  walk_on s [] = s
  walk_on s (c ∷ cs) = walk_on (after_act s c) cs

  unfoldable pub ran_by : M.S → Act → List (Entry M.Body)
  ran_by s (call c) = ran M s c
  ran_by s (adds a) = []

  unfoldable pub trace_on : M.S → List Act → List (Entry M.Body)
  trace_on s [] = []
  trace_on s (c ∷ cs) = ran_by s c ++ trace_on (after_act s c) cs

  -- The additions that were accepted, in order: "a refused one is not given again".
  unfoldable pub accepted_one : G.A → Outcome M.S → List G.A
  accepted_one a (refused n) = []
  accepted_one a (done t w) = a ∷ []

  unfoldable pub added_by : M.S → Act → List G.A
  added_by s (call c) = []
  added_by s (adds a) = accepted_one a (G.add s a)

  unfoldable pub added_on : M.S → List Act → List G.A
  added_on s [] = []
  added_on s (c ∷ cs) = added_by s c ++ added_on (after_act s c) cs

  -- What a standby is given: a line of the journal, or an addition again.
  pub data Step : Type 0 where
    line : List ℕ → Step
    again : G.A → Step

  unfoldable pub lines_in : List Step → List (List ℕ)
  lines_in [] = []
  lines_in (line l ∷ p) = l ∷ lines_in p
  lines_in (again a ∷ p) = lines_in p

  unfoldable pub added_in : List Step → List G.A
  added_in [] = []
  added_in (line l ∷ p) = added_in p
  added_in (again a ∷ p) = a ∷ added_in p

  -- "must be given again .. before replay reaches its number or ends": each addition comes before the line of the
  -- frame from which it holds. The next line is of frame n.
  abbrev pub InTime : ℕ → List Step → Type 0
  InTime n [] = Unit {0}
  InTime n (line l ∷ p) = InTime (suc n) p
  InTime n (again a ∷ p) = (n ≤ G.number a) × InTime n p

  -- Replay with additions: a line is answered as in a replay without; an addition changes the state, and one that is
  -- refused stops.
  unfoldable pub resume_add : M.S → Outcome M.S → (M.S → Replayed M.S) → Replayed M.S
  resume_add s (done t w) rest = rest t
  resume_add s (refused n) rest = record { state = s; answers = []; stop = some n }

  unfoldable pub replay_on : (ℕ → ℕ) → M.S → List Step → Replayed M.S
  replay_on lent s [] = record { state = s; answers = []; stop = none }
  replay_on lent s (line l ∷ p) = resume s (answer M (lent zero) s text l) (λ t. replay_on (λ i. lent (suc i)) t p)
  replay_on lent s (again a ∷ p) = resume_add s (G.add s a) (λ t. replay_on lent t p)

  -- The executed frames of a session with additions, their answers, and the journal from frame j.
  unfoldable pub frames_on : M.S → List Act → ℕ
  frames_on fresh calls = length (trace_on fresh calls)

  unfoldable pub answers_on : M.S → List Act → List (List ℕ)
  answers_on fresh calls = map (λ e. e.wrote) (trace_on fresh calls)

  unfoldable pub journal_on : M.S → List Act → ℕ → List ℕ
  journal_on fresh calls j = lines_of M (from_frame j (map (λ e. e.line) (trace_on fresh calls)))

  -- The image `img` is saved after frame k, of the state `at`; the calls `later` follow.
  pub record SavedAmong (fresh : M.S) (calls : List Act) (k : ℕ) (img : List ℕ) (at : M.S) (later : List Act) : Type
      0 where
    pub before : List Act
    pub lent : ℕ
    pub split : calls ≡ before ++ (call (save lent) ∷ later)
    pub count : k ≡ frames_on fresh before
    pub state : at ≡ walk_on fresh before
    pub saved : image M lent at ≡ done at img

  -- Demand 3 with additions, for one image: restoring it gives the state that was saved; with the additions accepted
  -- after it given again, in the same order, each before the line of its frame, replay from a frame j, 1 to k + 1,
  -- gives the unbroken run's state and exactly its answers to frames k + 1 to n, once each; for j above k + 1 and at
  -- most n the first line is refused as a gap.
  pub record TakenOver (fresh : M.S) (calls : List Act) (k : ℕ) (img : List ℕ) (at : M.S) (later : List Act) : Type
      0 where
    pub within : k ≤ frames_on fresh calls
    pub restored : M.decode img ≡ some at
    pub goes_on :
        (j : ℕ) → 1 ≤ j → j ≤ k + 1 → (p : List Step) → lines_in p ≡ cut (journal_on fresh calls j)
        → added_in p ≡ added_on at later → InTime j p
        → (lent : ℕ → ℕ) → Enough lent
        → replay_on lent at p
        ≡ record { state = walk_on fresh calls; answers = drop k (answers_on fresh calls); stop = none }
    pub gapped :
        (j : ℕ) → k + 1 < j → j ≤ frames_on fresh calls → (l : List ℕ) (p : List Step)
        → lines_in (line l ∷ p) ≡ cut (journal_on fresh calls j) → (lent : ℕ → ℕ) → Enough lent
        → replay_on lent at (line l ∷ p) ≡ record { state = at; answers = []; stop = some 2 }
