-- A run with any number of failovers, over any engine that takes additions, and the claim that it is an unbroken
-- session of the same calls. Document 02, T-14; document 01, Sessions and failover. Definitions alone; the theorem is
-- `unbroken` of Whole.
use Rattle.std.specs.Prelude.{◌≡◌, List, [], ◌∷◌, ◌++◌, map, ℕ, zero, suc, ◌+◌, ◌≤◌, length, drop}
use Rattle.std.proofs.Math.Option.{Option, none, some}
use Rattle.rule.specs.Base.{In, All}
use Rattle.sessions.specs.Machine.{Machine, Line, Outcome, refused, done}
use Rattle.sessions.specs.Session.{give, save, from_frame, image, lines_of}
use Rattle.sessions.specs.Saved.{Enough, Replayed, cut}
use Rattle.sessions.specs.Additions.{Growing, Act, call, adds, after_act, walk_on, ran_by, trace_on, added_by, added_on, answers_on, Step, lines_in, added_in, InTime, replay_on}

-- An image saved in the run: its octets; k, the frames executed when it was saved; and how many additions were
-- accepted by then.
pub record Image : Type 0 where
  pub after : ℕ
  pub added : ℕ
  pub octets : List ℕ

-- Things with numbers: the first is i + 1.
unfoldable pub numbered : {A : Type 0} → ℕ → List A → List (ℕ × A)
numbered i [] = []
numbered i (a ∷ l) = (suc i, a) ∷ numbered (suc i) l

module _ (M : Machine) (G : Growing M) where
  -- A move of a run: a call on the engine on duty (a frame given, a save, an addition); or a failover: restore of an
  -- image, then replay from frame j of the lines of the journal, the additions given again among them, line i of it
  -- lent `lent i` octets.
  pub data Move : Type 0 where
    calls : Act M G → Move
    failover : Image → ℕ → List (Step M G) → (ℕ → ℕ) → Move

  -- The calls among the moves: the unbroken session of the same calls.
  unfoldable pub calls_of : List Move → List (Act M G)
  calls_of [] = []
  calls_of (calls c ∷ moves) = c ∷ calls_of moves
  calls_of (failover x j p lent ∷ moves) = calls_of moves

  -- Where a run stands: the state on duty; the frames executed so far (a frame that replay executes again is no new
  -- one); every answer given so far with its frame's number, by a call or by a replay; the additions accepted so far
  -- (one given again is no new one); the images saved so far.
  pub record Now : Type 0 where
    pub state : M.S
    pub frames : List (Line M.Body)
    pub given : List (ℕ × List ℕ)
    pub added : List G.A
    pub images : List Image

  -- The image that a save gives, if it is not refused.
  unfoldable pub image_in : ℕ → ℕ → Outcome M.S → List Image
  image_in k a (refused n) = []
  image_in k a (done t wrote) = record { after = k; added = a; octets = wrote } ∷ []

  unfoldable pub saved_by : ℕ → ℕ → M.S → Act M G → List Image
  saved_by k a s (call (give lent w r)) = []
  saved_by k a s (call (save lent)) = image_in k a (image M lent s)
  saved_by k a s (adds x) = []

  -- The run begins.
  unfoldable pub begun : M.S → Now
  begun fresh = record { state = fresh; frames = []; given = []; added = []; images = [] }

  -- A call.
  unfoldable pub called : Now → Act M G → Now
  called n c =
      record {
        state = after_act M G n.state c;
        frames = n.frames ++ map (λ e. e.line) (ran_by M G n.state c);
        given = n.given ++ numbered (length n.frames) (map (λ e. e.wrote) (ran_by M G n.state c));
        added = n.added ++ added_by M G n.state c;
        images = n.images ++ saved_by (length n.frames) (length n.added) n.state c;
      }

  -- A failover: what was restored replays the journal and is on duty then. The answers of the replay are to the
  -- frames after the image's. (Where restoring is refused nothing changes; `Unbroken` says that it never is.)
  unfoldable pub took_over : Now → ℕ → Replayed M.S → Now
  took_over n k r =
      record {
        state = r.state;
        frames = n.frames;
        given = n.given ++ numbered k r.answers;
        added = n.added;
        images = n.images;
      }

  unfoldable pub restored : Now → ℕ → List (Step M G) → (ℕ → ℕ) → Option M.S → Now
  restored n k p lent none = n
  restored n k p lent (some at) = took_over n k (replay_on M G lent at p)

  unfoldable pub failed_over : Now → Image → List (Step M G) → (ℕ → ℕ) → Now
  failed_over n x p lent = restored n x.after p lent (M.decode x.octets)

  -- Where the moves lead.
  unfoldable pub play : Now → List Move → Now
  play n [] = n
  play n (calls c ∷ moves) = play (called n c) moves
  play n (failover x j p lent ∷ moves) = play (failed_over n x p lent) moves

  -- The journal from frame j of all frames executed so far.
  unfoldable pub journal_now : Now → ℕ → List ℕ
  journal_now n j = lines_of M (from_frame j n.frames)

  -- A failover that the request speaks of: of an image saved earlier in the run, before or after earlier failovers,
  -- with j from 1 to k + 1 of the journal of all frames executed so far; the additions accepted after the image are
  -- given again, in order, each before the line of the frame from which it holds; each line of the replay is lent
  -- enough.
  pub record May (n : Now) (x : Image) (j : ℕ) (p : List (Step M G)) (lent : ℕ → ℕ) : Type 0 where
    pub saved : In x n.images
    pub least : 1 ≤ j
    pub most : j ≤ x.after + 1
    pub lines : lines_in M G p ≡ cut (journal_now n j)
    pub again : added_in M G p ≡ drop x.added n.added
    pub in-time : InTime M G j p
    pub enough : Enough lent

  -- Every failover among the moves is one.
  abbrev pub Proper : Now → List Move → Type 0
  Proper n [] = Unit {0}
  Proper n (calls c ∷ moves) = Proper (called n c) moves
  Proper n (failover x j p lent ∷ moves) = May n x j p lent × Proper (failed_over n x p lent) moves

  -- "Each frame's answer taken once": one answer for each executed frame, in order, out of those given for it.
  pub record TakenOnce (n : Now) (ts : List (List ℕ)) : Type 0 where
    pub count : length ts ≡ length n.frames
    pub given : All (λ x. In x n.given) (numbered zero ts)

  -- What a failover now would do: the image is restored, and the replay ends by no refusal and leaves the state on
  -- duty.
  pub record Ready (n : Now) (x : Image) (p : List (Step M G)) (lent : ℕ → ℕ) : Type 0 where
    pub at : M.S
    pub restores : M.decode x.octets ≡ some at
    pub stop : (replay_on M G lent at p).stop ≡ none
    pub state : (replay_on M G lent at p).state ≡ n.state

  -- The run that the moves make is the unbroken session of its calls: state, executed frames, accepted additions, and
  -- answers, whichever of those given is taken for each frame; such a taking exists; and no failover is refused.
  pub record Unbroken (fresh : M.S) (moves : List Move) : Type 0 where
    pub state : (play (begun fresh) moves).state ≡ walk_on M G fresh (calls_of moves)
    pub frames : (play (begun fresh) moves).frames ≡ map (λ e. e.line) (trace_on M G fresh (calls_of moves))
    pub added : (play (begun fresh) moves).added ≡ added_on M G fresh (calls_of moves)
    pub answer :
        (ts : List (List ℕ)) → TakenOnce (play (begun fresh) moves) ts → ts ≡ answers_on M G fresh (calls_of moves)
    pub taken : TakenOnce (play (begun fresh) moves) (answers_on M G fresh (calls_of moves))
    pub ready :
        (x : Image) (j : ℕ) (p : List (Step M G)) (lent : ℕ → ℕ) → May (play (begun fresh) moves) x j p lent
        → Ready (play (begun fresh) moves) x p lent
