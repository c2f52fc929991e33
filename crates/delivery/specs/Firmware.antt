-- Demand 3 as firmware sees it through the library for C: what the calls' contracts say of the octets lent and left
-- and of the numbers returned, call after call. Document 01, Sessions and failover; document 02, T-12: editions of
-- the prefix are added among the calls. `delivered` and `delivered-on` are the claim over the definitions; here a
-- session is what was seen of it, so that no step from the contracts to the claim is left to a reader. Assumes
-- nothing.
use Rattle.std.specs.Prelude.{ℕ, zero, suc, ◌+◌, ◌-◌, ◌≤◌, ◌<◌, ◌≡◌, Bool, true, ◌⊎◌, ltb, length, take, drop}
use Rattle.std.proofs.Math.Option.{Option, none, some}
use mathlib.Core.List.{List, [], ◌∷◌, ◌++◌, map, flatten, reverse}
use Rattle.laws.specs.Put.{put}
use Rattle.laws.specs.Tests.{pick}
use Rattle.laws.specs.Rows.{flat}
use Rattle.rule.specs.Radio.{Frame, other}
use Rattle.rule.specs.Claim.{ByHistory}
use Rattle.sessions.specs.Machine.{Form, Line, text, answer_room}
use Rattle.sessions.specs.Session.{state_after, answer, image, from_frame}
use Rattle.sessions.specs.Saved.{cut}
use Rattle.model.specs.Frames.{Body, read}
use Rattle.model.specs.Block.{model_of}
use Rattle.wholes.specs.Engine.{engine, add_whole, block_in}
use Rattle.model.proofs.Radio.{radio, core}
use Rattle.replays.specs.Into.{replay_while, replay_into}
use Rattle.bournejade.specs.Gives.{number_of, Gave, ReplayGave}
use Rattle.failover.specs.Demand3.{pairs_in}
use Rattle.delivery.specs.Given.{line_given}
use Rattle.editions.specs.Editions.{Edition, is_image_on}
use Rattle.editions.specs.Engine.{Addition}

-- what a call of `bournejade_add_edition` returns and leaves, by its contract
abbrev pub Adds : List ℕ → Edition → List ℕ → ℕ → Type 0
Adds s e t r = (r ≡ number_of (add_whole s e)) × (t ≡ state_after s (add_whole s e))

-- What firmware saw of one call: of a frame its form and octets, the output before, the block and the output after,
-- the count and the number; of a save the output before and after, the count and the number; of an addition its
-- number of 4 octets and its octets, the block after and the number.
pub data Step : Type 0 where
  gave : Form → List ℕ → List ℕ → List ℕ → List ℕ → ℕ → ℕ → Step
  saved : List ℕ → List ℕ → ℕ → ℕ → Step
  added : Addition → List ℕ → ℕ → Step

-- the block after it
unfoldable pub block_after : List ℕ → Step → List ℕ
block_after s (gave w raw out t left n r) = t
block_after s (saved out left n r) = s
block_after s (added a t r) = t

-- what its contract says of it (`bournejade_submit`, `bournejade_submit_line`, `bournejade_save`,
-- `bournejade_add_edition`)
abbrev pub Kept : List ℕ → Step → Type 0
Kept s (gave w raw out t left n r) = Gave (answer engine (length out) s w raw) s out t left n r
Kept s (saved out left n r) = Gave (image engine (length out) s) s out s left n r
Kept s (added a t r) = Adds s a.edition t r

-- calls one after another, each on the block that the one before left, from s to u
abbrev pub Seen : List ℕ → List Step → List ℕ → Type 0
Seen s [] u = s ≡ u
Seen s (x ∷ xs) u = Kept s x × Seen (block_after s x) xs u

-- What firmware keeps of an executed frame: its line, for the journal, and its answer.
pub record Heard : Type 0 where
  pub line : List ℕ
  pub answer : List ℕ

-- what it keeps of a call: where a frame returned 0, the line given or written of its octets, and the octets at the
-- output's front, as many as were told
unfoldable pub heard : Step → List Heard
heard (gave w raw out t left n zero) = record { line = line_given w raw; answer = take n left } ∷ []
heard (gave w raw out t left n (suc r)) = []
heard (saved out left n r) = []
heard (added a t r) = []

unfoldable pub heard_in : List Step → List Heard
heard_in [] = []
heard_in (x ∷ xs) = heard x ++ heard_in xs

-- the editions that were accepted, in order: those whose addition returned 0
unfoldable pub accepted : Step → List Edition
accepted (gave w raw out t left n r) = []
accepted (saved out left n r) = []
accepted (added a t zero) = a.edition ∷ []
accepted (added a t (suc r)) = []

unfoldable pub accepted_in : List Step → List Edition
accepted_in [] = []
accepted_in (x ∷ xs) = accepted x ++ accepted_in xs

-- the journal that it kept, from frame j on
unfoldable pub kept_from : ℕ → List Heard → List ℕ
kept_from j hs = flatten (from_frame j (map (λ (h : Heard). h.line) hs))

-- the answers' octets, one after another
unfoldable pub answers_of : List Heard → List ℕ
answers_of hs = flat (map (λ (h : Heard). h.answer) hs)

-- the past frames, read from the lines kept, the newest first
unfoldable pub frame_read : Option (Line Body) → Frame radio
frame_read none = other
frame_read (some x) = core x.body

unfoldable pub frames_kept : List Heard → List (Frame radio)
frames_kept hs = reverse (map (λ (h : Heard). frame_read (read text h.line)) hs)

-- What firmware saw of one call of replay: the part of the journal that it showed, the output before, the block and
-- the output after, how far was read, how much was written, the number.
pub record ReplayCall : Type 0 where
  pub shown : List ℕ
  pub out : List ℕ
  pub block : List ℕ
  pub left : List ℕ
  pub taken : ℕ
  pub count : ℕ
  pub number : ℕ

-- What a standby does: it calls replay, or it gives an addition again, with the block after and the number returned.
pub data StandbyMove : Type 0 where
  replays : ReplayCall → StandbyMove
  adds : Edition → List ℕ → ℕ → StandbyMove

-- Moves one after another, from the block s with the text t unread to the block u with v unread. Each call of replay
-- was shown a part of what was unread, as long as firmware liked, with an output of its own, and kept its contract.
-- Each addition was given "before replay reaches its number", while the block's position was below it, and kept its
-- contract.
abbrev pub MovesWhile : (ℕ → Bool) → List ℕ → List ℕ → List StandbyMove → List ℕ → List ℕ → Type 0
MovesWhile goes s t [] u v = (s ≡ u) × (t ≡ v)
MovesWhile goes s t (replays x ∷ xs) u v =
    ((hidden : List ℕ) × (t ≡ x.shown ++ hidden))
    × ReplayGave (replay_while engine goes (length x.out) s x.shown) x.out x.block x.left x.taken
    x.count x.number
    × MovesWhile goes x.block (drop x.taken t) xs u v
MovesWhile goes s t (adds e b r ∷ xs) u v = ((model_of s).position < e.from) × Adds s e b r × MovesWhile goes b t xs u v

-- .. of `bournejade_replay` and `bournejade_add_edition`
abbrev pub Moves : List ℕ → List ℕ → List StandbyMove → List ℕ → List ℕ → Type 0
Moves s t xs u v = MovesWhile (λ p. true) s t xs u v

-- .. of `bournejade_replay_to` with this last frame and `bournejade_add_edition`
abbrev pub MovesTo : ℕ → List ℕ → List ℕ → List StandbyMove → List ℕ → List ℕ → Type 0
MovesTo last s t xs u v = MovesWhile (λ p. ltb p last) s t xs u v

-- the editions given again, in order
unfoldable pub given_in : List StandbyMove → List Edition
given_in [] = []
given_in (replays x ∷ xs) = given_in xs
given_in (adds e b r ∷ xs) = e ∷ given_in xs

-- editions that are not late at a position: their numbers are above it
abbrev pub NotLate : ℕ → List Edition → Type 0
NotLate n [] = Unit {0}
NotLate n (e ∷ es) = (n < e.from) × NotLate n es

-- The editions `more` are given again "in the same order, before replay reaches its number or ends": those given and
-- those still due are `more`, and at the position reached none that is due is late.
pub record InTime (more given due : List Edition) (reached : ℕ) : Type 0 where
  pub order : more ≡ given ++ due
  pub not_late : NotLate reached due

-- the block after additions one after another
unfoldable pub with_editions : List ℕ → List Edition → List ℕ
with_editions s [] = s
with_editions s (e ∷ es) = with_editions (state_after s (add_whole s e)) es

-- each call of replay returned 0 or 3, each addition 0
abbrev pub Go : List StandbyMove → Type 0
Go [] = Unit {0}
Go (replays x ∷ xs) = ((x.number ≡ 0) ⊎ (x.number ≡ 3)) × Go xs
Go (adds e b r ∷ xs) = (r ≡ 0) × Go xs

-- each call of replay was lent 2,880 octets and shown a whole line, on a block whose position passes the test
abbrev pub Busy : (ℕ → Bool) → List ℕ → List StandbyMove → Type 0
Busy goes s [] = Unit {0}
Busy goes s (replays x ∷ xs) =
    (answer_room ≤ length x.out) × (cut x.shown ≡ [] → ⊥) × (goes (model_of s).position ≡ true)
    × Busy goes x.block xs
Busy goes s (adds e b r ∷ xs) = Busy goes b xs

-- how many calls of replay there are, and the octets that they wrote, one behind another
unfoldable pub turns_in : List StandbyMove → ℕ
turns_in [] = 0
turns_in (replays x ∷ xs) = suc (turns_in xs)
turns_in (adds e b r ∷ xs) = turns_in xs

unfoldable pub written_in : List StandbyMove → List ℕ
written_in [] = []
written_in (replays x ∷ xs) = take x.count x.left ++ written_in xs
written_in (adds e b r ∷ xs) = written_in xs

-- A session of the library in which an image was saved: what was kept before it, the block then, what was kept after
-- it and the editions accepted after it, the block at the end. A standby that is given the image, the journal kept
-- from frame j on, and those editions again; one that was refused is not given again. With no editions this is demand
-- 3 of document 01. restored: restoring returns 0 and leaves the block as it was at the save. goes_on: for j from 1
-- to k + 1, k frames being executed before the save, with the editions given first, replay into one output that has
-- 2,880 octets behind what is to be written returns 0, leaves the block of the unbroken run and writes exactly the
-- answers given after the save. in_turns: however the journal is cut and the outputs are lent, and whenever in time
-- the editions are given, every call of replay returns 0 or 3 and every addition 0; once no whole line is left unread
-- and no edition is due the block is that of the unbroken run, and what was written is exactly the answers given
-- after the save, once each. ends: of calls, of either replay, that were lent 2,880 octets and shown a whole line,
-- with the position below the frame that they are held to, there are at most as many as the journal has lines. once:
-- with replay up to the frame d, whose answers are dropped, until the position is d or no whole line is left, and
-- then replay, what the latter writes is exactly the answers to frames above d and above k, once each. gapped: for a
-- later j, n at most, with any first ones of the editions given, replay into 2,880 octets returns 2 at the first
-- line, and leaves the block and the output as they were. watched: the pairs that an image of the block at the end
-- lists are exactly those that the frames kept put under watch, each once, in the order of their latest starts.
pub record TakenOver (before later : List Heard) (more : List Edition) (at end img : List ℕ) : Type 0 where
  pub restored : (b : List ℕ) (r : ℕ) → r ≡ pick (is_image_on img) 0 10 → b ≡ block_in (is_image_on img) img
      → (r ≡ 0) × (b ≡ at)
  pub goes_on :
      (j : ℕ) → 1 ≤ j → j ≤ length before + 1 → (out b left : List ℕ) (m n r : ℕ)
      → ReplayGave (replay_into engine (length out) (with_editions at more) (kept_from j (before ++ later))) out b left m
      n r
      → length (answers_of later) + answer_room ≤ length out
      → (r ≡ 0) × (b ≡ end) × (left ≡ put out 0 (answers_of later)) × (n ≡ length (answers_of later))
  pub in_turns :
      (j : ℕ) → 1 ≤ j → j ≤ length before + 1 → (xs : List StandbyMove) (b rest : List ℕ) (due : List Edition)
      → Moves at (kept_from j (before ++ later)) xs b rest → InTime more (given_in xs) due (model_of b).position
      → Go xs × (cut rest ≡ [] → due ≡ [] → (b ≡ end) × (written_in xs ≡ answers_of later))
  pub ends :
      (goes : ℕ → Bool) (j : ℕ) → 1 ≤ j → j ≤ length before + 1
      → (xs : List StandbyMove) (b rest : List ℕ) (due : List Edition)
      → MovesWhile goes at (kept_from j (before ++ later)) xs b rest
      → InTime more (given_in xs) due (model_of b).position
      → Busy goes at xs
      → turns_in xs ≤ length (cut (kept_from j (before ++ later)))
  pub once :
      (d j : ℕ) → 1 ≤ j → j ≤ length before + 1
      → (xs ys : List StandbyMove) (c b between rest : List ℕ) (due : List Edition)
      → MovesTo d at (kept_from j (before ++ later)) xs c between → (d ≤ (model_of c).position) ⊎ (cut between ≡ [])
      → Moves c between ys b rest
      → InTime more (given_in xs ++ given_in ys) due (model_of b).position
      → Go xs × Go ys × (cut rest ≡ [] → due ≡ [] → (b ≡ end)
      × (written_in ys ≡ answers_of (drop (d - length before) later)))
  pub gapped :
      (j : ℕ) → length before + 1 < j → j ≤ length before + length later → (given due : List Edition)
      → more ≡ given ++ due
      → (out b left : List ℕ) (m n r : ℕ)
      → ReplayGave (replay_into engine (length out) (with_editions at given) (kept_from j (before ++ later))) out b left m
      n r → answer_room ≤ length out
      → (r ≡ 2) × (b ≡ with_editions at given) × (left ≡ out) × (m ≡ 0) × (n ≡ 0)
  pub watched :
      (out left : List ℕ) (n : ℕ) → Gave (image engine (length out) end) end out end left n 0
      → ByHistory radio (frames_kept (before ++ later)) (pairs_in (take n left))
