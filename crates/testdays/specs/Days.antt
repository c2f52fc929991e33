-- Any number of failovers as firmware sees it through the library for C: what the calls' contracts say of the octets
-- lent and left and of the numbers returned, call after call and failover after failover. Document 02, T-14: "We fail
-- over and back on test days." Definitions alone, over those of `delivery/Firmware` (Step, Kept, Heard, Move, Moves)
-- and of the crate chains (Image, Tells, heard); the theorem is `test-day` of Proof.
use Rattle.std.specs.Prelude.{ℕ, zero, suc, ◌+◌, ◌≤◌, ◌≡◌, List, [], ◌∷◌, ◌++◌, length, take, drop}
use Rattle.std.proofs.Math.Option.{Option, none, some}
use Rattle.laws.specs.Tests.{pick}
use Rattle.rule.specs.Base.{In}
use Rattle.sessions.specs.Machine.{Line, text}
use Rattle.sessions.specs.Saved.{cut}
use Rattle.model.specs.Frames.{Body, read}
use Rattle.model.proofs.Radio.{radio, core}
use Rattle.editions.specs.Editions.{Edition, prefix_for, is_image_on}
use Rattle.wholes.specs.Engine.{block_in}
use Rattle.chains.specs.Chain.{Image}
use Rattle.chains.specs.Told.{Told, Tells}
use Rattle.chains.specs.Hear as hear
use Rattle.delivery.specs.Firmware.{Step, gave, saved, added, block_after, Kept, Seen, Heard, heard, heard_in, accepted, kept_from, answers_of, StandbyMove, Moves, given_in, Go, written_in}

-- What firmware did and saw: a call on the block on duty; or a failover: an image that it kept, j, the block and the
-- number that restoring it gave, what the standby did then (calls of replay, editions given again), the block that
-- this left, and what was left unread of the journal.
pub data Action : Type 0 where
  calls : Step → Action
  failover : Image → ℕ → List ℕ → ℕ → List StandbyMove → List ℕ → List ℕ → Action

-- Where firmware stands: the block on duty, the lines and answers that it kept of the frames executed, the editions
-- accepted, the images that it saved.
pub record Now : Type 0 where
  pub block : List ℕ
  pub kept : List Heard
  pub editions : List Edition
  pub images : List Image

unfoldable pub begun : List ℕ → Now
begun fresh = record { block = fresh; kept = []; editions = []; images = [] }

-- the image of a save that returned 0: the octets at the output's front, as many as were told
unfoldable pub saved_by : Now → Step → List Image
saved_by n (gave w raw out t left k r) = []
saved_by n (saved out left k zero) =
    record { after = length n.kept; added = length n.editions; octets = take k left } ∷ []
saved_by n (saved out left k (suc r)) = []
saved_by n (added a t r) = []

-- a call
unfoldable pub called : Now → Step → Now
called n x =
    record {
      block = block_after n.block x;
      kept = n.kept ++ heard x;
      editions = n.editions ++ accepted x;
      images = n.images ++ saved_by n x;
    }

-- a failover: its block is on duty then
unfoldable pub took_over : Now → List ℕ → Now
took_over n b = record { block = b; kept = n.kept; editions = n.editions; images = n.images }

unfoldable pub day_ends : Now → List Action → Now
day_ends n [] = n
day_ends n (calls x ∷ ds) = day_ends (called n x) ds
day_ends n (failover x j c r xs b rest ∷ ds) = day_ends (took_over n b) ds

-- the calls alone
unfoldable pub steps_of : List Action → List Step
steps_of [] = []
steps_of (calls x ∷ ds) = x ∷ steps_of ds
steps_of (failover x j c r xs b rest ∷ ds) = steps_of ds

-- A failover that the request speaks of: of an image saved earlier in the run, before or after earlier failovers,
-- with j from 1 to k + 1 of the journal kept; `bournejade_restore`, `bournejade_replay` and `bournejade_add_edition`
-- kept their contracts; the editions accepted after the image were given again, in order, each while the position was
-- below its number (Moves); no whole line was left unread.
pub record FailsOver (n : Now) (x : Image) (j : ℕ) (c : List ℕ) (r : ℕ) (xs : List StandbyMove)
    (b rest : List ℕ) : Type
    0 where
  pub saved : In x n.images
  pub least : 1 ≤ j
  pub most : j ≤ x.after + 1
  pub number : r ≡ pick (is_image_on x.octets) 0 10
  pub restored : c ≡ block_in (is_image_on x.octets) x.octets
  pub moves : Moves c (kept_from j n.kept) xs b rest
  pub again : given_in xs ≡ drop x.added n.editions
  pub all : cut rest ≡ []

-- every call kept its contract, and every failover is one
abbrev pub Saw : Now → List Action → Type 0
Saw n [] = Unit {0}
Saw n (calls x ∷ ds) = Kept n.block x × Saw (called n x) ds
Saw n (failover x j c r xs b rest ∷ ds) = FailsOver n x j c r xs b rest × Saw (took_over n b) ds

-- What a failover gave: restoring returned 0, every call of replay 0 or 3 and every addition 0; its block is the one
-- that was on duty; and what it wrote is exactly the answers kept of the frames after the image, once each.
pub record Gives (n : Now) (x : Image) (r : ℕ) (xs : List StandbyMove) (b : List ℕ) : Type 0 where
  pub number : r ≡ 0
  pub go : Go xs
  pub block : b ≡ n.block
  pub wrote : written_in xs ≡ answers_of (drop x.after n.kept)

abbrev pub AllGive : Now → List Action → Type 0
AllGive n [] = Unit {0}
AllGive n (calls x ∷ ds) = AllGive (called n x) ds
AllGive n (failover x j c r xs b rest ∷ ds) = Gives n x r xs b × AllGive (took_over n b) ds

-- The frames kept, read from their lines, with the events of their answers, read from the octets by the edition that
-- each frame's number has; put before what came earlier.
unfoldable pub told_one : List Edition → Option (Line Body) → List ℕ → Told radio → Told radio
told_one es none a told = told
told_one es (some x) a told = (core x.body, hear.events_read (prefix_for x.num es) a) ∷ told

unfoldable pub told_of : List Edition → List Heard → Told radio → Told radio
told_of es [] told = told
told_of es (h ∷ hs) told = told_of es hs (told_one es (read text h.line) h.answer told)

-- A test day, begun with the block `fresh` and the settings' prefix. unbroken: the calls are a session without a
-- failover: each returned and left what it did, on the block that the call before left, and the block on duty at the
-- end is that session's. kept: so are the lines and answers kept. gives: what each failover gave. events: the answers
-- tell what the history rule says of every pair: starts and stops where it has them, a stop at the tick that is due
-- or with the packet that displaces, and at no other frame; and those of a pair take turns within one life of its
-- monitor.
pub record TestDay (prefix fresh : List ℕ) (ds : List Action) : Type 0 where
  pub unbroken : Seen fresh (steps_of ds) (day_ends (begun fresh) ds).block
  pub kept : (day_ends (begun fresh) ds).kept ≡ heard_in (steps_of ds)
  pub gives : AllGive (begun fresh) ds
  pub events :
      Tells radio (told_of (record { from = 0; prefix = prefix } ∷ (day_ends (begun fresh) ds).editions)
      (day_ends (begun fresh) ds).kept [])
