-- What is shown, on one page. Each theorem is restated with the words of its statement and proved by its name alone;
-- what the words mean is in the files that docs/TRUSTED.md lists. Nothing is assumed. The contracts of the calls are
-- in the code (`crates/engine`, `crates/bournejade`).
use Rattle.std.specs.Prelude.{ℕ, ◌≤◌, ◌≡◌, ◌↔◌, true, List, [], ◌++◌, map, length, take}
use Rattle.std.proofs.Math.Option.{some, none}
use Rattle.laws.specs.Tests.{pick}
use Rattle.laws.specs.Loops.{every}
use Rattle.octets.specs.Little.{is_octet}
use Rattle.lines.specs.Hex.{text_of, octets_in, is_text}
use Rattle.lines.specs.Frame.{is_frame, is_line}
use Rattle.lines.specs.FrameLaws.{is-line-exactly}
use Rattle.lines.specs.TextsLaws as texts
use Rattle.advert.specs.Cost.{match_cost}
use Rattle.advert.proofs.CostMostLaws as cost
use Rattle.totals.specs.declared.Row.{Row}
use Rattle.totals.specs.Table.{empty, row_fits, row_sum}
use Rattle.totals.specs.Join as join
use Rattle.totals.proofs.JoinLaws as join-laws
use Rattle.totals.specs.Join.{join_of}
use Rattle.sessions.specs.Session.{image}
use Rattle.sessions.specs.Saved.{replay_lines}
use Rattle.sessions.specs.Additions.{Act, frames_on}
use Rattle.model.specs.Block.{model_of}
use Rattle.model.specs.Sound.{sound_settings}
use Rattle.model.specs.Rows.{right}
use Rattle.model.specs.Edges.{edges}
use Rattle.model.specs.InFull.{told_right}
use Rattle.editions.specs.Editions.{Gateway, sound_gateway, fresh_on, image_on, read_on}
use Rattle.editions.specs.Engine.{gateways}
use Rattle.editions.proofs.ImagesLaws as images
use Rattle.editions.proofs.ExactlyLaws as exact
use Rattle.editions.specs.InFull.{in_full_on}
use Rattle.editions.specs.Rows.{addition_rows}
use Rattle.wholes.specs.Whole.{sound_whole}
use Rattle.wholes.specs.Engine.{engine, begin}
use Rattle.bournejade.specs.Gives.{Gave}
use Rattle.failover.specs.Claim.{Demand3}
use Rattle.failover.specs.Grows.{growing}
use Rattle.failover.proofs.Proved as proved
use Rattle.edges.specs.Edges.{example_with_edition}
use Rattle.edges.specs.EdgesLaws.{engine-edges}
use Rattle.edges.specs.InFullLaws.{engine-in-full}
use Rattle.edges.specs.Additions.{holds_in}
use Rattle.edges.specs.AdditionsLaws.{engine-additions}
use Rattle.delivery.specs.Added.{growing_blocks, DeliveredOn, delivered-on}
use Rattle.delivery.specs.Firmware.{Step, Seen, heard_in, accepted_in, TakenOver}
use Rattle.delivery.proofs.LinkedLaws as linked
use Rattle.chains.specs.Chain as chain
use Rattle.chains.specs.Failovers.{Failovers}
use Rattle.chains.proofs.ProofLaws as chained
use Rattle.testdays.specs.Days as days
use Rattle.testdays.proofs.ProofLaws as tested
use Rattle.months.specs.Counting.{no_rows}
use Rattle.month.specs.Outcomes.{at}
use Rattle.cuts.specs.Cut.{CutLaw}
use Rattle.cuts.specs.Calls as cuts
use Rattle.cuts.specs.CallsLaws as cuts-laws
use Rattle.twins.specs.Twin.{most_kept}
use Rattle.twins.specs.Claim.{tells}
use Rattle.twins.specs.First.{began_on, whole_by}
use Rattle.twin.specs.Calls.{begin_block}
use Rattle.agreement.specs.Claim.{block_by}
use Rattle.agreement.proofs.Proved as agreement

-- DEMAND 2. Lines read back to what was written: the lines of frames are exactly the texts of frames, and of each
-- octets there is one text.
pub lines-exactly : (t : List ℕ)
    → (is_line t ≡ true) ↔ ((xs : List ℕ) × (t ≡ text_of xs) × (every is_octet xs ≡ true) × (is_frame xs ≡ true))
lines-exactly = is-line-exactly

pub lines-read-back : (xs : List ℕ) → every is_octet xs ≡ true → octets_in (text_of xs) ≡ xs
lines-read-back = texts.read-written

pub one_line : (s t : List ℕ) → is_text s ≡ true → is_text t ≡ true → octets_in s ≡ octets_in t → s ≡ t
one_line = texts.one-text

-- Images read back to what was written; what is an image is exactly what saving writes of a sound state; no two texts
-- of one image are accepted.
pub images-read-back : (g : Gateway) → sound_gateway g ≡ true → read_on (image_on g) ≡ some g
images-read-back = images.restores

pub images-exactly : (t : List ℕ) (g : Gateway) → (read_on t ≡ some g) ↔ ((sound_gateway g ≡ true) × (image_on g ≡ t))
images-exactly = exact.exactly

pub one-image : (s t : List ℕ) (g : Gateway) → read_on s ≡ some g → read_on t ≡ some g → s ≡ t
one-image = exact.one-text

-- P1 in document 01's own text, character by character; P1 to P10 and the rows of the requests; T-12's rows: over the
-- engine that the contracts cite.
pub in-full : every (told_right engine begin) in_full_on ≡ true
in-full = engine-in-full

pub p1-to-p10 : every (right engine begin) (map example_with_edition edges) ≡ true
p1-to-p10 = engine-edges

pub t12-rows : every holds_in addition_rows ≡ true
t12-rows = engine-additions

-- DEMAND 3, whole, with additions (T-12): over records, over whole blocks, and as firmware sees it through the library.
pub demand3 : (opcode : ℕ) (prefix : List ℕ) → sound_settings opcode prefix ≡ true
    → (calls : List (Act gateways growing)) → Demand3 opcode prefix calls
demand3 = proved.demand3

pub demand3-blocks : (opcode : ℕ) (prefix : List ℕ) → sound_settings opcode prefix ≡ true
    → (calls : List (Act engine growing_blocks))
    → DeliveredOn opcode prefix calls
demand3-blocks = delivered-on

pub demand3-library : (opcode : ℕ) (prefix fresh : List ℕ) (r : ℕ) → r ≡ pick (sound_settings opcode prefix) 0 9
    → fresh ≡ begin opcode prefix → r ≡ 0
    → (before later : List Step) (out left at end : List ℕ) (n : ℕ)
    → Seen fresh before at → Gave (image engine (length out) at) at out at left n 0 → Seen at later end
    → TakenOver (heard_in before) (heard_in later) (accepted_in later) at end (take n left)
demand3-library = linked.taken-over

-- T-07: for every list of calls of which the first engine executes at most 128 frames, the slow twin and the first
-- engine, with the same settings, give equal answers, refusals and images, call by call: over the blocks that the
-- contracts of both cite.
pub t07 : (opcode : ℕ) (prefix : List ℕ) (calls : List (Act gateways growing))
    → frames_on gateways growing (began_on opcode prefix) calls ≤ most_kept
    → tells block_by (begin_block opcode prefix) calls ≡ tells whole_by (begin opcode prefix) calls
t07 = agreement.agree

-- T-08: the cost of a match.
pub t08 : (condition adv scan : List ℕ) → length condition ≤ 64 → length adv ≤ 31 → length scan ≤ 31
    → match_cost condition adv scan ≤ 900
t08 = cost.most-900

-- T-10: where no sum along the way would pass 64 bits joining is associative and commutative, and the empty row
-- changes nothing; the law of the cut.
pub t10-commutative : (a b : Row) → join_of a b ≡ join_of b a
t10-commutative = join-laws.join-comm

pub t10-associative : (a b c : Row) → row_fits a b ≡ true → row_fits b c ≡ true → row_fits (row_sum a b) c ≡ true
    → row_fits a (row_sum b c) ≡ true
    → join_of (join_of a b) c ≡ join_of a (join_of b c)
t10-associative = join-laws.join-assoc

pub t10-empty : (a : Row) → row_sum a empty ≡ a
t10-empty = join-laws.sum-empty

pub t10-cut : (lent : ℕ → ℕ) (s : List ℕ) (ls ms : List (List ℕ)) → sound_whole s ≡ true
    → (replay_lines cuts.counting_blocks lent (at s no_rows) (ls ++ ms)).stop ≡ none
    → CutLaw engine model_of (λ b. b) lent s ls ms
t10-cut = cuts-laws.cut-calls

-- T-14: any number of failovers, over records and as firmware sees it.
pub t14 : (opcode : ℕ) (prefix : List ℕ) (moves : List (chain.Move gateways growing))
    → chain.Proper gateways growing (chain.begun gateways growing (fresh_on opcode prefix)) moves
    → Failovers opcode prefix moves
t14 = chained.failovers

pub t14-library : (opcode : ℕ) (prefix fresh : List ℕ) (r : ℕ) → r ≡ pick (sound_settings opcode prefix) 0 9
    → fresh ≡ begin opcode prefix → r ≡ 0
    → (ds : List days.Action) → days.Saw (days.begun fresh) ds → days.TestDay prefix fresh ds
t14-library = tested.test-day
