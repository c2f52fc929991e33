-- The theorem of T-07 over what the contracts of both engines cite: for every list of calls, the same given to both
-- with the same settings, of which the first engine executes at most 128 frames, the twin's blocks and the first
-- engine's give equal answers, refusals and images, call by call. Assumes nothing.
use Rattle.std.specs.Prelude.{ℕ, ◌≤◌, ◌≡◌, refl, true, List, [], ◌∷◌}
use Rattle.std.proofs.Common.{ap, ◌∙◌}
use Rattle.sessions.specs.Session.{state_after}
use Rattle.sessions.specs.Additions.{Act, frames_on}
use Rattle.editions.specs.Engine.{gateways}
use Rattle.wholes.specs.Engine.{begin}
use Rattle.failover.specs.Grows.{growing}
use Rattle.twins.specs.Twin.{Twin, most_kept}
use Rattle.twins.specs.Claim.{tells, twin_by}
use Rattle.twins.specs.First.{began_on, whole_by}
use Rattle.twins.proofs.Proved.{same_blocks}
use Rattle.twin.specs.Block.{sound_block, twin_of}
use Rattle.twin.specs.Calls.{begin_block}
use Rattle.agreement.specs.Claim.{block_by}
use Rattle.agreement.specs.AddedLaws.{begin-sound, begin-twin}
use Rattle.agreement.proofs.CallsLaws.{Alike, called}

-- a sound block gives what the record that it holds gives, whatever the calls
pub as-records : (b : List ℕ) → sound_block b ≡ true → (calls : List (Act gateways growing))
    → tells block_by b calls ≡ tells twin_by (twin_of b) calls
unfolding tells
as-records b z [] = refl
as-records b z (c ∷ cs) =
    let r : Alike b (block_by b c) (twin_by (twin_of b) c) = called b z c in
    rw (r.said, as-records (state_after b (block_by b c)) r.sound cs, r.state)

pub agree : (opcode : ℕ) (prefix : List ℕ) (calls : List (Act gateways growing))
    → frames_on gateways growing (began_on opcode prefix) calls ≤ most_kept
    → tells block_by (begin_block opcode prefix) calls ≡ tells whole_by (begin opcode prefix) calls
agree opcode prefix calls h =
    as-records (begin_block opcode prefix) (begin-sound opcode prefix) calls
    ∙ ap (λ (t : Twin). tells twin_by t calls) (begin-twin opcode prefix)
    ∙ same_blocks opcode prefix calls h
