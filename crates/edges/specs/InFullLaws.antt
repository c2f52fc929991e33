-- P1, document 01's session in full, in its own text with the line that T-12 adds, holds of the engine over whole
-- blocks, which the calls' contracts cite. The rows stand in the crate editions (InFull); here they are carried over.
-- Assumes nothing.
use Rattle.std.specs.Prelude.{ℕ, suc, ◌≡◌, refl, Bool, true, false, ◌&&◌, List, [], ◌∷◌, ◌++◌, length}
use Prim.Native.String.{String}
use Rattle.std.proofs.Common.{ap, ◌∙◌, subst, sym}
use Rattle.std.proofs.Math.Option.{none, some}
use Rattle.laws.specs.Tests.{pick, sames}
use Rattle.laws.specs.TestsLaws.{and_left}
use Rattle.laws.specs.Loops.{every, each}
use Rattle.sessions.specs.Machine.{answer_room}
use Rattle.sessions.specs.Saved.{Replayed, replay}
use Rattle.model.specs.Types.{fresh}
use Rattle.model.specs.Sound.{sound_settings, octets_up_to}
use Rattle.model.specs.Quoted.{codes}
use Rattle.model.specs.InFull.{FullExample, opcode_in_full, prefix_in_full, ticks_text, answer_lines, ran_through, saves, pictured, replayed, told_right}
use Rattle.steps.proofs.KeepsLaws.{fresh-sound}
use Rattle.editions.specs.Editions.{Gateway, sound_gateway, fresh_on, image_on, held_on, is_image_on, read_on}
use Rattle.editions.specs.Engine.{gateways}
use Rattle.editions.specs.InFull.{in_full_on}
use Rattle.editions.proofs.InFullLaws.{in-full-on}
use Rattle.wholes.specs.Whole.{whole}
use Rattle.wholes.specs.Engine.{engine, begin, whole_of, decode}
use Rattle.failover.proofs.LaidLaws.{on_replayed, replay-sound}
use Rattle.failover.proofs.Proved.{laws}
use Rattle.failover.proofs.AloneLaws.{alone-fresh, alone-sound}
use Rattle.failover.proofs.BlocksLaws.{replay-blocks, encode-blocks, begin-blocks}

in-range : sound_settings opcode_in_full prefix_in_full ≡ true
unfolding sound_settings octets_up_to every
in-range = refl

begun : sound_gateway (fresh_on opcode_in_full prefix_in_full) ≡ true
begun =
    ap sound_gateway (alone-fresh opcode_in_full prefix_in_full)
    ∙ alone-sound (fresh opcode_in_full prefix_in_full) (fresh-sound opcode_in_full prefix_in_full in-range)

-- the image of a row, and what its text is restored to
restored-blocks : (t : List ℕ) → saves engine begin (decode t) t ≡ saves gateways fresh_on (read_on t) t
unfolding saves decode read_on is_image_on whole_of pick
restored-blocks t = go (is_image_on t) refl
  where
    go : (b : Bool) → is_image_on t ≡ b
        → saves engine begin (whole_of (pick b (some (held_on t)) none)) t
        ≡ saves gateways fresh_on (pick b (some (held_on t)) none) t
    go true e = ap (λ (i : List ℕ). sames i t) (encode-blocks (held_on t) (and_left (sound_gateway (held_on t)) _ e))
    go false e = refl

pictured-blocks : (ls : List String) (g : Gateway) → sound_gateway g ≡ true
    → pictured engine begin ls (whole g) ≡ pictured gateways fresh_on ls g
unfolding pictured
pictured-blocks [] g ok = refl
pictured-blocks (l ∷ ls) g ok =
    let t : List ℕ = each codes (l ∷ ls) in
    ap (λ (i : List ℕ). sames i t && saves engine begin (decode t) t) (encode-blocks g ok)
    ∙ ap (λ (b : Bool). sames (image_on g) t && b) (restored-blocks t)

told_blocks : (r : FullExample) → told_right engine begin r ≡ told_right gateways fresh_on r
unfolding told_right replayed on_replayed
told_blocks r =
    let g : Gateway = fresh_on opcode_in_full prefix_in_full in
    let t : List ℕ = each codes r.journal ++ ticks_text r.ticks (suc (length r.journal)) in
    let x : Replayed Gateway = replay gateways (λ i. answer_room) g t in
    let z : replay engine (λ i. answer_room) (begin opcode_in_full prefix_in_full) t ≡ on_replayed whole x =
    ap (λ (s : List ℕ). replay engine (λ i. answer_room) s t) (begin-blocks opcode_in_full prefix_in_full in-range)
    ∙ replay-blocks (λ i. answer_room) g begun t in
    ap (λ (v : Replayed (List ℕ)). ran_through v.stop
    && sames (each answer_lines v.answers) (each codes r.says)
    && pictured engine begin r.image v.state) z
    ∙ ap (λ (b : Bool). ran_through x.stop && sames (each answer_lines x.answers) (each codes r.says) && b)
    (pictured-blocks r.image x.state (replay-sound gateways laws (λ i. answer_room) g begun t))

tolds-blocks : (ts : List FullExample) → every (told_right engine begin) ts ≡ every (told_right gateways fresh_on) ts
unfolding every
tolds-blocks [] = refl
tolds-blocks (t ∷ ts) =
    ap (λ (b : Bool). b && every (told_right engine begin) ts) (told_blocks t)
    ∙ ap (λ (b : Bool). told_right gateways fresh_on t && b) (tolds-blocks ts)

-- P1 holds of the engine over blocks.
pub engine-in-full : every (told_right engine begin) in_full_on ≡ true
engine-in-full = tolds-blocks in_full_on ∙ in-full-on
