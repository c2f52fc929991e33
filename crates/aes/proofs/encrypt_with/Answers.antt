use Prim.Native.Nat.{◌-◌}
use mathlib.Core.Path.{◌≡◌, refl, ◌∙◌}
use native.Mathlib.Omega.{arith}
use Rattle.fips197.specs.Cipher.{power_of_x, key_expansion, round_key, rounds}
use Rattle.fips197.specs.Laws.{round-turn, cipher-end}
use Rattle.aes.specs.Blocks.{block_octets}
use Rattle.aes.proofs.encrypt_with.Goals as goal

pub loop-n-init : goal.loop-n-init
unfolding power_of_x round_key key_expansion rounds
loop-n-init c = (omega arith, refl, refl, refl)

pub loop-n-smaller : goal.loop-n-smaller
loop-n-smaller c = omega arith

pub loop-n-preserved : goal.loop-n-preserved
loop-n-preserved c = let l = c.loop-n in
    let k₀ = c.args.key in
    let s₀ = c.add_round_key-s.result in
    let t = round-turn (block_octets k₀) (block_octets s₀) l.n l.invariant.1 l.invariant.2 l.invariant.3
    c.double-rc.ensures c.next_key-k.ensures c.mix_shift.ensures
    c.add_round_key-s-in-loop-n.ensures in
    (omega arith, t.0, t.1, t.2)

pub returns : goal.returns
returns c = let a = c.args in
    let l = c.loop-n in
    let e : l.n ≡ 9 = omega arith in
    c.last_round.ensures ∙ cipher-end (block_octets a.key) (block_octets a.block) (rw e at l.invariant.1)
    (rw e at l.invariant.2) (rw (e, c.add_round_key-s.ensures) at l.invariant.3)
    c.next_key.ensures
