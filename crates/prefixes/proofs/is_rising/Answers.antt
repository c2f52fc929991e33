use native.Mathlib.Omega.{arith}
use Prim.Native.Nat.{◌-◌}
use mathlib.Core.Path.{◌≡◌, sym, ◌∙◌}
use Rattle.laws.specs.TestsLaws.{cases-le}
use Rattle.prefixes.specs.Held.{edition_count}
use Rattle.prefixes.specs.SoundLaws.{rising_none, rising-first, rises-all, rises-not, rises-more, rises-end}
use Rattle.prefixes.proofs.is_rising.Goals as goal

pub returns-then-count-eq0 : goal.returns-then-count-eq0
returns-then-count-eq0 c = rising_none c.args.s.now (sym c.count_of-count.ensures.0 ∙ c.if-count-eq0.true)

pub number_at-last-requires : goal.number_at-last-requires
number_at-last-requires c = (c.requires, omega arith)

pub returns-then-last-ne0 : goal.returns-then-last-ne0
returns-then-last-ne0 c = rising-first c.args.s.now (let k = c.count_of-count.ensures.0 in
    let n = c.if-count-eq0.false in
    let z : edition_count c.args.s.now ≡ 0
    → ⊥ = λ q. n (k ∙ q) in cases-le 1 (edition_count c.args.s.now) (λ h. omega arith)
    (λ h. absurd (z (omega arith)))) (λ z. c.if-last-ne0.true (c.number_at-last.ensures ∙ z))

pub loop-i-init : goal.loop-i-init
loop-i-init c = rises-all c.args.s.now _ (let k = c.count_of-count.ensures.0 in
    let n = c.if-count-eq0.false in
    let z : edition_count c.args.s.now ≡ 0
    → ⊥ = λ q. n (k ∙ q) in cases-le 1 (edition_count c.args.s.now) (λ h. omega arith)
    (λ h. absurd (z (omega arith)))) c.number_at-last.ensures c.if-last-ne0.false

pub number_at-next-requires : goal.number_at-next-requires
number_at-next-requires c = let l = c.loop-i in
    let k = c.count_of-count.ensures.1 in
    (c.requires, omega arith)

pub returns-then-next-last : goal.returns-then-next-last
returns-then-next-last c = let l = c.loop-i in
    let k = c.count_of-count.ensures.0 in
    rises-not c.args.s.now l.last l.i (omega arith) l.invariant c.number_at-next.ensures
    c.if-next-last.true

pub loop-i-smaller : goal.loop-i-smaller
loop-i-smaller c = omega arith

pub loop-i-preserved : goal.loop-i-preserved
loop-i-preserved c = let l = c.loop-i in
    let k = c.count_of-count.ensures.0 in
    rises-more c.args.s.now l.last l.i (omega arith) l.invariant c.number_at-next.ensures
    c.if-next-last.false

pub returns : goal.returns
returns c = let l = c.loop-i in
    let k = c.count_of-count.ensures.0 in
    rises-end c.args.s.now l.last l.i (omega arith) l.invariant
