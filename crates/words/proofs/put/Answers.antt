use Prim.Native.Nat.{ℕ, ◌-◌, min}
use mathlib.Core.Path.{◌≡◌, sym, ap, ◌∙◌}
use native.Mathlib.Omega.{arith}
use Rattle.words.specs.SaysLaws.{copied}
use lib.ListN.{length}
use lib.Seq.{length-take-le}
use borrow.Author.Rules.{rules}
use Rattle.words.proofs.put.Goals as goal

pub slice_bounds-copy-end-2 : goal.slice_bounds-copy-end-2
slice_bounds-copy-end-2 c = sym (length-take-le c.min-n.result
    c.args.words.now (omega (arith, c.min-n.ensures)))

pub returns : goal.returns
returns c = let l : length c.args.out.now ≡ 8192 = search rules in
    copied c.args.out.now c.args.at c.args.words.now c.min-n.result
    (c.min-n.ensures ∙ ap (λ (j : ℕ). min (length c.args.words.now) j)
    (c.saturating_sub.ensures ∙ ap (λ (j : ℕ). j - c.args.at) (sym l))) c.copy.ensures.0
    c.copy.ensures.1
