use Rattle.std.proofs.Common.{◌≡◌, ◌-◌, ap, ◌∙◌, arith, rules}
use Rattle.visit.specs.FramesLaws.{book_to, book-none, book-turn, book-all, book-short}
use Rattle.visit.proofs.frames.begun.Goals as goal

pub returns-then-block-lt-SIZE : goal.returns-then-block-lt-SIZE
returns-then-block-lt-SIZE c = c.new-book.ensures ∙ book-short c.args.block.now (omega arith)

pub loop-i-init : goal.loop-i-init
loop-i-init c = (
  omega arith,
  search rules,
  c.new-book.ensures ∙ book-none c.args.block.now,
)

pub key_at-key-requires : goal.key_at-key-requires
key_at-key-requires c = (omega arith, omega arith)

pub loop-i-smaller : goal.loop-i-smaller
loop-i-smaller c = omega arith

pub loop-i-preserved : goal.loop-i-preserved
loop-i-preserved c = let l = c.loop-i in
    let a = c.args in (
      omega arith,
      search rules,
      rw c.begun.ensures (book-turn a.block.now l.i (omega arith) l.invariant.2 c.key_at-key.ensures),
    )

pub returns : goal.returns
returns c = let l = c.loop-i in
    let n = c.at_most-n in
    let g = c.get8 in
    let s = c.args.block.now in
    let e : l.i ≡ n.result = omega arith in
    book-all s g.result n.result (omega arith) g.ensures n.ensures.0 (l.invariant.2 ∙ ap (book_to s) e)
