use Rattle.marks.proofs.FieldsLaws.{framed-short, framed-over, framed-plain, framed-cut, framed-scan}
use lib.ListN.{get_or}
use mathlib.Core.Path.{◌≡◌, ◌∙◌, ap}
use native.Mathlib.Omega.{arith}
use Prim.Native.Nat.{◌+◌}
use Rattle.marks.proofs.is_framed.Goals as goal

pub returns-then-n-lt10 : goal.returns-then-n-lt10
returns-then-n-lt10 c = framed-short c.args.payload.now c.if-n-lt10.true

pub returns-then-d-gt-DATA : goal.returns-then-d-gt-DATA
returns-then-d-gt-DATA c = let l = c.args.payload.now in
    let e : c.wide-d.result ≡ get_or l 8 0 = c.wide-d.ensures.0 in
    framed-over l (omega arith) (omega arith)

pub returns-then-n-d : goal.returns-then-n-d
returns-then-n-d c = let l = c.args.payload.now in
    let e : c.wide-d.result ≡ get_or l 8 0 = c.wide-d.ensures.0 in
    framed-plain l (omega arith) (omega arith) (omega arith)

pub returns-then-n-d-2 : goal.returns-then-n-d-2
returns-then-n-d-2 c = let l = c.args.payload.now in
    let e : c.wide-d.result ≡ get_or l 8 0 = c.wide-d.ensures.0 in
    framed-cut l (omega arith) (omega arith) (omega arith)

pub returns : goal.returns
returns c = let l = c.args.payload.now in
    let e : c.wide-d.result ≡ get_or l 8 0 = c.wide-d.ensures.0 in
    let k : c.wide-k.result ≡ get_or l (9 + get_or l 8 0) 0 = c.wide-k.ensures.0 ∙ ap (λ i. get_or l (9 + i) 0) e in
    rw (e, k) (framed-scan l (omega arith) (omega arith) (omega arith))
