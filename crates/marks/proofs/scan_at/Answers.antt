use Rattle.marks.proofs.FieldsLaws.{scan-at-short, scan-at-none, scan-at-some}
use lib.ListN.{get_or}
use mathlib.Core.Path.{◌≡◌, sym}
use native.Mathlib.Omega.{arith}
use Rattle.marks.proofs.scan_at.Goals as goal

pub returns-then-n-lt9 : goal.returns-then-n-lt9
returns-then-n-lt9 c = scan-at-short c.args.payload.now (omega arith)

pub returns-then-n-d : goal.returns-then-n-d
returns-then-n-d c = let l = c.args.payload.now in
    let e : c.wide-d.result ≡ get_or l 8 0 = c.wide-d.ensures.0 in
    rw e (sym (scan-at-none l (omega arith)))

pub returns : goal.returns
returns c = let l = c.args.payload.now in
    let e : c.wide-d.result ≡ get_or l 8 0 = c.wide-d.ensures.0 in
    rw e (sym (scan-at-some l (omega arith)))
