use Rattle.std.proofs.Common.{sym, arith}
use Rattle.totals.proofs.JoinLaws.{not-packets, not-reports, not-ticks, not-sum, all-fit, all-joined, none-fits, none-row}
use Rattle.totals.proofs.join.Goals as goal

pub returns-in_err-checked_add : goal.returns-in_err-checked_add
returns-in_err-checked_add c =
    let a = c.args in
    let f = not-packets a.a a.d (c.in_err-checked_add.ensures) in
    let e = c.from_residual.ensures in
    record { fits = none-fits a.a a.d e f; row = none-row a.a a.d e f }

pub returns-in_err-checked_add-2 : goal.returns-in_err-checked_add-2
returns-in_err-checked_add-2 c =
    let a = c.args in
    let f = not-reports a.a a.d (c.in_err-checked_add-2.ensures) in
    let e = c.from_residual-in_err-checked_add-2.ensures in
    record { fits = none-fits a.a a.d e f; row = none-row a.a a.d e f }

pub returns-in_err-checked_add-3 : goal.returns-in_err-checked_add-3
returns-in_err-checked_add-3 c =
    let a = c.args in
    let f = not-ticks a.a a.d (c.in_err-checked_add-3.ensures) in
    let e = c.from_residual-in_err-checked_add-3.ensures in
    record { fits = none-fits a.a a.d e f; row = none-row a.a a.d e f }

pub returns-in_err-checked_add-4 : goal.returns-in_err-checked_add-4
returns-in_err-checked_add-4 c =
    let a = c.args in
    let f = not-sum a.a a.d (omega arith) (omega arith) (c.in_err-checked_add-4.ensures) in
    let e = c.from_residual-in_err-checked_add-4.ensures in
    record { fits = none-fits a.a a.d e f; row = none-row a.a a.d e f }

pub returns : goal.returns
returns c =
    let a = c.args in
    let p = c.in_ok-checked_add.ensures in
    let r = c.in_ok-checked_add-2.ensures in
    let t = c.in_ok-checked_add-3.ensures in
    let s = c.in_ok-checked_add-4.ensures in
    let f = all-fit a.a a.d (omega arith) (omega arith) p.0 r.0 t.0 s.0 in
    record { fits = sym f; row = all-joined a.a a.d (omega arith) (omega arith) f p.1 r.1 t.1 s.1 }
