use Rattle.std.specs.Prelude.{ℕ, List, Option, Some, ltb, unwrap_or, is_some}
use Rattle.std.proofs.Common.{lt-ltb}
use Rattle.commands.specs.Handles.{lowest}
use Rattle.commands.specs.RepliesLaws.{replied-within, answer-add}
use Rattle.commands.specs.OwedLaws.{add-handle, add-enough}
use Rattle.commands.specs.RanLaws.{add_done, add-failed}
use Rattle.model.specs.Layout.{most_monitors}
use Rattle.statuses.specs.Statuses.{add_of}
use Rattle.statuses.specs.CodesLaws.{code-some}
use mathlib.Core.Bool.{Bool}
use mathlib.Core.Path.{◌≡◌, refl, sym, ap, ◌∙◌}
use native.Mathlib.Omega.{arith}
use Rattle.commands.proofs.add_monitor.Goals as goal

-- the status by whether there is room, and by the lowest handle
module _ (l : List ℕ) (o : Option ℕ) (n : ℕ) {r : ℕ} {t : Bool} (g : is_some o ≡ ltb n most_monitors)
    (k : t ≡ is_some o) (s : r ≡ add_of t l) where
  by_low : r ≡ add_of (ltb n most_monitors) l
  by_low = s ∙ ap (λ (b : Bool). add_of b l) (k ∙ g)

  by_handle : {h : ℕ} → o ≡ Some h → unwrap_or o most_monitors ≡ n → (h ≡ n) × (r ≡ add_of (ltb h most_monitors) l)
  by_handle {h} e f =
      let q : h ≡ n = rw e at f in
      (q, by_low ∙ ap (λ (j : ℕ). add_of (ltb j most_monitors) l) (sym q))

pub unwrap-h-requires : goal.unwrap-h-requires
unwrap-h-requires c = let l = c.args.params.now in
    let f = c.free_handle-free.ensures in
    let b = add-handle (lowest c.args.s.now most_monitors 0) l (by_low l c.free_handle-free.result _ f.room c.is_some.ensures c.in-Ok.ensures) refl in
    let e : is_some c.free_handle-free.result ≡ mathlib.Core.Bool.true = f.room ∙ lt-ltb _ most_monitors b in
    search (borrow.Author.Rules.rules, e)

pub put_monitor-requires : goal.put_monitor-requires
put_monitor-requires c = let l = c.args.params.now in
    let h = c.unwrap-h.result in
    let f = c.free_handle-free.ensures in
    let z = by_handle l c.free_handle-free.result _ f.room c.is_some.ensures c.in-Ok.ensures c.unwrap-h.ensures f.handle in (
      omega arith,
      add-handle h l z.1 refl,
      add-enough h l z.1 refl
          c.requires.2 c.requires.3 c.type_at-at.ensures,
    )

pub overflow_cast-h : goal.overflow_cast-h
overflow_cast-h c = let l = c.args.params.now in
    let f = c.free_handle-free.ensures in
    let z = by_handle l c.free_handle-free.result _ f.room c.is_some.ensures c.in-Ok.ensures c.unwrap-h.ensures f.handle in
    let b = add-handle c.unwrap-h.result l z.1 refl in
    omega arith

pub reply_handle-requires : goal.reply_handle-requires
reply_handle-requires c = (omega arith, answer-add _ c.requires.3)

pub returns-in-Ok : goal.returns-in-Ok
returns-in-Ok c = let a = c.args in
    let p = c.requires in
    let l = a.params.now in
    let h = c.unwrap-h.result in
    let f = c.free_handle-free.ensures in
    let z = by_handle l c.free_handle-free.result _ f.room c.is_some.ensures c.in-Ok.ensures c.unwrap-h.ensures f.handle in (
      (λ m e q. add_done m a.s.now l e q a.out.now
          c.get16-opcode.ensures p.2 p.3 z.0
          z.1 refl (add-handle h l z.1 refl) (add-enough h l z.1 refl p.2 p.3 c.type_at-at.ensures)
          c.put_monitor.ensures c.reply_handle.ensures),
      replied-within a.out.now (omega arith)
          c.reply_handle.ensures,
    )

pub reply_handle-requires-in-Err : goal.reply_handle-requires-in-Err
reply_handle-requires-in-Err c = (omega arith, answer-add _ c.requires.3)

pub returns-in-Err : goal.returns-in-Err
returns-in-Err c = let a = c.args in
    let p = c.requires in
    let f = c.free_handle-free.ensures in (
      (λ m e q. add-failed m a.s.now a.params.now e q a.out.now
          c.get16-opcode.ensures {h = lowest a.s.now most_monitors 0} p.2 p.3 refl
          (by_low a.params.now c.free_handle-free.result _ f.room c.is_some.ensures (c.code.ensures ∙ c.in-Err.ensures))
          (λ z. code-some _ (sym c.code.ensures ∙ z))
          refl c.reply_handle-in-Err.ensures),
      replied-within a.out.now (omega arith)
          c.reply_handle-in-Err.ensures,
    )
