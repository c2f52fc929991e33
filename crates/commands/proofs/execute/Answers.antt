use Rattle.commands.specs.RepliesLaws.{replied-within}
use Rattle.commands.specs.CommandLaws.{sub_is, other-failed}
use mathlib.Core.Path.{refl, sym, ◌∙◌}
use native.Mathlib.Omega.{arith}
use Rattle.commands.proofs.execute.Goals as goal

pub read_features-requires : goal.read_features-requires
read_features-requires c = (
  omega arith,
  omega arith,
  sub_is c.args.params.now 0
      c.get8-sub.ensures c.if-sub-eq0.true,
)

pub add_monitor-requires : goal.add_monitor-requires
add_monitor-requires c = (
  omega arith,
  omega arith,
  sym
      (sub_is c.args.params.now _ c.get8-sub.ensures refl),
  sym c.is_add.ensures
      ∙ c.if-is_add.true,
)

pub cancel_monitor-requires : goal.cancel_monitor-requires
cancel_monitor-requires c = (
  omega arith,
  omega arith,
  sub_is
      c.args.params.now 4 c.get8-sub.ensures c.if-sub-eq4.true,
)

pub enable_filter-requires : goal.enable_filter-requires
enable_filter-requires c = (
  omega arith,
  omega arith,
  sub_is
      c.args.params.now 5 c.get8-sub.ensures c.if-sub-eq5.true,
)

pub returns : goal.returns
returns c = let a = c.args in (
  (λ m e q. other-failed m a.s.now a.params.now a.out.now e q
      c.get16-opcode.ensures c.get8-sub.ensures c.if-sub-eq0.false
      (sym c.is_add.ensures ∙ c.if-is_add.false) c.if-sub-eq4.false
      c.if-sub-eq5.false refl c.reply.ensures),
  replied-within a.out.now (omega arith) c.reply.ensures,
)
