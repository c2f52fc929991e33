use Rattle.std.proofs.Common.{sym, ◌∙◌}
use Rattle.desk.specs.WrittenLaws.{octets-so, address-some, address-none}
use Rattle.desk.proofs.address_of.Goals as goal

pub returns-then-not-is_address : goal.returns-then-not-is_address
returns-then-not-is_address c =
    address-none c.args.text.now (sym c.is_address.ensures ∙ c.if-not-is_address.true)

pub returns : goal.returns
returns c =
    address-some c.args.text.now (sym c.is_address.ensures ∙ c.if-not-is_address.false)
    (octets-so c.args.text.now c.octet_at-a.ensures c.octet_at-b.ensures c.octet_at-c.ensures c.octet_at-d.ensures
    c.octet_at-e.ensures c.octet_at-f.ensures)
