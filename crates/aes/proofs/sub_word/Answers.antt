use Rattle.aes.proofs.sub_word.Goals as goal

pub returns : goal.returns
returns c = rw (
  c.column.ensures,
  c.sub-p.ensures,
  c.sub-q.ensures,
  c.sub-u.ensures,
  c.sub-v.ensures,
  c.octet0.ensures.0,
  c.octet1.ensures.0,
  c.octet2.ensures.0,
  c.octet3.ensures.0,
)
