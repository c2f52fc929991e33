use Rattle.aes.proofs.last_round.Goals as goal

pub returns : goal.returns
returns c = rw (c.add_round_key.ensures, c.sub_shift.ensures)
