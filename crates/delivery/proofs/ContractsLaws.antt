-- The contracts of the library, as the toolchain reads them off its functions (`Reads.Learnt`: what a caller learns
-- of a call), give what the claims take of each call. So a contract that comes to say less is refused here, and the
-- tie is not equal text alone. Document 01, What the promises owe. Assumes nothing.
use Rattle.std.specs.Prelude.{ℕ, ◌≤◌, ◌≡◌, true, List, length}
use contract.Lifetimes.{Lfts}
use Rattle.std.specs.Borrow.{Bor, MutBor}
use Rattle.laws.specs.Tests.{pick}
use Rattle.laws.specs.Loops.{every}
use Rattle.octets.specs.Little.{is_octet}
use Rattle.sessions.specs.Machine.{octets, text, last_number}
use Rattle.model.specs.Sound.{sound_settings}
use Rattle.wholes.specs.Engine.{engine, begin, block_in}
use Rattle.replays.specs.Into.{replay_into, replay_to}
use Rattle.bournejade.specs.Gives.{ReplayGave}
use Rattle.bournejade.proofs.bournejade_begin.Reads as begin-reads
use Rattle.bournejade.proofs.bournejade_submit.Reads as submit-reads
use Rattle.bournejade.proofs.bournejade_submit_line.Reads as submit-line-reads
use Rattle.bournejade.proofs.bournejade_save.Reads as save-reads
use Rattle.bournejade.proofs.bournejade_restore.Reads as restore-reads
use Rattle.bournejade.proofs.bournejade_replay.Reads as replay-reads
use Rattle.bournejade.proofs.bournejade_replay_to.Reads as replay-to-reads
use Rattle.bournejade.proofs.bournejade_add_edition.Reads as add-edition-reads
use Rattle.delivery.specs.Firmware.{Kept, gave, saved, added, Adds}
use Rattle.editions.specs.Editions.{is_image_on}

-- the block that a session begins with
pub begin-says : (κs : Lfts 2) (s s' : MutBor (List ℕ)) (p p' : Bor (List ℕ)) (o o' r : ℕ)
    → begin-reads.Learnt κs (s, (o, (p, tt))) r (s', (o', (p', tt)))
    → (r ≡ pick (sound_settings o p.now) 0 9) × (s'.now ≡ begin o p.now)
begin-says κs s s' p p' o o' r e = (e.0, e.1)

-- a frame, as octets and as its line; a save
pub submit-keeps : (κs : Lfts 4) (s o s' o' : MutBor (List ℕ)) (f f' : Bor (List ℕ)) (n n' : MutBor ℕ) (r : ℕ)
    → submit-reads.Learnt κs (s, (f, (o, (n, tt)))) r (s', (f', (o', (n', tt))))
    → Kept s.now (gave octets f.now o.now s'.now o'.now n'.now r)
submit-keeps κs s o s' o' f f' n n' r e = e

pub submit-line-keeps : (κs : Lfts 4) (s o s' o' : MutBor (List ℕ)) (f f' : Bor (List ℕ)) (n n' : MutBor ℕ) (r : ℕ)
    → submit-line-reads.Learnt κs (s, (f, (o, (n, tt)))) r (s', (f', (o', (n', tt))))
    → Kept s.now (gave text f.now o.now s'.now o'.now n'.now r)
submit-line-keeps κs s o s' o' f f' n n' r e = e

pub save-keeps : (κs : Lfts 3) (s s' : Bor (List ℕ)) (o o' : MutBor (List ℕ)) (n n' : MutBor ℕ) (r : ℕ)
    → save-reads.Learnt κs (s, (o, (n, tt))) r (s', (o', (n', tt)))
    → Kept s.now (saved o.now o'.now n'.now r)
save-keeps κs s s' o o' n n' r e = e

-- an addition; its number is of 32 bits and its prefix of octets, as the types of C say
pub add-edition-keeps : (κs : Lfts 2) (s s' : MutBor (List ℕ)) (p p' : Bor (List ℕ)) (n n' r : ℕ) (f : n ≤ last_number)
    (o : every is_octet p.now ≡ true)
    → add-edition-reads.Learnt κs (s, (n, (p, tt))) r (s', (n', (p', tt)))
    → Kept s.now (added (record { edition = record { from = n; prefix = p.now }; fits = f; octets = o }) s'.now
    r)
add-edition-keeps κs s s' p p' n n' r f o e = (e.0, e.1)

-- what a standby calls
pub add-edition-says : (κs : Lfts 2) (s s' : MutBor (List ℕ)) (p p' : Bor (List ℕ)) (n n' r : ℕ)
    → add-edition-reads.Learnt κs (s, (n, (p, tt))) r (s', (n', (p', tt)))
    → Adds s.now (record { from = n; prefix = p.now }) s'.now r
add-edition-says κs s s' p p' n n' r e = (e.0, e.1)

pub restore-says : (κs : Lfts 2) (s s' : MutBor (List ℕ)) (t t' : Bor (List ℕ)) (r : ℕ)
    → restore-reads.Learnt κs (s, (t, tt)) r (s', (t', tt))
    → (r ≡ pick (is_image_on t.now) 0 10) × (s'.now ≡ block_in (is_image_on t.now) t.now)
restore-says κs s s' t t' r e = (e.0, e.1)

pub replay-says : (κs : Lfts 5) (s o s' o' : MutBor (List ℕ)) (j j' : Bor (List ℕ)) (m n m' n' : MutBor ℕ) (r : ℕ)
    → replay-reads.Learnt κs (s, (j, (o, (m, (n, tt))))) r (s', (j', (o', (m', (n', tt)))))
    → ReplayGave (replay_into engine (length o.now) s.now j.now) o.now s'.now o'.now m'.now
    n'.now r
replay-says κs s o s' o' j j' m n m' n' r e = e

pub replay-to-says : (κs : Lfts 5) (s o s' o' : MutBor (List ℕ)) (j j' : Bor (List ℕ)) (m n m' n' : MutBor ℕ) (last last' r : ℕ)
    → replay-to-reads.Learnt κs (s, (last, (j, (o, (m, (n, tt)))))) r (s', (last', (j', (o', (m', (n', tt))))))
    → ReplayGave (replay_to engine last (length o.now) s.now j.now) o.now s'.now o'.now m'.now
    n'.now r
replay-to-says κs s o s' o' j j' m n m' n' last last' r e = e
