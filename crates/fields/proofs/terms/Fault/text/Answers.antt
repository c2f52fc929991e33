use Rattle.model.specs.Quoted.{codes}
use Rattle.fields.specs.Names.{why_text}
use Rattle.fields.proofs.terms.Fault.text.Goals as goal

pub returns-in-Empty : goal.returns-in-Empty
unfolding why_text codes
returns-in-Empty c = rw c.in-Empty.is

pub returns-in-Long : goal.returns-in-Long
unfolding why_text codes
returns-in-Long c = rw c.in-Long.is

pub returns-in-NoDigits : goal.returns-in-NoDigits
unfolding why_text codes
returns-in-NoDigits c = rw c.in-NoDigits.is

pub returns-in-NoKind : goal.returns-in-NoKind
unfolding why_text codes
returns-in-NoKind c = rw c.in-NoKind.is

pub returns-in-ShortFrame : goal.returns-in-ShortFrame
unfolding why_text codes
returns-in-ShortFrame c = rw c.in-ShortFrame.is

pub returns-in-NoFrame : goal.returns-in-NoFrame
unfolding why_text codes
returns-in-NoFrame c = rw c.in-NoFrame.is

pub returns-in-NoForm : goal.returns-in-NoForm
unfolding why_text codes
returns-in-NoForm c = rw c.in-NoForm.is
