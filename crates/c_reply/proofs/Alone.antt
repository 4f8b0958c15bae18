-- The reply of a call that answers its number alone: all 0 once it is done. Assumes nothing.
use mathlib.Core.Path.{◌≡◌, refl}
use borrow.Author.Tests.{ne_eqb}
use Rattle.std.specs.Prelude.{Result, Ok, Err}
use Rattle.call_types.specs.declared.Refusal.{Refusal}
use Rattle.call_types.specs.Numbers.{number_of}
use Rattle.call_contract.proofs.MadeLaws.{refusal-not-zero}
use Rattle.machine.specs.Names.{Bytes}
use Rattle.machine.specs.Etags.{absent}
use Rattle.call_contract.specs.Answers.{done_reply}
use Rattle.c_reply.specs.Reply.{fields_with, reply_bytes, reply_after}

pub refused-leaves : (r : Refusal) (o : Bytes) → o ≡ reply_after (done_reply (Err r)) o
unfolding reply_after
refused-leaves r o = rw (ne_eqb (number_of r) 0 (refusal-not-zero r))

pub done-clears : (o : Bytes) → fields_with 0 0 0 0 0 absent 0 0 ≡ reply_after (done_reply (Ok tt)) o
unfolding reply_after reply_bytes
done-clears o = refl
