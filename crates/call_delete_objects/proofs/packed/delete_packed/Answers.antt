-- `call_delete_objects::packed::delete_packed` meets its contract: the places of the bytes are given. Assumes nothing.
use Rattle.std.proofs.Common.{rules}
use Rattle.call_contract.specs.Answers.{places_in}
use Rattle.call_delete_objects.proofs.PlacesInBytes.{packed-length}
use Rattle.call_delete_objects.proofs.packed.delete_packed.Goals as goal

pub returns : goal.returns
returns c = c.delete_listed.ensures (places_in c.args.places.now) (record { many = packed-length c.args.places.now; each = λ i p l e. search rules })
