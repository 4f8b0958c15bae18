-- `call_delete_objects::delete_objects` meets its contract: the places of the slice are given. Assumes nothing.
use Rattle.std.proofs.Common.{rules}
use Rattle.call_contract.specs.Answers.{name_places}
use Rattle.call_delete_objects.proofs.PlacesInSlice.{listed-length, listed_at}
use Rattle.call_delete_objects.proofs.delete_objects.Goals as goal

pub returns : goal.returns
returns c = c.delete_listed.ensures (name_places c.args.places.now) (record { many = listed-length c.args.places.now; each = λ i p l e. let k = listed_at c.args.places.now i in search rules })
