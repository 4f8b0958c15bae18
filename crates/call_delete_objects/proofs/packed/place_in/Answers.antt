-- `call_delete_objects::packed::place_in` meets its contract. Assumes nothing.
use Rattle.call_delete_objects.specs.PlaceDone.{place_of}
use Rattle.call_delete_objects.proofs.PlacesInBytes.{packed-at}
use Rattle.call_delete_objects.proofs.packed.place_in.Goals as goal

pub returns : goal.returns
returns c = packed-at (place_of 0 0) c.args.places.now c.args.i _ _ c.requires c.get_u32.ensures c.get_u32-2.ensures
