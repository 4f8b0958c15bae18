-- `c_reply::fields::write_pairs` meets its contract: two writes, one after the other. Assumes nothing.
use mathlib.Core.Path.{◌≡◌, ap, ◌∙◌}
use mathlib.Core.List.{List, ◌++◌, append_assoc}
use Prim.Native.Nat.{ℕ}
use native.Mathlib.Omega.{arith}
use lib.ListN.{length, take, drop, length-append}
use lib.Seq.{length-take-le}
use Rattle.base_number.specs.Number.{le}
use Rattle.base_number.proofs.NumberLaws.{length-le}
use Rattle.base_number.proofs.Fields.{front-next}
use Rattle.c_reply.proofs.fields.write_pairs.Goals as goal

pub returns : goal.returns
returns c =
    let b = c.args.reply.now in
    let x = le 2 c.args.pairs in
    let y = le 2 c.args.pairsize in
    let room = c.requires in
    let at : length (take 44 b ++ x) ≡ 46 = omega (arith, length-append (take 44 b) x, length-take-le 44 b (omega arith), length-le 2 c.args.pairs) in
    front-next b _ _ (take 44 b ++ x) y 46 2 c.put_u16.ensures at c.put_u16-2.ensures ∙ ap (λ (l : List ℕ). l ++ drop 48 b) (append_assoc (take 44 b) x y)
