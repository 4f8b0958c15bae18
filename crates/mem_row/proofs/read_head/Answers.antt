-- `mem_row::read_head` meets its contract: each number is read at its place. Assumes nothing.
use Prim.Native.Nat.{◌+◌, ◌%◌, ◌/◌}
use mathlib.Core.Path.{refl, sym, ◌∙◌}
use native.Mathlib.Nat.{add-zero}
use native.Mathlib.Omega.{arith}
use lib.Dec.{lit<}
use Rattle.base_number.proofs.Halves.{get-byte}
use Rattle.mem_row.proofs.FieldLaws.{number_at}
use Rattle.mem_row.specs.Row.{widths, head_at}
use Rattle.mem_row.proofs.read_head.Goals as goal

pub returns : goal.returns
unfolding head_at
returns c =
    let t = c.args.t.now in
    let at = c.args.at in
    let shared = get-byte t (at + 16) (omega arith) ∙ number_at widths 3 at (at + 16) t (lit< tt) refl in
    λ i.
    record {
      size = (c.get_u32.ensures ∙ number_at widths 0 at at t (lit< tt) (sym (add-zero at))) i;
      number = (c.get_u32-2.ensures ∙ number_at widths 1 at (at + 4) t (lit< tt) refl) i;
      stamp = (c.get_u64.ensures ∙ number_at widths 2 at (at + 8) t (lit< tt) refl) i;
      kind = shared i % 4;
      pairs = shared i / 4;
      pathlen = (get-byte t (at + 17) (omega arith) ∙ number_at widths 4 at (at + 17) t (lit< tt) refl) i;
      count = (c.get_u16.ensures ∙ number_at widths 5 at (at + 18) t (lit< tt) refl) i;
    }
