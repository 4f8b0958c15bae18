-- `mem_find::counts::WholeMemory::counts` meets its contract: the header of whole memory has the state's counts. Assumes nothing.
use mathlib.Core.Path.{ap, ◌∙◌, sym}
use Prim.Native.Nat.{◌+◌}
use native.Mathlib.Omega.{arith}
use Rattle.mem_layout.specs.declared.Header.{Header}
use Rattle.mem_layout.proofs.RowCounts.{length-rows}
use Rattle.mem_layout.proofs.StandsLaws.{header-back}
use Rattle.mem_layout.proofs.WholeLaws.{whole-stands}
use Rattle.mem_find.proofs.memory.WholeMemory.counts.Goals as goal

pub read_header-header-requires : goal.read_header-header-requires
read_header-header-requires c =
    let m = c.args.self in
    omega (arith, (whole-stands m.tables.now m.arena.now m.bytes m.is_whole).size)

pub returns : goal.returns
returns c =
    let m = c.args.self in
    let e = c.read_header-header.ensures ∙ header-back _ _ _ (whole-stands m.tables.now m.arena.now m.bytes m.is_whole) in
    record {
      objects = ap (λ (h : Header). h.objects) e;
      uploads = ap (λ (h : Header). h.uploads) e;
      parts = ap (λ (h : Header). h.parts) e;
      rows = ap (λ (h : Header). h.objects + (h.uploads + h.parts)) e ∙ sym (length-rows _);
    }
